-- A transaction that is under way may act at a disc: what a disc has of it rests on facts of its worker.
use Rattle.std.proofs.Common.{◌≡◌, ◌≢◌, ℕ, zero, suc, ◌+◌, ◌⊎◌, inl, inr, ⊎_elim, Bool, true, false, List, [], ◌∷◌, ◌++◌, Option, Some, None, cond, slice_get, refl, ap, sym, ◌∙◌, subst, arith}
use Rattle.std.specs.Option.{option_map}
use Rattle.std.proofs.lemmas.Bool.{cases_eq}
use Rattle.chronicle.specs.Histories.{IsEnabled, IsHistory, IsTrueIn, next_states, states_after, changed_at}
use Rattle.chronicle.specs.Seats.{Sight, part_state, state_of}
use Rattle.chronicle.proofs.States.{changed_at_here, changed_at_else, stays_true}
use Rattle.tmf_model.specs.declared.transid.Transid.{Transid}
use Rattle.tmf_model.specs.declared.script.Close.{Close as CloseKind}
use Rattle.tmf_model.specs.declared.script.Close.TheVariants.{Commit as Committing, Abort as Aborting}
use Rattle.trail_files.specs.MonitorOrder.{is_same_transid}
use Rattle.trail_files.specs.declared.monitor_record.MonitorRecord.{MonitorRecord}
use Rattle.trail_files.specs.declared.monitor_record.MonitorRecord.TheVariants.{Start, Commit, Abort}
use Rattle.node_machine.specs.declared.event.DiscEvent.{DiscEvent}
use Rattle.node_machine.specs.declared.event.DiscEvent.TheVariants as did
use Rattle.node_machine.specs.declared.event.MonitorEvent.{MonitorEvent}
use Rattle.node_machine.specs.declared.event.MonitorEvent.TheVariants as mon
use Rattle.node_machine.specs.declared.event.Event.{Event}
use Rattle.node_machine.specs.declared.event.Event.TheVariants.{OfWorker, OfDisc, OfTrail, OfMonitor, OfDump}
use Rattle.node_machine.specs.Disc.{MayAct, IsBackedOut, DiscAsks}
use Rattle.node_machine.specs.Laws.{node_facts_stay}
use Rattle.node_machine.specs.Made.{has_closed, has_undone, has_released, changes_left}
use Rattle.node_machine.specs.Monitor.{IsBacked, MonitorMay, MonitorAsks, recorded, offered_car}
use Rattle.node_machine.specs.Node.{node, IsAllowed, Asks, state_with}
use Rattle.node_machine.specs.Parts.{WorkerPart, DiscPart, MonitorPart, PartState, Fact}
use Rattle.node_machine.specs.Parts.Fact.{Finished, Decided, Recorded}
use Rattle.node_machine.specs.Parts.PartState.{Worker, Disc, Trail, Monitor, Dump, Idle}
use Rattle.node_machine.specs.Same.{Among}
use Rattle.node_machine.specs.SameLaws.{same_is, among_append, among_left}
use Rattle.node_machine.specs.Worker.{IsOpen, IsOwn, has_finished, decision}
use Rattle.disc_process.specs.Disc.{IsFresh, IsAtPlace}

-- its close is decided
abbrev pub IsDecided : (Fact → Type 0) → Transid → Type 0
IsDecided true_ t = (close : CloseKind) × (discs : List ℕ) × true_ (Decided t close discs)

-- what a disc has of a transaction rests on these facts
pub record IsBackedAt (true_ : Fact → Type 0) (events : List DiscEvent) (t : Transid) : Type 0 where
  pub closed : has_closed events t ≡ true → true_ (Finished t)
  pub undone : has_undone events t ≡ true → IsDecided true_ t
  pub released : has_released events t ≡ true → IsDecided true_ t

-- what a part has rests on what is true
abbrev pub IsBackedPart : (Fact → Type 0) → ℕ → PartState → Type 0
IsBackedPart true_ q (Worker s) = s.number ≡ q + 1
IsBackedPart true_ q (Disc s) = (q ≡ 15 + s.number) × ((t : Transid) → IsBackedAt true_ s.events t)
IsBackedPart true_ q (Monitor s) = (x : MonitorRecord) → Among (recorded s.events ++ offered_car s.events) x → IsBacked true_ x
IsBackedPart true_ q _ = Unit {0}

abbrev pub AreBacked : List PartState → Type 0
AreBacked ss = (q : ℕ) (s : PartState) → slice_get ss q ≡ Some s → IsBackedPart (IsTrueIn node ss) q s

module _ (t u : Fact → Type 0) (more : (f : Fact) → t f → u f) where
  decided_more : (x : Transid) → IsDecided t x → IsDecided u x
  decided_more x h = (h.0, h.1, more (Decided x h.0 h.1) h.2)

  record_more : (x : MonitorRecord) → IsBacked t x → IsBacked u x
  record_more (Start epoch) h = h
  record_more (Commit x) h = (h.0, more _ h.1, λ d is. (let b = h.2 d is in (b.0, more _ b.1, more _ b.2)))
  record_more (Abort x) h = (h.0, more _ h.1)

  part_more : (q : ℕ) (s : PartState) → IsBackedPart t q s → IsBackedPart u q s
  part_more q (Worker s) h = h
  part_more q (Disc s) h = (h.0, λ x. (let b = h.1 x in record { closed = λ e. more _ (b.closed e); undone = λ e. decided_more x (b.undone e); released = λ e. decided_more x (b.released e) }))
  part_more q (Monitor s) h = λ x is. record_more x (h x is)
  part_more q _ h = tt

or_cases : (a b : Bool) → cond a true b ≡ true → (a ≡ true) ⊎ (b ≡ true)
or_cases true b h = inl refl
or_cases false b h = inr h

module _ (true_ : Fact → Type 0) (recorded_backed : (x : Transid) (place : ℕ) → true_ (Recorded (Commit x) place) → IsDecided true_ x) where
  -- an event of a disc keeps it so
  disc_step : (s : DiscPart) (e : DiscEvent) (t : Transid) → DiscAsks true_ s e → IsBackedAt true_ s.events t → IsBackedAt true_ (e ∷ s.events) t
  disc_step s (did.Close x) t asks h = record {
    closed = λ c. ⊎_elim (λ (e : is_same_transid x t ≡ true). subst (λ (y : Transid). true_ (Finished y)) (same_is x t e) asks.1) (λ (e : has_closed s.events t ≡ true). h.closed e) (or_cases (is_same_transid x t) (has_closed s.events t) c);
    undone = h.undone;
    released = h.released;
  }
  disc_step s (did.Undo r) t asks h = record {
    closed = h.closed;
    undone = λ c. ⊎_elim (λ (e : is_same_transid r.tx t ≡ true). subst (λ (y : Transid). IsDecided true_ y) (same_is r.tx t e) (Aborting, asks.0, asks.1)) (λ (e : has_undone s.events t ≡ true). h.undone e) (or_cases (is_same_transid r.tx t) (has_undone s.events t) c);
    released = h.released;
  }
  disc_step s (did.Release x) t asks h = record {
    closed = h.closed;
    undone = h.undone;
    released = λ c.
        ⊎_elim
        (λ (e : is_same_transid x t ≡ true). subst (λ (y : Transid). IsDecided true_ y) (same_is x t e)
        (⊎_elim (λ (r : (place : ℕ) × true_ (Recorded (Commit x) place)). recorded_backed x r.0 r.1) (λ (r : IsBackedOut true_ x × (changes_left s.events x ≡ [])). (Aborting, r.0.0, r.0.1)) asks))
        (λ (e : has_released s.events t ≡ true). h.released e)
        (or_cases (is_same_transid x t) (has_released s.events t) c);
  }
  disc_step s (did.Write r op) t asks h = record { closed = h.closed; undone = h.undone; released = h.released }
  disc_step s (did.Read x f k v) t asks h = record { closed = h.closed; undone = h.undone; released = h.released }
  disc_step s (did.Lock x f) t asks h = record { closed = h.closed; undone = h.undone; released = h.released }
  disc_step s (did.Turn x c) t asks h = record { closed = h.closed; undone = h.undone; released = h.released }
  disc_step s (did.Draw f b p) t asks h = record { closed = h.closed; undone = h.undone; released = h.released }
  disc_step s (did.Drawn f b) t asks h = record { closed = h.closed; undone = h.undone; released = h.released }
  disc_step s (did.Low p by) t asks h = record { closed = h.closed; undone = h.undone; released = h.released }
  disc_step s did.Lowered t asks h = record { closed = h.closed; undone = h.undone; released = h.released }
  disc_step s (did.Start n p x) t asks h = record { closed = h.closed; undone = h.undone; released = h.released }
  disc_step s (did.Raise n r) t asks h = record { closed = h.closed; undone = h.undone; released = h.released }
  disc_step s (did.Failed by) t asks h = record { closed = h.closed; undone = h.undone; released = h.released }

-- an event of the monitor keeps it so
monitor_step : (true_ : Fact → Type 0) (s : MonitorPart) (e : MonitorEvent) → MonitorMay s e → MonitorAsks true_ s e
    → ((x : MonitorRecord) → Among (recorded s.events ++ offered_car s.events) x → IsBacked true_ x)
    → (x : MonitorRecord) → Among (recorded (e ∷ s.events) ++ offered_car (e ∷ s.events)) x → IsBacked true_ x
monitor_step true_ s (mon.Offer records) may asks h x is =
    ⊎_elim (λ (l : Among (recorded s.events) x). h x (among_left (recorded s.events) (offered_car s.events) x l)) (λ (r : Among records x). asks x r) (among_append (recorded s.events) records x is)
monitor_step true_ s mon.Land may asks h x is =
    ⊎_elim (λ (l : Among (recorded s.events ++ offered_car s.events) x). h x l) (λ (r : Among [] x). absurd r) (among_append (recorded s.events ++ offered_car s.events) [] x is)
monitor_step true_ s (mon.Failed by) may asks h x is = h x is

pub among_at : {A : Type 0} (xs : List A) (i : ℕ) (x : A) → slice_get xs i ≡ Some x → Among xs x
among_at [] i x e = absurd (cc (e))
among_at (y ∷ xs) zero x e = inl (cc (e))
among_at (y ∷ xs) (suc i) x e = inr (among_at xs i x e)

-- a recorded commit is decided
recorded_is_backed : (ss : List PartState) → AreBacked ss → (x : Transid) (place : ℕ) → IsTrueIn node ss (Recorded (Commit x) place) → IsDecided (IsTrueIn node ss) x
recorded_is_backed ss b x place (q, Worker s, at, makes) = absurd makes
recorded_is_backed ss b x place (q, Disc s, at, makes) = absurd makes
recorded_is_backed ss b x place (q, Trail s, at, makes) = absurd makes
recorded_is_backed ss b x place (q, Dump s, at, makes) = absurd makes
recorded_is_backed ss b x place (q, Idle, at, makes) = absurd makes
recorded_is_backed ss b x place (q, Monitor s, at, makes) =
    let k = b q (Monitor s) at (Commit x) (among_left (recorded s.events) (offered_car s.events) (Commit x) (among_at (recorded s.events) makes.index (Commit x) makes.at)) in
    (Committing, k.0, k.1)

-- the part's own event
own_step : (ss : List PartState) (q : ℕ) (s : PartState) (e : Event) → AreBacked ss → IsAllowed s e → Asks (IsTrueIn node ss) s e → IsBackedPart (IsTrueIn node ss) q s → IsBackedPart (IsTrueIn node ss) q (state_with s e)
own_step ss q (Worker s) (OfWorker e) b may asks h = h
own_step ss q (Disc s) (OfDisc e) b may asks h = (h.0, λ t. disc_step (IsTrueIn node ss) (recorded_is_backed ss b) s e t asks (h.1 t))
own_step ss q (Trail s) (OfTrail e) b may asks h = tt
own_step ss q (Monitor s) (OfMonitor e) b may asks h = monitor_step (IsTrueIn node ss) s e may asks h
own_step ss q (Dump s) (OfDump e) b may asks h = tt
own_step ss q _ _ b may asks h = absurd may

pub backed_step : (ss : List PartState) (x : ℕ × Event) → AreBacked ss → IsEnabled node ss x → AreBacked (next_states node ss x)
backed_step ss x b en q s at =
    let more : (f : Fact) → IsTrueIn node ss f → IsTrueIn node (next_states node ss x) f = λ f t. stays_true node node_facts_stay ss (x ∷ []) f (en, tt) t in
    ⊎_elim
    (λ (e : x.0 ≡ q).
    let now : slice_get (next_states node ss x) q ≡ Some (state_with en.0 x.1) =
    subst (λ (p : ℕ). slice_get (changed_at (λ y. node.step y x.1) x.0 ss) p ≡ Some (state_with en.0 x.1)) e (changed_at_here (λ y. node.step y x.1) x.0 ss ∙ ap (λ o. option_map (λ y. node.step y x.1) o) en.1) in
    let same : state_with en.0 x.1 ≡ s = cc (now, at) in
    let was = own_step ss x.0 en.0 x.1 b en.2 en.3 (b x.0 en.0 en.1) in
    part_more (IsTrueIn node ss) (IsTrueIn node (next_states node ss x)) more q s (subst (λ (y : PartState). IsBackedPart (IsTrueIn node ss) q y) same (subst (λ (p : ℕ). IsBackedPart (IsTrueIn node ss) p (state_with en.0 x.1)) e was)))
    (λ (n : x.0 ≢ q). part_more (IsTrueIn node ss) (IsTrueIn node (next_states node ss x)) more q s (b q s (sym (changed_at_else (λ y. node.step y x.1) x.0 q ss n) ∙ at)))
    (cases_eq x.0 q)

backed : (ss : List PartState) (log : List (ℕ × Event)) → AreBacked ss → IsHistory node ss log → AreBacked (states_after node ss log)
backed ss [] b h = b
backed ss (x ∷ xs) b h = backed (next_states node ss x) xs (backed_step ss x b h.0) h.1

-- nothing has happened yet
fresh_part : (true_ : Fact → Type 0) (q : ℕ) (s : PartState) → IsAtPlace q s → IsBackedPart true_ q s
fresh_part true_ q (Worker s) h = h.0
fresh_part true_ q (Disc s) h = (h.0, λ t. subst (λ (es : List DiscEvent). IsBackedAt true_ es t) (sym h.1) (record { closed = λ e. absurd (cc (e)); undone = λ e. absurd (cc (e)); released = λ e. absurd (cc (e)) }))
fresh_part true_ q (Trail s) h = tt
fresh_part true_ q (Monitor s) h = subst (λ (es : List MonitorEvent). (x : MonitorRecord) → Among (recorded es ++ offered_car es) x → IsBacked true_ x) (sym h) (λ x is. absurd is)
fresh_part true_ q (Dump s) h = tt
fresh_part true_ q Idle h = tt

pub after_opening : (opening : List PartState) (log : List (ℕ × Event)) → IsFresh opening → IsHistory node opening log → AreBacked (states_after node opening log)
after_opening opening log fresh h = backed opening log (λ q s at. fresh_part (IsTrueIn node opening) q s (fresh q s at)) h

-- the facts of a worker are those of its own part
pub own_worker : (ss : List PartState) → AreBacked ss → (p : ℕ) (w : WorkerPart) → slice_get ss p ≡ Some (Worker w) → (t : Transid) → IsOwn w t
    → (q : ℕ) (v : WorkerPart) → slice_get ss q ≡ Some (Worker v) → IsOwn v t → v ≡ w
own_worker ss b p w at t own q v at_v own_v =
    let one : w.number ≡ p + 1 = b p (Worker w) at in
    let two : v.number ≡ q + 1 = b q (Worker v) at_v in
    let a = own.worker in
    let c = own_v.worker in
    let same : p ≡ q = omega (arith, a, c, one, two) in
    let both : Some (Worker w) ≡ Some (Worker v) = sym at ∙ ap (slice_get ss) same ∙ at_v in
    cc (both)

pub not_finished : (ss : List PartState) → AreBacked ss → (p : ℕ) (w : WorkerPart) → slice_get ss p ≡ Some (Worker w) → (t : Transid) → IsOwn w t → has_finished w.events t ≡ false → IsTrueIn node ss (Finished t) → ⊥
not_finished ss b p w at t own unfinished (q, Worker v, at_v, makes) =
    let same = own_worker ss b p w at t own q v at_v makes.0 in
    let here : has_finished w.events t ≡ true = subst (λ (x : WorkerPart). has_finished x.events t ≡ true) same makes.1 in
    absurd (cc (here, unfinished))
not_finished ss b p w at t own unfinished (q, Disc v, at_v, makes) = absurd makes
not_finished ss b p w at t own unfinished (q, Trail v, at_v, makes) = absurd makes
not_finished ss b p w at t own unfinished (q, Monitor v, at_v, makes) = absurd makes
not_finished ss b p w at t own unfinished (q, Dump v, at_v, makes) = absurd makes
not_finished ss b p w at t own unfinished (q, Idle, at_v, makes) = absurd makes

pub not_decided : (ss : List PartState) → AreBacked ss → (p : ℕ) (w : WorkerPart) → slice_get ss p ≡ Some (Worker w) → (t : Transid) → IsOwn w t → decision w.events t ≡ None → IsDecided (IsTrueIn node ss) t → ⊥
not_decided ss b p w at t own undecided (close, discs, (q, Worker v, at_v, makes)) =
    let same = own_worker ss b p w at t own q v at_v makes.0 in
    let here : decision w.events t ≡ Some close = subst (λ (x : WorkerPart). decision x.events t ≡ Some close) same makes.1 in
    absurd (cc (here, undecided))
not_decided ss b p w at t own undecided (close, discs, (q, Disc v, at_v, makes)) = absurd makes
not_decided ss b p w at t own undecided (close, discs, (q, Trail v, at_v, makes)) = absurd makes
not_decided ss b p w at t own undecided (close, discs, (q, Monitor v, at_v, makes)) = absurd makes
not_decided ss b p w at t own undecided (close, discs, (q, Dump v, at_v, makes)) = absurd makes
not_decided ss b p w at t own undecided (close, discs, (q, Idle, at_v, makes)) = absurd makes

false_of : (b : Bool) → (b ≡ true → ⊥) → b ≡ false
false_of true h = absurd (h refl)
false_of false h = refl

-- a transaction that is under way, and neither finished nor decided, may act at each disc
pub may_act : (opening : List PartState) (log : List (ℕ × Event)) → IsFresh opening → IsHistory node opening log
    → (p : ℕ) (w : WorkerPart) → slice_get (states_after node opening log) p ≡ Some (Worker w) → (t : Transid) → IsOpen w t → has_finished w.events t ≡ false
    → (q : ℕ) (s : DiscPart) → slice_get (states_after node opening log) q ≡ Some (Disc s) → MayAct s t
may_act opening log fresh h p w at t open_ unfinished q s at_s =
    let ss = states_after node opening log in
    let b = after_opening opening log fresh h in
    let rests = (b q (Disc s) at_s).1 t in record {
      unclosed = false_of (has_closed s.events t) (λ e. not_finished ss b p w at t open_.is_own unfinished (rests.closed e));
      nothing_undone = false_of (has_undone s.events t) (λ e. not_decided ss b p w at t open_.is_own open_.undecided (rests.undone e));
      unreleased = false_of (has_released s.events t) (λ e. not_decided ss b p w at t open_.is_own open_.undecided (rests.released e));
    }

-- the same for the seats of a worker and of a disc that have seen the same
pub may_act_seats : (opening : List PartState) (v u : Sight Event) → IsFresh opening → IsHistory node opening u.seen → v.seen ≡ u.seen
    → (w : WorkerPart) → part_state node opening v ≡ Some (Worker w) → (t : Transid) → IsOpen w t → has_finished w.events t ≡ false
    → (s : DiscPart) → part_state node opening u ≡ Some (Disc s) → MayAct s t
may_act_seats opening v u fresh h same w at t open_ unfinished s at_s = of v.part u.part at at_s
  where
    of : (p q : Option ℕ) → state_of (states_after node opening v.seen) p ≡ Some (Worker w) → state_of (states_after node opening u.seen) q ≡ Some (Disc s) → MayAct s t
    of None q a b = absurd (cc (a))
    of (Some p) None a b = absurd (cc (b))
    of (Some p) (Some q) a b = may_act opening u.seen fresh h p w (subst (λ (l : List (ℕ × Event)). slice_get (states_after node opening l) p ≡ Some (Worker w)) same a) t open_ unfinished q s b

-- a transaction that is not decided has released nowhere, and no change of it is undone
pub record IsLeft (s : DiscPart) (t : Transid) : Type 0 where
  pub nothing_undone : has_undone s.events t ≡ false
  pub unreleased : has_released s.events t ≡ false

pub is_left : (opening : List PartState) (v u : Sight Event) → IsFresh opening → IsHistory node opening u.seen → v.seen ≡ u.seen
    → (w : WorkerPart) → part_state node opening v ≡ Some (Worker w) → (t : Transid) → IsOpen w t
    → (s : DiscPart) → part_state node opening u ≡ Some (Disc s) → IsLeft s t
is_left opening v u fresh h same w at t open_ s at_s = of v.part u.part at at_s
  where
    of : (p q : Option ℕ) → state_of (states_after node opening v.seen) p ≡ Some (Worker w) → state_of (states_after node opening u.seen) q ≡ Some (Disc s) → IsLeft s t
    of None q a b = absurd (cc (a))
    of (Some p) None a b = absurd (cc (b))
    of (Some p) (Some q) a b =
        let ss = states_after node opening u.seen in
        let backs = after_opening opening u.seen fresh h in
        let rests = (backs q (Disc s) b).1 t in
        let at_p = subst (λ (l : List (ℕ × Event)). slice_get (states_after node opening l) p ≡ Some (Worker w)) same a in record {
          nothing_undone = false_of (has_undone s.events t) (λ e. not_decided ss backs p w at_p t open_.is_own open_.undecided (rests.undone e));
          unreleased = false_of (has_released s.events t) (λ e. not_decided ss backs p w at_p t open_.is_own open_.undecided (rests.released e));
        }
