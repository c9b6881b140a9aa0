-- A disc and its dump device, behind each history: what the starts of the disc's dumps and the labels of the device are to one another.
use Rattle.std.specs.Prelude.{if◌then◌else◌}
use Rattle.std.specs.Option.{option_or}
use Rattle.std.proofs.Common.{◌≡◌, ◌⊎◌, ℕ, zero, suc, ◌+◌, ◌-◌, ◌<◌, ◌≤◌, ◌&&◌, ◌==◌, Bool, true, false, List, [], ◌∷◌, ◌++◌, length, drop, Option, Some, None, slice_get, inl, inr, ⊎_elim, refl, ap, sym, ◌∙◌, subst, arith}
use Rattle.std.proofs.lemmas.Bool.{false_from_ne_true}
use Rattle.std.proofs.lemmas.List.{length_push}
use Rattle.chronicle.specs.Histories.{IsEnabled, IsHistory, IsTrueIn, next_states, states_after}
use Rattle.chronicle.proofs.States.{stays_true}
use Rattle.tmf_model.specs.declared.script.Close.TheVariants.{Commit as Committing, Abort as Aborting}
use Rattle.tmf_model.specs.declared.transid.Transid.{Transid}
use Rattle.trail_files.specs.MonitorOrder.{is_same_transid}
use Rattle.trail_files.specs.declared.audit_record.AuditRecord.{AuditRecord}
use Rattle.trail_files.specs.declared.monitor_record.MonitorRecord.TheVariants.{Commit}
use Rattle.node_machine.proofs.Kept.{changed_or}
use Rattle.node_machine.proofs.Opened.{fresh, opening_disc, opening_dump}
use Rattle.node_machine.proofs.Placed.{IsPlaced, opening_placed}
use Rattle.node_machine.specs.declared.event.DiscEvent.{DiscEvent}
use Rattle.node_machine.specs.declared.event.DiscEvent.TheVariants.{Write, Read, Lock, Turn, Undo, Close, Release, Draw, Drawn, Low, Lowered, Start, Raise, Failed}
use Rattle.node_machine.specs.declared.event.DumpEvent.{DumpEvent}
use Rattle.node_machine.specs.declared.event.DumpEvent.TheVariants.{Copy, Seal, Sealed, Failed as DumpFailed}
use Rattle.node_machine.specs.declared.event.MonitorEvent.{MonitorEvent}
use Rattle.node_machine.specs.declared.event.MonitorEvent.TheVariants.{Offer, Land, Failed as MonitorFailed}
use Rattle.node_machine.specs.declared.event.Event.{Event}
use Rattle.node_machine.specs.declared.event.Event.TheVariants.{OfWorker, OfDisc, OfTrail, OfMonitor, OfDump}
use Rattle.node_machine.specs.Disc.{DiscAsks, DiscMay, IsBackedOut, IsQuiet, MayRest, start_of}
use Rattle.node_machine.specs.Dump.{AreFrom, DumpAsks, DumpMay, IsOver, copied, ends, label_of, landed_here, landed_label, offered_label, seals}
use Rattle.node_machine.specs.DumpLaws.{or_assoc}
use Rattle.node_machine.specs.Laws.{node_facts_stay}
use Rattle.node_machine.specs.Made.{changes_left, dumps_begun, has_released, has_undone, made, next_position, rest_start, starts, under_way}
use Rattle.node_machine.specs.Monitor.{offered_car, recorded}
use Rattle.node_machine.specs.Node.{node, Asks, IsAllowed, state_with}
use Rattle.node_machine.specs.Opening.{Found, VolumeFound, disc_at, disc_part, disc_with, dump_at, dump_part, dump_with, found_volume, opening_parts}
use Rattle.node_machine.specs.Parts.{DiscPart, DumpPart, DumpStart, Fact, PartState, WorkerPart}
use Rattle.node_machine.specs.Parts.Fact.{Decided, Made, Over, Recorded, Started}
use Rattle.node_machine.specs.Parts.PartState.{Worker, Disc, Trail, Monitor, Dump, Idle}
use Rattle.node_machine.specs.Same.{Among, is_same_block}
use Rattle.node_machine.specs.SameLaws.{among_append, among_left, case_false, if_true, same_is}
use Rattle.node_machine.specs.Worker.{decision}
use Rattle.disc_process.proofs.Moving.{quiet_moved, quiet_recorded}

some_is : {A : Type 0} (a b : A) → Some a ≡ Some b → a ≡ b
some_is a b e = cc (e)

or_cases : (a b : Bool) → (if a then true else b) ≡ true → (a ≡ true) ⊎ (b ≡ true)
or_cases true b h = inl refl
or_cases false b h = inr h

among_at : {A : Type 0} (xs : List A) (i : ℕ) (x : A) → slice_get xs i ≡ Some x → Among xs x
among_at [] i x e = absurd (cc (e))
among_at (y ∷ xs) zero x e = inl (cc (e))
among_at (y ∷ xs) (suc i) x e = inr (among_at xs i x e)

-- THE DISC ALONE

-- it has committed, or has nothing left to undo
abbrev IsLetGo : (Fact → Type 0) → List DiscEvent → Transid → Type 0
IsLetGo true_ events t = ((discs : List ℕ) × true_ (Decided t Committing discs)) ⊎ (changes_left events t ≡ [])

-- no dump of the disc starts later
pub record IsLatest (s : DiscPart) (x : DumpStart) : Type 0 where
  pub begun : Among (starts s.events) x
  pub last : (y : DumpStart) → Among (starts s.events) y → y.start ≤ x.start

-- the disc has ended the dump of this number
abbrev pub IsRaisedIn : List DiscEvent → ℕ → Type 0
IsRaisedIn events number = (rest : Option ℕ) × Among events (Raise number rest)

-- The disc's records of this run stand from its first position on. Each of its dumps starts where all was quiet and still is, and none behind the one under way. What has
-- released here is done with.
pub record IsOrderly (true_ : Fact → Type 0) (s : DiscPart) : Type 0 where
  pub let_go : (t : Transid) → has_released s.events t ≡ true → IsLetGo true_ s.events t
  pub quiet : (x : DumpStart) → Among (starts s.events) x → IsQuiet s x.start
  pub most : (x : DumpStart) → Among (starts s.events) x → x.number ≤ dumps_begun s.events
  pub latest : (x : DumpStart) → under_way s.events ≡ Some x → IsLatest s x
  pub from : (r : AuditRecord) → Among (made s.events) r → (s.first ≤ r.position) × (r.position < next_position s)
  pub behind : (x : DumpStart) → Among (starts s.events) x → s.first ≤ x.start
  pub raised : (x : DumpStart) → Among (starts s.events) x → (under_way s.events ≡ Some x) ⊎ IsRaisedIn s.events x.number
  pub few_raised : (number : ℕ) → IsRaisedIn s.events number → number ≤ dumps_begun s.events

-- an attempt is decided one way
abbrev IsOneWay : (Fact → Type 0) → Type 0
IsOneWay true_ = (t : Transid) (discs others : List ℕ) → true_ (Decided t Committing discs) → true_ (Decided t Aborting others) → ⊥

-- what is committed was decided so
abbrev IsKnown : (Fact → Type 0) → Type 0
IsKnown true_ = (t : Transid) (place : ℕ) → true_ (Recorded (Commit t) place) → (discs : List ℕ) × true_ (Decided t Committing discs)

orderly_more : (true_ after : Fact → Type 0) → ((f : Fact) → true_ f → after f) → (s : DiscPart) → IsOrderly true_ s → IsOrderly after s
orderly_more true_ after more s o = record {
  let_go = λ t h. ⊎_elim (λ (c : (discs : List ℕ) × true_ (Decided t Committing discs)). inl (c.0, more _ c.1)) (λ (e : changes_left s.events t ≡ []). inr e) (o.let_go t h);
  quiet = o.quiet;
  most = o.most;
  latest = o.latest;
  from = o.from;
  behind = o.behind;
  raised = o.raised;
  few_raised = o.few_raised;
}

module _ (true_ : Fact → Type 0) (s : DiscPart) (o : IsOrderly true_ s) where
  -- what is raised stays so
  raised_more : (e : DiscEvent) (number : ℕ) → IsRaisedIn s.events number → IsRaisedIn (e ∷ s.events) number
  raised_more e number r = (r.0, inr r.1)

  module _ (e : DiscEvent) (begun : starts (e ∷ s.events) ≡ starts s.events) (many : dumps_begun (e ∷ s.events) ≡ dumps_begun s.events) (way : under_way (e ∷ s.events) ≡ under_way s.events)
      (no_raise : (number : ℕ) (rest : Option ℕ) → e ≡ Raise number rest → ⊥) where
    most_same : (x : DumpStart) → Among (starts (e ∷ s.events)) x → x.number ≤ dumps_begun (e ∷ s.events)
    most_same x there = (let le = o.most x (subst (λ (xs : List DumpStart). Among xs x) begun there) in omega (arith, le, many))

    behind_same : (x : DumpStart) → Among (starts (e ∷ s.events)) x → s.first ≤ x.start
    behind_same x there = o.behind x (subst (λ (xs : List DumpStart). Among xs x) begun there)

    latest_same : (x : DumpStart) → under_way (e ∷ s.events) ≡ Some x → IsLatest (record s { events = e ∷ s.events }) x
    latest_same x is = (let l = o.latest x (sym way ∙ is) in record {
      begun = subst (λ (xs : List DumpStart). Among xs x) (sym begun) l.begun;
      last = λ y there. l.last y (subst (λ (xs : List DumpStart). Among xs y) begun there);
    })

    raised_same : (x : DumpStart) → Among (starts (e ∷ s.events)) x → (under_way (e ∷ s.events) ≡ Some x) ⊎ IsRaisedIn (e ∷ s.events) x.number
    raised_same x there = ⊎_elim
        (λ (w : under_way s.events ≡ Some x). inl (way ∙ w))
        (λ (r : IsRaisedIn s.events x.number). inr (raised_more e x.number r))
        (o.raised x (subst (λ (xs : List DumpStart). Among xs x) begun there))

    few_same : (number : ℕ) → IsRaisedIn (e ∷ s.events) number → number ≤ dumps_begun (e ∷ s.events)
    few_same number r = ⊎_elim
        (λ (is : e ≡ Raise number r.0). absurd (no_raise number r.0 is))
        (λ (h : Among s.events (Raise number r.0)). (let le = o.few_raised number (r.0, h) in omega (arith, le, many)))
        r.1

    -- an event that makes no record and neither starts nor ends a dump
    orderly_moved : made (e ∷ s.events) ≡ made s.events → ((t : Transid) → has_undone (e ∷ s.events) t ≡ has_undone s.events t)
        → ((t : Transid) → has_released s.events t ≡ true → has_released (e ∷ s.events) t ≡ true) → ((t : Transid) → has_released (e ∷ s.events) t ≡ true → IsLetGo true_ (e ∷ s.events) t)
        → IsOrderly true_ (record s { events = e ∷ s.events })
    orderly_moved same undone released gone = record {
      let_go = gone;
      quiet = λ x there. quiet_moved s (e ∷ s.events) same undone released x.start (o.quiet x (subst (λ (xs : List DumpStart). Among xs x) begun there));
      most = most_same;
      latest = latest_same;
      from = λ r there.
          (let old = o.from r (subst (λ (xs : List AuditRecord). Among xs r) same there) in
          let long = ap length same in
          let low = old.0 in let high = old.1 in
          (low, omega (arith, high, long)));
      behind = behind_same;
      raised = raised_same;
      few_raised = few_same;
    }

    -- one record more, of a transaction that has not released
    orderly_recorded : (r : AuditRecord) → made (e ∷ s.events) ≡ made s.events ++ r ∷ [] → ((t : Transid) → is_same_transid r.tx t ≡ false → has_undone (e ∷ s.events) t ≡ has_undone s.events t)
        → ((t : Transid) → has_released (e ∷ s.events) t ≡ has_released s.events t) → ((t : Transid) → is_same_transid r.tx t ≡ false → changes_left (e ∷ s.events) t ≡ changes_left s.events t)
        → has_released s.events r.tx ≡ false → r.position ≡ next_position s → IsOrderly true_ (record s { events = e ∷ s.events })
    orderly_recorded r more undone released left free at = record {
      let_go = λ t h.
          (let was = sym (released t) ∙ h in
          let other : is_same_transid r.tx t ≡ false = false_from_ne_true (is_same_transid r.tx t) (λ k. (let both : false ≡ true = sym free ∙ ap (has_released s.events) (same_is r.tx t k) ∙ was in absurd (cc (both)))) in
          ⊎_elim (λ (c : (discs : List ℕ) × true_ (Decided t Committing discs)). inl c) (λ (k : changes_left s.events t ≡ []). inr (left t other ∙ k)) (o.let_go t was));
      quiet = λ x there. quiet_recorded s (e ∷ s.events) r more undone released free at x.start (o.quiet x (subst (λ (xs : List DumpStart). Among xs x) begun there));
      most = most_same;
      latest = latest_same;
      from = λ x there.
          (let long = ap length more ∙ length_push (made s.events) r in
          ⊎_elim
          (λ (old : Among (made s.events) x). (let b = o.from x old in let low = b.0 in let high = b.1 in (low, omega (arith, high, long))))
          (λ (new : Among (r ∷ []) x). ⊎_elim (λ (k : r ≡ x). (let here : r.position ≡ x.position = ap (λ (y : AuditRecord). y.position) k in (omega (arith, at, here), omega (arith, at, here, long)))) (λ (none : ⊥). absurd none) new)
          (among_append (made s.events) (r ∷ []) x (subst (λ (xs : List AuditRecord). Among xs x) more there)));
      behind = behind_same;
      raised = raised_same;
      few_raised = few_same;
    }

  -- the dump under way is ended
  orderly_raised : (number : ℕ) (rest : Option ℕ) → DiscMay s (Raise number rest) → IsOrderly true_ (record s { events = Raise number rest ∷ s.events })
  orderly_raised number rest may = record {
    let_go = o.let_go;
    quiet = λ x there. quiet_moved s (Raise number rest ∷ s.events) refl (λ t. refl) (λ t h. h) x.start (o.quiet x there);
    most = o.most;
    latest = λ x is. absurd (cc (is));
    from = o.from;
    behind = o.behind;
    raised = λ x there. ⊎_elim
        (λ (w : under_way s.events ≡ Some x).
        (let n : number ≡ x.number = sym may.is_it ∙ ap (λ (y : DumpStart). y.number) (some_is may.dump x (sym may.way ∙ w)) in
        inr (rest, inl (ap (λ (m : ℕ). Raise m rest) n))))
        (λ (r : IsRaisedIn s.events x.number). inr (raised_more (Raise number rest) x.number r))
        (o.raised x there);
    few_raised = λ n r. ⊎_elim
        (λ (e : Raise number rest ≡ Raise n r.0).
        (let same : number ≡ n = cc (e) in
        let le = o.most may.dump (o.latest may.dump may.way).begun in
        let it = may.is_it in
        omega (arith, same, le, it)))
        (λ (h : Among s.events (Raise n r.0)). o.few_raised n (r.0, h))
        r.1;
  }

  -- below the first position of this run nothing is unfinished
  pub first_quiet : IsQuiet s s.first
  first_quiet = record {
    reached = omega arith;
    released = λ r there below. (let low = (o.from r there).0 in absurd (omega (arith, low, below)));
    undone = λ r other there below. (let low = (o.from r there).0 in absurd (omega (arith, low, below)));
  }

  -- one dump more
  orderly_begun : (number start : ℕ) (item : Transid) → DiscMay s (Start number start item) → IsOrderly true_ (record s { events = Start number start item ∷ s.events })
  orderly_begun number start item may = record {
    let_go = o.let_go;
    quiet = λ x there.
        quiet_moved s (Start number start item ∷ s.events) refl (λ t. refl) (λ t h. h) x.start
        (⊎_elim (λ (e : new ≡ x). subst (λ (y : DumpStart). IsQuiet s y.start) e may.greatest.quiet) (λ (h : Among (starts s.events) x). o.quiet x h) there);
    most = λ x there. ⊎_elim
        (λ (e : new ≡ x). (let n : number ≡ x.number = ap (λ (d : DumpStart). d.number) e in let next = may.next in omega (arith, next, n)))
        (λ (h : Among (starts s.events) x). (let le = o.most x h in omega (arith, le)))
        there;
    latest = λ x is. subst (λ (y : DumpStart). IsLatest (record s { events = Start number start item ∷ s.events }) y) (some_is new x is) (record {
      begun = inl refl;
      last = λ y there. ⊎_elim
          (λ (e : new ≡ y). (let n : start ≡ y.start = ap (λ (d : DumpStart). d.start) e in omega (arith, n)))
          (λ (h : Among (starts s.events) y). may.greatest.greatest y.start (o.quiet y h))
          there;
    });
    from = o.from;
    behind = λ x there. ⊎_elim
        (λ (e : new ≡ x). (let n : start ≡ x.start = ap (λ (d : DumpStart). d.start) e in let le = may.greatest.greatest s.first first_quiet in omega (arith, n, le)))
        (λ (h : Among (starts s.events) x). o.behind x h)
        there;
    raised = λ x there. ⊎_elim
        (λ (e : new ≡ x). inl (ap (λ (y : DumpStart). Some y) e))
        (λ (h : Among (starts s.events) x). ⊎_elim
        (λ (w : under_way s.events ≡ Some x). (let both : Some x ≡ None = sym w ∙ may.alone in absurd (cc (both))))
        (λ (r : IsRaisedIn s.events x.number). inr (raised_more (Start number start item) x.number r))
        (o.raised x h))
        there;
    few_raised = λ n r. ⊎_elim
        (λ (e : Start number start item ≡ Raise n r.0). absurd (cc (e)))
        (λ (h : Among s.events (Raise n r.0)). (let le = o.few_raised n (r.0, h) in omega (arith, le)))
        r.1;
  }
    where
      new : DumpStart
      new = record { number = number; start = start }

  module _ (one_way : IsOneWay true_) (known : IsKnown true_) where
    -- what is undone has not released
    unreleased : (r : AuditRecord) → DiscMay s (Undo r) → DiscAsks true_ s (Undo r) → has_released s.events r.tx ≡ false
    unreleased r may asks = false_from_ne_true (has_released s.events r.tx) (λ h.
        ⊎_elim
        (λ (c : (discs : List ℕ) × true_ (Decided r.tx Committing discs)). absurd (one_way r.tx c.0 asks.0 c.1 asks.1))
        (λ (e : changes_left s.events r.tx ≡ []). (let both : [] ≡ may.change ∷ may.others = sym e ∙ may.newest in absurd (cc (both))))
        (o.let_go r.tx h))

    released_step : (u : Transid) → DiscAsks true_ s (Release u) → (t : Transid) → has_released (Release u ∷ s.events) t ≡ true → IsLetGo true_ (Release u ∷ s.events) t
    released_step u asks t h =
        ⊎_elim
        (λ (e : is_same_transid u t ≡ true). subst (λ (x : Transid). IsLetGo true_ (Release u ∷ s.events) x) (same_is u t e)
        (⊎_elim
        (λ (c : (place : ℕ) × true_ (Recorded (Commit u) place)). inl (known u c.0 c.1))
        (λ (c : IsBackedOut true_ u × (changes_left s.events u ≡ [])). inr c.1)
        asks))
        (λ (e : has_released s.events t ≡ true). o.let_go t e)
        (or_cases (is_same_transid u t) (has_released s.events t) h)

    pub orderly_step : (e : DiscEvent) → DiscMay s e → DiscAsks true_ s e → IsOrderly true_ (record s { events = e ∷ s.events })
    orderly_step (Write r op) may asks =
        orderly_recorded (Write r op) refl refl refl (λ n k h. absurd (cc (h))) r refl (λ t e. refl) (λ t. refl) (λ t e. case_false (is_same_transid r.tx t) (r ∷ changes_left s.events t) (changes_left s.events t) e) may.takes.acts.unreleased may.position
    orderly_step (Undo r) may asks =
        orderly_recorded (Undo r) refl refl refl (λ n k h. absurd (cc (h))) r refl (λ t e. case_false (is_same_transid r.tx t) true (has_undone s.events t) e) (λ t. refl)
        (λ t e. case_false (is_same_transid r.tx t) (drop 1 (changes_left s.events t)) (changes_left s.events t) e) (unreleased r may asks) may.position
    orderly_step (Start number start item) may asks = orderly_begun number start item may
    orderly_step (Raise number rest) may asks = orderly_raised number rest may
    orderly_step (Release u) may asks =
        orderly_moved (Release u) refl refl refl (λ n k h. absurd (cc (h))) refl (λ t. refl) (λ t h. if_true (is_same_transid u t) (has_released s.events t) h) (released_step u asks)
    orderly_step (Read t f k v) may asks = orderly_moved (Read t f k v) refl refl refl (λ m q h. absurd (cc (h))) refl (λ u. refl) (λ u h. h) o.let_go
    orderly_step (Lock t f) may asks = orderly_moved (Lock t f) refl refl refl (λ m q h. absurd (cc (h))) refl (λ u. refl) (λ u h. h) o.let_go
    orderly_step (Turn t why) may asks = orderly_moved (Turn t why) refl refl refl (λ m q h. absurd (cc (h))) refl (λ u. refl) (λ u h. h) o.let_go
    orderly_step (Close t) may asks = orderly_moved (Close t) refl refl refl (λ m q h. absurd (cc (h))) refl (λ u. refl) (λ u h. h) o.let_go
    orderly_step (Draw f n p) may asks = orderly_moved (Draw f n p) refl refl refl (λ m q h. absurd (cc (h))) refl (λ u. refl) (λ u h. h) o.let_go
    orderly_step (Drawn f n) may asks = orderly_moved (Drawn f n) refl refl refl (λ m q h. absurd (cc (h))) refl (λ u. refl) (λ u h. h) o.let_go
    orderly_step (Low p by) may asks = orderly_moved (Low p by) refl refl refl (λ m q h. absurd (cc (h))) refl (λ u. refl) (λ u h. h) o.let_go
    orderly_step Lowered may asks = orderly_moved Lowered refl refl refl (λ m q h. absurd (cc (h))) refl (λ u. refl) (λ u h. h) o.let_go
    orderly_step (Failed by) may asks = orderly_moved (Failed by) refl refl refl (λ m q h. absurd (cc (h))) refl (λ u. refl) (λ u h. h) o.let_go

-- THE DISC AND ITS DUMP DEVICE

-- an image may have the label
abbrev pub IsLabel : DumpPart → DumpStart → Type 0
IsLabel u label = (landed_label u.rest u.events ≡ Some label) ⊎ (offered_label u.events ≡ Some label)

-- the label is one of this run
abbrev pub IsOwnLabel : DumpPart → DumpStart → Type 0
IsOwnLabel u label = (landed_here u.events ≡ Some label) ⊎ (offered_label u.events ≡ Some label)

-- it starts no earlier than the dump that the disc counts on, or is the one under way
abbrev pub IsCounted : DiscPart → DumpStart → Type 0
IsCounted s label = ((rest : ℕ) × (rest_start s.rest s.events ≡ Some rest) × (rest ≤ label.start)) ⊎ ((x : DumpStart) × (under_way s.events ≡ Some x) × (x.start ≡ label.start))

-- the dump is over at the device
abbrev pub IsIn : DumpPart → ℕ → Type 0
IsIn u number = (count : ℕ) × Among (ends u.events) (number, count)

-- The dumps of the device have begun at the disc. The disc counts on no dump that starts later than what an image may have. No label was begun since the dump under way is over.
pub record IsBeside (s : DiscPart) (u : DumpPart) : Type 0 where
  pub counted : (label : DumpStart) → IsLabel u label → IsCounted s label
  pub started : (x : DumpStart) → Among (starts s.events) x → IsIn u x.number ⊎ (under_way s.events ≡ Some x)
  pub unsealed : (x : DumpStart) (count : ℕ) → under_way s.events ≡ Some x → Among (ends u.events) (x.number, count) → count ≡ seals u.events
  pub ended : (number count : ℕ) → Among (ends u.events) (number, count) → (start : ℕ) × Among (starts s.events) (record { number = number; start = start })
  pub rest : (rest : ℕ) → rest_start s.rest s.events ≡ Some rest → AreFrom (landed_label u.rest u.events) (offered_label u.events) rest
  pub begun : (label : DumpStart) → IsOwnLabel u label → Among (starts s.events) label
  -- each block was copied behind a record that is made
  pub copies : (number file block position : ℕ) → copied u.events number file block ≡ Some position → position < next_position s

from_label : (a b : Option DumpStart) (start : ℕ) (label : DumpStart) → AreFrom a b start → (a ≡ Some label) ⊎ (b ≡ Some label) → start ≤ label.start
from_label None None start label from shows = absurd from
from_label (Some a) None start label from (inl e) = subst (λ (x : DumpStart). start ≤ x.start) (some_is a label e) from
from_label (Some a) None start label from (inr e) = absurd (cc (e))
from_label None (Some b) start label from (inl e) = absurd (cc (e))
from_label None (Some b) start label from (inr e) = subst (λ (x : DumpStart). start ≤ x.start) (some_is b label e) from
from_label (Some a) (Some b) start label from (inl e) = subst (λ (x : DumpStart). start ≤ x.start) (some_is a label e) from.0
from_label (Some a) (Some b) start label from (inr e) = subst (λ (x : DumpStart). start ≤ x.start) (some_is b label e) from.1

pub is_in : (u : DumpPart) (number : ℕ) (rest : Option ℕ) → IsOver u number rest → IsIn u number
is_in u number (Some start) over = over.0
is_in u number None over = (over.0, over.1)

module _ (s : DiscPart) (u : DumpPart) (p : IsBeside s u) where
  -- with one record more
  copies_more : (r : AuditRecord) → (number file block position : ℕ) → copied u.events number file block ≡ Some position → position < s.first + length (made s.events ++ r ∷ [])
  copies_more r number file block position at = (let lt = p.copies number file block position at in let long = length_push (made s.events) r in omega (arith, lt, long))

  beside_begun : (number start : ℕ) (item : Transid) → DiscMay s (Start number start item) → ((x : DumpStart) → Among (starts s.events) x → x.number ≤ dumps_begun s.events) → IsBeside (record s { events = Start number start item ∷ s.events }) u
  beside_begun number start item may most = record {
    counted = λ label shows. ⊎_elim
        (λ (c : (rest : ℕ) × (rest_start s.rest s.events ≡ Some rest) × (rest ≤ label.start)). inl c)
        (λ (c : (x : DumpStart) × (under_way s.events ≡ Some x) × (x.start ≡ label.start)). alone c.0 c.1)
        (p.counted label shows);
    started = λ x there. ⊎_elim
        (λ (e : new ≡ x). inr (ap (λ (y : DumpStart). Some y) e))
        (λ (h : Among (starts s.events) x). ⊎_elim (λ (i : IsIn u x.number). inl i) (λ (w : under_way s.events ≡ Some x). alone x w) (p.started x h))
        there;
    unsealed = λ x count way there.
        (let number_is : number ≡ x.number = ap (λ (y : DumpStart). y.number) (some_is new x way) in
        let old = p.ended x.number count there in
        let le = most (record { number = x.number; start = old.0 }) old.1 in
        let next = may.next in
        absurd (omega (arith, number_is, le, next)));
    ended = λ n count there. (let old = p.ended n count there in (old.0, inr old.1));
    rest = p.rest;
    begun = λ label own. inr (p.begun label own);
    copies = p.copies;
  }
    where
      new : DumpStart
      new = record { number = number; start = start }

      alone : {P : Type 0} (x : DumpStart) → under_way s.events ≡ Some x → P
      alone x way = (let both : Some x ≡ None = sym way ∙ may.alone in absurd (cc (both)))

  raised_counted : (number : ℕ) (rest : Option ℕ) (x : DumpStart) → under_way s.events ≡ Some x → x.number ≡ number → IsOver u number rest → (label : DumpStart) → IsLabel u label → IsCounted (record s { events = Raise number rest ∷ s.events }) label
  raised_counted number (Some start) x way is over label shows = inl (start, refl, from_label (landed_label u.rest u.events) (offered_label u.events) start label over.1 shows)
  raised_counted number None x way is over label shows =
      ⊎_elim
      (λ (lt : over.0 < seals u.events). (let same : over.0 ≡ seals u.events = p.unsealed x over.0 way (subst (λ (n : ℕ). Among (ends u.events) (n, over.0)) (sym is) over.1) in absurd (omega (arith, lt, same))))
      (λ (none : (landed_label u.rest u.events ≡ None) × (offered_label u.events ≡ None)).
      ⊎_elim
      (λ (e : landed_label u.rest u.events ≡ Some label). (let both : None ≡ Some label = sym none.0 ∙ e in absurd (cc (both))))
      (λ (e : offered_label u.events ≡ Some label). (let both : None ≡ Some label = sym none.1 ∙ e in absurd (cc (both))))
      shows)
      over.3

  raised_rest : (number : ℕ) (rest : Option ℕ) → IsOver u number rest → (start : ℕ) → rest ≡ Some start → AreFrom (landed_label u.rest u.events) (offered_label u.events) start
  raised_rest number (Some old) over start e = subst (λ (n : ℕ). AreFrom (landed_label u.rest u.events) (offered_label u.events) n) (some_is old start e) over.1
  raised_rest number None over start e = absurd (cc (e))

  beside_raised : (number : ℕ) (rest : Option ℕ) → DiscMay s (Raise number rest) → IsOver u number rest → IsBeside (record s { events = Raise number rest ∷ s.events }) u
  beside_raised number rest may over = record {
    counted = raised_counted number rest may.dump may.way may.is_it over;
    started = λ x there. ⊎_elim
        (λ (i : IsIn u x.number). inl i)
        (λ (w : under_way s.events ≡ Some x).
        (let same : may.dump ≡ x = some_is may.dump x (sym may.way ∙ w) in
        let n : number ≡ x.number = sym may.is_it ∙ ap (λ (y : DumpStart). y.number) same in
        inl (subst (λ (m : ℕ). IsIn u m) n (is_in u number rest over))))
        (p.started x there);
    unsealed = λ x count way there. absurd (cc (way));
    ended = p.ended;
    rest = raised_rest number rest over;
    begun = p.begun;
    copies = p.copies;
  }

  pub beside_disc : (true_ : Fact → Type 0) → ((x : DumpStart) → Among (starts s.events) x → x.number ≤ dumps_begun s.events) → ((number : ℕ) (rest : Option ℕ) → true_ (Over s.number number rest) → IsOver u number rest)
      → (e : DiscEvent) → DiscMay s e → DiscAsks true_ s e → IsBeside (record s { events = e ∷ s.events }) u
  beside_disc true_ most over (Start number start item) may asks = beside_begun number start item may most
  beside_disc true_ most over (Raise number rest) may asks = beside_raised number rest may (over number rest asks)
  beside_disc true_ most over (Write r op) may asks = record { counted = p.counted; started = p.started; unsealed = p.unsealed; ended = p.ended; rest = p.rest; begun = p.begun; copies = copies_more r }
  beside_disc true_ most over (Undo r) may asks = record { counted = p.counted; started = p.started; unsealed = p.unsealed; ended = p.ended; rest = p.rest; begun = p.begun; copies = copies_more r }
  beside_disc true_ most over (Read t f k v) may asks = record { counted = p.counted; started = p.started; unsealed = p.unsealed; ended = p.ended; rest = p.rest; begun = p.begun; copies = p.copies }
  beside_disc true_ most over (Lock t f) may asks = record { counted = p.counted; started = p.started; unsealed = p.unsealed; ended = p.ended; rest = p.rest; begun = p.begun; copies = p.copies }
  beside_disc true_ most over (Turn t why) may asks = record { counted = p.counted; started = p.started; unsealed = p.unsealed; ended = p.ended; rest = p.rest; begun = p.begun; copies = p.copies }
  beside_disc true_ most over (Close t) may asks = record { counted = p.counted; started = p.started; unsealed = p.unsealed; ended = p.ended; rest = p.rest; begun = p.begun; copies = p.copies }
  beside_disc true_ most over (Release t) may asks = record { counted = p.counted; started = p.started; unsealed = p.unsealed; ended = p.ended; rest = p.rest; begun = p.begun; copies = p.copies }
  beside_disc true_ most over (Draw f n q) may asks = record { counted = p.counted; started = p.started; unsealed = p.unsealed; ended = p.ended; rest = p.rest; begun = p.begun; copies = p.copies }
  beside_disc true_ most over (Drawn f n) may asks = record { counted = p.counted; started = p.started; unsealed = p.unsealed; ended = p.ended; rest = p.rest; begun = p.begun; copies = p.copies }
  beside_disc true_ most over (Low q by) may asks = record { counted = p.counted; started = p.started; unsealed = p.unsealed; ended = p.ended; rest = p.rest; begun = p.begun; copies = p.copies }
  beside_disc true_ most over Lowered may asks = record { counted = p.counted; started = p.started; unsealed = p.unsealed; ended = p.ended; rest = p.rest; begun = p.begun; copies = p.copies }
  beside_disc true_ most over (Failed by) may asks = record { counted = p.counted; started = p.started; unsealed = p.unsealed; ended = p.ended; rest = p.rest; begun = p.begun; copies = p.copies }

  -- a label is offered: that of the dump under way
  beside_seal : (number start : ℕ) → DumpMay u (Seal number start) → Among (starts s.events) (record { number = number; start = start }) → IsBeside s (record u { events = Seal number start ∷ u.events })
  beside_seal number start may there = record {
    counted = λ label shows. ⊎_elim
        (λ (e : landed_label u.rest u.events ≡ Some label). p.counted label (inl e))
        (λ (e : Some new ≡ Some label). inr (new, way, ap (λ (y : DumpStart). y.start) (some_is new label e)))
        shows;
    started = p.started;
    unsealed = λ x count is over.
        (let same : new ≡ x = some_is new x (sym way ∙ is) in
        absurd (may.ongoing count (subst (λ (y : DumpStart). Among (ends u.events) (y.number, count)) (sym same) over)));
    ended = p.ended;
    rest = λ rest e. from_new (landed_label u.rest u.events) (offered_label u.events) rest may.idle may.rises (p.rest rest e);
    begun = λ label own. ⊎_elim
        (λ (e : landed_here u.events ≡ Some label). p.begun label (inl e))
        (λ (e : Some new ≡ Some label). subst (λ (y : DumpStart). Among (starts s.events) y) (some_is new label e) there)
        own;
    copies = p.copies;
  }
    where
      new : DumpStart
      new = record { number = number; start = start }

      way : under_way s.events ≡ Some new
      way = ⊎_elim (λ (i : IsIn u number). absurd (may.ongoing i.0 i.1)) (λ (w : under_way s.events ≡ Some new). w) (p.started new there)

      from_new : (a b : Option DumpStart) (rest : ℕ) → b ≡ None → ((label : DumpStart) → a ≡ Some label → label.start ≤ start) → AreFrom a b rest → AreFrom a (Some new) rest
      from_new None None rest e rises from = absurd from
      from_new (Some a) None rest e rises from = (let le : a.start ≤ start = rises a refl in (from, omega (arith, le, from)))
      from_new a (Some b) rest e rises from = absurd (cc (e))

  sealed_from : (a b : Option DumpStart) (rest : ℕ) → AreFrom a b rest → AreFrom (option_or b a) None rest
  sealed_from None None rest from = from
  sealed_from (Some a) None rest from = from
  sealed_from None (Some b) rest from = from
  sealed_from (Some a) (Some b) rest from = from.1

  -- a dump more is over
  over_more : (number : ℕ) (x : DumpStart) (count : ℕ) → (◌≡◌ {A = ℕ × ℕ} (number, seals u.events) (x.number, count)) ⊎ Among (ends u.events) (x.number, count) → under_way s.events ≡ Some x → count ≡ seals u.events
  over_more number x count there way = ⊎_elim
      (λ (e : ◌≡◌ {A = ℕ × ℕ} (number, seals u.events) (x.number, count)). sym (ap (λ (y : ℕ × ℕ). y.1) e))
      (λ (h : Among (ends u.events) (x.number, count)). p.unsealed x count way h)
      there

  ended_more : (number start : ℕ) → Among (starts s.events) (record { number = number; start = start }) → (n count : ℕ) → (◌≡◌ {A = ℕ × ℕ} (number, seals u.events) (n, count)) ⊎ Among (ends u.events) (n, count) → (begin : ℕ) × Among (starts s.events) (record { number = n; start = begin })
  ended_more number start begun n count there = ⊎_elim
      (λ (e : ◌≡◌ {A = ℕ × ℕ} (number, seals u.events) (n, count)). (start, subst (λ (m : ℕ). Among (starts s.events) (record { number = m; start = start })) (ap (λ (y : ℕ × ℕ). y.0) e) begun))
      (λ (h : Among (ends u.events) (n, count)). p.ended n count h)
      there

  -- the label that was offered stands
  beside_whole : (number start : ℕ) → DumpMay u (Sealed number true) → Among (starts s.events) (record { number = number; start = start }) → IsBeside s (record u { events = Sealed number true ∷ u.events })
  beside_whole number start may begun = record {
    counted = λ label shows. ⊎_elim
        (λ (e : landed_label u.rest (Sealed number true ∷ u.events) ≡ Some label). p.counted label (inr (may.1 ∙ (sym now ∙ e))))
        (λ (e : None ≡ Some label). absurd (cc (e)))
        shows;
    started = λ x there. ⊎_elim (λ (i : IsIn u x.number). inl (i.0, inr i.1)) (λ (w : under_way s.events ≡ Some x). inr w) (p.started x there);
    unsealed = λ x count way there. over_more number x count there way;
    ended = ended_more number start begun;
    rest = λ rest e. subst (λ (o : Option DumpStart). AreFrom o None rest) (sym (or_assoc (offered_label u.events) (landed_here u.events) (label_of u.rest))) (sealed_from (landed_label u.rest u.events) (offered_label u.events) rest (p.rest rest e));
    begun = λ label own. ⊎_elim
        (λ (e : option_or (offered_label u.events) (landed_here u.events) ≡ Some label). p.begun label (inr (may.1 ∙ (sym here ∙ e))))
        (λ (e : None ≡ Some label). absurd (cc (e)))
        own;
    copies = p.copies;
  }
    where
      here : option_or (offered_label u.events) (landed_here u.events) ≡ Some may.0
      here = ap (λ (o : Option DumpStart). option_or o (landed_here u.events)) may.1

      now : landed_label u.rest (Sealed number true ∷ u.events) ≡ Some may.0
      now = ap (λ (o : Option DumpStart). option_or o (label_of u.rest)) here

  -- the dump is given up
  beside_over : (number start : ℕ) → Among (starts s.events) (record { number = number; start = start }) → IsBeside s (record u { events = Sealed number false ∷ u.events })
  beside_over number start begun = record {
    counted = p.counted;
    started = λ x there. ⊎_elim (λ (i : IsIn u x.number). inl (i.0, inr i.1)) (λ (w : under_way s.events ≡ Some x). inr w) (p.started x there);
    unsealed = λ x count way there. over_more number x count there way;
    ended = ended_more number start begun;
    rest = p.rest;
    begun = p.begun;
    copies = p.copies;
  }

  -- a block is copied
  beside_copied : (number file block position : ℕ) → position < next_position s → IsBeside s (record u { events = Copy number file block position ∷ u.events })
  beside_copied number file block position made_it = record {
    counted = p.counted;
    started = p.started;
    unsealed = p.unsealed;
    ended = p.ended;
    rest = p.rest;
    begun = p.begun;
    copies = λ n f b q e. of n f b q ((n == number) && is_same_block f b file block) e;
  }
    where
      of : (n f b q : ℕ) (t : Bool) → (if t then Some position else copied u.events n f b) ≡ Some q → q < next_position s
      of n f b q true e = subst (λ (x : ℕ). x < next_position s) (some_is position q e) made_it
      of n f b q false e = p.copies n f b q e

  pub beside_dump : (true_ : Fact → Type 0) → ((number start : ℕ) → true_ (Started u.number number start) → Among (starts s.events) (record { number = number; start = start }))
      → ((position : ℕ) (records : List AuditRecord) → true_ (Made u.number position records) → position < next_position s) → (e : DumpEvent) → DumpMay u e → DumpAsks true_ u e → IsBeside s (record u { events = e ∷ u.events })
  beside_dump true_ there made_there (Copy number file block position) may asks = beside_copied number file block position (made_there position asks.3.0 asks.3.1)
  beside_dump true_ there made_there (Seal number start) may asks = beside_seal number start may (there number start asks.0)
  beside_dump true_ there made_there (Sealed number true) may asks = beside_whole number asks.0 may (there number asks.0 asks.1)
  beside_dump true_ there made_there (Sealed number false) may asks = beside_over number asks.0 (there number asks.0 asks.1)
  beside_dump true_ there made_there (DumpFailed by) may asks = record { counted = p.counted; started = p.started; unsealed = p.unsealed; ended = p.ended; rest = p.rest; begun = p.begun; copies = p.copies }

-- ALL PARTS

-- what the monitor has recorded or is writing was decided so
abbrev IsDecidedThere : (Fact → Type 0) → PartState → Type 0
IsDecidedThere true_ (Monitor m) = (t : Transid) → Among (recorded m.events ++ offered_car m.events) (Commit t) → (discs : List ℕ) × true_ (Decided t Committing discs)
IsDecidedThere true_ _ = Unit {0}

-- each part stands at its place, and so it is of the disc of this volume and its dump device
pub record AreOrderly (volume : ℕ) (ss : List PartState) : Type 0 where
  pub placed : (q : ℕ) (s : PartState) → slice_get ss q ≡ Some s → IsPlaced q s
  pub decided : (q : ℕ) (s : PartState) → slice_get ss q ≡ Some s → IsDecidedThere (IsTrueIn node ss) s
  pub disc : (s : DiscPart) → slice_get ss (disc_part volume) ≡ Some (Disc s) → IsOrderly (IsTrueIn node ss) s
  pub beside : (s : DiscPart) (u : DumpPart) → slice_get ss (disc_part volume) ≡ Some (Disc s) → slice_get ss (dump_part volume) ≡ Some (Dump u) → IsBeside s u

module _ (volume : ℕ) (ss : List PartState) (all : AreOrderly volume ss) where
  one_way : IsOneWay (IsTrueIn node ss)
  one_way t discs others (p, Worker w, at, m) (q, Worker v, at_v, n) =
      let same_place : p ≡ q = all.placed p (Worker w) at ∙ ap (λ (k : ℕ). k - 1) (sym m.0.worker ∙ n.0.worker) ∙ sym (all.placed q (Worker v) at_v) in
      let both : Some (Worker w) ≡ Some (Worker v) = sym at ∙ ap (slice_get ss) same_place ∙ at_v in
      let same : w ≡ v = cc (both) in
      let abort : decision w.events t ≡ Some Aborting = subst (λ (x : WorkerPart). decision x.events t ≡ Some Aborting) (sym same) n.1 in
      let two : Some Committing ≡ Some Aborting = sym m.1 ∙ abort in
      absurd (cc (two))
  one_way t discs others (p, Worker w, at, m) (q, _, at_v, n) = absurd n
  one_way t discs others (p, _, at, m) second = absurd m

  known : IsKnown (IsTrueIn node ss)
  known t place (q, Monitor m, at, makes) = all.decided q (Monitor m) at t (among_left (recorded m.events) (offered_car m.events) (Commit t) (among_at (recorded m.events) makes.index (Commit t) makes.at))
  known t place (q, _, at, makes) = absurd makes

  -- what is over is so at this dump device
  pub over_here : (s : DiscPart) (u : DumpPart) → slice_get ss (disc_part volume) ≡ Some (Disc s) → slice_get ss (dump_part volume) ≡ Some (Dump u) → (number : ℕ) (rest : Option ℕ) → IsTrueIn node ss (Over s.number number rest) → IsOver u number rest
  over_here s u at at_u number rest (q, Dump v, at_v, m) =
      let disc_is : disc_part volume ≡ disc_part s.number = all.placed (disc_part volume) (Disc s) at in
      let there : q ≡ dump_part v.number = all.placed q (Dump v) at_v in
      let number_is = m.0 in
      let here : q ≡ dump_part volume = omega (arith, disc_is, there, number_is) in
      let both : Some (Dump v) ≡ Some (Dump u) = sym at_v ∙ ap (slice_get ss) here ∙ at_u in
      let same : v ≡ u = cc (both) in
      subst (λ (x : DumpPart). IsOver x number rest) same m.1
  over_here s u at at_u number rest (q, _, at_v, m) = absurd m

  -- what has begun has begun at this disc
  pub begun_here : (s : DiscPart) (u : DumpPart) → slice_get ss (disc_part volume) ≡ Some (Disc s) → slice_get ss (dump_part volume) ≡ Some (Dump u) → (number start : ℕ) → IsTrueIn node ss (Started u.number number start)
      → Among (starts s.events) (record { number = number; start = start })
  begun_here s u at at_u number start (q, Disc v, at_v, m) =
      let dump_is : dump_part volume ≡ dump_part u.number = all.placed (dump_part volume) (Dump u) at_u in
      let there : q ≡ disc_part v.number = all.placed q (Disc v) at_v in
      let number_is = m.0 in
      let here : q ≡ disc_part volume = omega (arith, dump_is, there, number_is) in
      let both : Some (Disc v) ≡ Some (Disc s) = sym at_v ∙ ap (slice_get ss) here ∙ at in
      let same : v ≡ s = cc (both) in
      subst (λ (x : DiscPart). Among (starts x.events) (record { number = number; start = start })) same m.1
  begun_here s u at at_u number start (q, _, at_v, m) = absurd m

  -- what is made is made at this disc
  pub made_here : (s : DiscPart) (u : DumpPart) → slice_get ss (disc_part volume) ≡ Some (Disc s) → slice_get ss (dump_part volume) ≡ Some (Dump u) → (position : ℕ) (records : List AuditRecord) → IsTrueIn node ss (Made u.number position records) → position < next_position s
  made_here s u at at_u position records (q, Disc v, at_v, m) =
      let dump_is : dump_part volume ≡ dump_part u.number = all.placed (dump_part volume) (Dump u) at_u in
      let there : q ≡ disc_part v.number = all.placed q (Disc v) at_v in
      let number_is = m.0 in
      let here : q ≡ disc_part volume = omega (arith, dump_is, there, number_is) in
      let both : Some (Disc v) ≡ Some (Disc s) = sym at_v ∙ ap (slice_get ss) here ∙ at in
      let same : v ≡ s = cc (both) in
      subst (λ (x : DiscPart). position < next_position x) same m.2
  made_here s u at at_u position records (q, _, at_v, m) = absurd m

-- one event more

placed_step : (q : ℕ) (s : PartState) (e : Event) → IsAllowed s e → IsPlaced q s → IsPlaced q (state_with s e)
placed_step q (Worker s) (OfWorker e) may is = is
placed_step q (Disc s) (OfDisc e) may is = is
placed_step q (Trail s) (OfTrail e) may is = is
placed_step q (Monitor s) (OfMonitor e) may is = is
placed_step q (Dump s) (OfDump e) may is = is
placed_step q _ _ may is = absurd may

decided_more : (true_ after : Fact → Type 0) → ((f : Fact) → true_ f → after f) → (s : PartState) → IsDecidedThere true_ s → IsDecidedThere after s
decided_more true_ after more (Monitor m) h = λ t there. (let d = h t there in (d.0, more _ d.1))
decided_more true_ after more (Worker s) h = tt
decided_more true_ after more (Disc s) h = tt
decided_more true_ after more (Trail s) h = tt
decided_more true_ after more (Dump s) h = tt
decided_more true_ after more Idle h = tt

decided_step : (true_ : Fact → Type 0) (s : PartState) (e : Event) → IsAllowed s e → Asks true_ s e → IsDecidedThere true_ s → IsDecidedThere true_ (state_with s e)
decided_step true_ (Monitor m) (OfMonitor (Offer records)) may asks h = λ t there. ⊎_elim
    (λ (l : Among (recorded m.events) (Commit t)). h t (among_left (recorded m.events) (offered_car m.events) (Commit t) l))
    (λ (r : Among records (Commit t)). (let b = asks (Commit t) r in (b.0, b.1)))
    (among_append (recorded m.events) records (Commit t) there)
decided_step true_ (Monitor m) (OfMonitor Land) may asks h = λ t there. ⊎_elim
    (λ (l : Among (recorded m.events ++ offered_car m.events) (Commit t)). h t l)
    (λ (r : Among [] (Commit t)). absurd r)
    (among_append (recorded m.events ++ offered_car m.events) [] (Commit t) there)
decided_step true_ (Monitor m) (OfMonitor (MonitorFailed by)) may asks h = h
decided_step true_ (Worker s) (OfWorker e) may asks h = tt
decided_step true_ (Disc s) (OfDisc e) may asks h = tt
decided_step true_ (Trail s) (OfTrail e) may asks h = tt
decided_step true_ (Dump s) (OfDump e) may asks h = tt
decided_step true_ _ _ may asks h = absurd may

-- the part that has had the event
record DiscHad (t : PartState) (e : Event) (s : DiscPart) : Type 0 where
  was : DiscPart
  event : DiscEvent
  part_is : t ≡ Disc was
  event_is : e ≡ OfDisc event
  now : s ≡ record was { events = event ∷ was.events }

disc_had : (t : PartState) (e : Event) (s : DiscPart) → IsAllowed t e → Disc s ≡ state_with t e → DiscHad t e s
disc_had (Disc o) (OfDisc a) s may is = record { was = o; event = a; part_is = refl; event_is = refl; now = cc (is) }
disc_had (Worker o) (OfWorker a) s may is = absurd (cc (is))
disc_had (Trail o) (OfTrail a) s may is = absurd (cc (is))
disc_had (Monitor o) (OfMonitor a) s may is = absurd (cc (is))
disc_had (Dump o) (OfDump a) s may is = absurd (cc (is))
disc_had _ _ s may is = absurd may

record DumpHad (t : PartState) (e : Event) (u : DumpPart) : Type 0 where
  was : DumpPart
  event : DumpEvent
  part_is : t ≡ Dump was
  event_is : e ≡ OfDump event
  now : u ≡ record was { events = event ∷ was.events }

dump_had : (t : PartState) (e : Event) (u : DumpPart) → IsAllowed t e → Dump u ≡ state_with t e → DumpHad t e u
dump_had (Dump o) (OfDump a) u may is = record { was = o; event = a; part_is = refl; event_is = refl; now = cc (is) }
dump_had (Worker o) (OfWorker a) u may is = absurd (cc (is))
dump_had (Trail o) (OfTrail a) u may is = absurd (cc (is))
dump_had (Monitor o) (OfMonitor a) u may is = absurd (cc (is))
dump_had (Disc o) (OfDisc a) u may is = absurd (cc (is))
dump_had _ _ u may is = absurd may

module _ (volume : ℕ) (ss : List PartState) (x : ℕ × Event) (en : IsEnabled node ss x) (all : AreOrderly volume ss) where
  abbrev now : List PartState
  now = next_states node ss x

  up : (f : Fact) → IsTrueIn node ss f → IsTrueIn node now f
  up f t = stays_true node node_facts_stay ss (x ∷ []) f (en, tt) t

  -- a part is as it was, or has had this event
  record HasComeTo (q : ℕ) (s : PartState) : Type 0 where
    at : q ≡ x.0
    is : s ≡ state_with en.0 x.1

  came : (q : ℕ) (s : PartState) → slice_get now q ≡ Some s → (slice_get ss q ≡ Some s) ⊎ HasComeTo q s
  came q s at = ⊎_elim
      (λ (same : slice_get ss q ≡ Some s). inl same)
      (λ (c : (t : PartState) × (slice_get ss q ≡ Some t) × (q ≡ x.0) × (s ≡ node.step t x.1)).
      (let both : Some c.0 ≡ Some en.0 = sym c.1 ∙ ap (slice_get ss) c.2 ∙ en.1 in
      inr (record { at = c.2; is = c.3 ∙ ap (λ (t : PartState). state_with t x.1) (some_is c.0 en.0 both) })))
      (changed_or (λ t. node.step t x.1) x.0 q ss s at)

  here : (q : ℕ) (t : PartState) → q ≡ x.0 → en.0 ≡ t → slice_get ss q ≡ Some t
  here q t at is = ap (slice_get ss) at ∙ en.1 ∙ ap (λ (s : PartState). Some s) is

  may_disc : (o : DiscPart) (a : DiscEvent) → en.0 ≡ Disc o → x.1 ≡ OfDisc a → DiscMay o a × DiscAsks (IsTrueIn node ss) o a
  may_disc o a is event = (
    subst (λ (e : Event). IsAllowed (Disc o) e) event (subst (λ (t : PartState). IsAllowed t x.1) is en.2),
    subst (λ (e : Event). Asks (IsTrueIn node ss) (Disc o) e) event (subst (λ (t : PartState). Asks (IsTrueIn node ss) t x.1) is en.3),
  )

  may_dump : (o : DumpPart) (a : DumpEvent) → en.0 ≡ Dump o → x.1 ≡ OfDump a → DumpMay o a × DumpAsks (IsTrueIn node ss) o a
  may_dump o a is event = (
    subst (λ (e : Event). IsAllowed (Dump o) e) event (subst (λ (t : PartState). IsAllowed t x.1) is en.2),
    subst (λ (e : Event). Asks (IsTrueIn node ss) (Dump o) e) event (subst (λ (t : PartState). Asks (IsTrueIn node ss) t x.1) is en.3),
  )

  disc_now : (s : DiscPart) → slice_get now (disc_part volume) ≡ Some (Disc s) → IsOrderly (IsTrueIn node ss) s
  disc_now s at = ⊎_elim
      (λ (same : slice_get ss (disc_part volume) ≡ Some (Disc s)). all.disc s same)
      (λ (c : HasComeTo (disc_part volume) (Disc s)).
      (let h = disc_had en.0 x.1 s en.2 c.is in
      let may = may_disc h.was h.event h.part_is h.event_is in
      subst (λ (y : DiscPart). IsOrderly (IsTrueIn node ss) y) (sym h.now)
      (orderly_step (IsTrueIn node ss) h.was (all.disc h.was (here (disc_part volume) (Disc h.was) c.at h.part_is)) (one_way volume ss all) (known volume ss all) h.event may.0 may.1)))
      (came (disc_part volume) (Disc s) at)

  both_now : (s : DiscPart) (u : DumpPart) → slice_get now (disc_part volume) ≡ Some (Disc s) → slice_get now (dump_part volume) ≡ Some (Dump u) → IsBeside s u
  both_now s u at at_u = ⊎_elim
      (λ (same : slice_get ss (disc_part volume) ≡ Some (Disc s)).
      ⊎_elim
      (λ (same_u : slice_get ss (dump_part volume) ≡ Some (Dump u)). all.beside s u same same_u)
      (λ (c : HasComeTo (dump_part volume) (Dump u)).
      (let h = dump_had en.0 x.1 u en.2 c.is in
      let may = may_dump h.was h.event h.part_is h.event_is in
      let was_at = here (dump_part volume) (Dump h.was) c.at h.part_is in
      subst (λ (y : DumpPart). IsBeside s y) (sym h.now) (beside_dump s h.was (all.beside s h.was same was_at) (IsTrueIn node ss) (begun_here volume ss all s h.was same was_at) (made_here volume ss all s h.was same was_at) h.event may.0 may.1)))
      (came (dump_part volume) (Dump u) at_u))
      (λ (c : HasComeTo (disc_part volume) (Disc s)).
      ⊎_elim
      (λ (same_u : slice_get ss (dump_part volume) ≡ Some (Dump u)).
      (let h = disc_had en.0 x.1 s en.2 c.is in
      let may = may_disc h.was h.event h.part_is h.event_is in
      let was_at = here (disc_part volume) (Disc h.was) c.at h.part_is in
      subst (λ (y : DiscPart). IsBeside y u) (sym h.now)
      (beside_disc h.was u (all.beside h.was u was_at same_u) (IsTrueIn node ss) (all.disc h.was was_at).most (over_here volume ss all h.was u was_at same_u) h.event may.0 may.1)))
      (λ (d : HasComeTo (dump_part volume) (Dump u)). (let a = c.at in let b = d.at in absurd (omega (arith, a, b))))
      (came (dump_part volume) (Dump u) at_u))
      (came (disc_part volume) (Disc s) at)

  pub orderly_next : AreOrderly volume now
  orderly_next = record {
    placed = λ q s at. ⊎_elim
        (λ (same : slice_get ss q ≡ Some s). all.placed q s same)
        (λ (c : HasComeTo q s). subst (λ (t : PartState). IsPlaced q t) (sym c.is) (placed_step q en.0 x.1 en.2 (all.placed q en.0 (here q en.0 c.at refl))))
        (came q s at);
    decided = λ q s at. decided_more (IsTrueIn node ss) (IsTrueIn node now) up s (⊎_elim
        (λ (same : slice_get ss q ≡ Some s). all.decided q s same)
        (λ (c : HasComeTo q s). subst (λ (t : PartState). IsDecidedThere (IsTrueIn node ss) t) (sym c.is) (decided_step (IsTrueIn node ss) en.0 x.1 en.2 en.3 (all.decided q en.0 (here q en.0 c.at refl))))
        (came q s at));
    disc = λ s at. orderly_more (IsTrueIn node ss) (IsTrueIn node now) up s (disc_now s at);
    beside = both_now;
  }

orderly_after : (volume : ℕ) (ss : List PartState) (log : List (ℕ × Event)) → IsHistory node ss log → AreOrderly volume ss → AreOrderly volume (states_after node ss log)
orderly_after volume ss [] h all = all
orderly_after volume ss (x ∷ log) h all = orderly_after volume (next_states node ss x) log h.1 (orderly_next volume ss x h.0 all)

-- AT THE OPENING

opened_orderly : (true_ : Fact → Type 0) (s : DiscPart) → s.events ≡ [] → IsOrderly true_ s
opened_orderly true_ s none = subst (λ (events : List DiscEvent). IsOrderly true_ (record s { events = events })) (sym none) (record {
  let_go = λ t h. absurd (cc (h));
  quiet = λ x there. absurd there;
  most = λ x there. absurd there;
  latest = λ x is. absurd (cc (is));
  from = λ r there. absurd there;
  behind = λ x there. absurd there;
  raised = λ x there. absurd there;
  few_raised = λ number r. absurd r.1;
})

opened_beside : (s : DiscPart) (u : DumpPart) → s.rest ≡ u.rest → s.events ≡ [] → u.events ≡ [] → IsBeside s u
opened_beside s u rest none none_u =
    subst (λ (events : List DiscEvent). IsBeside (record s { events = events }) u) (sym none)
    (subst (λ (events : List DumpEvent). IsBeside (record s { events = [] }) (record u { events = events })) (sym none_u) (record {
      copies = λ number file block position e. absurd (cc (e));
      counted = λ label shows. ⊎_elim (λ (e : label_of u.rest ≡ Some label). inl (label.start, rest ∙ rest_of u.rest label e, omega arith)) (λ (e : None ≡ Some label). absurd (cc (e))) shows;
      started = λ x there. absurd there;
      unsealed = λ x count way there. absurd there;
      ended = λ number count there. absurd there;
      rest = λ start e. from_rest u.rest start (sym rest ∙ e);
      begun = λ label own. ⊎_elim (λ (e : None ≡ Some label). absurd (cc (e))) (λ (e : None ≡ Some label). absurd (cc (e))) own;
    }))
  where
    rest_of : (o : Option ℕ) (label : DumpStart) → label_of o ≡ Some label → o ≡ Some label.start
    rest_of None label e = absurd (cc (e))
    rest_of (Some start) label e = ap (λ (x : DumpStart). Some x.start) (some_is (record { number = 0; start = start }) label e)

    from_rest : (o : Option ℕ) (start : ℕ) → o ≡ Some start → AreFrom (label_of o) None start
    from_rest None start e = absurd (cc (e))
    from_rest (Some old) start e = (let same = some_is old start e in omega (arith, same))

opened_decided : (true_ : Fact → Type 0) (found : Found) (q : ℕ) (s : PartState) → slice_get (opening_parts found) q ≡ Some s → IsDecidedThere true_ s
opened_decided true_ found q (Monitor m) at = subst (λ (events : List MonitorEvent). IsDecidedThere true_ (Monitor (record m { events = events }))) (sym (fresh found q (Monitor m) at)) (λ t there. absurd there)
opened_decided true_ found q (Worker s) at = tt
opened_decided true_ found q (Disc s) at = tt
opened_decided true_ found q (Trail s) at = tt
opened_decided true_ found q (Dump s) at = tt
opened_decided true_ found q Idle at = tt

same_rest : (found : Found) (volume : ℕ) (v : Option VolumeFound) (s : DiscPart) (u : DumpPart) → disc_with found.config volume v ≡ Disc s → dump_with found.config volume v ≡ Dump u → s.rest ≡ u.rest
same_rest found volume None s u is is_u = absurd (cc (is))
same_rest found volume (Some v) s u is is_u =
    let one : record { config = found.config; number = volume; base = v.base; first = v.next; low = v.low; rest = v.rest; events = [] } ≡ s = cc (is) in
    let two : record { config = found.config; number = volume; rest = v.rest; events = [] } ≡ u = cc (is_u) in
    sym (ap (λ (x : DiscPart). x.rest) one) ∙ ap (λ (x : DumpPart). x.rest) two

opened_all : (found : Found) (volume : ℕ) → 1 ≤ volume → volume ≤ 8 → AreOrderly volume (opening_parts found)
opened_all found volume low high = record {
  placed = opening_placed found;
  decided = opened_decided (IsTrueIn node (opening_parts found)) found;
  disc = λ s at. opened_orderly (IsTrueIn node (opening_parts found)) s (fresh found (disc_part volume) (Disc s) at);
  beside = λ s u at at_u.
      (let disc_is : Some (disc_at found volume) ≡ Some (Disc s) = sym (opening_disc found volume low high) ∙ at in
      let dump_is : Some (dump_at found volume) ≡ Some (Dump u) = sym (opening_dump found volume low high) ∙ at_u in
      opened_beside s u (same_rest found volume (found_volume found volume) s u (some_is (disc_at found volume) (Disc s) disc_is) (some_is (dump_at found volume) (Dump u) dump_is))
      (fresh found (disc_part volume) (Disc s) at) (fresh found (dump_part volume) (Dump u) at_u));
}

-- so it is behind each history
pub always_orderly : (found : Found) (volume : ℕ) → 1 ≤ volume → volume ≤ 8 → (log : List (ℕ × Event)) → IsHistory node (opening_parts found) log → AreOrderly volume (states_after node (opening_parts found) log)
always_orderly found volume low high log h = orderly_after volume (opening_parts found) log h (opened_all found volume low high)

-- WHAT FOLLOWS

-- the start of the dump that stands, or else that of the label in doubt
abbrev pub least_start : Option DumpStart → Option DumpStart → Option ℕ
least_start landed offered = option_or (start_of landed) (start_of offered)

-- the dump that stands, or the label in doubt where none does, leaves a rest start
pub may_rest : (s : DiscPart) (u : DumpPart) (x : DumpStart) → IsBeside s u → under_way s.events ≡ Some x → MayRest (rest_start s.rest s.events) (least_start (landed_label u.rest u.events) (offered_label u.events)) x.start
may_rest s u x p way = of (rest_start s.rest s.events) (landed_label u.rest u.events) (offered_label u.events) refl refl refl where
  counted_way : (label : DumpStart) → rest_start s.rest s.events ≡ None → IsCounted s label → label.start ≡ x.start
  counted_way label none (inl c) = (let both : None ≡ Some c.0 = sym none ∙ c.1 in absurd (cc (both)))
  counted_way label none (inr c) = sym c.2 ∙ ap (λ (y : DumpStart). y.start) (some_is c.0 x (sym c.1 ∙ way))

  of : (rest : Option ℕ) (a b : Option DumpStart) → rest_start s.rest s.events ≡ rest → landed_label u.rest u.events ≡ a → offered_label u.events ≡ b → MayRest rest (least_start a b) x.start
  of (Some old) (Some a) b e a_is b_is = from_label (landed_label u.rest u.events) (offered_label u.events) old a (p.rest old e) (inl a_is)
  of (Some old) None (Some b) e a_is b_is = from_label (landed_label u.rest u.events) (offered_label u.events) old b (p.rest old e) (inr b_is)
  of (Some old) None None e a_is b_is = subst (λ (o : Option DumpStart). AreFrom None o old) b_is (subst (λ (o : Option DumpStart). AreFrom o (offered_label u.events) old) a_is (p.rest old e))
  of None (Some a) b e a_is b_is = counted_way a e (p.counted a (inl a_is))
  of None None (Some b) e a_is b_is = counted_way b e (p.counted b (inr b_is))
  of None None None e a_is b_is = tt
