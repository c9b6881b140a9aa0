-- Who holds a key or a file of a disc is live there, by a step of its own; so who is alone at a disc finds all free.
use Rattle.std.specs.Prelude.{◌≡◌, ◌⊎◌, ℕ, ◌-◌, ◌==◌, Bool, true, false, if◌then◌else◌, List, [], ◌∷◌, ◌++◌, map, Option, Some, None, slice_get, bytes_eq}
use Rattle.std.specs.Option.{option_or}
use Rattle.std.proofs.Common.{refl, ap, sym, ◌∙◌, subst, arith, eqb-true, ⊎_elim, inl, inr}
use Rattle.std.proofs.lemmas.Bool.{and_parts}
use Rattle.std.proofs.lemmas.Slice.Eq.{bytes_eq-Decides}
use Rattle.chronicle.specs.Histories.{IsHistory, IsTrueIn, states_after}
use Rattle.chronicle.proofs.States.{states_after-append, history_front, history_rest, stays_true}
use Rattle.tmf_model.specs.declared.transid.Transid.{Transid}
use Rattle.trail_files.specs.MonitorOrder.{is_same_transid}
use Rattle.node_machine.specs.declared.event.Cause.{Cause}
use Rattle.node_machine.specs.declared.event.Cause.TheVariants.{Busy, BusyFile, Full, Refused, Dumping}
use Rattle.node_machine.specs.declared.event.DiscEvent.{DiscEvent}
use Rattle.node_machine.specs.declared.event.DiscEvent.TheVariants.{Write, Read, Lock, Turn, Undo, Close, Release, Draw, Drawn, Low, Lowered, Start, Raise, Failed}
use Rattle.node_machine.specs.declared.event.WorkerEvent.{WorkerEvent}
use Rattle.node_machine.specs.declared.event.WorkerEvent.TheVariants.{Begin, Enlist, Finish, End, Quit}
use Rattle.node_machine.specs.declared.event.Event.{Event}
use Rattle.node_machine.specs.declared.event.Event.TheVariants.{OfWorker, OfDisc, OfTrail, OfMonitor, OfDump}
use Rattle.node_machine.specs.Deeds.{HasEnlisted}
use Rattle.node_machine.specs.Disc.{DiscAsks, DiscMay, IsNoOther, MayTurn}
use Rattle.node_machine.specs.Holders.{AloneLaw, HolderLaw, IsLiveBy, TakesFile, TakesKey}
use Rattle.node_machine.specs.Laws.{node_facts_stay}
use Rattle.node_machine.specs.Made.{file_holder, freed, has_released, holder, key_holder}
use Rattle.node_machine.specs.Node.{node, Asks, IsAllowed, state_with}
use Rattle.node_machine.specs.Opening.{Found, disc_part, opening_parts, worker_part}
use Rattle.node_machine.specs.Parts.{DiscPart, Fact, PartState}
use Rattle.node_machine.specs.Parts.Fact.{Enlisted}
use Rattle.node_machine.specs.Parts.PartState.{Worker, Disc, Trail, Monitor, Dump, Idle}
use Rattle.node_machine.specs.Same.{Among, is_same_key}
use Rattle.node_machine.specs.SameLaws.{among_append, if_true, same_is, same_self}
use Rattle.node_machine.specs.Worker.{enlisted_discs}
use Rattle.node_machine.proofs.Kept.{kept}
use Rattle.node_machine.proofs.Opened.{fresh}
use Rattle.node_machine.proofs.Placed.{parts_placed}
use Rattle.node_machine.proofs.Sprung.{IsSprung, Was, sprung}
use Rattle.node_laws.proofs.Histories.{happened, is_had}

-- THE EVENTS OF ONE DISC

-- it has not released, and one of the events has taken what it holds
abbrev IsHeldBy : List DiscEvent → Transid → (DiscEvent → Type 0) → Type 0
IsHeldBy events t takes = (has_released events t ≡ false) × ((e : DiscEvent) × Among events e × takes e)

pub record HoldsWell (events : List DiscEvent) : Type 0 where
  pub keys : (file : ℕ) (key : List ℕ) (t : Transid) → key_holder events file key ≡ Some t → IsHeldBy events t (TakesKey t file key)
  pub files : (file : ℕ) (t : Transid) → file_holder events file ≡ Some t → IsHeldBy events t (TakesFile t file)

-- an event that lets go of nothing
abbrev ReleasesNone : DiscEvent → Type 0
ReleasesNone e = (events : List DiscEvent) (t : Transid) → has_released (e ∷ events) t ≡ has_released events t

held_more : (e : DiscEvent) (events : List DiscEvent) (t : Transid) (takes : DiscEvent → Type 0) → ReleasesNone e → IsHeldBy events t takes → IsHeldBy (e ∷ events) t takes
held_more e events t takes none h = (none events t ∙ h.0, (h.1.0, inr h.1.1, h.1.2))

held_now : (e : DiscEvent) (events : List DiscEvent) (t : Transid) (takes : DiscEvent → Type 0) → ReleasesNone e → has_released events t ≡ false → takes e → IsHeldBy (e ∷ events) t takes
held_now e events t takes none live is = (none events t ∙ live, (e, inl refl, is))

same_key : (file : ℕ) (key : List ℕ) (f : ℕ) (k : List ℕ) → is_same_key file key f k ≡ true → (f ≡ file) × (k ≡ key)
same_key file key f k e = (let parts = and_parts (file == f) (bytes_eq key k) e in (sym (eqb-true file f parts.0), sym ((bytes_eq-Decides key k).0 parts.1)))

-- where the event takes a key for a transaction, and no file
take_key : (e : DiscEvent) (events : List DiscEvent) (t : Transid) (f : ℕ) (k : List ℕ) → ReleasesNone e
    → ((file : ℕ) (key : List ℕ) → key_holder (e ∷ events) file key ≡ (if is_same_key file key f k then Some t else key_holder events file key))
    → ((file : ℕ) → file_holder (e ∷ events) file ≡ file_holder events file)
    → ((file : ℕ) (key : List ℕ) → f ≡ file → k ≡ key → TakesKey t file key e)
    → has_released events t ≡ false → HoldsWell events → HoldsWell (e ∷ events)
take_key e events t f k none now files takes live w = record {
  keys = λ file key h at. by_case file key h (is_same_key file key f k) refl (sym (now file key) ∙ at);
  files = λ file h at. held_more e events h (TakesFile h file) none (w.files file h (sym (files file) ∙ at));
} where
  by_case : (file : ℕ) (key : List ℕ) (h : Transid) (b : Bool) → is_same_key file key f k ≡ b → (if b then Some t else key_holder events file key) ≡ Some h → IsHeldBy (e ∷ events) h (TakesKey h file key)
  by_case file key h true same at = (let it : t ≡ h = cc (at) in let one = same_key file key f k same in subst (λ (u : Transid). IsHeldBy (e ∷ events) u (TakesKey u file key)) it (held_now e events t (TakesKey t file key) none live (takes file key one.0 one.1)))
  by_case file key h false same at = held_more e events h (TakesKey h file key) none (w.keys file key h at)

-- where it takes nothing
take_none : (e : DiscEvent) (events : List DiscEvent) → ReleasesNone e → ((file : ℕ) (key : List ℕ) → key_holder (e ∷ events) file key ≡ key_holder events file key) → ((file : ℕ) → file_holder (e ∷ events) file ≡ file_holder events file)
    → HoldsWell events → HoldsWell (e ∷ events)
take_none e events none keys files w = record {
  keys = λ file key h at. held_more e events h (TakesKey h file key) none (w.keys file key h (sym (keys file key) ∙ at));
  files = λ file h at. held_more e events h (TakesFile h file) none (w.files file h (sym (files file) ∙ at));
}

take_file : (t : Transid) (locked : ℕ) (events : List DiscEvent) → has_released events t ≡ false → HoldsWell events → HoldsWell (Lock t locked ∷ events)
take_file t locked events live w = record {
  keys = λ file key h at. held_more (Lock t locked) events h (TakesKey h file key) (λ es u. refl) (w.keys file key h at);
  files = λ file h at. by_case file h (file == locked) refl at;
} where
  by_case : (file : ℕ) (h : Transid) (b : Bool) → (file == locked) ≡ b → (if b then Some t else file_holder events file) ≡ Some h → IsHeldBy (Lock t locked ∷ events) h (TakesFile h file)
  by_case file h true same at = (let it : t ≡ h = cc (at) in held_now (Lock t locked) events h (TakesFile h file) (λ es u. refl) (subst (λ (u : Transid). has_released events u ≡ false) it live) (it, sym (eqb-true file locked same)))
  by_case file h false same at = held_more (Lock t locked) events h (TakesFile h file) (λ es u. refl) (w.files file h at)

-- what is still held after a release was held before, by another
freed_is : (t h : Transid) (o : Option Transid) → freed t o ≡ Some h → (o ≡ Some h) × (is_same_transid t h ≡ false)
freed_is t h None e = absurd (cc (e))
freed_is t h (Some x) e = by_case (is_same_transid t x) refl e where
  by_case : (b : Bool) → is_same_transid t x ≡ b → (if b then None else Some x) ≡ Some h → (Some x ≡ Some h) × (is_same_transid t h ≡ false)
  by_case true same e = absurd (cc (e))
  by_case false same e = (let it : x ≡ h = cc (e) in (e, subst (λ (u : Transid). is_same_transid t u ≡ false) it same))

released_else : (t h : Transid) (events : List DiscEvent) → is_same_transid t h ≡ false → has_released events h ≡ false → has_released (Release t ∷ events) h ≡ false
released_else t h events other live = ap (λ (b : Bool). if b then true else has_released events h) other ∙ live

let_go : (t : Transid) (events : List DiscEvent) → HoldsWell events → HoldsWell (Release t ∷ events)
let_go t events w = record {
  keys = λ file key h at. (let f = freed_is t h (key_holder events file key) at in let old = w.keys file key h f.0 in (released_else t h events f.1 old.0, (old.1.0, inr old.1.1, old.1.2)));
  files = λ file h at. (let f = freed_is t h (file_holder events file) at in let old = w.files file h f.0 in (released_else t h events f.1 old.0, (old.1.0, inr old.1.1, old.1.2)));
}

turn_well : (s : DiscPart) (t : Transid) (cause : Cause) → MayTurn s t cause → HoldsWell s.events → HoldsWell (Turn t cause ∷ s.events)
turn_well s t (Busy step h) may w = take_none (Turn t (Busy step h)) s.events (λ es u. refl) (λ f k. refl) (λ f. refl) w
turn_well s t (BusyFile file h) may w = take_none (Turn t (BusyFile file h)) s.events (λ es u. refl) (λ f k. refl) (λ f. refl) w
turn_well s t (Full step) may w = take_key (Turn t (Full step)) s.events t step.file step.key (λ es u. refl) (λ f k. refl) (λ f. refl) (λ f k e g. (refl, e, g)) may.0.acts.unreleased w
turn_well s t (Refused step reason) may w = take_key (Turn t (Refused step reason)) s.events t step.file step.key (λ es u. refl) (λ f k. refl) (λ f. refl) (λ f k e g. (refl, e, g)) may.0.acts.unreleased w
turn_well s t Dumping may w = take_none (Turn t Dumping) s.events (λ es u. refl) (λ f k. refl) (λ f. refl) w

well_step : (s : DiscPart) (e : DiscEvent) → DiscMay s e → HoldsWell s.events → HoldsWell (e ∷ s.events)
well_step s (Write r op) may w = take_key (Write r op) s.events r.tx r.file r.key (λ es u. refl) (λ f k. refl) (λ f. refl) (λ f k e g. (refl, e, g)) may.takes.acts.unreleased w
well_step s (Read t file key value) may w = take_key (Read t file key value) s.events t file key (λ es u. refl) (λ f k. refl) (λ f. refl) (λ f k e g. (refl, e, g)) may.takes.acts.unreleased w
well_step s (Lock t file) may w = take_file t file s.events may.acts.unreleased w
well_step s (Turn t cause) may w = turn_well s t cause may w
well_step s (Release t) may w = let_go t s.events w
well_step s (Undo r) may w = take_none (Undo r) s.events (λ es u. refl) (λ f k. refl) (λ f. refl) w
well_step s (Close t) may w = take_none (Close t) s.events (λ es u. refl) (λ f k. refl) (λ f. refl) w
well_step s (Draw file block position) may w = take_none (Draw file block position) s.events (λ es u. refl) (λ f k. refl) (λ f. refl) w
well_step s (Drawn file block) may w = take_none (Drawn file block) s.events (λ es u. refl) (λ f k. refl) (λ f. refl) w
well_step s (Low position by) may w = take_none (Low position by) s.events (λ es u. refl) (λ f k. refl) (λ f. refl) w
well_step s Lowered may w = take_none Lowered s.events (λ es u. refl) (λ f k. refl) (λ f. refl) w
well_step s (Start number start item) may w = take_none (Start number start item) s.events (λ es u. refl) (λ f k. refl) (λ f. refl) w
well_step s (Raise number rest) may w = take_none (Raise number rest) s.events (λ es u. refl) (λ f k. refl) (λ f. refl) w
well_step s (Failed by) may w = take_none (Failed by) s.events (λ es u. refl) (λ f k. refl) (λ f. refl) w

-- EVERY HISTORY

abbrev IsWellAt : ℕ → PartState → Type 0
IsWellAt q (Disc s) = HoldsWell s.events
IsWellAt q _ = Unit {0}

keeps : (q : ℕ) (s : PartState) (e : Event) → IsAllowed s e → IsWellAt q s → IsWellAt q (state_with s e)
keeps q (Worker s) (OfWorker e) may is = tt
keeps q (Disc s) (OfDisc e) may is = well_step s e may is
keeps q (Trail s) (OfTrail e) may is = tt
keeps q (Monitor s) (OfMonitor e) may is = tt
keeps q (Dump s) (OfDump e) may is = tt
keeps q _ _ may is = absurd may

begins : (found : Found) (q : ℕ) (s : PartState) → slice_get (opening_parts found) q ≡ Some s → IsWellAt q s
begins found q (Disc s) at = subst HoldsWell (sym (fresh found q (Disc s) at)) (record { keys = λ file key t e. absurd (cc (e)); files = λ file t e. absurd (cc (e)) })
begins found q (Worker s) at = tt
begins found q (Trail s) at = tt
begins found q (Monitor s) at = tt
begins found q (Dump s) at = tt
begins found q Idle at = tt

module _ (found : Found) (log : List (ℕ × Event)) (h : IsHistory node (opening_parts found) log) where
  abbrev END : List PartState
  END = states_after node (opening_parts found) log

  holds_well : (number : ℕ) (s : DiscPart) → slice_get END (disc_part number) ≡ Some (Disc s) → HoldsWell s.events
  holds_well number s at = kept node IsWellAt keeps (opening_parts found) log h (begins found) (disc_part number) (Disc s) at

  -- what was true at a moment is at the end
  pub to_end : (front rest : List (ℕ × Event)) → log ≡ front ++ rest → (f : Fact) → IsTrueIn node (states_after node (opening_parts found) front) f → IsTrueIn node END f
  to_end front rest e f t =
      let cut : IsHistory node (opening_parts found) (front ++ rest) = subst (λ (l : List (ℕ × Event)). IsHistory node (opening_parts found) l) e h in
      let stays = stays_true node node_facts_stay (states_after node (opening_parts found) front) rest f (history_rest node (opening_parts found) front rest cut) t in
      subst (λ (us : List PartState). IsTrueIn node us f) (sym (states_after-append node (opening_parts found) front rest) ∙ ap (λ l. states_after node (opening_parts found) l) (sym e)) stays

  -- EACH EVENT OF A DISC HAS HAPPENED IN THE HISTORY

  abbrev Had : DiscEvent → PartState → Type 0
  Had e (Disc s) = Among s.events e
  Had e _ = ⊥

  abbrev IsIt : DiscEvent → PartState → Event → Type 0
  IsIt e (Disc s) x = x ≡ OfDisc e
  IsIt e _ x = ⊥

  springs : (e : DiscEvent) (q : ℕ) (s : PartState) (x : Event) → IsAllowed s x → Unit {0} → Had e (state_with s x) → Had e s ⊎ IsIt e s x
  springs e q (Disc s) (OfDisc x) may i had = ⊎_elim (λ (same : x ≡ e). inr (ap OfDisc same)) (λ (k : Among s.events e). inl k) had
  springs e q (Worker s) (OfWorker x) may i had = absurd had
  springs e q (Trail s) (OfTrail x) may i had = absurd had
  springs e q (Monitor s) (OfMonitor x) may i had = absurd had
  springs e q (Dump s) (OfDump x) may i had = absurd had
  springs e q _ _ may i had = absurd may

  -- the event, and what it asked, which is true since
  record IsHad (number : ℕ) (e : DiscEvent) : Type 1 where
    happened : Among log (disc_part number, OfDisc e)
    asked : (f : Fact) → ((true_ : Fact → Type 0) (s : DiscPart) → s.number ≡ number → DiscAsks true_ s e → true_ f) → IsTrueIn node END f

  among_cut : (front rest : List (ℕ × Event)) (x : ℕ × Event) → Among (front ++ x ∷ rest) x
  among_cut [] rest x = inl refl
  among_cut (y ∷ front) rest x = inr (among_cut front rest x)

  placed_at : (front rest : List (ℕ × Event)) → log ≡ front ++ rest → (number : ℕ) (s : DiscPart) → slice_get (states_after node (opening_parts found) front) (disc_part number) ≡ Some (Disc s) → s.number ≡ number
  placed_at front rest e number s at =
      let cut : IsHistory node (opening_parts found) (front ++ rest) = subst (λ (l : List (ℕ × Event)). IsHistory node (opening_parts found) l) e h in
      let there : disc_part number ≡ disc_part s.number = parts_placed found front (history_front node (opening_parts found) front rest cut) (disc_part number) (Disc s) at in
      omega (arith, there)

  of_moment : (number : ℕ) (e : DiscEvent) (front rest : List (ℕ × Event)) (x : Event) → log ≡ front ++ (disc_part number, x) ∷ rest → (s : PartState) → slice_get (states_after node (opening_parts found) front) (disc_part number) ≡ Some s
      → Asks (IsTrueIn node (states_after node (opening_parts found) front)) s x → IsIt e s x → IsHad number e
  of_moment number e front rest x cut (Disc s) at asked is = record {
    happened = subst (λ (l : List (ℕ × Event)). Among l (disc_part number, OfDisc e)) (sym here) (among_cut front rest (disc_part number, OfDisc e));
    asked = λ f from. to_end front ((disc_part number, x) ∷ rest) cut f (from (IsTrueIn node (states_after node (opening_parts found) front)) s (placed_at front ((disc_part number, x) ∷ rest) cut number s at)
        (subst (λ (y : Event). Asks (IsTrueIn node (states_after node (opening_parts found) front)) (Disc s) y) is asked));
  } where
    here : log ≡ front ++ (disc_part number, OfDisc e) ∷ rest
    here = cut ∙ ap (λ (y : Event). front ++ (disc_part number, y) ∷ rest) is
  of_moment number e front rest x cut _ at asked is = absurd is

  had : (number : ℕ) (s : DiscPart) (e : DiscEvent) → slice_get END (disc_part number) ≡ Some (Disc s) → Among s.events e → IsHad number e
  had number s e at has =
      ⊎_elim
      (λ (was : Was node (λ q t. Unit {0}) (λ q t x may i. tt) (Had e) (IsIt e) (springs e) (opening_parts found) (disc_part number)). absurd (none was.0 was.1 was.2))
      (λ (c : IsSprung node (λ q t. Unit {0}) (λ q t x may i. tt) (Had e) (IsIt e) (springs e) (opening_parts found) log (disc_part number)). of_moment number e c.front c.rest c.event c.here c.state c.at c.asked c.because)
      (sprung node (λ q t. Unit {0}) (λ q t x may i. tt) (Had e) (IsIt e) (springs e) (opening_parts found) log h (λ q t a. tt) (disc_part number) (Disc s, at, has))
    where
      none : (t : PartState) → slice_get (opening_parts found) (disc_part number) ≡ Some t → Had e t → ⊥
      none (Disc t) at had = subst (λ (es : List DiscEvent). Among es e) (fresh found (disc_part number) (Disc t) at) had
      none _ at had = had

  -- WHO TAKES SOMETHING IS ENLISTED

  key_taker : (t : Transid) (file : ℕ) (key : List ℕ) (e : DiscEvent) → TakesKey t file key e → (true_ : Fact → Type 0) (s : DiscPart) → DiscAsks true_ s e → true_ (Enlisted t s.number)
  key_taker t file key (Write r op) is true_ s asked = subst (λ (u : Transid). true_ (Enlisted u s.number)) is.0 asked
  key_taker t file key (Read u f k value) is true_ s asked = subst (λ (v : Transid). true_ (Enlisted v s.number)) is.0 asked
  key_taker t file key (Turn u (Full step)) is true_ s asked = subst (λ (v : Transid). true_ (Enlisted v s.number)) is.0 asked
  key_taker t file key (Turn u (Refused step reason)) is true_ s asked = subst (λ (v : Transid). true_ (Enlisted v s.number)) is.0 asked
  key_taker t file key _ is true_ s asked = absurd is

  file_taker : (t : Transid) (file : ℕ) (e : DiscEvent) → TakesFile t file e → (true_ : Fact → Type 0) (s : DiscPart) → DiscAsks true_ s e → true_ (Enlisted t s.number)
  file_taker t file (Lock u f) is true_ s asked = subst (λ (v : Transid). true_ (Enlisted v s.number)) is.0 asked
  file_taker t file _ is true_ s asked = absurd is

  live_by : (number : ℕ) (s : DiscPart) (t : Transid) (takes : DiscEvent → Type 0) → slice_get END (disc_part number) ≡ Some (Disc s)
      → ((e : DiscEvent) → takes e → (true_ : Fact → Type 0) (d : DiscPart) → DiscAsks true_ d e → true_ (Enlisted t d.number)) → IsHeldBy s.events t takes → IsLiveBy END log s t takes
  live_by number s t takes at taker held =
      let there : disc_part number ≡ disc_part s.number = parts_placed found log h (disc_part number) (Disc s) at in
      let same : number ≡ s.number = omega (arith, there) in
      let it = had number s held.1.0 at held.1.1 in
      record {
        unreleased = held.0;
        enlisted = it.asked (Enlisted t s.number) (λ true_ d is asked. subst (λ (n : ℕ). true_ (Enlisted t n)) (is ∙ same) (taker held.1.0 held.1.2 true_ d asked));
        event = held.1.0;
        is_its = held.1.2;
        happened = subst (λ (n : ℕ). Among log (disc_part n, OfDisc held.1.0)) same it.happened;
      }

-- the holder law
pub node_holder_law : HolderLaw
node_holder_law found log number s t h at = (
  λ file key e. live_by found log h number s t (TakesKey t file key) at (key_taker found log h t file key) ((holds_well found log h number s at).keys file key t e),
  λ file e. live_by found log h number s t (TakesFile t file) at (file_taker found log h t file) ((holds_well found log h number s at).files file t e),
)

-- ALONE

-- of what has no other holder no other one is told
no_other : (o : Option Transid) (t other : Transid) → IsNoOther o t → is_same_transid other t ≡ false → o ≡ Some other → ⊥
no_other o t other none differs at =
    ⊎_elim
    (λ (e : o ≡ None). (let both : None ≡ Some other = sym e ∙ at in cc (both)))
    (λ (e : o ≡ Some t). (let both : Some t ≡ Some other = sym e ∙ at in let one : t ≡ other = cc (both) in let same : true ≡ false = sym (same_self t) ∙ (ap (λ (u : Transid). is_same_transid u t) one ∙ differs) in cc (same)))
    none

either : (a b : Option Transid) (t : Transid) → IsNoOther a t → IsNoOther b t → IsNoOther (option_or a b) t
either None b t x y = y
either (Some u) b t x y = x

-- who has enlisted a disc has done so in the history
enlist_event : (events : List WorkerEvent) (u : Transid) (d : ℕ) → Among (enlisted_discs events u) d → Among events (Enlist u d)
enlist_event [] u d h = absurd h
enlist_event (Enlist v disc ∷ events) u d h = by_case (is_same_transid v u) refl (enlist_event events u d) h where
  by_case : (b : Bool) → is_same_transid v u ≡ b → (Among (enlisted_discs events u) d → Among events (Enlist u d)) → Among (if b then enlisted_discs events u ++ disc ∷ [] else enlisted_discs events u) d → (Enlist v disc ≡ Enlist u d) ⊎ Among events (Enlist u d)
  by_case true same rest h =
      ⊎_elim
      (λ (l : Among (enlisted_discs events u) d). inr (rest l))
      (λ (k : Among (disc ∷ []) d). ⊎_elim (λ (e : disc ≡ d). inl (let one = same_is v u same in λ i. Enlist (one i) (e i))) (λ n. absurd n) k)
      (among_append (enlisted_discs events u) (disc ∷ []) d h)
  by_case false other rest h = inr (rest h)
enlist_event (Begin v ∷ events) u d h = inr (enlist_event events u d h)
enlist_event (Finish v ∷ events) u d h = inr (enlist_event events u d h)
enlist_event (End v ∷ events) u d h = inr (enlist_event events u d h)
enlist_event (Quit v ∷ events) u d h = inr (enlist_event events u d h)

among_map : {A B : Type 0} (f : A → B) (xs : List A) (x : A) → Among xs x → Among (map f xs) (f x)
among_map f [] x h = absurd h
among_map f (y ∷ xs) x h = ⊎_elim (λ (e : y ≡ x). inl (ap f e)) (λ (k : Among xs x). inr (among_map f xs x k)) h

among_disc : (xs : List DiscEvent) (x : DiscEvent) → Among (map (λ e. OfDisc e) xs) (OfDisc x) → Among xs x
among_disc [] x h = absurd h
among_disc (y ∷ xs) x h = ⊎_elim (λ (e : OfDisc y ≡ OfDisc x). inl (cc (e))) (λ (k : Among (map (λ e. OfDisc e) xs) (OfDisc x)). inr (among_disc xs x k)) h

has_enlisted : (found : Found) (log : List (ℕ × Event)) → IsHistory node (opening_parts found) log → (u : Transid) (d : ℕ) → IsTrueIn node (states_after node (opening_parts found) log) (Enlisted u d) → HasEnlisted log u d
has_enlisted found log h u d (q, Worker w, at, m) =
    let place : q ≡ worker_part u.worker = parts_placed found log h q (Worker w) at ∙ ap (λ (n : ℕ). n - 1) (sym m.0.worker) in
    subst (λ (n : ℕ). Among log (n, OfWorker (Enlist u d))) place
    (happened found log h q (Worker w) at (OfWorker (Enlist u d)) (among_map (λ e. OfWorker e) w.events (Enlist u d) (enlist_event w.events u d m.1)))
has_enlisted found log h u d (q, Disc w, at, m) = absurd m
has_enlisted found log h u d (q, Trail w, at, m) = absurd m
has_enlisted found log h u d (q, Monitor w, at, m) = absurd m
has_enlisted found log h u d (q, Dump w, at, m) = absurd m
has_enlisted found log h u d (q, Idle, at, m) = absurd m

-- what has released in the history has let go
released_by : (events : List DiscEvent) (u : Transid) → Among events (Release u) → has_released events u ≡ true
released_by [] u h = absurd h
released_by (Release v ∷ events) u h =
    ⊎_elim
    (λ (e : Release v ≡ Release u). (let one : v ≡ u = cc (e) in ap (λ (b : Bool). if b then true else has_released events u) (ap (λ (w : Transid). is_same_transid w u) one ∙ same_self u)))
    (λ (k : Among events (Release u)). if_true (is_same_transid v u) (has_released events u) (released_by events u k))
    h
released_by (Write r op ∷ events) u h = ⊎_elim (λ (e : Write r op ≡ Release u). absurd (cc (e))) (λ (k : Among events (Release u)). released_by events u k) h
released_by (Read t file key value ∷ events) u h = ⊎_elim (λ (e : Read t file key value ≡ Release u). absurd (cc (e))) (λ (k : Among events (Release u)). released_by events u k) h
released_by (Lock t file ∷ events) u h = ⊎_elim (λ (e : Lock t file ≡ Release u). absurd (cc (e))) (λ (k : Among events (Release u)). released_by events u k) h
released_by (Turn t cause ∷ events) u h = ⊎_elim (λ (e : Turn t cause ≡ Release u). absurd (cc (e))) (λ (k : Among events (Release u)). released_by events u k) h
released_by (Undo r ∷ events) u h = ⊎_elim (λ (e : Undo r ≡ Release u). absurd (cc (e))) (λ (k : Among events (Release u)). released_by events u k) h
released_by (Close t ∷ events) u h = ⊎_elim (λ (e : Close t ≡ Release u). absurd (cc (e))) (λ (k : Among events (Release u)). released_by events u k) h
released_by (Draw file block position ∷ events) u h = ⊎_elim (λ (e : Draw file block position ≡ Release u). absurd (cc (e))) (λ (k : Among events (Release u)). released_by events u k) h
released_by (Drawn file block ∷ events) u h = ⊎_elim (λ (e : Drawn file block ≡ Release u). absurd (cc (e))) (λ (k : Among events (Release u)). released_by events u k) h
released_by (Low position by ∷ events) u h = ⊎_elim (λ (e : Low position by ≡ Release u). absurd (cc (e))) (λ (k : Among events (Release u)). released_by events u k) h
released_by (Lowered ∷ events) u h = ⊎_elim (λ (e : Lowered ≡ Release u). absurd (cc (e))) (λ (k : Among events (Release u)). released_by events u k) h
released_by (Start number start item ∷ events) u h = ⊎_elim (λ (e : Start number start item ≡ Release u). absurd (cc (e))) (λ (k : Among events (Release u)). released_by events u k) h
released_by (Raise number rest ∷ events) u h = ⊎_elim (λ (e : Raise number rest ≡ Release u). absurd (cc (e))) (λ (k : Among events (Release u)). released_by events u k) h
released_by (Failed by ∷ events) u h = ⊎_elim (λ (e : Failed by ≡ Release u). absurd (cc (e))) (λ (k : Among events (Release u)). released_by events u k) h

-- the alone law
pub node_alone_law : AloneLaw
node_alone_law found log number s t h at alone =
    record {
      keys = keys_free;
      files = file_free;
      on_key = λ step other may. no_other (holder s.events step.file step.key) t other (keys_free step.file step.key) may.1.differs may.2;
      on_file = λ file other may. ⊎_elim
          (λ (e : file_holder s.events file ≡ Some other). no_other (file_holder s.events file) t other (file_free file) may.1.differs e)
          (λ (k : (key : List ℕ) × (holder s.events file key ≡ Some other)). no_other (holder s.events file k.0) t other (keys_free file k.0) may.1.differs k.1)
          may.2;
    }
  where
    -- a holder that is live is this one
    is_it : (o : Option Transid) → ((u : Transid) → o ≡ Some u → (has_released s.events u ≡ false) × IsTrueIn node (states_after node (opening_parts found) log) (Enlisted u s.number)) → IsNoOther o t
    is_it None live = inl refl
    is_it (Some u) live = by_case (is_same_transid u t) refl where
      by_case : (b : Bool) → is_same_transid u t ≡ b → IsNoOther (Some u) t
      by_case true same = inr (ap (λ (v : Transid). Some v) (same_is u t same))
      by_case false other =
          (let l = live u refl in
          let same : number ≡ s.number = (let there : disc_part number ≡ disc_part s.number = parts_placed found log h (disc_part number) (Disc s) at in omega (arith, there)) in
          let gone = alone u other (has_enlisted found log h u number (subst (λ (n : ℕ). IsTrueIn node (states_after node (opening_parts found) log) (Enlisted u n)) (sym same) l.1)) in
          let is = released_by s.events u (among_disc s.events (Release u) (is_had found log h (disc_part number) (Disc s) at (OfDisc (Release u)) gone)) in
          let both : true ≡ false = sym is ∙ l.0 in
          absurd (cc (both)))

    file_free : (file : ℕ) → IsNoOther (file_holder s.events file) t
    file_free file = is_it (file_holder s.events file) (λ u e. (let l = (node_holder_law found log number s u h at).1 file e in (l.unreleased, l.enlisted)))

    key_free : (file : ℕ) (key : List ℕ) → IsNoOther (key_holder s.events file key) t
    key_free file key = is_it (key_holder s.events file key) (λ u e. (let l = (node_holder_law found log number s u h at).0 file key e in (l.unreleased, l.enlisted)))

    keys_free : (file : ℕ) (key : List ℕ) → IsNoOther (holder s.events file key) t
    keys_free file key = either (file_holder s.events file) (key_holder s.events file key) t (file_free file) (key_free file key)
