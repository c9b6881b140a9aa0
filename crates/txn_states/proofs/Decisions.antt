-- What a worker decides last: each attempt begins behind all that were decided.
use Rattle.std.specs.Prelude.{ℕ, ◌∷◌, List, [], Option, Some, None, IsSome, slice_get, if◌then◌else◌}
use Rattle.std.specs.Option.{option_map}
use Rattle.std.proofs.Common.{◌≡◌, ◌⊎◌, Bool, true, false, inl, inr, refl, ap, sym, ◌∙◌, subst}
use Rattle.chronicle.specs.Histories.{states_after, IsHistory}
use Rattle.chronicle.specs.Seats.{Sight, HasLearned, part_state, state_of}
use Rattle.tmf_model.specs.declared.script.Close.{Close}
use Rattle.tmf_model.specs.declared.script.Close.TheVariants.{Commit, Abort}
use Rattle.tmf_model.specs.declared.transid.Transid.{Transid}
use Rattle.trail_files.specs.MonitorOrder.{is_same_transid}
use Rattle.node_machine.specs.declared.event.Event.{Event}
use Rattle.node_machine.specs.declared.event.Event.TheVariants.{OfWorker, OfDisc, OfTrail, OfMonitor, OfDump}
use Rattle.node_machine.specs.declared.event.WorkerEvent.{WorkerEvent}
use Rattle.node_machine.specs.declared.event.WorkerEvent.TheVariants.{Begin, Enlist, Finish, End, Quit}
use Rattle.node_machine.specs.Node.{node, IsAllowed, state_with}
use Rattle.node_machine.specs.Opening.{Found, opening_parts}
use Rattle.node_machine.specs.Parts.{WorkerPart, PartState}
use Rattle.node_machine.specs.Parts.PartState.{Worker, Disc, Trail, Monitor, Dump, Idle}
use Rattle.node_machine.specs.Same.{IsBefore}
use Rattle.node_machine.specs.SameLaws.{same_self, same_is, if_true, case_true}
use Rattle.node_machine.specs.Worker.{has_begun, decision, WorkerMay, IsOpen}
use Rattle.node_machine.proofs.Kept.{kept}
use Rattle.node_machine.proofs.Opened.{IsFresh, fresh}
use Rattle.txn_states.specs.Txn.{IsLastDecided}

-- the attempt was decided by the newest event
abbrev HasJustDecided : List WorkerEvent → Transid → Type 0
HasJustDecided (End u ∷ events) t = u ≡ t
HasJustDecided (Quit u ∷ events) t = u ≡ t
HasJustDecided _ t = ⊥

abbrev IsUpTo : Transid → Transid → Type 0
IsUpTo t u = (u ≡ t) ⊎ IsBefore u t

-- what is decided has begun; what has begun came not behind the attempt that is open; nor is anything decided behind the one that was decided last
record IsOrderly (events : List WorkerEvent) : Type 0 where
  begun : (u : Transid) (c : Close) → decision events u ≡ Some c → has_begun events u ≡ true
  open_last : (t : Transid) → has_begun events t ≡ true → decision events t ≡ None → (u : Transid) → has_begun events u ≡ true → IsUpTo t u
  last : (t : Transid) → HasJustDecided events t → (u : Transid) (c : Close) → decision events u ≡ Some c → IsUpTo t u

orderly_none : IsOrderly []
orderly_none = record { begun = λ u c e. absurd (cc (e)); open_last = λ t b d u h. absurd (cc (b)); last = λ t h u c e. absurd h }

split : {A : Type 0} (b : Bool) (x y z : A) → (if b then x else y) ≡ z → ((b ≡ true) × (x ≡ z)) ⊎ ((b ≡ false) × (y ≡ z))
split true x y z e = inl (refl, e)
split false x y z e = inr (refl, e)

-- one attempt was decided
module _ (events : List WorkerEvent) (is : IsOrderly events) (t : Transid) (close : Close) (begun_t : has_begun events t ≡ true) (open_t : decision events t ≡ None) where
  abbrev next : Transid → Option Close
  next u = if is_same_transid t u then Some close else decision events u

  decided_begun : (u : Transid) (c : Close) → next u ≡ Some c → has_begun events u ≡ true
  decided_begun u c e = elim (split (is_same_transid t u) (Some close) (decision events u) (Some c) e) [
    | inl p ↦ subst (λ (x : Transid). has_begun events x ≡ true) (same_is t u p.0) begun_t
    | inr q ↦ is.begun u c q.1
  ]

  others_open : (x : Transid) → has_begun events x ≡ true → next x ≡ None → (u : Transid) → has_begun events u ≡ true → IsUpTo x u
  others_open x b d u h = elim (split (is_same_transid t x) (Some close) (decision events x) None d) [
    | inl p ↦ absurd (cc (p.1))
    | inr q ↦ is.open_last x b q.1 u h
  ]

  decided_last : (x : Transid) → t ≡ x → (u : Transid) (c : Close) → next u ≡ Some c → IsUpTo x u
  decided_last x same u c e = elim (split (is_same_transid t u) (Some close) (decision events u) (Some c) e) [
    | inl p ↦ inl (sym (same_is t u p.0) ∙ same)
    | inr q ↦ subst (λ (y : Transid). IsUpTo y u) same (is.open_last t begun_t open_t u (is.begun u c q.1))
  ]

not_some : {P : Type 0} (o : Option Close) → o ≡ None → IsSome o → P
not_some None e some = absurd (cc (some))
not_some (Some c) e some = absurd (cc (e))

orderly_more : (s : WorkerPart) (e : WorkerEvent) → WorkerMay s e → IsOrderly s.events → IsOrderly (e ∷ s.events)
orderly_more s (Begin t) may is = record {
  begun = λ u c e. if_true (is_same_transid t u) (has_begun s.events u) (is.begun u c e);
  open_last = λ x b d u h. elim (split (is_same_transid t x) true (has_begun s.events x) true b) [
    | inl p ↦ elim (split (is_same_transid t u) true (has_begun s.events u) true h) [
      | inl q ↦ inl (sym (same_is t u q.0) ∙ same_is t x p.0)
      | inr q ↦ inr (subst (λ (y : Transid). IsBefore u y) (same_is t x p.0) (may.later u q.1))
    ]
    | inr p ↦ not_some (decision s.events x) d (may.decided x p.1)
  ];
  last = λ x h u c e. absurd h;
}
orderly_more s (Enlist t disc) may is = record { begun = is.begun; open_last = is.open_last; last = λ x h u c e. absurd h }
orderly_more s (Finish t) may is = record { begun = is.begun; open_last = is.open_last; last = λ x h u c e. absurd h }
orderly_more s (End t) may is = record {
  begun = decided_begun s.events is t Commit may.is_open.begun may.is_open.undecided;
  open_last = others_open s.events is t Commit may.is_open.begun may.is_open.undecided;
  last = decided_last s.events is t Commit may.is_open.begun may.is_open.undecided;
}
orderly_more s (Quit t) may is = record {
  begun = decided_begun s.events is t Abort may.begun may.undecided;
  open_last = others_open s.events is t Abort may.begun may.undecided;
  last = decided_last s.events is t Abort may.begun may.undecided;
}

-- a worker's events are orderly
abbrev AreOrderly : ℕ → PartState → Type 0
AreOrderly q (Worker s) = IsOrderly s.events
AreOrderly q (Disc s) = Unit {0}
AreOrderly q (Trail s) = Unit {0}
AreOrderly q (Monitor s) = Unit {0}
AreOrderly q (Dump s) = Unit {0}
AreOrderly q Idle = Unit {0}

keeps : (q : ℕ) (s : PartState) (e : Event) → IsAllowed s e → AreOrderly q s → AreOrderly q (state_with s e)
keeps q (Worker s) (OfWorker e) may is = orderly_more s e may is
keeps q (Disc s) (OfDisc e) may is = is
keeps q (Trail s) (OfTrail e) may is = is
keeps q (Monitor s) (OfMonitor e) may is = is
keeps q (Dump s) (OfDump e) may is = is
keeps q _ _ may is = absurd may

at_opening : (q : ℕ) (s : PartState) → IsFresh s → AreOrderly q s
at_opening q (Worker s) none = subst (λ (l : List WorkerEvent). IsOrderly l) (sym none) orderly_none
at_opening q (Disc s) none = tt
at_opening q (Trail s) none = tt
at_opening q (Monitor s) none = tt
at_opening q (Dump s) none = tt
at_opening q Idle none = tt

module _ (opening : List PartState) where
  orderly_at : (found : Found) (v : Sight Event) (s : WorkerPart) → opening ≡ opening_parts found → IsHistory node opening v.seen → part_state node opening v ≡ Some (Worker s) → IsOrderly s.events
  orderly_at found v s opens h at = of v.part at
    where
      of : (p : Option ℕ) → state_of (states_after node opening v.seen) p ≡ Some (Worker s) → IsOrderly s.events
      of None there = absurd (cc (there))
      of (Some q) there = kept node AreOrderly keeps opening v.seen h (λ n part is. at_opening n part (fresh found n part (ap (λ ss. slice_get ss n) (sym opens) ∙ is))) q (Worker s) there

  -- the part behind an event
  pub state_after : (v w : Sight Event) (s : WorkerPart) (e : WorkerEvent) → part_state node opening v ≡ Some (Worker s) → part_state node opening w ≡ option_map (λ p. state_with p (OfWorker e)) (part_state node opening v)
      → part_state node opening w ≡ Some (Worker (record s { events = e ∷ s.events }))
  state_after v w s e at state = state ∙ ap (λ (o : Option PartState). option_map (λ p. state_with p (OfWorker e)) o) at

  pub last_after_end : (found : Found) (v w : Sight Event) (s : WorkerPart) (t : Transid) → opening ≡ opening_parts found → IsHistory node opening w.seen → part_state node opening v ≡ Some (Worker s) → IsOpen s t
      → part_state node opening w ≡ option_map (λ p. state_with p (OfWorker (End t))) (part_state node opening v) → IsLastDecided opening w t Commit
  last_after_end found v w s t opens h at open_ state =
      let new : WorkerPart = record s { events = End t ∷ s.events } in
      let there = state_after v w s (End t) at state in
      record { part = new; at = there; is_own = record { worker = open_.is_own.worker; epoch = open_.is_own.epoch }; decided = case_true (is_same_transid t t) (Some Commit) (decision s.events t) (same_self t); last = (orderly_at found w new opens h there).last t refl }

  pub last_after_quit : (found : Found) (v w : Sight Event) (s : WorkerPart) (t : Transid) → opening ≡ opening_parts found → IsHistory node opening w.seen → part_state node opening v ≡ Some (Worker s) → IsOpen s t
      → part_state node opening w ≡ option_map (λ p. state_with p (OfWorker (Quit t))) (part_state node opening v) → IsLastDecided opening w t Abort
  last_after_quit found v w s t opens h at open_ state =
      let new : WorkerPart = record s { events = Quit t ∷ s.events } in
      let there = state_after v w s (Quit t) at state in
      record { part = new; at = there; is_own = record { worker = open_.is_own.worker; epoch = open_.is_own.epoch }; decided = case_true (is_same_transid t t) (Some Abort) (decision s.events t) (same_self t); last = (orderly_at found w new opens h there).last t refl }

  -- a seat that has learned more of the others has decided the same
  pub last_learned : (v w : Sight Event) (t : Transid) (close : Close) → HasLearned node opening v w → IsLastDecided opening v t close → IsLastDecided opening w t close
  last_learned v w t close learned is = record { part = is.part; at = learned.state ∙ is.at; is_own = is.is_own; decided = is.decided; last = is.last }
