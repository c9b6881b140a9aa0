-- Behind an act by which an attempt was turned away it carries out no step.
use Rattle.std.specs.Prelude.{◌≡◌, ℕ, ◌≤◌, Bool, true, false, cond, if◌then◌else◌, List, [], ◌∷◌, ◌++◌, length, Option, Some, None}
use Rattle.std.specs.List.{cons_option}
use Rattle.std.specs.Option.{option_map_or}
use Rattle.std.proofs.Common.{refl, ap, sym, ◌∙◌, subst, arith, length-append, ⊎_elim, inl, inr}
use Rattle.std.proofs.lemmas.List.Elements.{filter-append}
use Rattle.tmf_model.specs.declared.transid.Transid.{Transid}
use Rattle.trail_files.specs.MonitorOrder.{is_same_transid}
use Rattle.node_machine.specs.Acts.{actor, acts_by}
use Rattle.node_machine.specs.Deeds.{Log, turn_of, turns_of}
use Rattle.node_machine.specs.Law.{Deed, deeds_of}
use Rattle.node_machine.specs.Law.Deed.{Changed, Locked, Saw}
use Rattle.node_machine.specs.Same.{Among}
use Rattle.node_machine.specs.SameLaws.{same_self}
use Rattle.node_machine.specs.declared.event.Cause.{Cause}
use Rattle.node_machine.specs.declared.event.DiscEvent.TheVariants.{Close, Draw, Drawn, Failed, Lock, Low, Lowered, Raise, Read, Release, Start, Turn, Undo, Write}
use Rattle.node_machine.specs.declared.event.Event.{Event}
use Rattle.node_machine.specs.declared.event.Event.TheVariants.{OfDisc, OfDump, OfMonitor, OfTrail, OfWorker}
use Rattle.run_outcomes.specs.Told.{MayTurnLast}
use Rattle.single_law.proofs.Acting.{deeds_filtered}
use Rattle.single_law.proofs.Given.{given_by}
use Rattle.single_law.proofs.Served.{deed_in}

-- the attempt carries out no step behind one that was turned away
abbrev pub IsTurnedLast : Log → Transid → Type 0
IsTurnedLast log t = (front rest : Log) (part : ℕ) (cause : Cause) → log ≡ front ++ (part, OfDisc (Turn t cause)) ∷ rest → deeds_of t rest ≡ []

-- whether the entry is an act of the attempt
abbrev is_its : Transid → ℕ × Event → Bool
is_its t entry = option_map_or (is_same_transid t) (actor entry.1) false

module _ (t : Transid) where
  none_turned : (o : Option Cause) (turns : List Cause) → cons_option o turns ≡ [] → (o ≡ None) × (turns ≡ [])
  none_turned None turns is = (refl, is)
  none_turned (Some cause) turns is = absurd (cc (is))

  nothing : {A : Type 0} (xs : List A) → length xs ≤ 0 → xs ≡ []
  nothing [] few = refl
  nothing (x ∷ xs) few = absurd (omega (arith, few))

  -- where the last item alone may be a turn, nothing stands behind one that is
  last_turn : (first last front rest : Log) (entry : ℕ × Event) (cause : Cause) → first ++ last ≡ front ++ entry ∷ rest → turns_of t first ≡ [] → length last ≤ 1 → turn_of t entry.1 ≡ Some cause → rest ≡ []
  last_turn [] last front rest entry cause same unturned few turn =
      let long = ap (λ (l : Log). length l) same ∙ length-append front (entry ∷ rest) in
      nothing rest (omega (arith, long, few))
  last_turn (x ∷ first) last [] rest entry cause same unturned few turn =
      let head : x ≡ entry = cc (same) in
      let none = (none_turned (turn_of t x.1) (turns_of t first) unturned).0 in
      let both : None ≡ Some cause = sym none ∙ (ap (λ (y : ℕ × Event). turn_of t y.1) head ∙ turn) in
      absurd (cc (both))
  last_turn (x ∷ first) last (y ∷ front) rest entry cause same unturned few turn =
      last_turn first last front rest entry cause (cc (same)) (none_turned (turn_of t x.1) (turns_of t first) unturned).1 few turn

  self_turn : (cause : Cause) → turn_of t (OfDisc (Turn t cause)) ≡ Some cause
  self_turn cause = ap (λ (b : Bool). if b then Some cause else None) (same_self t)

  -- a deed is an act
  deed_its : (x : ℕ × Event) (deed : Deed) → deed_in t x ≡ Some deed → is_its t x ≡ true
  deed_its (part, OfDisc (Write r op)) deed is = by_case (is_same_transid t r.tx) is where
    by_case : (b : Bool) → (if b then Some (Changed r op) else None) ≡ Some deed → b ≡ true
    by_case true is = refl
    by_case false is = absurd (cc (is))
  deed_its (part, OfDisc (Read u file key value)) deed is = by_case (is_same_transid t u) is where
    by_case : (b : Bool) → (if b then Some (Saw file key value) else None) ≡ Some deed → b ≡ true
    by_case true is = refl
    by_case false is = absurd (cc (is))
  deed_its (part, OfDisc (Lock u file)) deed is = by_case (is_same_transid t u) is where
    by_case : (b : Bool) → (if b then Some (Locked file) else None) ≡ Some deed → b ≡ true
    by_case true is = refl
    by_case false is = absurd (cc (is))
  deed_its (part, OfDisc (Turn u cause)) deed is = absurd (cc (is))
  deed_its (part, OfDisc (Undo r)) deed is = absurd (cc (is))
  deed_its (part, OfDisc (Close u)) deed is = absurd (cc (is))
  deed_its (part, OfDisc (Release u)) deed is = absurd (cc (is))
  deed_its (part, OfDisc (Draw file block position)) deed is = absurd (cc (is))
  deed_its (part, OfDisc (Drawn file block)) deed is = absurd (cc (is))
  deed_its (part, OfDisc (Low position by)) deed is = absurd (cc (is))
  deed_its (part, OfDisc Lowered) deed is = absurd (cc (is))
  deed_its (part, OfDisc (Start number start item)) deed is = absurd (cc (is))
  deed_its (part, OfDisc (Raise number rest)) deed is = absurd (cc (is))
  deed_its (part, OfDisc (Failed by)) deed is = absurd (cc (is))
  deed_its (part, OfWorker e) deed is = absurd (cc (is))
  deed_its (part, OfTrail e) deed is = absurd (cc (is))
  deed_its (part, OfMonitor e) deed is = absurd (cc (is))
  deed_its (part, OfDump e) deed is = absurd (cc (is))

  among_filtered : (log : Log) (x : ℕ × Event) → Among log x → is_its t x ≡ true → Among (acts_by t log) x
  among_filtered [] x has its = has
  among_filtered (y ∷ log) x has its = ⊎_elim
      (λ (is : y ≡ x). subst (λ (b : Bool). Among (cond b (y ∷ acts_by t log) (acts_by t log)) x) (sym (ap (is_its t) is ∙ its)) (inl is))
      (λ (more : Among log x). by_case (is_its t y) (among_filtered log x more its))
      has
    where
      by_case : (b : Bool) → Among (acts_by t log) x → Among (cond b (y ∷ acts_by t log) (acts_by t log)) x
      by_case true there = inr there
      by_case false there = there

  no_deeds : (log : Log) → acts_by t log ≡ [] → deeds_of t log ≡ []
  no_deeds log none = by_list (deeds_of t log) refl where
    by_list : (deeds : List Deed) → deeds_of t log ≡ deeds → deeds ≡ []
    by_list [] is = refl
    by_list (deed ∷ deeds) is =
        let by = given_by (deed_in t) log deed (subst (λ (l : List Deed). Among l deed) (sym is ∙ deeds_filtered t log) (inl refl)) in
        absurd (subst (λ (l : Log). Among l by.0) none (among_filtered log by.0 by.1 (deed_its by.0 deed by.2)))

  pub turned_last : (log : Log) → MayTurnLast t (acts_by t log) → IsTurnedLast log t
  turned_last log may = λ front rest part cause cut.
      let entry : ℕ × Event = (part, OfDisc (Turn t cause)) in
      let kept : acts_by t (entry ∷ rest) ≡ entry ∷ acts_by t rest = ap (λ (b : Bool). cond b (entry ∷ acts_by t rest) (acts_by t rest)) (same_self t) in
      let parts : acts_by t log ≡ acts_by t front ++ entry ∷ acts_by t rest = ap (λ (l : Log). acts_by t l) cut ∙ (filter-append (is_its t) front (entry ∷ rest) ∙ ap (λ (l : Log). acts_by t front ++ l) kept) in
      no_deeds rest (last_turn may.first may.last (acts_by t front) (acts_by t rest) entry cause (sym may.acts_are ∙ parts) may.unturned may.few (self_turn cause))
