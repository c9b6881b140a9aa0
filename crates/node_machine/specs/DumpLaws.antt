-- What a dump device has made true stays true.
use Rattle.std.specs.Prelude.{Option, Some, None}
use Rattle.std.specs.Option.{option_or}
use Rattle.std.proofs.Common.{◌≡◌, ℕ, ◌<◌, ◌≤◌, true, false, ◌∷◌, refl, sym, ◌∙◌, subst, arith, ⊎_elim, inl, inr}
use Rattle.node_machine.specs.declared.event.DumpEvent.{DumpEvent}
use Rattle.node_machine.specs.declared.event.DumpEvent.TheVariants.{Copy, Seal, Sealed, Failed}
use Rattle.node_machine.specs.Parts.{DumpStart, DumpPart, Fact}
use Rattle.node_machine.specs.Parts.Fact.{Over}
use Rattle.node_machine.specs.Dump.{label_of, offered_label, landed_here, landed_label, seals, DumpMay, AreFrom, IsOver, DumpMakes}

-- the dump device with one more event
abbrev with_event : DumpPart → DumpEvent → DumpPart
with_event s e = record s { events = e ∷ s.events }

seal_from : (a b : Option DumpStart) (label : DumpStart) (start : ℕ) → b ≡ None → ((l : DumpStart) → a ≡ Some l → l.start ≤ label.start) → AreFrom a b start → AreFrom a (Some label) start
seal_from None None label start e rises h = absurd h
seal_from (Some a) None label start e rises h = (let le : a.start ≤ label.start = rises a refl in (h, omega (arith, le, h)))
seal_from a (Some b) label start e rises h = absurd (cc (e))

sealed_from : (a b : Option DumpStart) (start : ℕ) → AreFrom a b start → AreFrom (option_or b a) None start
sealed_from None None start h = h
sealed_from (Some a) None start h = h
sealed_from None (Some b) start h = h
sealed_from (Some a) (Some b) start h = h.1

pub or_assoc : {X : Type 0} (a b c : Option X) → option_or (option_or a b) c ≡ option_or a (option_or b c)
or_assoc None b c = refl
or_assoc (Some x) b c = refl

over_stays : (s : DumpPart) (e : DumpEvent) (number : ℕ) (rest : Option ℕ) → DumpMay s e → IsOver s number rest → IsOver (with_event s e) number rest
over_stays s (Seal i start) number (Some r) may f =
    (f.0, seal_from (landed_label s.rest s.events) (offered_label s.events) (record { number = i; start = start }) r may.idle may.rises f.1)
over_stays s (Seal i start) number None may f =
    let le : f.0 ≤ seals s.events = f.2 in
    (f.0, f.1, omega (arith, le), inl (omega (arith, le)))
over_stays s (Sealed i true) number (Some r) may f =
    ((f.0.0, inr f.0.1), subst (λ (o : Option DumpStart). AreFrom o None r) (sym (or_assoc (offered_label s.events) (landed_here s.events) (label_of s.rest))) (sealed_from (landed_label s.rest s.events) (offered_label s.events) r f.1))
over_stays s (Sealed i true) number None may f = (
  f.0,
  inr f.1,
  f.2,
  ⊎_elim
      (λ (lt : f.0 < seals s.events). inl lt)
      (λ (x : (landed_label s.rest s.events ≡ None) × (offered_label s.events ≡ None)). (let both : None ≡ Some may.0 = sym x.1 ∙ may.1 in absurd (cc (both))))
      f.3,
)
over_stays s (Sealed i false) number (Some r) may f = ((f.0.0, inr f.0.1), f.1)
over_stays s (Sealed i false) number None may f = (f.0, inr f.1, f.2, f.3)
over_stays s (Copy i file block position) number (Some r) may f = f
over_stays s (Copy i file block position) number None may f = f
over_stays s (Failed by) number (Some r) may f = f
over_stays s (Failed by) number None may f = f

pub dump_stays : (s : DumpPart) (e : DumpEvent) (f : Fact) → DumpMay s e → DumpMakes s f → DumpMakes (with_event s e) f
dump_stays s e (Over d number rest) may m = (m.0, over_stays s e number rest may m.1)
dump_stays s e _ may m = absurd m
