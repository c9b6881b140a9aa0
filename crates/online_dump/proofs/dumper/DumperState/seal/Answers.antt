use Rattle.std.specs.Prelude.{IfSome}
use Rattle.std.proofs.Common.{◌≡◌, [], ◌∷◌, true, Some, inr, refl, ap, sym, ◌∙◌, subst}
use Rattle.chronicle.specs.Seats.{Knows}
use Rattle.node_machine.specs.declared.event.DumpEvent.TheVariants.{Seal, Sealed, Failed}
use Rattle.node_machine.specs.Dump.{offered_label}
use Rattle.node_machine.specs.Node.{node}
use Rattle.node_machine.specs.Parts.Fact.{Over}
use Rattle.online_dump.specs.Filling.{next_label}
use Rattle.online_dump.specs.Sealing.{next_slot}
use Rattle.online_dump.proofs.Dumped.{open_some}
use Rattle.online_dump.proofs.Dumpers.{on_err, on_ok, on_ok3}
use Rattle.online_dump.proofs.Seats.{had_then}
use Rattle.online_dump.proofs.dumper.DumperState.seal.Goals as goal

pub returns-clause-over : goal.returns-clause-over
returns-clause-over g c =
    let o = g.J.Run.opening in
    let v = c.args.self.now in
    let w = c.name.new.self in
    let copying = c.in-Some.copying in
    let current : v.current ≡ Some copying = ap (λ x. x.current) (sym c.self.view_is) ∙ c.in-Some.is in
    let offered : offered_label c.offer.new.self.seat.part.events ≡ Some (record { number = copying.number; start = copying.start }) = ap (λ p. offered_label p.events) c.in_ok-offer.ensures.offered.part in
    on_ok c.name.result
    (λ over. subst (λ x. IfSome x (λ c. Knows node o w.seat.sight (Over w.seat.part.number c.number (Some c.start)))) (sym current) (over (record { number = copying.number; start = copying.start }) offered))
    c.name.ensures.over

pub returns-clause-failed : goal.returns-clause-failed
returns-clause-failed g c =
    let v = c.args.self.now in
    let u = c.offer.new.self in
    let w = c.name.new.self in
    let one = open_some v.file.filled v.current _ c.requires.may in
    let copying = c.in-Some.copying in
    let current : v.current ≡ Some copying = ap (λ x. x.current) (sym c.self.view_is) ∙ c.in-Some.is in
    let same : one.0 ≡ copying = cc (one.1, current) in
    on_err c.name.result
    (λ f.
    record {
      c = copying;
      was = one.2 ∙ ap Some same;
      front = Seal copying.number copying.start ∷ [];
      offer_alone = inr refl;
      had = had_then (Seal copying.number copying.start ∷ []) (Failed c.args.by ∷ []) v.seat u.seat w.seat c.in_ok-offer.ensures.offered f.had;
      current_is = f.current_is ∙ c.offer.ensures.current ∙ current;
    })
    c.name.ensures.failed

pub returns-clause-sealed : goal.returns-clause-sealed
returns-clause-sealed g c =
    let v = c.args.self.now in
    let u = c.offer.new.self in
    let w = c.name.new.self in
    let one = open_some v.file.filled v.current _ c.requires.may in
    let copying = c.in-Some.copying in
    let current : v.current ≡ Some copying = ap (λ x. x.current) (sym c.self.view_is) ∙ c.in-Some.is in
    let same : one.0 ≡ copying = cc (one.1, current) in
    let next = c.in_ok-offer.ensures.label in
    on_ok3 c.name.result
    (λ had none sealed.
    record {
      c = copying;
      was = one.2 ∙ ap Some same;
      had = had_then (Seal copying.number copying.start ∷ []) (Sealed copying.number true ∷ []) v.seat u.seat w.seat c.in_ok-offer.ensures.offered had;
      current_is = none;
      stands = sealed.found ∙ (λ i. Some (record { label = next_label v.file copying.start; slot = next_slot (next.found i) }));
    })
    c.name.ensures.sealed c.name.ensures.current (c.name.ensures.stands (next_label v.file copying.start) next.next)
