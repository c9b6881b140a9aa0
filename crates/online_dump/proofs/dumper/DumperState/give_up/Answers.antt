use Rattle.std.specs.Prelude.{IfSome, option_map}
use Rattle.std.proofs.Common.{◌≡◌, [], ◌∷◌, false, None, Some, inr, refl, ap, sym, ◌∙◌, subst}
use Rattle.chronicle.specs.Seats.{Knows}
use Rattle.node_machine.specs.declared.event.DumpEvent.TheVariants.{Sealed}
use Rattle.std.specs.Option.{option_or}
use Rattle.node_machine.specs.Disc.{start_of}
use Rattle.node_machine.specs.Dump.{IsOver, landed_label, offered_label}
use Rattle.node_machine.specs.Parts.Fact.{Over}
use Rattle.online_dump.specs.Found.{start_in}
use Rattle.node_machine.specs.Node.{node}
use Rattle.online_dump.specs.Dumper.{Dumper, IsCopying}
use Rattle.online_dump.specs.Seat.{dump_with_event}
use Rattle.online_dump.proofs.Bodied.{bodies_on}
use Rattle.online_dump.proofs.Dumped.{named_more, of_current, over_given_up, tied_given_up}
use Rattle.online_dump.proofs.Dumpers.{dumper_same, knows_over}
use Rattle.online_dump.proofs.dumper.DumperState.give_up.Goals as goal

pub invariant_of-self : goal.invariant_of-self
invariant_of-self g c =
    let o = g.J.Run.opening in
    let n = g.J.NodeRun in
    let w = c.self.inside in
    let i = c.self.invariant in
    let s = c.append.ensures in
    let part = w.seat.part in
    let copying = c.in-Some.copying in
    let now = dump_with_event part (Sealed copying.number false) in
    let known = Knows node o w.seat.sight in
    let after = Knows node o c.append.new.self.sight in
    let is = of_current (IsCopying known part w.file.filled) w.current copying c.in-Some.is i.1.current in
    let v : Dumper g.row.D.Denot = record { seat = w.seat; file = w.file; current = w.current } in (
      i.0 ∙ ap (λ p. option_map (λ l. l.number) (offered_label p.events)) (sym s.had.part),
      dumper_same g.D.Disk o n.found n.faults n.premise g.J.DeviceRun.devices v c.append.new.self (Sealed copying.number false ∷ []) None now i.1 s s.had.part refl
          (tied_given_up part w.file w.file copying.number i.1.tied) (named_more known after s.knows part copying.number copying.start is.started i.1.named) tt i.1.rise
          (λ base b.
          bodies_on g.D.Disk.held known after s.knows part base w.file w.file w.current b refl (λ dump at. refl) (Sealed copying.number false) refl refl refl (λ k f n. refl) (λ x h. inr h) (λ label at. refl) None tt)
          (λ none. none),
    )

pub returns-clause-over : goal.returns-clause-over
returns-clause-over g c =
    let o = g.J.Run.opening in
    let w = c.self.inside in
    let i = c.self.invariant in
    let s = c.append.ensures in
    let part = w.seat.part in
    let copying = c.in-Some.copying in
    let rest = c.least_start-rest.result in
    let now = dump_with_event part (Sealed copying.number false) in
    let is : rest ≡ option_or (start_in w.file.found) (option_map (λ l. l.start) w.file.next) = subst (λ v. rest ≡ option_or (start_in v.file.found) (option_map (λ l. l.start) v.file.next)) (sym c.self.view_is) c.least_start-rest.ensures in
    let same : option_or (start_of (landed_label part.rest part.events)) (start_of (offered_label part.events)) ≡ rest = (λ k. option_or (i.1.tied.landed k) (i.1.tied.offered k)) ∙ sym is in
    let over = subst (λ x. IsOver now copying.number x) same (over_given_up part copying.number i.1.tied.rises) in
    let current : c.args.self.now.current ≡ Some copying = ap (λ x. x.current) (sym c.self.view_is) ∙ c.in-Some.is in
    subst (λ x. IfSome x (λ d. Knows node o c.append.new.self.sight (Over c.append.new.self.part.number d.number rest))) (sym current) (knows_over o g.J.NodeRun.found c.append.new.self now copying.number rest s.is s.had.part over)
