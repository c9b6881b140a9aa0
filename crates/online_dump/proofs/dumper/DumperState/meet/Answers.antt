use Rattle.std.proofs.Common.{[], refl, ap, sym, ◌∙◌}
use Rattle.std.specs.Prelude.{option_map}
use Rattle.chronicle.specs.Seats.{Knows}
use Rattle.node_machine.specs.Dump.{offered_label}
use Rattle.node_machine.specs.Node.{node}
use Rattle.online_dump.specs.Dumper.{Dumper}
use Rattle.online_dump.proofs.Bodied.{bodies_known}
use Rattle.online_dump.proofs.Dumped.{copying_all, named_same}
use Rattle.online_dump.proofs.Dumpers.{dumper_same}
use Rattle.online_dump.proofs.dumper.DumperState.meet.Goals as goal

pub invariant_of-self : goal.invariant_of-self
invariant_of-self g c =
    let o = g.J.Run.opening in
    let n = g.J.NodeRun in
    let w = c.self.inside in
    let i = c.self.invariant in
    let m = c.meet.ensures.stepped in
    let known = Knows node o w.seat.sight in
    let after = Knows node o c.meet.new.self.sight in
    let v : Dumper g.row.D.Denot = record { seat = w.seat; file = w.file; current = w.current } in (
      i.0 ∙ ap (λ p. option_map (λ l. l.number) (offered_label p.events)) (sym m.had.part),
      dumper_same g.D.Disk o n.found n.faults n.premise g.J.DeviceRun.devices v c.meet.new.self [] w.current w.seat.part i.1 m m.had.part refl i.1.tied (named_same known after m.knows w.seat.part i.1.named) (copying_all known after m.knows w.seat.part w.file.filled w.current i.1.current) i.1.rise
          (λ base b. bodies_known g.D.Disk.held known after m.knows w.seat.part base w.file w.current b)
          (λ none. none),
    )
