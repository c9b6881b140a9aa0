use Rattle.std.proofs.Common.{◌≡◌, ap, sym, ◌∙◌, arith}
use Rattle.chronicle.specs.Seats.{part_state}
use Rattle.node_machine.specs.Node.{node}
use Rattle.node_machine.specs.Opening.{opening_parts}
use Rattle.online_dump.specs.Seat.{dump_in}
use Rattle.one_dump.specs.OneDump.{one_found}
use Rattle.one_dump.proofs.OneDump.{dumps_open}
use Rattle.one_dump.proofs.tests.dumper.Goals as goal

pub attach-requires : goal.attach-requires
attach-requires g c = record { opened = dumps_open g.D.Disk g.J.Run.opening g.J.NodeRun.found g.J.NodeRun.faults g.J.NodeRun.premise g.J.DeviceRun.devices c.args.seat c.args.file c.requires.run c.requires.dumps c.requires.seat }

pub new-requires : goal.new-requires
new-requires g c =
    let number = (dumps_open g.D.Disk g.J.Run.opening g.J.NodeRun.found g.J.NodeRun.faults g.J.NodeRun.premise g.J.DeviceRun.devices c.args.seat c.args.file c.requires.run c.requires.dumps c.requires.seat).volume in
    record { state = ap (λ w. w.seat.part.number) c.attach.ensures ∙ sym number ∙ c.requires.dumps.empty.volume; small = (omega arith, omega arith) }
