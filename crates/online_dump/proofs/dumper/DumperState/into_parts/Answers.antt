use Rattle.std.proofs.Common.{subst}
use Rattle.chronicle.specs.Seats.{Knows}
use Rattle.node_machine.specs.Node.{node}
use Rattle.online_dump.specs.Dumper.{AreDumpsShown, AreShown, StandsAsGiven, base_found, device_of, first_held}
use Rattle.online_dump.proofs.Dumpers.{allowed, told_on}
use Rattle.online_dump.proofs.Showing.{dumps_shown}
use Rattle.online_dump.proofs.dumper.DumperState.into_parts.Goals as goal

pub returns-clause-shown : goal.returns-clause-shown
returns-clause-shown g c =
    let w = c.self.inside in
    let n = g.J.NodeRun in
    let i = c.self.invariant.1 in
    let lawful = c.lawful.ensures in
    subst (λ v. AreShown g.D.Disk (n.premise (device_of v.seat.part.number)) v) c.self.view_is (λ premise image leaves. allowed w.seat.part w.file image i.tied i.volume lawful.found lawful.next (c.every_image.ensures w.file image (i.holds premise).1 leaves))

pub returns-clause-dumps : goal.returns-clause-dumps
returns-clause-dumps g c =
    let o = g.J.Run.opening in
    let w = c.self.inside in
    let n = g.J.NodeRun in
    let i = c.self.invariant.1 in
    let lawful = c.lawful.ensures in
    subst (λ v. AreDumpsShown g.D.Disk (n.premise (device_of v.seat.part.number)) (Knows node o v.seat.sight) (base_found n.found v.seat.part.number) (first_held g.D.Disk g.J.DeviceRun.devices v.seat.part.number) v) c.self.view_is (λ premise image leaves.
    told_on (base_found n.found w.seat.part.number) (λ base b. dumps_shown g.D.Disk.held (Knows node o w.seat.sight) w.seat.part base w.file w.current image i.tied lawful i.volume b leaves (c.every_image.ensures w.file image (i.holds premise).1 leaves)) (i.bodies premise))

pub returns-clause-given : goal.returns-clause-given
returns-clause-given g c = subst (λ v. StandsAsGiven g.D.Disk g.J.NodeRun.premise g.J.DeviceRun.devices v) c.self.view_is c.self.invariant.1.given
