use Rattle.std.proofs.Common.{sym, ap, subst, ◌∙◌}
use Rattle.audit_writer.specs.Seat.{sight_of}
use Rattle.run_states.specs.Post.{IsIdle}
use Rattle.run_states.proofs.Asides.{trail_aside}
use Rattle.run_states.proofs.state.State.of_trail.Goals as goal

pub returns-in-Err-clause-state : goal.returns-in-Err-clause-state
returns-in-Err-clause-state g c =
    let J = g.J.NodeRun in
    let opening = g.J.Run.opening in
    let devices = g.J.DeviceRun.devices in
    let e = c.in-Err.ensures.err in
    let v = sight_of opening c.args.seat in
    subst (λ s. IsIdle g.D.Disk opening J.faults devices v.part.number c.into_device-device.result s) (sym e.1)
    (subst (λ x. IsIdle g.D.Disk opening J.faults devices v.part.number x c.args.seat) (sym (c.into_device-device.ensures ∙ ap (λ t. t.device) e.0))
    (trail_aside g.D.Disk opening J.found J.faults J.premise devices J.rules v c.args.trail c.requires.within.above c.requires.within.below c.requires.opened))
