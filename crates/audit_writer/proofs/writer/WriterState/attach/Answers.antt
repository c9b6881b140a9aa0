use Rattle.std.proofs.Common.{◌≡◌, [], ◌∷◌, length, ap, sym, subst, arith}
use Rattle.node_machine.specs.Trail.{offered}
use Rattle.audit_writer.specs.Writer.{IsWriter, IsOpened, AreDue, no_bounds}
use Rattle.audit_writer.proofs.Opened.{opened, opened_due}
use Rattle.audit_writer.proofs.writer.WriterState.attach.Goals as goal

pub invariant_of-result : goal.invariant_of-result
invariant_of-result g c =
    let o = g.J.Run.opening in
    let n = g.J.NodeRun in
    let v = c.attach.result in
    let is = subst (λ v. IsOpened g.D.Disk o n.found n.rules n.faults n.premise g.J.DeviceRun.devices v c.args.trail) (sym c.attach.ensures) c.requires.opened in
    let none : c.in-Ok.records.items ≡ [] = c.in-Ok.ensures.items in (
      omega arith,
      sym (ap (λ es. length (offered es)) is.none),
      subst (λ l. IsWriter g.D.Disk o n.found n.rules n.faults n.premise g.J.DeviceRun.devices (record { seat = v; trail = c.args.trail; queue = l; bounds = no_bounds })) (sym none) (opened g.D.Disk o n.found n.rules n.faults n.premise g.J.DeviceRun.devices v c.args.trail is),
      subst (λ l. AreDue v.part l (0 ∷ 0 ∷ 0 ∷ 0 ∷ 0 ∷ 0 ∷ 0 ∷ 0 ∷ 0 ∷ [])) (sym none) (opened_due g.D.Disk o n.found n.rules n.faults n.premise g.J.DeviceRun.devices v c.args.trail is),
    )
