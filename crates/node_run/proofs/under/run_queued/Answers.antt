use Rattle.std.specs.Prelude.{IfErr, IfOk}
use Rattle.std.proofs.Common.{◌≡◌, map, refl, subst}
use Rattle.run_opening.specs.Kept.{device_kept}
use Rattle.node_run.specs.Closing.{AreTakenDown}
use Rattle.node_run.proofs.Begins.{is_node}
use Rattle.node_run.proofs.under.run_queued.Goals as goal

pub run_parts-ran-requires-clause-node : goal.run_parts-ran-requires-clause-node
run_parts-ran-requires-clause-node g c κs within = is_node c.requires.may c.requires.run c.args.run.config.now.steps 0 refl refl

pub gather_all-outcomes-requires-clause-opens : goal.gather_all-outcomes-requires-clause-opens
gather_all-outcomes-requires-clause-opens g c = c.requires.may.may.name.opens

pub gather_all-outcomes-requires-clause-down : goal.gather_all-outcomes-requires-clause-down
gather_all-outcomes-requires-clause-down g c =
    subst
    (λ r. IfOk r (λ left. AreTakenDown g.D.Disk g.J.NodeRun.found c.args.run.phase.now g.J.NodeRun.faults g.J.DeviceRun.devices left.outcomes.items left.seats.items left.devices.items))
    c.in-Ok.is c.run_parts-ran.ensures.down

pub returns-in-Err-clause-refused : goal.returns-in-Err-clause-refused
returns-in-Err-clause-refused g c = (
  refl,
  subst (λ r. IfErr r (λ devices. devices.items ≡ map device_kept c.args.parts.ready.opened.kept.items)) c.in-Err.is c.run_parts-ran.ensures.refused,
)
