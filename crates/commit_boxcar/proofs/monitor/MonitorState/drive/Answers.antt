use Rattle.std.proofs.Common.{refl}
use Rattle.commit_boxcar.proofs.Cars.{driven_none, driven_then, car_driven, stopped_then, err_anyway, idle_after, line_same, line_then}
use Rattle.commit_boxcar.proofs.monitor.MonitorState.drive.Goals as goal

pub loop-init : goal.loop-init
loop-init g c = (driven_none c.args.self.now, line_same c.args.self.now c.args.self.now refl refl)

pub loop-preserved : goal.loop-preserved
loop-preserved g c = (
  driven_then c.args.self.now c.loop.self c.next_car.new.self c.loop.invariant.0 (car_driven c.loop.self c.next_car.new.self c.in_ok-next_car.field-0 c.in_ok-next_car.ensures.car),
  line_then c.args.self.now c.loop.self c.next_car.new.self c.loop.invariant.1 c.next_car.ensures.line,
)

pub returns-in_err-next_car-clause-stopped : goal.returns-in_err-next_car-clause-stopped
returns-in_err-next_car-clause-stopped g c = err_anyway c.from_residual.result (stopped_then c.args.by c.loop.invariant.0.0 c.args.self.now c.loop.self c.next_car.new.self c.loop.invariant.0.1 (c.in_err-next_car.ensures.stopped.before, c.in_err-next_car.ensures.stopped.had))

pub returns-then-branch-eq0-clause-idle : goal.returns-then-branch-eq0-clause-idle
returns-then-branch-eq0-clause-idle g c = λ none. idle_after c.loop.self c.next_car.new.self c.in_ok-next_car.field-0 c.in_ok-next_car.ensures.car c.if-branch-eq0.true

pub returns-then-branch-eq0-clause-driven : goal.returns-then-branch-eq0-clause-driven
returns-then-branch-eq0-clause-driven g c = driven_then c.args.self.now c.loop.self c.next_car.new.self c.loop.invariant.0 (car_driven c.loop.self c.next_car.new.self c.in_ok-next_car.field-0 c.in_ok-next_car.ensures.car)

pub returns-in_err-next_car-clause-line : goal.returns-in_err-next_car-clause-line
returns-in_err-next_car-clause-line g c = line_then c.args.self.now c.loop.self c.next_car.new.self c.loop.invariant.1 c.next_car.ensures.line

pub returns-then-branch-eq0-clause-line : goal.returns-then-branch-eq0-clause-line
returns-then-branch-eq0-clause-line g c = line_then c.args.self.now c.loop.self c.next_car.new.self c.loop.invariant.1 c.next_car.ensures.line
