use Rattle.commit_boxcar.specs.Cars.{HasFilled}
use Rattle.commit_boxcar.proofs.monitor.MonitorState.fill.Given as goal

abbrev pub invariant-loop : goal.invariant-loop
invariant-loop g l = HasFilled l.fn.self l.self
