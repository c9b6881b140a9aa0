use Rattle.commit_boxcar.specs.Cars.{HasDriven, HasLine}
use Rattle.commit_boxcar.proofs.monitor.MonitorState.drive.Given as goal

abbrev pub invariant-loop : goal.invariant-loop
invariant-loop g l = HasDriven l.fn.self l.self × HasLine l.fn.self l.self
