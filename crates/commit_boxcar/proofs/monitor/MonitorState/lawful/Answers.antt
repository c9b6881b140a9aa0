use Rattle.std.proofs.Common.{[], subst}
use Rattle.node_machine.specs.Monitor.{AreLater}
use Rattle.commit_boxcar.specs.Monitor.{line}
use Rattle.commit_boxcar.proofs.monitor.MonitorState.lawful.Goals as goal

pub returns-clause-once : goal.returns-clause-once
returns-clause-once g c = subst (λ v. AreLater [] (line v)) c.self.view_is c.self.invariant.3.later
