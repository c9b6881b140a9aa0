use Rattle.std.proofs.Common.{◌≡◌, take}
use Rattle.commit_boxcar.specs.Line.{AreTaken}
use Rattle.commit_boxcar.specs.Monitor.{line}
use Rattle.commit_boxcar.proofs.monitor.MonitorState.retake.Given as goal

abbrev pub invariant-loop-request : goal.invariant-loop-request
invariant-loop-request g l = (l.self ≡ record l.fn.self { room = l.self.room }) × AreTaken (line l.fn.self) (take l.request-index l.requests) l.self.room
