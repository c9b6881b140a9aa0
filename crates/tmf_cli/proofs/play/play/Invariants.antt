use Rattle.std.specs.Prelude.{Option, length}
use Rattle.std.specs.List.{AllByRecursion}
use Rattle.std.proofs.Common.{◌≡◌, ◌++◌, List, IsTrue}
use Rattle.tmf_model.specs.declared.script.Action.{Action}
use Rattle.tmf_model.specs.Script.{IsValidAction}
use Rattle.disk_model.specs.Devices.{DevicesTell}
use Rattle.tmf_cli.specs.ActionGiven.{KeepsSink}
use Rattle.tmf_cli.specs.BetweenActions.{IsBounded, Knows, LeavesBay}
use Rattle.tmf_cli.specs.Countdown.{NoneKilled}
use Rattle.tmf_cli.specs.Ending.{opening}
use Rattle.tmf_cli.specs.OutputLaw.{Candidate}
use Rattle.tmf_cli.proofs.AnyDevices.{Printing}
use Rattle.tmf_cli.proofs.Playing.{Running}
use Rattle.tmf_cli.proofs.play.play.Given as goal

abbrev pub invariant-loop-action : goal.invariant-loop-action
invariant-loop-action g l = (done : List Action) × record {
  parts : l.fn.actions ≡ done ++ l.rest;
  valid : AllByRecursion (IsValidAction l.fn.config) l.rest;
  small : IsBounded l.state.up;
  keeps_sink : KeepsSink g.K.Sink l.initial.sink l.sink;
  keeps : LeavesBay g.D.Disk l.fn.config (NoneKilled l.fn.actions) l.initial.bay l.bay;
  printing : Printing g.D.Disk l.fn.config l.initial.bay (IsTrue (g.K.Sink.tells l.initial.sink)) (g.K.Sink.given l.initial.sink) done l.state l.bay (g.K.Sink.given l.sink);
  running : (candidates : Option (List Candidate)) → DevicesTell g.D.Disk.tells l.initial.bay
      → Knows g.D.Disk.held l.fn.config (opening candidates) l.initial.bay
      → Running g.D.Disk.held g.D.Disk.faults l.fn.config candidates l.initial.bay (IsTrue (g.K.Sink.tells l.initial.sink)) (g.K.Sink.given l.initial.sink) done l.rest l.state l.bay (g.K.Sink.given l.sink);
}

abbrev pub decreases-loop-action : goal.decreases-loop-action
decreases-loop-action g l = length l.rest
