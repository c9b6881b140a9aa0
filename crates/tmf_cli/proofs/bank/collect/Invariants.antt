use Rattle.std.specs.Prelude.{Option, length}
use Rattle.std.specs.List.{AllByRecursion}
use Rattle.std.proofs.Common.{◌≡◌, ◌++◌, List}
use Rattle.disk_model.specs.Devices.{DevicesTell}
use Rattle.tmf_model.specs.declared.script.Action.{Action}
use Rattle.tmf_model.specs.Script.{IsValidAction}
use Rattle.tmf_cli.specs.AnyDevices.{PrintsAll, first_state}
use Rattle.tmf_cli.specs.BetweenActions.{IsBounded, Knows, LeavesBay}
use Rattle.tmf_cli.specs.Countdown.{NoneKilled}
use Rattle.tmf_cli.specs.Ending.{opening}
use Rattle.tmf_cli.specs.OutputLaw.{Candidate}
use Rattle.tmf_cli.proofs.Banks.{Collecting}
use Rattle.tmf_cli.proofs.bank.collect.Given as goal

abbrev pub invariant-loop-action : goal.invariant-loop-action
invariant-loop-action g l = (done : List Action) × record {
  parts : l.fn.actions ≡ done ++ l.rest;
  valid : AllByRecursion (IsValidAction l.fn.config) l.rest;
  small : IsBounded l.state.up;
  keeps : LeavesBay g.D.Disk l.fn.config (NoneKilled l.fn.actions) l.initial.bay l.bay;
  printing : PrintsAll g.D.Disk l.fn.config done first_state l.initial.bay l.lines.items l.state l.bay;
  collecting : (candidates : Option (List Candidate)) → DevicesTell g.D.Disk.tells l.initial.bay → Knows g.D.Disk.held l.fn.config (opening candidates) l.initial.bay
      → Collecting g.D.Disk.held g.D.Disk.faults l.fn.config candidates l.initial.bay done l.rest l.state l.bay l.lines.items;
}

abbrev pub decreases-loop-action : goal.decreases-loop-action
decreases-loop-action g l = length l.rest
