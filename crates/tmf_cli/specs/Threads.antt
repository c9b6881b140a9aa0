-- What a run makes of the devices of a bay, whether the countdown cuts it off or not.
use Rattle.std.specs.Prelude.{◌≡◌, ◌≢◌, ℕ, List, None, length, Result, MatchResult}
use Rattle.disk_model.specs.Devices.{NoneFalls}
use Rattle.disk_model.specs.declared.disk.Disk as disk
use Rattle.disk_model.specs.declared.fuse.Fuse.{Fuse}
use Rattle.tmf_model.specs.declared.config.Config.{Config}
use Rattle.tmf_model.specs.declared.script.Phase.{Phase}
use Rattle.run_outcomes.specs.Devices.{devices, fuse_kind}
use Rattle.run_outcomes.specs.Run.{HasNotRun, HasRun, IsExact}
use Rattle.run_outcomes.specs.declared.outcome.Outcome.{Outcome}
use Rattle.run_outcomes.specs.declared.outcome.PhaseError.{PhaseError}
use Rattle.tmf_cli.specs.Countdown.{IsOn, Switches}

-- Between two states of the devices, before which the countdown may have been switched on, and behind which off, the run has answered so: its outcomes and its devices are those of
-- one history, and then none was unfit, or no worker has begun.
pub record RunsBay {D : Type 0} (kind : disk.Ghosts D) (config : Config) (phase : Phase) (epoch : ℕ) (result : Result (List Outcome) PhaseError) (old new : List (Fuse D)) : Type 0 where
  pub opened : List (Fuse D)
  pub closed : List (Fuse D)
  pub on : Switches old opened
  pub armed : phase.kill ≢ None → IsOn opened
  pub off : Switches closed new
  pub opened_count : length opened ≡ devices
  pub closed_count : length closed ≡ devices
  pub falls : NoneFalls kind.faults opened closed
  pub exact : IsExact (fuse_kind kind) config phase epoch opened result
  pub told : MatchResult result (HasRun (fuse_kind kind) config phase epoch opened closed) (HasNotRun (fuse_kind kind) config phase epoch opened closed)
