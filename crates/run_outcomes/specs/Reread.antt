-- A run over devices that were read, and so stand at a later moment, is one over the devices as they were handed in.
use Rattle.std.specs.Prelude.{◌≡◌, ℕ, List, length, Some, slice_get}
use Rattle.disk_model.specs.Frame.{IsLater}
use Rattle.disk_model.specs.declared.disk.Disk as disk
use Rattle.tmf_model.specs.declared.config.Config.{Config}
use Rattle.tmf_model.specs.declared.script.Phase.{Phase}
use Rattle.run_outcomes.specs.Devices.{AreLaterDevices}
use Rattle.run_outcomes.specs.Run.{HasNotRun, HasRun}
use Rattle.run_outcomes.specs.declared.outcome.Outcome.{Outcome}
use Rattle.run_outcomes.specs.declared.outcome.PhaseError.{PhaseError}

-- the device at a later moment, with what it held
pub record IsReread {D : Type 0} (kind : disk.Ghosts D) (before after : D) : Type 0 where
  pub later : IsLater kind before after
  pub held : kind.held after ≡ kind.held before

-- each device is the one in its place, and was at most read
pub record AreReread {D : Type 0} (kind : disk.Ghosts D) (old kept : List D) : Type 0 where
  pub count : length kept ≡ length old
  pub each : (number : ℕ) (before after : D) → slice_get old number ≡ Some before → slice_get kept number ≡ Some after → IsReread kind before after

-- A run over devices that were read is a run over them as they were handed in.
abbrev pub RereadLaw : {D : Type 0} → disk.Ghosts D → Type 0
RereadLaw {D} kind =
    (config : Config) (phase : Phase) (epoch : ℕ) (old kept new : List D) (outcomes : List Outcome) → AreReread kind old kept
    → HasRun kind config phase epoch kept new outcomes → HasRun kind config phase epoch old new outcomes

-- The same of a run that has not begun.
abbrev pub NotRunRereadLaw : {D : Type 0} → disk.Ghosts D → Type 0
NotRunRereadLaw {D} kind =
    (config : Config) (phase : Phase) (epoch : ℕ) (old kept new : List D) (why : PhaseError) → AreReread kind old kept → AreLaterDevices kind kept new
    → HasNotRun kind config phase epoch kept new why → HasNotRun kind config phase epoch old new why
