-- Runs over devices that all tell what they hold.
use Rattle.std.specs.Prelude.{ℕ, true, List}
use Rattle.disk_model.specs.Devices.{DevicesTell}
use Rattle.disk_model.specs.Held.{Held}
use Rattle.disk_model.specs.declared.disk.Disk as disk
use Rattle.disk_model.specs.declared.fuse.Fuse.{Fuse}
use Rattle.run_outcomes.specs.Devices.{fuse_kind}
use Rattle.run_outcomes.specs.Run.{HasNotRun, HasRun}
use Rattle.run_outcomes.specs.declared.outcome.Outcome.{Outcome}
use Rattle.run_outcomes.specs.declared.outcome.PhaseError.{PhaseError}
use Rattle.tmf_model.specs.declared.config.Config.{Config}
use Rattle.tmf_model.specs.declared.script.Phase.{Phase}

-- devices of which each tells what it holds, and has this count of faults; nothing more is said of them
abbrev pub telling : {D : Type 0} → (D → Held) → (D → ℕ) → disk.Ghosts D
telling held faults = record { tells = λ device. true; held = held; faults = faults; is_same = λ old new. Unit {0} }

-- Of devices that all tell what they hold, a run is one over such devices.
abbrev pub TellingLaw : {D : Type 0} → disk.Ghosts D → Type 0
TellingLaw {D} kind =
    (config : Config) (phase : Phase) (epoch : ℕ) (old new : List (Fuse D)) (outcomes : List Outcome) → DevicesTell kind.tells old
    → HasRun (fuse_kind kind) config phase epoch old new outcomes → HasRun (fuse_kind (telling kind.held kind.faults)) config phase epoch old new outcomes

-- The same of a run that has not begun.
abbrev pub NotRunTellingLaw : {D : Type 0} → disk.Ghosts D → Type 0
NotRunTellingLaw {D} kind =
    (config : Config) (phase : Phase) (epoch : ℕ) (old new : List (Fuse D)) (why : PhaseError) → DevicesTell kind.tells old
    → HasNotRun (fuse_kind kind) config phase epoch old new why → HasNotRun (fuse_kind (telling kind.held kind.faults)) config phase epoch old new why
