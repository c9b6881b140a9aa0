-- What a rollforward makes of the devices of a bay, whether the countdown cuts it off or not.
use Rattle.std.specs.Prelude.{◌⊎◌, ℕ, List, Result, IfErr, MatchResult}
use Rattle.disk_model.specs.Devices.{HoldSame, held_at}
use Rattle.disk_model.specs.Held.{Held}
use Rattle.disk_model.specs.declared.fuse.Fuse.{Fuse}
use Rattle.tmf_model.specs.declared.config.Config.{Config}
use Rattle.tmf_model.specs.RecordMap.{RecordMap}
use Rattle.trail_files.specs.declared.monitor_record.MonitorRecord.{MonitorRecord}
use Rattle.volume_recovery.specs.VolumeNode.{RestsWithVolumes}
use Rattle.rollforward.specs.declared.errors.RollError.{RollError}
use Rattle.rollforward.specs.RolledNode.{RollsNode}
use Rattle.rollforward.specs.Rolls.{IsFailure, IsRolledTo, TellsRoll}
use Rattle.tmf_cli.specs.OutputLaw.{LeavesRolled}

-- A rollforward of this volume has answered so: by what the devices held before it is whole, or the first reason that holds is told; it has left the devices as any may; only where one has
-- failed may anything have been written; and devices that rested with a list and a map stand for them, with the volume or without it.
pub record RollsBay {D : Type 0} (held : D → Held) (config : Config) (volume : ℕ) (result : Result ℕ RollError) (old new : List (Fuse D)) : Type 0 where
  pub told : MatchResult result (IsRolledTo held config volume (held_at held old) new) (TellsRoll config volume (held_at held old))
  pub leaves : LeavesRolled held config volume old new
  pub unwritten : IfErr result (λ e. IsFailure e ⊎ HoldSame held old new)
  pub node : (list : List MonitorRecord) (map : RecordMap) (rests : RestsWithVolumes config (held_at held old) list map) → RollsNode held config volume (held_at held old) list map rests result new
