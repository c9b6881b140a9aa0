-- What a run on threads makes of a node that is up.
use Rattle.std.specs.Prelude.{◌≡◌, ◌⊎◌, ℕ, suc, ◌+◌, List, ◌++◌, length, map, take, Contains, Option, Some, slice_get}
use Rattle.disk_model.specs.Devices.{AreImages, DevicesTell, held_at}
use Rattle.disk_model.specs.Held.{Held}
use Rattle.disk_model.specs.declared.disk.Disk as disk
use Rattle.disk_model.specs.declared.fuse.Fuse.{Fuse}
use Rattle.keyed_file.specs.Volume.{IsLost}
use Rattle.run_outcomes.specs.Devices.{devices, fuse_kind}
use Rattle.run_outcomes.specs.Run.{HasRun}
use Rattle.run_outcomes.specs.Told.{IsRecordOf, read_numbers}
use Rattle.run_outcomes.specs.declared.outcome.Outcome.{Outcome}
use Rattle.run_outcomes.specs.declared.outcome.Told.TheVariants.{Committed}
use Rattle.tmf_model.specs.Commits.{after_commits, script_transaction}
use Rattle.tmf_model.specs.Config.{IsValidConfig}
use Rattle.tmf_model.specs.Effect.{read_values}
use Rattle.tmf_model.specs.RecordMap.{RecordMap}
use Rattle.tmf_model.specs.declared.config.Config.{Config}
use Rattle.tmf_model.specs.declared.config.Volume.{Volume}
use Rattle.tmf_model.specs.declared.script.Phase.{Phase}
use Rattle.tmf_model.specs.declared.script.Transaction.{Transaction}
use Rattle.tmf_model.specs.declared.transid.Transid.{Transid}
use Rattle.trail_files.specs.Recovered.{commits_of}
use Rattle.trail_files.specs.StandsFor.{IsNumber}
use Rattle.trail_files.specs.declared.monitor_record.MonitorRecord.{MonitorRecord}
use Rattle.trail_files.specs.declared.monitor_record.MonitorRecord.TheVariants.{Commit}
use Rattle.volume_recovery.specs.VolumeNode.{StandsWithVolumes, volume_device}
use Rattle.run_standing.specs.NodeUp.{IsNodeUp}

module _ (phase : Phase) (epoch : ℕ) where
  -- the map behind records of the run: the fold of the script's transactions over their commits
  abbrev pub map_behind : List MonitorRecord → RecordMap → RecordMap
  map_behind records map = after_commits (script_transaction phase epoch) (commits_of records) map

  -- Each read, by the number of its step, has found what the transaction's steps yield on this map.
  pub record AreReadsOn (transaction : Transaction) (before : RecordMap) (reads : List (ℕ × Option (List ℕ))) : Type 0 where
    pub numbers : map (λ read. read.0) reads ≡ read_numbers 1 transaction.steps
    pub values : map (λ read. read.1) reads ≡ read_values transaction before

  -- The transaction is one of the script: its commit has landed at this place behind the list, and its reads have found what is there behind the commits before its own.
  pub record HasCommitted (list : List MonitorRecord) (map : RecordMap) (landed : List MonitorRecord) (tx : Transid) (place : ℕ) (reads : List (ℕ × Option (List ℕ))) : Type 0 where
    pub transaction : Transaction
    pub is_attempt : script_transaction phase epoch tx ≡ Some transaction
    pub before : ℕ
    pub place_is : place ≡ length list + suc before
    pub at : slice_get landed before ≡ Some (Commit tx)
    pub found : AreReadsOn transaction (map_behind (take before landed) map) reads

  -- the images stand for the list with these records behind it, and for the map that they make
  abbrev pub StandsBehind : Config → (ℕ → Held) → List MonitorRecord → RecordMap → List MonitorRecord → Type 0
  StandsBehind config images list map records = StandsWithVolumes config images (list ++ records) (map_behind records map)

  -- Behind a run over devices that stood for the list and the map, records have landed, and some were offered. Each is of an outcome, and each transaction that is told as
  -- committed has its own. Whatever a crash leaves of the devices stands for the list with those that have landed, or with those that were offered too; and the same volumes are lost.
  pub record HasMade {D : Type 0} (held : D → Held) (config : Config) (list : List MonitorRecord) (map : RecordMap) (outcomes : List Outcome) (old new : List (Fuse D)) : Type 0 where
    pub landed : List MonitorRecord
    pub offered : List MonitorRecord
    pub records : (item : MonitorRecord) → Contains (landed ++ offered) item → IsRecordOf outcomes item
    pub committed : (outcome : Outcome) (place : ℕ) (reads : List (ℕ × Option (List ℕ))) → Contains outcomes outcome → outcome.told ≡ Committed place reads
        → HasCommitted list map landed outcome.tx place reads
    pub stands : (images : ℕ → Held) → AreImages held new images → StandsBehind config images list map landed ⊎ StandsBehind config images list map (landed ++ offered)
    pub lost : (images : ℕ → Held) (volume : ℕ) (line : Volume) → AreImages held new images → IsNumber config.volumes volume line
        → (IsLost (images (volume_device volume)) → IsLost (held_at held old (volume_device volume))) × (IsLost (held_at held old (volume_device volume)) → IsLost (images (volume_device volume)))

-- A run over the devices of a node that is up makes that of them.
abbrev pub StandsLaw : {D : Type 0} → disk.Ghosts D → Type 0
StandsLaw {D} kind =
    (config : Config) (phase : Phase) (epoch : ℕ) (old new : List (Fuse D)) (outcomes : List Outcome) (list : List MonitorRecord) (map : RecordMap)
    → IsValidConfig config → length old ≡ devices → length new ≡ devices → DevicesTell kind.tells old → IsNodeUp config (held_at kind.held old) list map epoch
    → HasRun (fuse_kind kind) config phase epoch old new outcomes → HasMade phase epoch kind.held config list map outcomes old new
