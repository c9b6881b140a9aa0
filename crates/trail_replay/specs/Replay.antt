-- What some audit says of the keys of all files.
use Rattle.std.specs.Prelude.{◌≡◌, ℕ, ◌-◌, List, slice_get, Option, Some, None}
use Rattle.std.specs.BTreeMap.{BTreeMap}
use Rattle.tmf_model.specs.RecordMap.{RecordMap}
use Rattle.trail_files.specs.declared.audit_record.AuditRecord.{AuditRecord}
use Rattle.trail_files.specs.declared.monitor_record.MonitorRecord.{MonitorRecord}
use Rattle.trail_replay.specs.declared.replay.FoundFiles.{FoundFiles}
use Rattle.trail_replay.specs.Found.{IsFound, records_found}

-- what was found of the keys of each file, by the files' numbers from 1
abbrev pub maps_of : FoundFiles → List (BTreeMap (List ℕ) (Option (List ℕ)))
maps_of files = files.files.items

-- the values that were found of the keys of a file
abbrev pub records_of : Option (BTreeMap (List ℕ) (Option (List ℕ))) → RecordMap
records_of None = λ file key. None
records_of (Some found) = records_found found

-- the values that were found of the files' keys
abbrev pub records_at : FoundFiles → RecordMap
records_at files = λ file key. records_of (slice_get (maps_of files) (file - 1)) file key

-- of the file with this number that was found which the audit and the commits give
pub record IsFoundAt (file : ℕ) (audit : List AuditRecord) (monitor : List MonitorRecord) (files : FoundFiles) : Type 0 where
  pub found : BTreeMap (List ℕ) (Option (List ℕ))
  pub is_there : slice_get (maps_of files) (file - 1) ≡ Some found
  pub is_found : IsFound file audit monitor found
