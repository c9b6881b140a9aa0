-- What some audit says of the keys of one file.
use Rattle.std.specs.Prelude.{◌≡◌, ℕ, List, [], ◌∷◌, Option, Some, None, filter}
use Rattle.std.specs.BTreeMap.{BTreeMap, get}
use Rattle.std.specs.Cmp.Lexicographic.{slice_cmp}
use Rattle.std.specs.Ordering.{nat_cmp}
use Rattle.tmf_model.specs.RecordMap.{RecordMap}
use Rattle.trail_files.specs.declared.audit_record.AuditRecord.{AuditRecord}
use Rattle.trail_files.specs.declared.monitor_record.MonitorRecord.{MonitorRecord}
use Rattle.trail_files.specs.Recovered.{is_committed, records_on, after_last_of}

-- what audit on one key says of it, where there is some
abbrev pub value_found : List MonitorRecord → List AuditRecord → Option (Option (List ℕ))
value_found monitor [] = None
value_found monitor (r ∷ rest) = Some (after_last_of (filter (is_committed monitor) (r ∷ rest)) r.before)

-- each key of the file that the audit speaks of, and no other, is in the map, with the value that the audit and the commits give it
abbrev pub IsFound : ℕ → List AuditRecord → List MonitorRecord → BTreeMap (List ℕ) (Option (List ℕ)) → Type 0
IsFound file audit monitor found = (key : List ℕ) → get (slice_cmp nat_cmp) found key ≡ value_found monitor (records_on file key audit)

-- the value of a key that has one
abbrev pub value_of : Option (Option (List ℕ)) → Option (List ℕ)
value_of None = None
value_of (Some value) = value

-- the values that were found of a file's keys, in whichever file
abbrev pub records_found : BTreeMap (List ℕ) (Option (List ℕ)) → RecordMap
records_found found = λ file key. value_of (get (slice_cmp nat_cmp) found key)
