-- What a failure leaves of a volume's records: its audit, the commits, and the value that they give each key.
use Rattle.std.specs.Prelude.{ℕ, Bool, ◌&&◌, ◌==◌, nat_le, bytes_eq, List, [], ◌∷◌, filter, Option, Some, None}
use Rattle.std.specs.List.{list_any, filter_map}
use Rattle.tmf_model.specs.declared.Transid.{Transid}
use Rattle.tmf_model.specs.RecordMap.{RecordMap}
use Rattle.trail_files.specs.MonitorOrder.{is_same_transid}
use Rattle.trail_files.specs.declared.audit_record.AuditRecord.{AuditRecord}
use Rattle.trail_files.specs.declared.monitor_record.MonitorRecord.{MonitorRecord}
use Rattle.trail_files.specs.declared.monitor_record.MonitorRecord.TheVariants.{Start, Commit, Abort}

-- the transaction that a record commits
abbrev pub committed_by : MonitorRecord → Option Transid
committed_by (Start epoch) = None
committed_by (Commit t) = Some t
committed_by (Abort t) = None

-- the transactions that a monitor trail's records commit, in order
abbrev pub commits_of : List MonitorRecord → List Transid
commits_of records = filter_map committed_by records

-- the audit record is of a transaction that these commit
abbrev pub is_committed : List MonitorRecord → AuditRecord → Bool
is_committed monitor record_ = list_any (is_same_transid record_.tx) (commits_of monitor)

-- a disc's audit from a position on
abbrev pub kept_records : ℕ → ℕ → List AuditRecord → List AuditRecord
kept_records disc from audit = filter (λ r. (r.disc == disc) && nat_le from r.position) audit

-- the audit of one key of a file
abbrev pub records_on : ℕ → List ℕ → List AuditRecord → List AuditRecord
records_on file key audit = filter (λ r. (file == r.file) && bytes_eq key r.key) audit

-- the image that stands before the first of them
abbrev pub before_first_of : List AuditRecord → Option (List ℕ) → Option (List ℕ)
before_first_of [] base = base
before_first_of (r ∷ rest) base = r.before

-- the image that the last of them leaves
abbrev pub after_last_of : List AuditRecord → Option (List ℕ) → Option (List ℕ)
after_last_of [] base = base
after_last_of (r ∷ rest) base = after_last_of rest r.after

-- The value of a key: what the last record of a committed transaction on it left, or, where there is none, what stood before
-- the first record on it, or, where there is no record on it, the base's value.
abbrev pub recovered_value : RecordMap → List AuditRecord → List MonitorRecord → RecordMap
recovered_value base audit monitor = λ file key.
    let own = records_on file key audit in
    after_last_of (filter (is_committed monitor) own) (before_first_of own (base file key))
