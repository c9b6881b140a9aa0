-- Worked rows of the definitions.
use Rattle.std.proofs.Common.{◌≡◌, ℕ, List, [], ◌∷◌, Option, Some, None, refl, cond}
use Rattle.std.specs.Prelude.{bytes_eq}
use Rattle.trail_files.specs.declared.audit_record.AuditKind.TheVariants.{Change}
use Rattle.trail_files.specs.declared.audit_record.AuditRecord.{AuditRecord}
use Rattle.trail_files.specs.declared.monitor_record.MonitorRecord.{MonitorRecord}
use Rattle.trail_files.specs.declared.monitor_record.MonitorRecord.TheVariants.{Commit}
use Rattle.trail_files.specs.Recovered.{kept_records, recovered_value}
use Rattle.tmf_model.specs.RecordMap.{RecordMap}
use Rattle.volume_restore.specs.Bases.{next_behind}
use Rattle.volume_restore.specs.Changed.{changed_value}

-- a change of key `k` of file 1, by the transaction with this ordinal, on this disc at this position
abbrev changed : ℕ → ℕ → ℕ → ℕ → Option (List ℕ) → Option (List ℕ) → AuditRecord
changed ordinal disc position k before after =
    record { kind = Change; disc = disc; file = 1; tx = record { epoch = 1; worker = 0; ordinal = ordinal; attempt = 0 }; position = position; key = k ∷ []; before = before; after = after }

abbrev value : ℕ → Option (List ℕ)
value v = Some (v ∷ [])

-- three committed changes of disc 1 and one that is not, and one of disc 2
abbrev audit : List AuditRecord
audit = changed 1 1 3 97 None (value 1) ∷ changed 1 2 9 97 None (value 7) ∷ changed 1 1 4 98 (value 5) None ∷ changed 2 1 5 99 (value 6) (value 8) ∷ changed 1 1 6 97 (value 1) (value 2) ∷ []

abbrev list : List MonitorRecord
list = Commit (record { epoch = 1; worker = 0; ordinal = 1; attempt = 0 }) ∷ []

abbrev if_key : ℕ → List ℕ → Option (List ℕ) → Option (List ℕ) → Option (List ℕ)
if_key k key here other = cond (bytes_eq key (k ∷ [])) here other

-- what the volume had: no `a`, 5 at `b`, 6 at `c` and 9 at `d`
abbrev base : RecordMap
base = λ file key. if_key 97 key None (if_key 98 key (value 5) (if_key 99 key (value 6) (value 9)))

-- no audit: the low position; else the position behind the disc's last record, whatever lies below the low position
next-none : next_behind 1 7 [] ≡ 7
next-none = refl

next-last : next_behind 1 4 audit ≡ 7
next-last = refl

next-other : next_behind 2 4 audit ≡ 10
next-other = refl

next-third : next_behind 3 4 audit ≡ 4
next-third = refl

-- the last committed value; none, where the last committed change is a removal; and what stood before the first change, where none is committed
recovered-last : recovered_value base (kept_records 1 3 audit) list 1 (97 ∷ []) ≡ value 2
recovered-last = refl

recovered-removed : recovered_value base (kept_records 1 3 audit) list 1 (98 ∷ []) ≡ None
recovered-removed = refl

recovered-undone : recovered_value base (kept_records 1 3 audit) list 1 (99 ∷ []) ≡ value 6
recovered-undone = refl

recovered-kept : recovered_value base (kept_records 1 3 audit) list 1 (100 ∷ []) ≡ value 9
recovered-kept = refl

-- a low position behind all audit leaves the base
recovered-behind : recovered_value base (kept_records 1 7 audit) list 1 (97 ∷ []) ≡ None
recovered-behind = refl

-- a change gives its value, or takes it away; no change leaves what there was
changed-given : changed_value (Some (value 1)) (value 2) ≡ value 1
changed-given = refl

changed-removed : changed_value (Some None) (value 2) ≡ None
changed-removed = refl

changed-none : changed_value None (value 2) ≡ value 2
changed-none = refl
