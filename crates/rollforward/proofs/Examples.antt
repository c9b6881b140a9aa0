-- A worked row: what a rollforward gives the keys of a volume.
use Rattle.std.proofs.Common.{◌≡◌, ℕ, List, [], ◌∷◌, Option, Some, None, refl, cond}
use Rattle.std.specs.Prelude.{◌==◌, ◌&&◌, bytes_eq}
use Rattle.tmf_model.specs.declared.transid.Transid.{Transid}
use Rattle.trail_files.specs.declared.audit_record.AuditKind.TheVariants.{Change}
use Rattle.trail_files.specs.declared.audit_record.AuditRecord.{AuditRecord}
use Rattle.trail_files.specs.declared.monitor_record.MonitorRecord.{MonitorRecord}
use Rattle.trail_files.specs.declared.monitor_record.MonitorRecord.TheVariants.{Commit, Start}
use Rattle.trail_files.specs.Recovered.{kept_records, recovered_value}
use Rattle.trail_files.specs.StandsFor.{Base, next_position}
use Rattle.volume_restore.specs.Bases.{next_behind}
use Rattle.rollforward.specs.RolledNode.{without}
use Rattle.rollforward.specs.Rolls.{rolled_map}

abbrev by : ℕ → ℕ → Transid
by epoch ordinal = record { epoch = epoch; worker = 1; ordinal = ordinal; attempt = 1 }

-- a change of a key of one byte, of disc 1
abbrev changed : ℕ → Transid → ℕ → ℕ → Option (List ℕ) → Option (List ℕ) → AuditRecord
changed file tx position key before after = record { kind = Change; disc = 1; file = file; tx = tx; position = position; key = key ∷ []; before = before; after = after }

abbrev value : ℕ → Option (List ℕ)
value v = Some (v ∷ [])

-- two changes of a committed transaction, one of a second epoch's, and one of a transaction that is not committed
abbrev audit : List AuditRecord
audit = changed 1 (by 1 1) 1 107 None (value 1) ∷ changed 1 (by 1 1) 2 106 None (value 2) ∷ changed 1 (by 2 1) 3 107 (value 1) (value 3) ∷ changed 2 (by 2 2) 4 109 None (value 4) ∷ []

abbrev list : List MonitorRecord
list = Start 1 ∷ Commit (by 1 1) ∷ Start 2 ∷ Commit (by 2 1) ∷ Start 3 ∷ []

abbrev is_key : ℕ → ℕ → ℕ → List ℕ → Option (List ℕ) → Option (List ℕ) → Option (List ℕ)
is_key file k f key here other = cond (f == file && bytes_eq key (k ∷ [])) here other

-- a dump with the start 2: `k` as the first change left it, and `m` with the change that was never committed
abbrev dump : Base
dump = record { records = λ file key. is_key 1 107 file key (value 1) (is_key 2 109 file key (value 4) None); position = 2 }

-- a committed change behind the start is redone, also of a block that was copied before it
redone : rolled_map 1 dump list audit 1 (107 ∷ []) ≡ value 3
redone = refl

added : rolled_map 1 dump list audit 1 (106 ∷ []) ≡ value 2
added = refl

-- one that is not committed is undone, also of a block that was copied behind it
undone : rolled_map 1 dump list audit 2 (109 ∷ []) ≡ None
undone = refl

-- the next position is that behind the audit; without any, the dump's start; and behind it, its own
next-behind : next_position (kept_records 1 0 audit) None (Some dump.position) ≡ 5
next-behind = refl

next-start : next_position (kept_records 1 0 []) None (Some dump.position) ≡ 2
next-start = refl

next-own : next_behind 1 5 audit ≡ 5
next-own = refl

-- behind the next position the volume's own records are the map's
alone : recovered_value (rolled_map 1 dump list audit) (kept_records 1 5 audit) list 1 (107 ∷ []) ≡ value 3
alone = refl

-- the volume is lost no longer
found : without 2 (1 ∷ 2 ∷ 4 ∷ []) ≡ 1 ∷ 4 ∷ []
found = refl
