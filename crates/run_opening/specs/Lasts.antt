-- The position that a disc gives out next, by the last record that its trail has of it.
use Rattle.std.specs.Prelude.{◌≡◌, ℕ, zero, suc, ◌≤◌, ◌==◌, if◌then◌else◌, List, slice_index}
use Rattle.trail_files.specs.declared.audit_record.AuditRecord.{AuditRecord}
use Rattle.volume_restore.specs.Bases.{next_behind}
use Rattle.run_opening.specs.declared.lasts.Lasts.{Lasts}

-- the position behind the disc's last record, or 0
abbrev pub next_at : Lasts → ℕ → ℕ
next_at lasts disc = slice_index lasts.next disc

-- the positions, where this one follows the disc's last record
abbrev pub with_next : ℕ → ℕ → (ℕ → ℕ) → (ℕ → ℕ)
with_next disc next old = λ other. if other == disc then next else old other

-- the position that follows: the low one, where no record was seen
abbrev pub next_from : ℕ → ℕ → ℕ
next_from zero low = low
next_from (suc last) low = suc last

-- the disc's next position behind this audit, where that is one that a label may have
abbrev pub IsNextFor : ℕ → ℕ → List AuditRecord → ℕ → Type 0
IsNextFor volume low audit next = 1 ≤ low → next_behind volume low audit ≤ 4611686018427387904 → next_from next low ≡ next_behind volume low audit
