-- What a cursor reads next, on a device that holds anything.
use Rattle.std.proofs.Common.{◌≡◌, ◌⊎◌, ℕ, zero, suc, ◌+◌, ◌<◌, List, ◌∷◌, Some}
use Rattle.std.specs.Prelude.{Option}
use Rattle.disk_model.specs.Held.{Held, read_of}
use Rattle.trail_files.specs.declared.cursor.Cursor.{Cursor}
use Rattle.trail_files.specs.declared.damage.Damage.{Damage}
use Rattle.trail_files.specs.Format.{Format}
use Rattle.trail_files.specs.Text.{head}
use Rattle.trail_files.specs.Damaged.{head_damage, IsReadDamage}

-- From a gate of a file on stand roll batches alone, one a file, up to that gate of that file.
abbrev pub RollsTo : Held → ℕ → ℕ → ℕ → ℕ → ℕ → Type 0
RollsTo held zero file at last gate = (last ≡ file) × (gate ≡ at)
RollsTo held (suc rolls) file at last gate = (read_of (held file) at 16 ≡ 1 ∷ head 0) × RollsTo held rolls (file + 1) 0 last gate

-- No record is left of the cursor's batch, and no record stands in front of this gate.
abbrev pub IsNextGate : Held → Cursor → ℕ → ℕ → Type 0
IsNextGate held cursor file gate = (cursor.left ≡ 0) × (rolls : ℕ) × RollsTo held rolls cursor.file cursor.at file gate

-- Here the next record stands: the next one of the cursor's batch, or the first one of the batch behind such a gate.
abbrev pub IsNextRecord : Held → Cursor → ℕ → ℕ → Type 0
IsNextRecord held cursor file at =
    ((0 < cursor.left) × (file ≡ cursor.file) × (at ≡ cursor.at))
    ⊎ ((gate : ℕ) × (count : ℕ) × IsNextGate held cursor file gate × (0 < count) × (read_of (held file) gate 16 ≡ 1 ∷ head count) × (at ≡ gate + 16))

-- the damage is that of the gate and head that are read at an offset of a file
abbrev pub IsHeadFault : ℕ → Held → ℕ → ℕ → Damage → Type 0
IsHeadFault most held file at d = (offset : ℕ) × (d.file ≡ file) × (d.at ≡ at + offset) × (head_damage most file (read_of (held file) at 16) ≡ Some (offset, d.kind))

-- the damage is that of the record that is read at an offset of a file, at its place
abbrev pub IsRecordFault : {R : Type 0} → Format R → (List ℕ → Option ℕ) → ℕ → Held → ℕ → ℕ → ℕ → Damage → Type 0
IsRecordFault format bad size held place file at d = (offset : ℕ) × (d.file ≡ file) × (d.at ≡ at + offset) × IsReadDamage format bad size place (read_of (held file) at size) offset d.kind

-- The damage is that of what the cursor reads next: of the first gate and head that are no roll batch, or of the next record.
abbrev pub IsNextDamage : {R : Type 0} → Format R → (List ℕ → Option ℕ) → ℕ → Held → Cursor → Damage → Type 0
IsNextDamage format bad size held cursor d =
    ((gate : ℕ) × IsNextGate held cursor d.file gate × IsHeadFault format.most held d.file gate d)
    ⊎ ((at : ℕ) × IsNextRecord held cursor d.file at × IsRecordFault format bad size held cursor.place d.file at d)
