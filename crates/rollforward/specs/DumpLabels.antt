-- What a dump device's label says, and where it is damaged first.
use Rattle.std.specs.Prelude.{◌≡◌, ℕ, ◌+◌, if◌then◌else◌, List, length, slice_index, Option, Some, None, nat_lt, option_map}
use Rattle.disk_model.specs.Held.{Held, IsThere}
use Rattle.keyed_file.specs.declared.dump_label.DumpLabel.{DumpLabel}
use Rattle.keyed_file.specs.Dump.{SpellsDumpLabel}
use Rattle.keyed_file.specs.LabelFormat.{IsDumpLabel, bad_dump_label_at}
use Rattle.keyed_file.specs.Layout.{bytes_at, label_length, label_pair, selected_by, slot_at}
use Rattle.keyed_file.specs.Volume.{IsLost}
use Rattle.trail_files.specs.declared.damage.Damage.{Damage}
use Rattle.trail_files.specs.declared.damage.DamageKind.TheVariants.{BadLabel}
use Rattle.rollforward.specs.declared.dump_label.DumpFault.{DumpFault}
use Rattle.rollforward.specs.declared.dump_label.DumpFault.TheVariants.{Missing, Damaged, Failed}

-- where the label in the selected slot of a dump label's file breaks the format, or is another volume's, first
abbrev pub bad_dump_slot : ℕ → List ℕ → Option ℕ
bad_dump_slot volume bytes =
    option_map (λ bad. slot_at label_pair (selected_by (slice_index bytes 1)) + bad) (bad_dump_label_at volume (bytes_at (slot_at label_pair (selected_by (slice_index bytes 1))) 256 bytes))

-- a file that is too short is wrong at its end
abbrev pub bad_dump_file : ℕ → List ℕ → Option ℕ
bad_dump_file volume bytes = if nat_lt (length bytes) label_length then Some (length bytes) else bad_dump_slot volume bytes

-- the dump's label stands, and nothing of it is wrong
abbrev pub IsFineDumpLabel : ℕ → Held → Type 0
IsFineDumpLabel volume held = IsThere held 1 (λ f. (slice_index f.bytes 0 ≡ 1) × (bad_dump_file volume f.bytes ≡ None))

-- the dump's label stands, and is wrong here first
abbrev pub IsBadDumpLabel : ℕ → Held → Damage → Type 0
IsBadDumpLabel volume held damage = (damage.file ≡ 1) × (damage.kind ≡ BadLabel) × IsThere held 1 (λ f. (slice_index f.bytes 0 ≡ 1) × (bad_dump_file volume f.bytes ≡ Some damage.at))

-- The dump's label stands, is the volume's, and says this.
pub record IsDumpLabelOf (volume : ℕ) (held : Held) (label : DumpLabel) : Type 0 where
  pub valid : IsDumpLabel label
  pub of_volume : label.volume ≡ volume
  pub spelled : IsThere held 1 (λ f. SpellsDumpLabel label f.bytes)
  pub fine : IsFineDumpLabel volume held

-- the fault tells why no dump label was read: none stands, or it is wrong first here
abbrev pub TellsDumpLabel : ℕ → Held → DumpFault → Type 0
TellsDumpLabel volume held Missing = IsLost held
TellsDumpLabel volume held (Damaged damage) = IsBadDumpLabel volume held damage
TellsDumpLabel volume held Failed = Unit {0}

-- so does that of the label in the selected slot of a whole file
abbrev pub TellsDumpSlot : ℕ → List ℕ → DumpFault → Type 0
TellsDumpSlot volume bytes Missing = ⊥
TellsDumpSlot volume bytes (Damaged damage) = (damage.file ≡ 1) × (damage.kind ≡ BadLabel) × (bad_dump_slot volume bytes ≡ Some damage.at)
TellsDumpSlot volume bytes Failed = ⊥
