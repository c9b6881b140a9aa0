-- Where a volume's label is damaged first.
use Rattle.std.specs.Prelude.{◌≡◌, ℕ, ◌+◌, if◌then◌else◌, List, length, slice_index, Option, Some, None, nat_lt, option_map}
use Rattle.disk_model.specs.Held.{Held, IsThere}
use Rattle.keyed_file.specs.declared.label.Label.{Label}
use Rattle.keyed_file.specs.LabelFormat.{bad_label_at}
use Rattle.keyed_file.specs.Layout.{bytes_at, label_length, label_pair, selected_by, slot_at}
use Rattle.keyed_file.specs.Volume.{IsLost}
use Rattle.trail_files.specs.declared.damage.DamageKind.TheVariants.{BadLabel}
use Rattle.block_cache.specs.declared.fault.AttachFault.{AttachFault}
use Rattle.block_cache.specs.declared.fault.AttachFault.TheVariants.{Lost, Damaged, Failed, NoMemory}

-- where the label in the selected slot of a label's file breaks the format or differs from the wanted one first
abbrev pub bad_slot : Label → List ℕ → Option ℕ
bad_slot wanted bytes =
    option_map (λ bad. slot_at label_pair (selected_by (slice_index bytes 1)) + bad) (bad_label_at wanted (bytes_at (slot_at label_pair (selected_by (slice_index bytes 1))) 256 bytes))

-- a file that is too short is wrong at its end
abbrev pub bad_label_file : Label → List ℕ → Option ℕ
bad_label_file wanted bytes = if nat_lt (length bytes) label_length then Some (length bytes) else bad_slot wanted bytes

-- the fault tells where the label of a whole file is wrong first, or that memory ran out
abbrev pub TellsLabel : Label → List ℕ → AttachFault → Type 0
TellsLabel wanted bytes Lost = ⊥
TellsLabel wanted bytes (Damaged d) = (d.file ≡ 1) × (d.kind ≡ BadLabel) × (bad_slot wanted bytes ≡ Some d.at)
TellsLabel wanted bytes Failed = ⊥
TellsLabel wanted bytes NoMemory = Unit {0}

-- the fault tells why the wanted label was not read: none stands, or it is wrong first at this offset
abbrev pub TellsAttach : Label → Held → AttachFault → Type 0
TellsAttach wanted held Lost = IsLost held
TellsAttach wanted held (Damaged d) = (d.file ≡ 1) × (d.kind ≡ BadLabel) × IsThere held 1 (λ f. (slice_index f.bytes 0 ≡ 1) × (bad_label_file wanted f.bytes ≡ Some d.at))
TellsAttach wanted held Failed = Unit {0}
TellsAttach wanted held NoMemory = Unit {0}

-- the label in the selected slot of a label's file is the wanted one, with any low position, and nothing of the file is wrong
abbrev pub IsFineLabel : Label → Held → Type 0
IsFineLabel wanted held = IsThere held 1 (λ f. (slice_index f.bytes 0 ≡ 1) × (bad_label_file wanted f.bytes ≡ None))
