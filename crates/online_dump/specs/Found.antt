-- What is found on a dump device, by its label.
use Rattle.std.specs.Prelude.{◌≡◌, ◌+◌, ◌<◌, ℕ, Bool, List, length, slice_index, Option, Some, None, nat_lt, option_map, if◌then◌else◌}
use Rattle.disk_model.specs.Held.{Held, IsThere}
use Rattle.keyed_file.specs.declared.dump_label.DumpLabel.{DumpLabel}
use Rattle.keyed_file.specs.LabelFormat.{IsDumpLabel, bad_dump_label_at}
use Rattle.keyed_file.specs.Dump.{SpellsDumpLabel}
use Rattle.keyed_file.specs.Layout.{bytes_at, label_length, label_pair, selected_by, slot_at}
use Rattle.keyed_file.specs.Volume.{IsLost}
use Rattle.trail_files.specs.declared.damage.DamageKind.TheVariants.{BadLabel}
use Rattle.online_dump.specs.declared.fault.DumperFault.{DumperFault}
use Rattle.online_dump.specs.declared.fault.DumperFault.TheVariants.{Damaged, Failed, NoMemory}
use Rattle.online_dump.specs.declared.sealed.SealedDump.{SealedDump}

-- the device, the volume whose dumps it holds, and the dump that stands there
pub record DumpView (D : Type 0) : Type 0 where
  pub device : D
  pub volume : ℕ
  pub found : Option SealedDump
  -- the next label, once it is written, and whether an image may show it
  pub next : Option DumpLabel
  pub offered : Bool
  -- how many blocks of the next body are written, where it is begun
  pub filled : Option ℕ
  -- whether the next body is finished: its label may then be written
  pub whole : Bool

-- the start of the dump that stands there
abbrev pub start_in : Option SealedDump → Option ℕ
start_in found = option_map (λ dump. dump.label.start) found

-- the label's numbers are in their ranges, it is of the volume, and stands in one of two slots
pub record IsSealed (volume : ℕ) (dump : SealedDump) : Type 0 where
  pub label : IsDumpLabel dump.label
  pub of_volume : dump.label.volume ≡ volume
  pub slot : dump.slot < 2

-- where the label in the selected slot of a label's file breaks the format, or is another volume's, first
abbrev pub bad_slot : ℕ → List ℕ → Option ℕ
bad_slot volume bytes =
    option_map (λ bad. slot_at label_pair (selected_by (slice_index bytes 1)) + bad) (bad_dump_label_at volume (bytes_at (slot_at label_pair (selected_by (slice_index bytes 1))) 256 bytes))

-- a file that is too short is wrong at its end
abbrev pub bad_dump_file : ℕ → List ℕ → Option ℕ
bad_dump_file volume bytes = if nat_lt (length bytes) label_length then Some (length bytes) else bad_slot volume bytes

-- the label's file has an open gate and spells the label of the dump in its slot, and nothing of the file is wrong
pub record IsFoundAt (volume : ℕ) (dump : SealedDump) (bytes : List ℕ) : Type 0 where
  pub spelled : SpellsDumpLabel dump.label bytes
  pub slot : dump.slot ≡ selected_by (slice_index bytes 1)
  pub fine : bad_dump_file volume bytes ≡ None

-- what stands on the device: no dump, where no label stands; or else the one of the label
abbrev pub IsFoundDump : ℕ → Held → Option SealedDump → Type 0
IsFoundDump volume held None = IsLost held
IsFoundDump volume held (Some dump) = IsThere held 1 (λ f. IsFoundAt volume dump f.bytes)

-- the dump device has found it
abbrev pub HasFoundDump : {D : Type 0} → ℕ → Held → DumpView D → Type 0
HasFoundDump volume held view = IsFoundDump volume held view.found

-- the fault tells where the label of a whole file is wrong first
abbrev pub TellsSlot : ℕ → List ℕ → DumperFault → Type 0
TellsSlot volume bytes (Damaged d) = (d.file ≡ 1) × (d.kind ≡ BadLabel) × (bad_slot volume bytes ≡ Some d.at)
TellsSlot volume bytes Failed = ⊥
TellsSlot volume bytes NoMemory = ⊥

-- damage is told at the first offset of the label's file that is wrong, where its gate is open
abbrev pub TellsDump : ℕ → Held → DumperFault → Type 0
TellsDump volume held (Damaged d) = (d.file ≡ 1) × (d.kind ≡ BadLabel) × IsThere held 1 (λ f. (slice_index f.bytes 0 ≡ 1) × (bad_dump_file volume f.bytes ≡ Some d.at))
TellsDump volume held Failed = Unit {0}
TellsDump volume held NoMemory = Unit {0}
