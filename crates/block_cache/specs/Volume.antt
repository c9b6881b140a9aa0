-- What an image of a volume's device, or of its dump device, says of its disc: nothing, or records and a position.
use Rattle.std.specs.Prelude.{◌≢◌, ℕ, ◌+◌, ◌<◌, length, slice_index, Option, Some, None}
use Rattle.disk_model.specs.Held.{Held, IfThere}
use Rattle.tmf_model.specs.declared.config.Config.{Config}
use Rattle.keyed_file.specs.declared.label.Label.{Label}
use Rattle.keyed_file.specs.Dump.{SpellsDumped}
use Rattle.keyed_file.specs.Volume.{SpellsRecords, blocks_of}
use Rattle.trail_files.specs.Landed.{IsSettled}
use Rattle.trail_files.specs.StandsFor.{Base}

-- The label's file is not there, or its first byte is there and is no open gate. A file without bytes says nothing: an image of it may have any.
abbrev pub HasNoLabel : Held → Type 0
HasNoLabel image = IfThere image 1 (λ f. (0 < length f.bytes) × (slice_index f.bytes 0 ≢ 1))

-- What the image of a volume says: it has no label, or these records and this low position. Bytes that break the format say nothing.
abbrev pub HasBase : Config → ℕ → Held → Option Base → Type 0
HasBase config volume image None = HasNoLabel image
HasBase config volume image (Some base) = SpellsRecords config volume image base.position base.records

-- What the image of a dump device says: it has no dump, or one with these records and this start. Bytes that break the format say nothing.
abbrev pub HasDump : Config → ℕ → Held → Option Base → Type 0
HasDump config volume image None = HasNoLabel image
HasDump config volume image (Some dump) = SpellsDumped config volume image dump.position dump.records

-- nothing of what is held is at risk
abbrev pub IsAtRest : Held → Type 0
IsAtRest held = (n : ℕ) → IfThere held n IsSettled

-- nothing is at risk of the label's file and of the volume's own data files
pub record RestsFor (label : Label) (held : Held) : Type 0 where
  pub label_file : IfThere held 1 IsSettled
  pub files : (file : ℕ) → 0 < blocks_of label.files file → IfThere held (1 + file) IsSettled
