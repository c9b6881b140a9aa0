-- What an image of a dump device says: nothing, where it has no dump, or a start and the content of each block.
use Rattle.std.specs.Prelude.{◌≡◌, ℕ, ◌+◌, ◌*◌, ◌<◌, ◌≤◌, ◌==◌, if◌then◌else◌, List, [], ◌∷◌, length, slice_index}
use Rattle.disk_model.specs.Held.{Held, IsThere}
use Rattle.tmf_model.specs.declared.config.Config.{Config}
use Rattle.tmf_model.specs.RecordMap.{RecordMap}
use Rattle.keyed_file.specs.declared.block.TheConstants.{BLOCK_BYTES}
use Rattle.keyed_file.specs.declared.dump_label.DumpLabel.{DumpLabel}
use Rattle.keyed_file.specs.BlockFormat.{block_text}
use Rattle.keyed_file.specs.LabelFormat.{IsDumpLabel, dump_text}
use Rattle.keyed_file.specs.Layout.{IsSpelledAt, ShowsPair, label_length, label_pair}
use Rattle.keyed_file.specs.Volume.{Contents, IsContent, blocks_of, files_on, map_of}

-- how many blocks stand in a body before those of a file
abbrev pub blocks_before : List (ℕ × ℕ) → ℕ → ℕ
blocks_before [] file = 0
blocks_before (f ∷ files) file = if f.0 == file then 0 else f.1 + blocks_before files file

-- how many blocks these files have
abbrev pub blocks_in_all : List (ℕ × ℕ) → ℕ
blocks_in_all [] = 0
blocks_in_all (f ∷ files) = f.1 + blocks_in_all files

-- where a block stands in a body
abbrev pub body_at : List (ℕ × ℕ) → ℕ → ℕ → ℕ
body_at files file number = (blocks_before files file + number) * BLOCK_BYTES

-- the dump label's file is whole and its gate is open, and its selected slot spells the label
pub record SpellsDumpLabel (label : DumpLabel) (bytes : List ℕ) : Type 0 where
  pub long : label_length ≤ length bytes
  pub gate : slice_index bytes 0 ≡ 1
  pub shown : ShowsPair bytes label_pair (dump_text label)

-- the body is whole and spells each block's content
pub record SpellsBody (files : List (ℕ × ℕ)) (contents : Contents) (bytes : List ℕ) : Type 0 where
  pub long : blocks_in_all files * BLOCK_BYTES ≤ length bytes
  pub each : (file number : ℕ) → number < blocks_of files file
      → IsContent file (blocks_of files file) number (contents file number) × IsSpelledAt bytes (body_at files file number) (block_text (contents file number))

-- The image has a dump of the volume, with this start, and the content of each block.
pub record SpellsDump (files : List (ℕ × ℕ)) (volume start : ℕ) (image : Held) (contents : Contents) : Type 0 where
  pub label : DumpLabel
  pub valid : IsDumpLabel label
  pub of_volume : label.volume ≡ volume
  pub starts : label.start ≡ start
  pub label_file : IsThere image 1 (λ f. SpellsDumpLabel label f.bytes)
  pub body : IsThere image label.body (λ f. SpellsBody files contents f.bytes)

-- The image has a dump with these records and this start, by the selected slot of its label and the body that it names. Bytes that break the format
-- spell none.
abbrev pub SpellsDumped : Config → ℕ → Held → ℕ → RecordMap → Type 0
SpellsDumped config volume image start records =
    (contents : Contents) × SpellsDump (files_on volume 1 config.files) volume start image contents × (records ≡ map_of (files_on volume 1 config.files) contents)
