-- What an image of a volume's device says: nothing, where the volume is lost, or a label, and the content of each block.
use Rattle.std.specs.Prelude.{◌≡◌, ◌≢◌, ℕ, ◌+◌, ◌-◌, ◌<◌, ◌≤◌, ◌==◌, if◌then◌else◌, true, List, [], ◌∷◌, length, slice_get, slice_index, Option, Some, None, unwrap_or, nat_eq}
use Rattle.std.specs.Option.{option_map_or}
use Rattle.std.specs.Map.{lookup}
use Rattle.disk_model.specs.Held.{Held, IsThere, IfThere}
use Rattle.tmf_model.specs.declared.config.Config.{Config}
use Rattle.tmf_model.specs.declared.config.FileLine.{FileLine}
use Rattle.tmf_model.specs.Place.{block_of}
use Rattle.tmf_model.specs.RecordMap.{RecordMap}
use Rattle.keyed_file.specs.declared.label.Label.{Label}
use Rattle.keyed_file.specs.Block.{KeyedBlock, IsBlock, value_at}
use Rattle.keyed_file.specs.BlockFormat.{block_text, is_at_home}
use Rattle.keyed_file.specs.LabelFormat.{IsLabel, label_text}
use Rattle.keyed_file.specs.Layout.{ShowsPair, block_pair, label_pair, label_length, data_length}

-- the files of a volume with their blocks, of these lines, the first of which is that of the file with this number
abbrev pub files_on : ℕ → ℕ → List FileLine → List (ℕ × ℕ)
files_on volume number [] = []
files_on volume number (line ∷ lines) = if line.volume == volume then (number, line.blocks) ∷ files_on volume (number + 1) lines else files_on volume (number + 1) lines

-- the label that a volume has with this low position
abbrev pub label_of : Config → ℕ → ℕ → Label
label_of config volume low = record {
  volume = volume;
  trail = option_map_or (λ line. line.trail) (slice_get config.volumes (volume - 1)) 0;
  low = low;
  files = files_on volume 1 config.files;
}

-- how many blocks a file has on a volume with these files
abbrev pub blocks_of : List (ℕ × ℕ) → ℕ → ℕ
blocks_of files file = unwrap_or (lookup (nat_eq file) files) 0

-- the content of each block, by its file and its number
abbrev pub Contents : Type 0
Contents = ℕ → ℕ → KeyedBlock

-- a block that may stand at this place, in a file of so many blocks
pub record IsContent (file blocks number : ℕ) (content : KeyedBlock) : Type 0 where
  pub valid : IsBlock content
  pub home : is_at_home (Some (record { file = file; number = number; blocks = blocks })) content ≡ true

-- no label stands
abbrev pub IsLost : Held → Type 0
IsLost image = IfThere image 1 (λ f. slice_index f.bytes 0 ≢ 1)

-- the label's file is whole and its gate is open, and its selected slot spells the label
pub record SpellsLabel (label : Label) (bytes : List ℕ) : Type 0 where
  pub long : label_length ≤ length bytes
  pub gate : slice_index bytes 0 ≡ 1
  pub shown : ShowsPair bytes label_pair (label_text label)

-- the data file is whole, and the selected slot of each block spells its content
pub record SpellsFile (file blocks : ℕ) (contents : Contents) (bytes : List ℕ) : Type 0 where
  pub long : data_length blocks ≤ length bytes
  pub each : (number : ℕ) → number < blocks → IsContent file blocks number (contents file number) × ShowsPair bytes (block_pair file number) (block_text (contents file number))

-- The image has a label and the content of each block.
pub record SpellsVolume (label : Label) (image : Held) (contents : Contents) : Type 0 where
  pub valid : IsLabel label
  pub label_file : IsThere image 1 (λ f. SpellsLabel label f.bytes)
  pub files : (file : ℕ) → 0 < blocks_of label.files file → IsThere image (1 + file) (λ f. SpellsFile file (blocks_of label.files file) contents f.bytes)

-- the records of the blocks
abbrev pub map_of : List (ℕ × ℕ) → Contents → RecordMap
map_of files contents = λ file key.
    if blocks_of files file == 0 then None else value_at (contents file (block_of key (blocks_of files file))) key

-- The image has these records and this low position, by the selected slots of its label and of its blocks. Bytes that break the format spell none.
abbrev pub SpellsRecords : Config → ℕ → Held → ℕ → RecordMap → Type 0
SpellsRecords config volume image low records =
    (contents : Contents) × SpellsVolume (label_of config volume low) image contents × (records ≡ map_of (files_on volume 1 config.files) contents)
