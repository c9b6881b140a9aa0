-- What stands of a volume that is being made, and of its files.
use Rattle.std.specs.Prelude.{◌≡◌, ◌≢◌, ◌⊎◌, ℕ, ◌+◌, ◌<◌, List, Some, length, slice_get, slice_index}
use Rattle.disk_model.specs.Held.{Held, IsThere, Leaves}
use Rattle.keyed_file.specs.declared.label.Label.{Label}
use Rattle.keyed_file.specs.declared.block.TheConstants.{BLOCK_BYTES}
use Rattle.keyed_file.specs.BlockFormat.{block_text}
use Rattle.keyed_file.specs.Layout.{block_pair, data_length, slot_at, IsSpelledAt}
use Rattle.keyed_file.specs.Block.{KeyedBlock}
use Rattle.keyed_file.specs.Volume.{Contents, SpellsFile, SpellsLabel, SpellsVolume, blocks_of}
use Rattle.trail_files.specs.Landed.{IsSettled}
use Rattle.block_cache.specs.declared.contents.FileContents.{FileContents}
use Rattle.block_cache.specs.Volume.{HasNoLabel, RestsFor}
use Rattle.block_cache.specs.Whole.{AreWhole}

-- the selectors name slot 0, and the first blocks, so many, stand in their slots 0; the file ends behind the last one's pair
pub record IsPartFile (file blocks : ℕ) (contents : Contents) (bytes : List ℕ) : Type 0 where
  pub long : length bytes ≡ data_length blocks
  pub selectors : (i : ℕ) → i < 256 → slice_index bytes i ≡ 0
  pub each : (number : ℕ) → number < blocks → (length (block_text (contents file number)) ≡ BLOCK_BYTES) × IsSpelledAt bytes (slot_at (block_pair file number) 0) (block_text (contents file number))

-- whatever a crash leaves, no label stands
abbrev pub IsSurelyLost : Held → Type 0
IsSurelyLost held = (image : Held) → Leaves held image → HasNoLabel image

-- whatever a crash leaves, no label stands, or this one
abbrev pub MayBeLabelled : Label → Held → Type 0
MayBeLabelled label held = (image : Held) → Leaves held image → HasNoLabel image ⊎ IsThere image 1 (λ f. SpellsLabel label f.bytes)

-- a file's blocks, in their order, have these contents
abbrev pub AreBlocksOf : Contents → ℕ → List KeyedBlock → Type 0
AreBlocksOf contents file blocks = (number : ℕ) (content : KeyedBlock) → slice_get blocks number ≡ Some content → contents file number ≡ content

-- what is given to each file has these contents
abbrev pub AreGiven : Contents → List FileContents → Type 0
AreGiven contents given = (n : ℕ) (one : FileContents) → slice_get given n ≡ Some one → AreBlocksOf contents one.file one.blocks

-- each file of the volume is given its contents, and no other file is given any
pub record AreAllFiles (files : List (ℕ × ℕ)) (given : List FileContents) : Type 0 where
  pub whole : AreWhole files given
  pub only : (n : ℕ) (one : FileContents) → slice_get given n ≡ Some one → 0 < blocks_of files one.file

-- each file of the device is as it was but for the label's and those of the volume
abbrev pub OffVolume : List (ℕ × ℕ) → Held → Held → Type 0
OffVolume files old new = (q : ℕ) → q ≢ 1 → ((file : ℕ) → q ≡ 1 + file → blocks_of files file ≡ 0) → new q ≡ old q

-- a data file stands whole with its contents, and nothing of it is at risk
abbrev pub IsFinished : ℕ → ℕ → Contents → Held → Type 0
IsFinished file blocks contents held = IsThere held (1 + file) (λ f. IsSettled f × SpellsFile file blocks contents f.bytes)

-- the volume stands with its label and these contents, and nothing of it is at risk
pub record IsMade (label : Label) (contents : Contents) (held : Held) : Type 0 where
  pub spells : SpellsVolume label held contents
  pub rests : RestsFor label held

-- What an image is of a volume that is made anew: one of those that could be left before, or without a label, or with the label and each of the contents.
abbrev pub IsBeingMade : Label → Contents → Held → Held → Type 0
IsBeingMade label contents before image = Leaves before image ⊎ (HasNoLabel image ⊎ SpellsVolume label image contents)
