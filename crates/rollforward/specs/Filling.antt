-- What stands of a volume that is being filled, file by file and block by block.
use Rattle.std.specs.Prelude.{◌⊎◌, ℕ, ◌+◌, ◌<◌, List}
use Rattle.disk_model.specs.Held.{Held, IsThere, Leaves}
use Rattle.tmf_model.specs.RecordMap.{RecordMap}
use Rattle.keyed_file.specs.declared.label.Label.{Label}
use Rattle.keyed_file.specs.Volume.{Contents, IsContent, SpellsVolume, blocks_of}
use Rattle.block_cache.specs.Created.{IsFinished, IsMade, IsPartFile}
use Rattle.block_cache.specs.Rewrite.{AreContentsOf, IsContentOf}
use Rattle.block_cache.specs.Volume.{HasNoLabel}
use Rattle.volume_restore.specs.Changed.{HasRoomIn}

-- each block of a label's files has room for what it has in the map
abbrev pub HasRoomFor : List (ℕ × ℕ) → RecordMap → Type 0
HasRoomFor files map = (file number : ℕ) → number < blocks_of files file → HasRoomIn (blocks_of files file) number (map file)

-- The data file of a file that has so many blocks ends behind those of them that come before a number, which have the map's content.
pub record IsPartFilled (map : RecordMap) (file blocks number : ℕ) (held : Held) : Type 0 where
  pub contents : Contents
  pub part : IsThere held (1 + file) (λ f. IsPartFile file number contents f.bytes)
  pub each : (n : ℕ) → n < number → IsContent file blocks n (contents file n) × IsContentOf map file blocks n (contents file n)

-- The data file of a file stands whole, each of its blocks has the map's content, and nothing of it is at risk.
pub record IsFileFilled (map : RecordMap) (file blocks : ℕ) (held : Held) : Type 0 where
  pub contents : Contents
  pub finished : IsFinished file blocks contents held
  pub each : (n : ℕ) → n < blocks → IsContentOf map file blocks n (contents file n)

-- The volume stands with its label, each block has the map's content, and nothing of it is at risk.
pub record IsVolumeFilled (label : Label) (map : RecordMap) (held : Held) : Type 0 where
  pub contents : Contents
  pub made : IsMade label contents held
  pub each : AreContentsOf label.files map contents

-- the image is a volume with this label, of which each block has the map's content
abbrev pub SpellsMap : Label → RecordMap → Held → Type 0
SpellsMap label map image = (contents : Contents) × SpellsVolume label image contents × AreContentsOf label.files map contents

-- What an image is of a volume that is being filled: one of those that could be left before, or without a label, or the whole volume.
abbrev pub IsBeingFilled : Label → RecordMap → Held → Held → Type 0
IsBeingFilled label map before image = Leaves before image ⊎ (HasNoLabel image ⊎ SpellsMap label map image)
