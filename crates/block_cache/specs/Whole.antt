-- What the blocks of a new volume are given, and what every image is of one that is rewritten.
use Rattle.std.specs.Prelude.{◌≡◌, ◌⊎◌, ℕ, ◌<◌, ◌≤◌, List, length, slice_get, Some}
use Rattle.disk_model.specs.Held.{Held}
use Rattle.tmf_model.specs.RecordMap.{RecordMap}
use Rattle.keyed_file.specs.declared.label.Label.{Label}
use Rattle.keyed_file.specs.Volume.{Contents, SpellsVolume, blocks_of}
use Rattle.block_cache.specs.declared.contents.FileContents.{FileContents}
use Rattle.block_cache.specs.Blocks.{with_low}
use Rattle.block_cache.specs.Rewrite.{AreAtHome, AreContentsOf, AreMixed}

-- a file is given as many contents as it has blocks, each of which lives in its block
pub record FitsFile (files : List (ℕ × ℕ)) (one : FileContents) : Type 0 where
  pub count : length one.blocks ≡ blocks_of files one.file
  pub few : length one.blocks ≤ 256
  pub homes : AreAtHome one.file (blocks_of files one.file) one.blocks

-- each of these contents fits its file
abbrev pub FitAll : List (ℕ × ℕ) → List FileContents → Type 0
FitAll files contents = (n : ℕ) (one : FileContents) → slice_get contents n ≡ Some one → FitsFile files one

-- each file of the volume is given its contents
pub record AreWhole (files : List (ℕ × ℕ)) (contents : List FileContents) : Type 0 where
  pub fit : FitAll files contents
  pub every : (file : ℕ) → 0 < blocks_of files file → (n : ℕ) × (one : FileContents) × (slice_get contents n ≡ Some one) × (one.file ≡ file)

-- What an image is of a volume that is rewritten: it has the old label, and of each block what it had or the map's content; or it has the new low position,
-- and each block the map's content.
abbrev pub IsOnTheWay : Label → ℕ → Contents → RecordMap → Held → Type 0
IsOnTheWay label low was map image =
    (shown : Contents) × ((SpellsVolume label image shown × AreMixed label.files was map shown) ⊎ (SpellsVolume (with_low label low) image shown × AreContentsOf label.files map shown))
