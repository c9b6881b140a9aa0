-- What is wrong in the blocks of a volume, and was wrong or right when its device was handed in.
use Rattle.std.specs.Prelude.{◌≡◌, ℕ, ◌+◌, ◌<◌, false, Option, Some, None, IsTrue}
use Rattle.disk_model.specs.Held.{Held}
use Rattle.disk_model.specs.declared.disk.Disk as disk
use Rattle.keyed_file.specs.declared.home.Home.{Home}
use Rattle.keyed_file.specs.Volume.{blocks_of as label_blocks}
use Rattle.trail_files.specs.declared.damage.Damage.{Damage}
use Rattle.block_cache.specs.Blocks.{IfCached, View, home_of}
use Rattle.block_cache.specs.Cache.{CacheView, is_dirty}
use Rattle.block_cache.specs.Damage.{IsBadBlock, bad_data_in}

-- Where the block is in the cache, nothing was wrong in it as it was handed in. Where it need not be drawn, it is wrong first where it was then, or right as it was then.
pub record HoldsBlock (home : Home) (cache : CacheView) (given now : Held) : Type 0 where
  pub cached : IfCached cache home.file home.number (λ x. bad_data_in home (given (1 + home.file)) ≡ None)
  pub resting : IfCached cache home.file home.number (λ x. is_dirty x ≡ false) → bad_data_in home (now (1 + home.file)) ≡ bad_data_in home (given (1 + home.file))

-- so is each block of the volume, if the device that was handed in told what it held
abbrev pub HoldsBlocks : {D : Type 0} → disk.Ghosts D → Option D → View D → Type 0
HoldsBlocks kind None blocks = ⊥
HoldsBlocks kind (Some given) blocks = IsTrue (kind.tells given) → (f n : ℕ) → n < label_blocks blocks.label.files f → HoldsBlock (home_of blocks f n) blocks.cache (kind.held given) (kind.held blocks.device)

-- the bytes of the block were wrong here first when the device was handed in, if that told what it held
abbrev pub HadBadBlock : {D : Type 0} → disk.Ghosts D → Option D → Home → Damage → Type 0
HadBadBlock kind None home damage = ⊥
HadBadBlock kind (Some given) home damage = IsTrue (kind.tells given) → IsBadBlock home (kind.held given) damage

-- nothing was wrong in the bytes of the block when the device was handed in, if that told what it held
abbrev pub WasRight : {D : Type 0} → disk.Ghosts D → Option D → Home → Type 0
WasRight kind None home = ⊥
WasRight kind (Some given) home = IsTrue (kind.tells given) → bad_data_in home (kind.held given (1 + home.file)) ≡ None

-- the device holds what it held when it was handed in
abbrev pub HoldsAsGiven : {D : Type 0} → disk.Ghosts D → Option D → D → Type 0
HoldsAsGiven kind None now = ⊥
HoldsAsGiven kind (Some given) now = kind.held now ≡ kind.held given
