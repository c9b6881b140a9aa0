-- What stands in the body of a dump, and where it is damaged first.
use Rattle.std.specs.Prelude.{◌≡◌, ℕ, zero, suc, ◌+◌, ◌*◌, ◌<◌, ◌≤◌, true, if◌then◌else◌, List, [], ◌∷◌, ◌++◌, length, slice_get, Option, Some, None, nat_lt, option_map}
use Rattle.disk_model.specs.Held.{File, Held}
use Rattle.tmf_model.specs.Config.{IsWithin}
use Rattle.keyed_file.specs.declared.block.TheConstants.{BLOCK_BYTES}
use Rattle.keyed_file.specs.declared.dump_label.DumpLabel.{DumpLabel}
use Rattle.keyed_file.specs.declared.home.Home.{Home}
use Rattle.keyed_file.specs.Block.{KeyedBlock, IsBlock}
use Rattle.keyed_file.specs.BlockFormat.{bad_block, block_text, is_at_home}
use Rattle.keyed_file.specs.Dump.{body_at}
use Rattle.keyed_file.specs.Layout.{IsSpelledAt, bytes_at}
use Rattle.keyed_file.specs.Volume.{blocks_of}
use Rattle.trail_files.specs.declared.damage.Damage.{Damage}
use Rattle.trail_files.specs.declared.damage.DamageKind.TheVariants.{BadBlock}
use Rattle.volume_restore.specs.declared.fault.VolumeFault.{VolumeFault}
use Rattle.volume_restore.specs.declared.fault.VolumeFault.TheVariants.{Failed, Damaged, NoMemory}

-- the bytes of a file; none where it is not there
abbrev pub bytes_in : Option File → List ℕ
bytes_in None = []
bytes_in (Some file) = file.bytes

-- where the block at an offset of a body is wrong first: a body that is too short for it is wrong at its end
abbrev pub bad_from : Home → ℕ → List ℕ → Option ℕ
bad_from home at bytes = if nat_lt (length bytes) (at + BLOCK_BYTES) then Some (length bytes) else option_map (λ bad. at + bad) (bad_block (Some home) (bytes_at at BLOCK_BYTES bytes))

-- where a block of the body of these files is wrong first
abbrev pub bad_dumped : List (ℕ × ℕ) → ℕ → ℕ → List ℕ → Option ℕ
bad_dumped files file number bytes = bad_from (record { file = file; number = number; blocks = blocks_of files file }) (body_at files file number) bytes

-- The body is wrong here first: in a block before which none is wrong.
pub record IsFirstInBody (files : List (ℕ × ℕ)) (bytes : List ℕ) (at : ℕ) : Type 0 where
  pub file : ℕ
  pub number : ℕ
  pub within : number < blocks_of files file
  pub before : (f n : ℕ) → n < blocks_of files f → body_at files f n < body_at files file number → bad_dumped files f n bytes ≡ None
  pub here : bad_dumped files file number bytes ≡ Some at

-- a file is wrong here first, of whose bytes this says it: where it is not there, at 0
abbrev pub IsFirstIn : (List ℕ → ℕ → Type 0) → Option File → ℕ → Type 0
IsFirstIn P None at = at ≡ 0
IsFirstIn P (Some file) at = P file.bytes at

-- the body that a dump's label names is damaged here first
abbrev pub IsBodyDamage : List (ℕ × ℕ) → Held → DumpLabel → Damage → Type 0
IsBodyDamage files image label damage = (damage.file ≡ label.body) × (damage.kind ≡ BadBlock) × IsFirstIn (IsFirstInBody files) (image label.body) damage.at

-- the places of the first so many blocks of a file
abbrev pub homes_below : ℕ → ℕ → ℕ → List Home
homes_below file blocks zero = []
homes_below file blocks (suc number) = homes_below file blocks number ++ record { file = file; number = number; blocks = blocks } ∷ []

-- the places of all blocks of these files, in the order of a body
abbrev pub homes_in : List (ℕ × ℕ) → List Home
homes_in [] = []
homes_in (f ∷ files) = homes_below f.0 f.1 f.1 ++ homes_in files

-- each place is that of a file with 1 to 256 blocks
abbrev pub AreHomes : List Home → Type 0
AreHomes homes = (n : ℕ) (home : Home) → slice_get homes n ≡ Some home → IsWithin 1 256 home.blocks

-- there is a block for each place, which may stand there
pub record AreInPlace (homes : List Home) (blocks : List KeyedBlock) : Type 0 where
  pub many : length blocks ≡ length homes
  pub each : (n : ℕ) (home : Home) (block : KeyedBlock) → slice_get homes n ≡ Some home → slice_get blocks n ≡ Some block → IsBlock block × (is_at_home (Some home) block ≡ true)

-- the block was read at an offset of a body, of which nothing is wrong there
pub record IsReadFrom (home : Home) (at : ℕ) (bytes : List ℕ) (block : KeyedBlock) : Type 0 where
  pub long : at + BLOCK_BYTES ≤ length bytes
  pub spelled : IsSpelledAt bytes at (block_text block)
  pub fine : bad_from home at bytes ≡ None

-- the blocks are spelled at their places, one behind the other
pub record AreSpelled (homes : List Home) (bytes : List ℕ) (blocks : List KeyedBlock) : Type 0 where
  pub long : length homes * BLOCK_BYTES ≤ length bytes
  pub each : (n : ℕ) (block : KeyedBlock) → slice_get blocks n ≡ Some block → IsSpelledAt bytes (n * BLOCK_BYTES) (block_text block)

-- The bytes are wrong here first, of blocks that stand at their places one behind the other.
pub record IsFirstInRow (homes : List Home) (bytes : List ℕ) (at : ℕ) : Type 0 where
  pub index : ℕ
  pub home : Home
  pub is : slice_get homes index ≡ Some home
  pub before : (n : ℕ) (other : Home) → n < index → slice_get homes n ≡ Some other → bad_from other (n * BLOCK_BYTES) bytes ≡ None
  pub here : bad_from home (index * BLOCK_BYTES) bytes ≡ Some at

-- the fault tells where the block at an offset of a file is wrong first
abbrev pub TellsFrom : ℕ → Home → ℕ → List ℕ → VolumeFault → Type 0
TellsFrom file home at bytes Failed = Unit {0}
TellsFrom file home at bytes (Damaged damage) = (damage.file ≡ file) × (damage.kind ≡ BadBlock) × (bad_from home at bytes ≡ Some damage.at)
TellsFrom file home at bytes NoMemory = Unit {0}

-- the fault tells where a file is wrong first that has blocks one behind the other
abbrev pub TellsRow : ℕ → List Home → Option File → VolumeFault → Type 0
TellsRow file homes held Failed = Unit {0}
TellsRow file homes held (Damaged damage) = (damage.file ≡ file) × (damage.kind ≡ BadBlock) × IsFirstIn (IsFirstInRow homes) held damage.at
TellsRow file homes held NoMemory = Unit {0}

-- the file is there, and the blocks are spelled in it at their places
abbrev pub AreSpelledIn : List Home → Option File → List KeyedBlock → Type 0
AreSpelledIn homes held blocks = (file : File) × (held ≡ Some file) × AreSpelled homes file.bytes blocks

-- the fault tells that a file is not there
abbrev pub TellsAbsent : ℕ → Option File → VolumeFault → Type 0
TellsAbsent file held Failed = Unit {0}
TellsAbsent file held (Damaged damage) = (damage.file ≡ file) × (damage.kind ≡ BadBlock) × (damage.at ≡ 0) × (held ≡ None)
TellsAbsent file held NoMemory = ⊥
