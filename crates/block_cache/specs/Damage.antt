-- Where a volume's bytes are damaged first.
use Rattle.std.specs.Prelude.{◌≡◌, ℕ, zero, suc, ◌+◌, ◌≤◌, if◌then◌else◌, List, length, slice_index, Option, Some, None, nat_le, nat_lt, option_map, unwrap_or}
use Rattle.std.specs.Option.{option_or}
use Rattle.disk_model.specs.Held.{Held, File, Rose}
use Rattle.keyed_file.specs.declared.block.TheConstants.{BLOCK_BYTES}
use Rattle.keyed_file.specs.declared.home.Home.{Home}
use Rattle.keyed_file.specs.BlockFormat.{bad_block}
use Rattle.trail_files.specs.declared.damage.Damage.{Damage}
use Rattle.trail_files.specs.declared.damage.DamageKind.TheVariants.{BadBlock}
use Rattle.block_cache.specs.declared.fault.BlockFault.{BlockFault}
use Rattle.block_cache.specs.declared.fault.BlockFault.TheVariants.{Failed, Damaged, NoMemory}
use Rattle.keyed_file.specs.Layout.{block_pair, bytes_at, data_length, selected_by, slot_at}

-- where the slot stands that a block's selector names
abbrev pub selected_at : Home → List ℕ → ℕ
selected_at home bytes = slot_at (block_pair home.file home.number) (selected_by (slice_index bytes home.number))

-- a slot was read of a data file: the one that the block's selector names, so many of its bytes, and all of them where it is whole
pub record IsRead (home : Home) (file : List ℕ) (slot count : ℕ) (bytes : List ℕ) : Type 0 where
  pub named : slot ≡ selected_by (slice_index file home.number)
  pub counted : count ≡ length (bytes_at (slot_at (block_pair home.file home.number) slot) BLOCK_BYTES file)
  pub spelled : BLOCK_BYTES ≤ count → bytes ≡ bytes_at (slot_at (block_pair home.file home.number) slot) BLOCK_BYTES file

-- where the block in the selected slot is wrong first; nothing is said of a slot that is cut short
abbrev pub bad_selected : Home → List ℕ → Option ℕ
bad_selected home bytes =
    if nat_le (selected_at home bytes + BLOCK_BYTES) (length bytes)
    then option_map (λ bad. selected_at home bytes + bad) (bad_block (Some home) (bytes_at (selected_at home bytes) BLOCK_BYTES bytes)) else None

-- where the first so many blocks of a file are wrong first
abbrev pub bad_among : Home → ℕ → List ℕ → Option ℕ
bad_among home zero bytes = None
bad_among home (suc number) bytes = option_or (bad_among home number bytes) (bad_selected (record home { number = number }) bytes)

-- where a file that is too short is wrong first: at one of its blocks, or at its end
abbrev pub first_bad : Home → List ℕ → ℕ
first_bad home bytes = unwrap_or (bad_among home home.blocks bytes) (length bytes)

-- The first offset at which a data file is wrong for the reader of one of its blocks: in a file that is whole the block's own, in one that is too short that
-- of all its blocks.
abbrev pub bad_data : Home → List ℕ → Option ℕ
bad_data home bytes = if nat_lt (length bytes) (data_length home.blocks) then Some (first_bad home bytes) else bad_selected home bytes

-- of a file that is not there the first offset is wrong
abbrev pub bad_data_in : Home → Option File → Option ℕ
bad_data_in home None = Some 0
bad_data_in home (Some file) = bad_data home file.bytes

-- the bytes of a block are wrong here first
abbrev pub IsBadBlock : Home → Held → Damage → Type 0
IsBadBlock home held damage = (damage.file ≡ 1 + home.file) × (damage.kind ≡ BadBlock) × (bad_data_in home (held (1 + home.file)) ≡ Some damage.at)

-- where a fault tells damage, this is said of it
abbrev pub Tells : (Damage → Type 0) → BlockFault → Type 0
Tells P Failed = Unit {0}
Tells P (Damaged d) = P d
Tells P NoMemory = ⊥

-- the fault tells the first damage of a block, or none
abbrev pub TellsBlock : Home → Held → BlockFault → Type 0
TellsBlock home held = Tells (IsBadBlock home held)

-- Why a block is refused: the device failed, and its count rose, or its bytes are damaged. No call on a volume that is attached takes memory.
abbrev pub BlockCause : ℕ → ℕ → BlockFault → Type 0
BlockCause before now Failed = Rose before now
BlockCause before now (Damaged d) = Unit {0}
BlockCause before now NoMemory = ⊥
