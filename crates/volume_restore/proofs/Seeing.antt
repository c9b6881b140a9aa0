-- What a pass sees of one block in the bytes of its file.
use Rattle.std.proofs.Common.{◌≡◌, ◌≢◌, ℕ, ◌+◌, ◌-◌, ◌<◌, ◌≤◌, List, Some, ap, sym, subst, ◌∙◌}
use Rattle.std.specs.Prelude.{Option, slice_get, slice_index}
use Rattle.disk_model.specs.Held.{Held}
use Rattle.keyed_file.specs.declared.home.Home.{Home}
use Rattle.keyed_file.specs.Block.{KeyedBlock}
use Rattle.keyed_file.specs.Layout.{selected_by}
use Rattle.block_cache.specs.declared.fault.BlockFault.{BlockFault}
use Rattle.block_cache.specs.declared.fault.BlockFault.TheVariants as block
use Rattle.block_cache.specs.Shows.{NamesSlot}
use Rattle.block_cache.specs.Damage.{bad_selected}
use Rattle.block_cache.specs.OnePiece.{AreFileBytes, TellsIn}
use Rattle.block_cache.proofs.OnePieces.{bad-same, slot-same}
use Rattle.trail_replay.specs.declared.replay.FoundFiles.{FoundFiles}
use Rattle.trail_replay.specs.Replay.{maps_of}
use Rattle.volume_restore.specs.Changed.{ArePartsOf, Changes, HasRoomIn, IsFoundIn, IsOverfull, changed_values}
use Rattle.volume_restore.specs.Pass.{IsChangedBlock, TellsWrong}
use Rattle.volume_restore.specs.Restored.{HasRoomFor, IsRestored, WereFound, WereFoundAt, block_fault}
use Rattle.volume_restore.specs.declared.fault.VolumeFault.TheVariants.{Failed}
use Rattle.volume_restore.proofs.Gathering.{overfull_as, room_as, values_as}
use Rattle.volume_restore.proofs.Holding.{some_same}

-- the changes that were found of a block's keys make of it what those of its file do
module _ (files : FoundFiles) (home : Home) (changes : Changes) (was : KeyedBlock) (found_at : WereFoundAt files home changes) where
  pub restored-of : (content : KeyedBlock) → IsChangedBlock home changes was content → IsRestored files home was content
  restored-of content made = record {
    values = λ found key were lives. made.values key lives ∙ values_as home.blocks home.number found changes was (found_at found were) key lives;
    same = λ found were unchanged. made.same (λ key lives. found_at found were key lives ∙ unchanged key lives);
  }

  pub room-for : HasRoomIn home.blocks home.number (changed_values changes was) → HasRoomFor files home was
  room-for room found were = room_as home.blocks home.number (changed_values changes was) (changed_values found was) (values_as home.blocks home.number found changes was (found_at found were)) room

  pub overfull-of : IsOverfull home.blocks home.number (changed_values changes was) → (found : Changes) → WereFound files home.file found → IsOverfull home.blocks home.number (changed_values found was)
  overfull-of full found were = overfull_as home.blocks home.number (changed_values changes was) (changed_values found was) (values_as home.blocks home.number found changes was (found_at found were)) full

-- the parts of what was found of a file are what was found of its blocks
pub parts-found : (files : FoundFiles) (first : Home) (found : Changes) (parts items : List Changes) → WereFound files first.file found → ArePartsOf found first.blocks parts → items ≡ parts
    → (n : ℕ) (part : Changes) → slice_get items n ≡ Some part → WereFoundAt files (record first { number = n }) part
parts-found files first found parts items were are same n part at other were_other =
    subst (λ (x : Changes). IsFoundIn x first.blocks n part) (some_same found other (slice_get (maps_of files) (first.file - 1)) were were_other)
    (are.each n part (ap (λ (xs : List Changes). slice_get xs n) (sym same) ∙ at))

-- in the bytes of a file
module _ (home : Home) (held : Held) (bytes : List ℕ) (within : home.number < home.blocks) (few : home.blocks ≤ 256) (are : AreFileBytes home held bytes) where
  pub named-slot : (slot : ℕ) → slot ≡ selected_by (slice_index bytes home.number) → NamesSlot home slot held
  named-slot slot is = (are.0, are.1, (are.2.0, is ∙ slot-same home held bytes within few are))

  -- where no block was taken the fault tells where it is wrong
  pub taken-wrong : (e : BlockFault) → TellsIn home (bad_selected home bytes) e → TellsWrong home held (block_fault e)
  taken-wrong block.Failed tells = absurd tells
  taken-wrong (block.Damaged d) tells = (tells.0, tells.1, bad-same home held bytes within few are (Some d.at) tells.2)
  taken-wrong block.NoMemory tells = tt

-- no device has failed where a block is taken out of bytes
pub taken-works : (home : Home) (bad : Option ℕ) (e : BlockFault) → TellsIn home bad e → block_fault e ≢ Failed
taken-works home bad block.Failed tells = absurd tells
taken-works home bad (block.Damaged d) tells = λ is. cc
taken-works home bad block.NoMemory tells = λ is. cc
