-- The changes of a file's keys, which are in hand block by block while its blocks are gone through.
use Rattle.std.specs.Prelude.{◌≢◌, slice_get, slice_index_or}
use Rattle.std.proofs.Common.{◌≡◌, ◌+◌, ◌-◌, ◌<◌, inl, inr, ℕ, List, [], length, Some, sym, ap, subst, ◌∙◌, arith}
use Rattle.std.proofs.lemmas.Option.{slice_get-get_or}
use Rattle.keyed_file.specs.declared.home.Home.{Home}
use Rattle.keyed_file.specs.Block.{KeyedBlock}
use Rattle.trail_replay.specs.declared.replay.FoundFiles.{FoundFiles}
use Rattle.trail_replay.specs.Replay.{maps_of}
use Rattle.volume_restore.specs.Changed.{ArePartsOf, Changes}
use Rattle.volume_restore.specs.Restored.{WereFound, WereFoundAt}
use Rattle.block_cache.proofs.Caches.{same_or_other}
use Rattle.rollforward.specs.Filled.{Records}
use Rattle.rollforward.specs.Rolled.{AreInRow, ArePartsAt, HaveFound}
use Rattle.rollforward.proofs.Rolleds.{AreRolledTo, rolled_none}
use Rattle.rollforward.proofs.Rollings.{item-of}

-- The records so far, and the changes of the file of the place before.
pub record IsRolling (homes : List Home) (blocks : List KeyedBlock) (files : FoundFiles) (index : ℕ) (records : Records) (parts : List Changes) : Type 0 where
  pub rolled : AreRolledTo homes blocks files index records
  pub in_hand : (n : ℕ) (home : Home) → n + 1 ≡ index → slice_get homes n ≡ Some home → ArePartsAt files home parts

pub rolling-none : (homes : List Home) (blocks : List KeyedBlock) (files : FoundFiles) (parts : List Changes) → IsRolling homes blocks files 0 [] parts
rolling-none homes blocks files parts = record { rolled = rolled_none homes blocks files; in_hand = λ n home is at. absurd (omega (arith, is)) }

-- something was found of a place's file
pub found-of-place : (homes : List Home) (files : FoundFiles) (index : ℕ) (home : Home) → HaveFound homes files → slice_get homes index ≡ Some home → (found : Changes) × WereFound files home.file found
found-of-place homes files index home have at = let it = item-of (maps_of files) home.file (have index home at).1 in (it.0, it.1.1)

-- the changes in hand are those of the present place's file: they were taken at its first block, or are those of the place before
pub in-hand-now : (homes : List Home) (files : FoundFiles) (index : ℕ) (home : Home) (old new : List Changes) → AreInRow homes → slice_get homes index ≡ Some home
    → ((n : ℕ) (before : Home) → n + 1 ≡ index → slice_get homes n ≡ Some before → ArePartsAt files before old) → (home.number ≡ 0 → ArePartsAt files home new) → (home.number ≢ 0 → new ≡ old) → ArePartsAt files home new
in-hand-now homes files index home old new row at was first same = elim (same_or_other home.number 0) [
  | inl e ↦ first e
  | inr other ↦ λ found were.
      let behind = (row index home at).behind other in
      subst (λ (xs : List Changes). ArePartsOf found home.blocks xs) (sym (same other))
      (subst (λ (b : ℕ). ArePartsOf found b old) behind.4 (was (index - 1) behind.0 (omega (arith, behind.1)) behind.2 found (subst (λ (f : ℕ). WereFound files f found) (sym behind.3) were)))
]

pub part-there : (files : FoundFiles) (home : Home) (parts : List Changes) (found : Changes) → ArePartsAt files home parts → WereFound files home.file found → home.number < home.blocks → home.number < length parts
part-there files home parts found are were within = omega (arith, within, (are found were).count)

-- so the part of the place's number has what was found of its block's keys
pub part-found : (files : FoundFiles) (home : Home) (parts : List Changes) (found part : Changes) (place : ℕ) → ArePartsAt files home parts → WereFound files home.file found → home.number < home.blocks → place ≡ home.number
    → part ≡ slice_index_or parts place part → WereFoundAt files home part
part-found files home parts found part place are were within same is = λ other other_were.
    let at : slice_get parts home.number ≡ Some part =
    slice_get-get_or parts home.number part (part-there files home parts found are were within) ∙ ap Some (ap (λ (n : ℕ). slice_index_or parts n part) (sym same) ∙ sym is) in
    (are other other_were).each home.number part at
