-- What may be kept of a volume and of its device of dumps, in the node of KeptRow: the first volume is kept with the low position 4.
use Rattle.std.proofs.Common.{◌≡◌, ℕ, ◌+◌, ◌≤◌, true, false, List, [], ◌∷◌, Some, None, refl, subst, arith, ⊎_elim}
use Rattle.std.specs.Prelude.{slice_get}
use Rattle.block_cache.specs.Blocks.{View as BlocksView}
use Rattle.block_cache.specs.declared.pair.PairPhase.TheVariants.{Settled}
use Rattle.online_dump.specs.Found.{DumpView}
use Rattle.run_opening.specs.Dumps.{HasReached}
use Rattle.run_opening.specs.Kept.{IsNextBehind, low_kept}
use Rattle.run_opening.specs.Opening.{IsKept, IsReachedIn}
use Rattle.run_opening.specs.declared.kept.Kept.{Kept}
use Rattle.run_opening.specs.declared.kept.Kept.TheVariants.{Dump as DumpKept, Idle, Volume as VolumeKept}
use Rattle.run_opening.proofs.KeptRow.{Device, config, empty, kind}

-- WHICH STARTS A DISC HAS REACHED

no_dump : HasReached None 4 true
no_dump s is = absurd (cc)

next_one : HasReached (Some 5) 4 true → ⊥
next_one is = (let le : 5 ≤ 4 = is 5 refl in omega (arith, le))

told_above : HasReached (Some 5) 4 false
told_above = (5, refl, omega arith)

-- WHICH LOW POSITION IS THE NEXT ONE

abbrev blocks : BlocksView Device
blocks = record {
  device = None;
  label = record { volume = 1; trail = 1; low = 4; files = (1, 1) ∷ [] };
  label_slot = 0;
  label_phase = Settled;
  next_low = 4;
  cache = record { table = []; frames = []; order = [] };
}

-- a dump with this start
abbrev file : ℕ → DumpView Device
file start = record { device = None; volume = 1; found = Some (record { label = record { volume = 1; body = 2; start = start; sequence = 1 }; slot = 0 }); next = None; offered = false; filled = None; whole = false }

abbrev kept_before : List (Kept Device)
kept_before = Idle None ∷ Idle None ∷ Idle None ∷ Idle None ∷ Idle None ∷ VolumeKept blocks ∷ []

-- the low position follows the last record, or any where none was seen
low_next : IsNextBehind 4 (VolumeKept blocks)
low_next = refl

low_first : IsNextBehind 0 (VolumeKept blocks)
low_first = refl

low_below : IsNextBehind 5 (VolumeKept blocks) → ⊥
low_below is = (let same : 5 ≡ 4 = is in omega (arith, same))

-- WHAT IS KEPT

-- its start may be the low position
reached : IsReachedIn kind config kept_before 13 (DumpKept (file 4))
reached volume place =
    let one : 1 ≡ volume = omega (arith, place) in
    subst (λ (v : ℕ). (low : ℕ) × (low_kept (slice_get kept_before (4 + v)) ≡ Some low) × ((start : ℕ) → Some 4 ≡ Some start → start ≤ low)) one
    (4, refl, (λ start is_start. (let start_is : 4 ≡ start = cc (is_start) in omega (arith, start_is))))

-- and not one above it
above : IsReachedIn kind config kept_before 13 (DumpKept (file 5)) → ⊥
above is =
    let told = is 1 refl in
    let is_low : Some 4 ≡ Some told.0 = told.1 in
    let low : 4 ≡ told.0 = cc (is_low) in
    let le : 5 ≤ told.0 = told.2 5 refl in
    omega (arith, low, le)

-- nor may the device be opened where the volume's blocks are not kept
opened_alone : IsReachedIn kind config (Idle None ∷ Idle None ∷ Idle None ∷ Idle None ∷ Idle None ∷ Idle None ∷ []) 13 (DumpKept (file 4)) → ⊥
opened_alone is = (let told = is 1 refl in let none : None ≡ Some told.0 = told.1 in cc (none))

-- nor may the device be left alone
left_alone : IsReachedIn kind config kept_before 13 (Idle None) → ⊥
left_alone is = is 1 4 (record { above = omega arith; below = omega arith }) refl refl

-- one that is left alone is as it was
changed : IsKept kind config 1 [] 13 None (Idle empty) → ⊥
changed is = ⊎_elim (λ alone. (let same : empty ≡ None = alone.1 in cc)) (λ lost. (let place : 13 ≡ 4 + lost.0 = lost.2 in let below : lost.0 ≤ 2 = lost.1.below in omega (arith, place, below))) is
