use Rattle.std.proofs.Common.{◌≡◌, ◌<◌, ℕ, true, Some}
use Rattle.block_cache.specs.Cache.{frame_at, is_clean}
use Rattle.block_cache.proofs.cache.Cache.first_dirty.Given as goal

abbrev pub invariant-loop-place : goal.invariant-loop-place
invariant-loop-place l =
    (place frame : ℕ) → place < l.place → frame_at l.self place ≡ Some frame → is_clean l.self.frames frame ≡ true
