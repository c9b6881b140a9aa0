use Rattle.std.proofs.Common.{◌≡◌, ◌≤◌, ℕ, length, slice_get, Some, None}
use Rattle.block_cache.specs.Cache.{IsFrame}
use Rattle.block_cache.specs.declared.frame.Frame.{Frame}
use Rattle.block_cache.proofs.Freshly.{counted}
use Rattle.block_cache.proofs.cache.Cache.new.Given as goal

abbrev pub invariant-loop-frame : goal.invariant-loop-frame
invariant-loop-frame l =
    (length l.frames.items ≡ l.frame)
    × (l.count ≤ l.frames.cap)
    × ((n : ℕ) (f : Frame) → slice_get l.frames.items n ≡ Some f → IsFrame f × (f.place ≡ None))
    × (l.order.entries ≡ counted l.frame)
    × (l.order.cap ≡ l.count)
