use Rattle.std.proofs.Common.{◌≡◌, reverse, find}
use Rattle.block_cache.specs.Cache.{is_clean}
use Rattle.block_cache.proofs.cache.oldest_clean.Given as goal

abbrev pub invariant-loop-frame : goal.invariant-loop-frame
invariant-loop-frame l =
    (goal.iterator-loop-frame).can_next l.frame-iterator ×
    (goal.iterator-loop-frame).is_finite l.frame-iterator ×
    (find (λ e. is_clean l.frames e.0) (reverse l.fn.order.entries) ≡ find (λ e. is_clean l.frames e.0) (reverse l.frame-iterator.iter))
