use Rattle.std.proofs.Common.{◌≡◌, ◌<◌, ◌≤◌, ℕ, get_or}
use Rattle.std.specs.Option.{is_some}
use Rattle.disk_model.specs.Fuse.{IsSet}
use Rattle.disk_model.proofs.bay.set_each.Given as goal

abbrev pub invariant-loop-fuse : goal.invariant-loop-fuse
invariant-loop-fuse g l =
    ((n : ℕ) (d : _) → n < l.fuse-index → IsSet (is_some l.calls) (get_or l.fn.fuses n d) (get_or l.fuses n d))
    × ((n : ℕ) (d : _) → l.fuse-index ≤ n → get_or l.fuses n d ≡ get_or l.fn.fuses n d)
