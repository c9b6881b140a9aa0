use Rattle.std.proofs.Common.{◌≡◌, ◌<◌, ◌≤◌, ℕ, get_or}
use Rattle.disk_model.specs.Devices.{FuseRestarts}
use Rattle.disk_model.specs.Fuse.{CutsNone}
use Rattle.disk_model.proofs.bay.restart_each.Given as goal

abbrev pub invariant-loop-fuse : goal.invariant-loop-fuse
invariant-loop-fuse g l =
    ((n : ℕ) (d : _) → n < l.fuse-index → FuseRestarts g.D.Disk (get_or l.fn.fuses n d) (get_or l.fuses n d))
    × ((n : ℕ) (d : _) → n < l.fuse-index → CutsNone (get_or l.fn.fuses n d) (get_or l.fuses n d))
    × ((n : ℕ) (d : _) → l.fuse-index ≤ n → get_or l.fuses n d ≡ get_or l.fn.fuses n d)
