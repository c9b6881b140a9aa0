use Rattle.std.specs.Prelude.{None}
use Rattle.std.proofs.Common.{◌≡◌, ◌-◌, ◌^◌, ◌<◌, ◌≤◌, true, ℕ}
use Rattle.disk_model.specs.Frame.{IsLater}
use Rattle.volume_restore.proofs.lose.remove_files.Given as goal

abbrev pub invariant-loop-file : goal.invariant-loop-file
invariant-loop-file g l = record {
  works : IsLater g.D.Disk l.initial.device l.device;
  within : l.from ≤ 2 ^ 32;
  below : g.D.Disk.tells l.initial.device ≡ true → (q : ℕ) → q < l.from → g.D.Disk.held l.device q ≡ None;
  gone : g.D.Disk.tells l.initial.device ≡ true → (q : ℕ) → g.D.Disk.held l.initial.device q ≡ None → g.D.Disk.held l.device q ≡ None;
}

abbrev pub decreases-loop-file : goal.decreases-loop-file
decreases-loop-file g l = 2 ^ 32 - l.from
