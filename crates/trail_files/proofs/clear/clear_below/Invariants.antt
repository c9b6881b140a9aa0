use Rattle.std.specs.Prelude.{Some, max}
use Rattle.std.proofs.Common.{◌≡◌, ◌-◌, ◌≤◌, true, ℕ}
use Rattle.disk_model.specs.Frame.{IsLater}
use Rattle.disk_model.specs.Held.{IsLeast}
use Rattle.trail_files.specs.Removed.{IsStart, IsCut, AreThere}
use Rattle.trail_files.proofs.clear.clear_below.Given as goal

abbrev pub invariant-loop-least : goal.invariant-loop-least
invariant-loop-least g l = record {
  works : IsLater g.D.Disk l.initial.device l.device;
  rises : l.initial.least ≤ l.least;
  within : l.least ≤ max l.initial.least l.fn.file;
  kept : g.D.Disk.tells l.initial.device ≡ true → (n : ℕ) → l.fn.file ≤ n → g.D.Disk.held l.device n ≡ g.D.Disk.held l.initial.device n;
  cut : (start : ℕ) → g.D.Disk.tells l.initial.device ≡ true → IsLeast (g.D.Disk.held l.initial.device) (Some start) → IsStart l.initial.least start → AreThere (g.D.Disk.held l.initial.device) start l.fn.file
      → (left : ℕ) × IsCut (g.D.Disk.held l.initial.device) (g.D.Disk.held l.device) l.least start left l.fn.file;
}

abbrev pub decreases-loop-least : goal.decreases-loop-least
decreases-loop-least g l = l.fn.file - l.least
