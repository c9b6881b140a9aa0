use Rattle.std.proofs.Common.{◌≡◌, ℕ, ◌+◌, ◌-◌, ◌*◌, ◌^◌, ◌<◌, ◌≤◌, length, true}
use Rattle.disk_model.specs.Held.{IsThere}
use Rattle.trail_files.specs.Scanned.{IsScanned}
use Rattle.trail_files.proofs.scan.scan_from.Given as goal

abbrev pub invariant-loop-reach : goal.invariant-loop-reach
invariant-loop-reach g l = record {
  device : g.D.Disk.is_same l.initial.device l.device;
  tells : g.D.Disk.tells l.device ≡ g.D.Disk.tells l.initial.device;
  same : g.D.Disk.held l.device ≡ g.D.Disk.held l.initial.device;
  later : g.D.Disk.faults l.initial.device ≤ g.D.Disk.faults l.device;
  here : g.D.Disk.tells l.initial.device ≡ true → IsThere (g.D.Disk.held l.initial.device) l.reach.file (λ f. l.reach.len ≡ length f.bytes);
  small : l.reach.len < 2 ^ 63;
  few : l.reach.places ≤ l.reach.file * 2 ^ 63 + l.reach.gate;
  scanned : (least : ℕ) → g.D.Disk.tells l.initial.device ≡ true → IsScanned (g.R.Spelled.format l.rules) (g.R.Spelled.stands l.rules) l.initial.order (g.D.Disk.held l.initial.device) least l.fn.start.file l.fn.start.len l.fn.start.gate l.fn.start.places
      → IsScanned (g.R.Spelled.format l.rules) (g.R.Spelled.stands l.rules) l.order (g.D.Disk.held l.initial.device) least l.reach.file l.reach.len l.reach.gate l.reach.places;
}

abbrev pub decreases-loop-reach : goal.decreases-loop-reach
decreases-loop-reach g l = (2 ^ 32 - l.reach.file) * 2 ^ 63 + (l.reach.len - l.reach.gate)
