use Rattle.std.proofs.Common.{◌-◌, ◌+◌, ◌≡◌, ◌≤◌, ℕ, [], length}
use Rattle.std.specs.Prelude.{slice_get}
use Rattle.trail_files.specs.AuditRecord.{audit_format}
use Rattle.trail_files.specs.Trail.{Rests}
use Rattle.disk_model.specs.Devices.{AreLater, DevicesTell, DeviceAt, SameFrom}
use Rattle.trail_replay.specs.Rules.{rules_of}
use Rattle.volume_recovery.proofs.format.format_trails.Given as goal

abbrev pub invariant-loop-trail : goal.invariant-loop-trail
invariant-loop-trail g l = record {
  told : DevicesTell g.D.Disk.tells l.initial.bay → (n : ℕ) → 1 ≤ n → n ≤ l.trail → DeviceAt (λ d. Rests (audit_format (rules_of l.config n)) (g.D.Disk.held d) []) l.bay n;
  monitor : slice_get l.bay 0 ≡ slice_get l.initial.bay 0;
  others : SameFrom (1 + length l.config.trails) l.initial.bay l.bay;
  keeps : AreLater g.D.Disk l.initial.bay l.bay;
  within : l.trail ≤ l.count;
  count : l.count ≡ length l.config.trails;
  few : length l.config.trails ≤ 4;
}

abbrev pub decreases-loop-trail : goal.decreases-loop-trail
decreases-loop-trail g l = l.count - l.trail
