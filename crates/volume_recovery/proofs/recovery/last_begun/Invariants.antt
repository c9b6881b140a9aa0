use Rattle.std.proofs.Common.{◌≡◌, length}
use Rattle.std.specs.Option.{option_or}
use Rattle.trail_files.specs.MonitorOrder.{last_epoch}
use Rattle.volume_recovery.proofs.recovery.last_begun.Given as goal

abbrev pub invariant-loop-item : goal.invariant-loop-item
invariant-loop-item l = option_or (last_epoch l.rest) l.last ≡ last_epoch l.records

abbrev pub decreases-loop-item : goal.decreases-loop-item
decreases-loop-item l = length l.rest
