-- The epoch behind the last one that records begin, computed on rows. A trail that reaches the greatest one would have more than four billion records.
use Rattle.std.specs.Prelude.{Some}
use Rattle.std.proofs.Common.{◌≡◌, [], ◌∷◌, refl}
use Rattle.trail_files.specs.declared.monitor_record.MonitorRecord.TheVariants.{Start}
use Rattle.trail_files.specs.MonitorOrder.{last_epoch}
use Rattle.volume_recovery.specs.Node.{next_epoch}

-- without a Start the first one is next
first : next_epoch [] ≡ 1
first = refl

-- the greatest number of 32 bits is that of an epoch
greatest : next_epoch (Start 4294967294 ∷ []) ≡ 4294967295
greatest = refl

-- it is told as the last one, behind which there is none
last : last_epoch (Start 4294967294 ∷ Start 4294967295 ∷ []) ≡ Some 4294967295
last = refl
