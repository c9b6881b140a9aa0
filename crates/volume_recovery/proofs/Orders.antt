-- The monitor trail with a Start behind it.
use Rattle.std.specs.Prelude.{Some, ◌^◌, nat_le}
use Rattle.std.specs.Option.{option_or}
use Rattle.std.proofs.Common.{◌≡◌, ℕ, ◌+◌, ◌<◌, true, List, [], ◌∷◌, ◌++◌, length, refl, ap, ◌∙◌, arith, length-append}
use Rattle.std.proofs.lemmas.Bool.{le-leb, lt-ltb, and_from, and_parts, eq-eqb}
use Rattle.trail_files.specs.declared.monitor_record.MonitorRecord.{MonitorRecord}
use Rattle.trail_files.specs.declared.monitor_record.MonitorRecord.TheVariants.{Start}
use Rattle.trail_files.specs.MonitorOrder.{begun_epoch, last_epoch, monitor_follows, is_monitor_order, are_placed}
use Rattle.trail_files.specs.MonitorRecord.{monitor_format}
use Rattle.trail_files.specs.RecordOrder.{each_follows-append}
use Rattle.volume_recovery.specs.Node.{next_epoch}

-- a list with a Start behind it has a record
pub some-behind : (list : List MonitorRecord) (epoch : ℕ) → nat_le 1 (length (list ++ Start epoch ∷ [])) ≡ true
some-behind list epoch = le-leb 1 (length (list ++ Start epoch ∷ [])) (omega (arith, length-append list (Start epoch ∷ [])))

-- a Start at the end of a list is its last
pub last_epoch-start : (xs : List MonitorRecord) (epoch : ℕ) → last_epoch (xs ++ Start epoch ∷ []) ≡ Some epoch
last_epoch-start [] epoch = refl
last_epoch-start (x ∷ xs) epoch = ap (λ o. option_or o (begun_epoch x)) (last_epoch-start xs epoch)

-- the next epoch's Start may stand behind records that are in order and not too many
pub start-ordered : (list : List MonitorRecord) (epoch : ℕ) → monitor_format.in_order list ≡ true → epoch ≡ next_epoch list → length list + 1 < 2 ^ 64 → monitor_format.in_order (list ++ Start epoch ∷ []) ≡ true
start-ordered list epoch order next few =
    let before = (and_parts (is_monitor_order list) (are_placed list) order).0 in
    and_from _ _
    (each_follows-append monitor_follows [] list (Start epoch ∷ []) ∙ rw (before, eq-eqb epoch (next_epoch list) next) refl)
    (lt-ltb (length (list ++ Start epoch ∷ [])) (2 ^ 64) (omega (arith, length-append list (Start epoch ∷ []), few)))
