-- Which rows of records a monitor trail may hold, and what damage a record is behind others.
use Rattle.std.specs.Prelude.{ℕ, ◌+◌, Bool, false, ◌&&◌, not, ◌==◌, ◌^◌, nat_le, nat_lt, if◌then◌else◌, List, [], ◌∷◌, length, Option, Some, None, unwrap_or, slice_index}
use Rattle.std.specs.List.{list_any}
use Rattle.std.specs.Option.{option_or, option_map_or}
use Rattle.tmf_model.specs.declared.transid.Transid.{Transid}
use Rattle.trail_files.specs.declared.damage.DamageKind.{DamageKind}
use Rattle.trail_files.specs.declared.damage.DamageKind.TheVariants.{BadRecord, Order, NoStart}
use Rattle.trail_files.specs.declared.monitor_record.MonitorRecord.{MonitorRecord}
use Rattle.trail_files.specs.declared.monitor_record.MonitorRecord.TheVariants.{Start, Commit, Abort}
use Rattle.trail_files.specs.MonitorFormat.{monitor_fields, monitor_record_at}
use Rattle.trail_files.specs.RecordOrder.{each_follows, last_told, damage_of}
use Rattle.trail_files.specs.RecordTable.{first_bad, transid_at, number_at}

-- the epoch that a Start begins
abbrev pub begun_epoch : MonitorRecord → Option ℕ
begun_epoch (Start epoch) = Some epoch
begun_epoch (Commit tx) = None
begun_epoch (Abort tx) = None

-- the epoch of the last Start
abbrev pub last_epoch : List MonitorRecord → Option ℕ
last_epoch before = last_told begun_epoch before

abbrev pub is_same_transid : Transid → Transid → Bool
is_same_transid a b = a.epoch == b.epoch && (a.worker == b.worker && (a.ordinal == b.ordinal && a.attempt == b.attempt))

-- whether the record is the Commit or the Abort of this identifier
abbrev pub is_end_of : Transid → MonitorRecord → Bool
is_end_of tx (Start epoch) = false
is_end_of tx (Commit other) = is_same_transid other tx
is_end_of tx (Abort other) = is_same_transid other tx

-- whether the identifier stands in a Commit or an Abort
abbrev pub is_ended : List MonitorRecord → Transid → Bool
is_ended before tx = list_any (is_end_of tx) before

-- a Start begins the next epoch, the first of all epoch 1; the others are of the last Start's epoch
abbrev pub has_epoch_after : List MonitorRecord → MonitorRecord → Bool
has_epoch_after before (Start epoch) = epoch == unwrap_or (last_epoch before) 0 + 1
has_epoch_after before (Commit tx) = option_map_or (λ epoch. tx.epoch == epoch) (last_epoch before) false
has_epoch_after before (Abort tx) = option_map_or (λ epoch. tx.epoch == epoch) (last_epoch before) false

-- whether the record ends an attempt that an earlier one ended
abbrev pub ends_again : List MonitorRecord → MonitorRecord → Bool
ends_again before (Start epoch) = false
ends_again before (Commit tx) = is_ended before tx
ends_again before (Abort tx) = is_ended before tx

abbrev pub monitor_follows : List MonitorRecord → MonitorRecord → Bool
monitor_follows before r = has_epoch_after before r && not (ends_again before r)

-- the first records of a trail may be these
abbrev pub is_monitor_order : List MonitorRecord → Bool
is_monitor_order records = each_follows monitor_follows [] records

-- the place of each fits in its eight bytes
abbrev pub are_placed : List MonitorRecord → Bool
are_placed records = nat_lt (length records) (2 ^ 64)

-- a trail has its first Start at least
abbrev pub may_monitor_end : List MonitorRecord → Bool
may_monitor_end records = nat_le 1 (length records)

-- whether the bytes have the kind and the epoch of a trail's first record
abbrev pub begins_trail : List ℕ → Bool
begins_trail bytes = slice_index bytes 0 == 1 && (transid_at bytes).epoch == 1

-- whether the bytes, of a Commit or an Abort, have an identifier that an earlier one has
abbrev pub is_doubled : List MonitorRecord → List ℕ → Bool
is_doubled before bytes = not (slice_index bytes 0 == 1) && is_ended before (transid_at bytes)

-- the fields that the records before decide
abbrev pub monitor_order_fields : List MonitorRecord → List ℕ → List (ℕ × Bool)
monitor_order_fields before bytes =
    (4, has_epoch_after before (monitor_record_at bytes)) ∷ (16, number_at bytes == 1 + length before) ∷ []

-- the damage of a record's bytes behind these records, where it is told whether an earlier one has ended the attempt
abbrev pub damage_if : Bool → List MonitorRecord → List ℕ → Option (ℕ × DamageKind)
damage_if doubled before bytes =
    if length before == 0 && not (begins_trail bytes) then Some (0, NoStart)
    else option_or
    (damage_of BadRecord (first_bad (monitor_fields doubled bytes)))
    (damage_of Order (first_bad (monitor_order_fields before bytes)))

-- the damage of a record's bytes behind these records: its offset and its kind, if there is any
abbrev pub monitor_damage : List MonitorRecord → List ℕ → Option (ℕ × DamageKind)
monitor_damage before bytes = damage_if (is_doubled before bytes) before bytes
