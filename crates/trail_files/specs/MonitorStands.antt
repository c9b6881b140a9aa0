-- What a reader of the monitor trail keeps.
use Rattle.std.specs.Prelude.{◌≡◌, true, List}
use Rattle.std.specs.BTreeSet.{contains}
use Rattle.std.specs.Ordering.{nat_cmp, ordering_then}
use Rattle.std.specs.declared.cmp.Ordering.{Ordering}
use Rattle.tmf_model.specs.declared.transid.Transid.{Transid}
use Rattle.trail_files.specs.declared.monitor_order.MonitorOrder.{MonitorOrder}
use Rattle.trail_files.specs.declared.monitor_record.MonitorRecord.{MonitorRecord}
use Rattle.trail_files.specs.MonitorOrder.{last_epoch, is_ended, is_monitor_order}

-- the order of identifiers
abbrev pub transid_cmp : Transid → Transid → Ordering
transid_cmp a b =
    ordering_then (nat_cmp a.epoch b.epoch)
    (ordering_then (nat_cmp a.worker b.worker) (ordering_then (nat_cmp a.ordinal b.ordinal) (nat_cmp a.attempt b.attempt)))

pub record MonitorStands (order : MonitorOrder) (before : List MonitorRecord) : Type 0 where
  pub epoch : order.epoch ≡ last_epoch before
  pub ended : (tx : Transid) → contains transid_cmp order.ended tx ≡ is_ended before tx
  pub in_order : is_monitor_order before ≡ true
