-- What is kept of the transactions at a disc.
use Rattle.std.specs.Prelude.{ℕ, ◌&&◌, if◌then◌else◌, Bool, false, nat_lt, length, reverse, Option, Some, None, vec_capacity}
use Rattle.std.specs.BTreeMap.{get}
use Rattle.std.specs.Ordering.{nat_cmp, ordering_then}
use Rattle.std.specs.declared.cmp.Ordering.{Ordering}
use Rattle.tmf_model.specs.declared.transid.Transid.{Transid}
use Rattle.disc_process.specs.declared.live.Live.{Live}
use Rattle.disc_process.specs.declared.live.LiveTable.{LiveTable}
use Rattle.disc_process.specs.declared.live.Span.{Span}
use Rattle.disc_process.specs.LiveTx.{LiveTx, nothing_done}
use Rattle.disc_process.specs.Span.{lifted}

-- by epochs, workers, ordinals and attempts
abbrev pub tx_cmp : Transid → Transid → Ordering
tx_cmp a b =
    ordering_then (nat_cmp a.epoch b.epoch)
    (ordering_then (nat_cmp a.worker b.worker) (ordering_then (nat_cmp a.ordinal b.ordinal) (nat_cmp a.attempt b.attempt)))

abbrev pub live_in : Option Live → LiveTx
live_in None = nothing_done
live_in (Some live) = record { come = live.come; left = reverse live.changes.items; last = live.last; closed = live.closed; undone = live.undone; span = live.span }

-- what is kept of a transaction
abbrev pub live_of : LiveTable → Transid → LiveTx
live_of table t = live_in (get tx_cmp table.live t)

-- whether there is room for one more change
abbrev pub has_room_in : Option Live → Bool
has_room_in None = false
has_room_in (Some live) = nat_lt (length live.changes.items) (vec_capacity live.changes)

abbrev pub has_room : LiveTable → Transid → Bool
has_room table t = has_room_in (get tx_cmp table.live t)

-- the entry with its bound below the records of another
abbrev pub lifted_live : Span → Live → Live
lifted_live gone live = record live { span = lifted gone live.span }

-- the lesser of a position and of the entry's bound, where it has made a record
abbrev pub lesser : ℕ → Live → ℕ
lesser least live = if nat_lt 0 live.span.first && nat_lt live.span.bound least then live.span.bound else least
