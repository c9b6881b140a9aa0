-- What ends a transaction's changes at a disc.
use Rattle.std.specs.Prelude.{◌≡◌, ◌++◌}
use Rattle.chronicle.specs.Seats.{own_events}
use Rattle.tmf_model.specs.declared.transid.Transid.{Transid}
use Rattle.disc_process.specs.Disc.{DiscView, closings}

-- the disc has had the close of the transaction, where it had none, and no other event
abbrev pub HasClosed : {D : Type 0} → DiscView D → DiscView D → Transid → Type 0
HasClosed old new t = own_events new.seat ≡ own_events old.seat ++ closings old.part.events t

-- the disc has had no event
abbrev pub IsIdleDisc : {D : Type 0} → DiscView D → DiscView D → Type 0
IsIdleDisc old new = own_events new.seat ≡ own_events old.seat
