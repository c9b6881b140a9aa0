use Rattle.std.proofs.Common.{◌≡◌}
use Rattle.chronicle.specs.Seats.{new_seats}
use Rattle.chronicle.specs.Holders.{IsDealing}
use Rattle.chronicle.proofs.started.deal_all.Given as goal

abbrev pub invariant-loop-part : goal.invariant-loop-part
invariant-loop-part g l = record {
  dealing : IsDealing g.J.Run.table g.J.Run.opening l.part l.all;
  seats : l.seats.items ≡ new_seats l.part;
}
