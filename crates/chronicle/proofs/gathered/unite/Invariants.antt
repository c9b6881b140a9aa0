use Rattle.std.proofs.Common.{◌⊎◌, vec_len}
use Rattle.std.specs.List.{Contains}
use Rattle.chronicle.specs.Seats.{Sight}
use Rattle.chronicle.specs.Holders.{IsHolder, Took}
use Rattle.chronicle.proofs.gathered.unite.Given as goal

abbrev pub invariant-loop-seat : goal.invariant-loop-seat
invariant-loop-seat g l = record {
  united : IsHolder g.M.Machine.rules g.J.Run.table g.J.Run.opening l.all;
  took : (v : Sight g.row.M-Event.Denot) → Contains l.fn.seats.items v → Took l.all.me.0 v ⊎ Contains l.seats.items v;
}

abbrev pub decreases-loop-seat : goal.decreases-loop-seat
decreases-loop-seat g l = vec_len l.seats
