use Rattle.std.proofs.Common.{length, ◌-◌}
use Rattle.tmf_edges.proofs.Portions.{IsGivenTo}
use Rattle.tmf_edges.proofs.giving.give_all.Given as goal

abbrev pub invariant-loop-at : goal.invariant-loop-at
invariant-loop-at g l =
    IsGivenTo (g.K.Sink.tells l.fn.sink) (g.K.Sink.tells l.sink) (g.K.Sink.given l.fn.sink) (g.K.Sink.given l.sink) l.piece l.at (g.K.Sink.faults l.fn.sink) (g.K.Sink.faults l.sink)

abbrev pub decreases-loop-at : goal.decreases-loop-at
decreases-loop-at g l = length l.piece - l.at
