use Rattle.std.proofs.Common.{◌-◌, length}
use Rattle.tmf_edges.proofs.Portions.{IsReadTo}
use Rattle.tmf_edges.proofs.reading.read_to_limit.Given as goal

abbrev pub invariant-loop-portion : goal.invariant-loop-portion
invariant-loop-portion g l =
    IsReadTo (g.S.Source.tells l.fn.source) (g.S.Source.tells l.source) (g.S.Source.rest l.fn.source) (g.S.Source.rest l.source) l.bytes.items l.limit (g.S.Source.faults l.fn.source) (g.S.Source.faults l.source)

abbrev pub decreases-loop-portion : goal.decreases-loop-portion
decreases-loop-portion g l = l.limit - length l.bytes.items
