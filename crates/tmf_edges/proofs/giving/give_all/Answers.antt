use Rattle.tmf_edges.proofs.Portions.{given_more}
use Rattle.tmf_edges.proofs.giving.give_all.Goals as goal

pub loop-at-preserved : goal.loop-at-preserved
loop-at-preserved g c =
    let told = c.in_ok-at.ensures in
    given_more _ _ _ _ _ _ _ _ _ _ _ _ c.loop-at.invariant told.tells told.within told.told told.cause.later
