use Rattle.std.proofs.Common.{◌≤◌, ◌-◌, length, arith}
use Rattle.tmf_edges.proofs.Portions.{read_more}
use Rattle.tmf_edges.proofs.reading.read_to_limit.Goals as goal

pub loop-portion-preserved : goal.loop-portion-preserved
loop-portion-preserved g c =
    let told = c.in_ok-count.ensures in
    let small : c.min-wanted.result ≤ c.args.limit - length c.loop-portion.bytes.items = omega (arith, c.min-wanted.ensures, c.len-in-loop-portion.ensures) in
    read_more _ _ _ _ _ _ _ _ _ _ _ _ _ _ _ _ c.loop-portion.invariant told.tells told.told c.in_ok-extend_from_slice.ensures.items told.within small told.cause.later
