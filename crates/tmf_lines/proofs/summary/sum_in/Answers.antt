use Rattle.std.proofs.Common.{arith, rules, FitsSigned}
use Rattle.std.specs.Int.{w64}
use Rattle.std.proofs.lemmas.Int.{ints}
use Rattle.tmf_lines.proofs.Sums.{sum_in-next}
use Rattle.tmf_lines.proofs.summary.sum_in.Goals as goal

pub loop-line-preserved : goal.loop-line-preserved
loop-line-preserved c =
    let fits : FitsSigned w64 c.value_in.result = search rules in
    let next = sum_in-next c.args.name.now c.args.lines.now c.loop-line.line-index c.line-item.result c.loop-line-test.true c.line-item.is in
    record {
      least = omega (arith, ints);
      most = omega (arith, ints);
      summed = omega (arith, ints, next, c.loop-line.invariant.summed);
    }
