use Rattle.std.proofs.Common.{arith}
use Rattle.tmf_script.proofs.Numbers.{count_of-is, count_of-beyond, count_of-none}
use Rattle.tmf_script.proofs.field.count.Goals as goal
use Rattle.tmf_script.proofs.field.count.Goals.{else-least-number-via-then-least-number+else-number-most, else-least-number-via-else-least-number}

pub returns-then-number-most-clause-exact : goal.returns-then-number-most-clause-exact
returns-then-number-most-clause-exact c =
    count_of-is c.args.least c.args.most c.args.word.now c.in-Some.number (omega (arith, c.ranges.most.fits)) c.in-Some.ensures c.if-least-number.true c.if-number-most.true

pub returns-else-least-number-clause-exact : goal.returns-else-least-number-clause-exact
returns-else-least-number-clause-exact c =
    count_of-beyond c.args.least c.args.most c.args.word.now c.in-Some.number (omega arith) c.in-Some.ensures
    (λ within. elim c.else-least-number.branch [
      | else-least-number-via-then-least-number+else-number-most w ↦ omega (arith, within.1)
      | else-least-number-via-else-least-number w ↦ omega (arith, within.0)
    ])

pub returns-in-None-clause-exact : goal.returns-in-None-clause-exact
returns-in-None-clause-exact c =
    count_of-none c.args.least c.args.most c.args.word.now (omega (arith, c.ranges.most.fits)) c.in-None.ensures
