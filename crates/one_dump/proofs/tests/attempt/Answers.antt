use Rattle.std.proofs.Common.{ap, arith}
use Rattle.one_dump.proofs.OneDump.{can_begin, first_valid}
use Rattle.one_dump.proofs.tests.attempt.Goals as goal

pub returns-clause-can : goal.returns-clause-can
returns-clause-can g c = can_begin g.J.Run.opening c.args.seat.now c.args.worker c.first_of.result c.requires.opens c.requires.worker c.requires.seat c.first_of.ensures

pub returns-clause-some : goal.returns-clause-some
returns-clause-some g c = (let w = ap (λ t. t.worker) c.first_of.ensures in let above = c.requires.worker.above in omega (arith, w, above))

pub returns-clause-valid : goal.returns-clause-valid
returns-clause-valid g c = first_valid c.args.worker c.first_of.result c.requires.worker c.first_of.ensures
