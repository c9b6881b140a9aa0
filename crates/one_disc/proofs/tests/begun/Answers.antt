use Rattle.std.proofs.Common.{ap, arith}
use Rattle.one_disc.proofs.OneDisc.{can_begin}
use Rattle.one_disc.proofs.tests.begun.Goals as goal

pub begin-requires : goal.begin-requires
begin-requires g c =
    let which = c.requires.worker in
    let tx = c.first_of.ensures in
    let own = ap (λ t. t.worker) tx in
    record {
      can = can_begin g.J.Run.opening c.args.seat c.args.worker c.first_of.result c.requires.opens which c.requires.seat tx;
      worker = omega (arith, which, own);
    }
