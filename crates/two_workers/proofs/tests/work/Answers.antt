use Rattle.std.proofs.Common.{◌∙◌, ap, sym, arith}
use Rattle.tmf_model.specs.Transid.{is_transid}
use Rattle.two_workers.proofs.tests.work.Goals as goal

pub attempt-tx-requires : goal.attempt-tx-requires
attempt-tx-requires g c =
    let within = c.requires.worker in
    let below = within.below in
    record { opens = c.requires.run.0.opens; worker = record { above = within.above; below = omega (arith, below) }; seat = c.requires.hand.seat_is }

pub put-answer-requires-clause-valid : goal.put-answer-requires-clause-valid
put-answer-requires-clause-valid g c = ap is_transid (c.loop-number.invariant.tx ∙ sym c.attempt-tx.ensures.tx) ∙ c.attempt-tx.ensures.valid
