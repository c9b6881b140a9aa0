use Rattle.std.proofs.Common.{◌∙◌, ap, arith}
use Rattle.tmf_model.specs.Transid.{is_transid}
use Rattle.two_workers.proofs.tests.ask.Goals as goal

pub attempt-tx-requires : goal.attempt-tx-requires
attempt-tx-requires g c = record { opens = c.requires.run.0.opens; worker = record { above = omega arith; below = omega arith }; seat = c.requires.hand.seat_is }

pub put-one-requires-clause-valid : goal.put-one-requires-clause-valid
put-one-requires-clause-valid g c = ap is_transid c.in-Ok.ensures.begun.tx ∙ c.attempt-tx.ensures.valid

pub put-other-requires-clause-valid : goal.put-other-requires-clause-valid
put-other-requires-clause-valid g c = ap is_transid (c.put-one.ensures.tx ∙ c.in-Ok.ensures.begun.tx) ∙ c.attempt-tx.ensures.valid
