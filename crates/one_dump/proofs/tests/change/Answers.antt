use Rattle.std.proofs.Common.{◌∙◌, ap, arith}
use Rattle.tmf_model.specs.Transid.{is_transid}
use Rattle.one_dump.proofs.tests.change.Goals as goal

pub attempt-tx-requires : goal.attempt-tx-requires
attempt-tx-requires g c = record { opens = c.requires.run.0.opens; worker = record { above = omega arith; below = omega arith }; seat = c.requires.hand.seat_is }

pub put-is_put-requires-clause-valid : goal.put-is_put-requires-clause-valid
put-is_put-requires-clause-valid g c = ap is_transid c.in-Ok.ensures.begun.tx ∙ c.attempt-tx.ensures.valid
