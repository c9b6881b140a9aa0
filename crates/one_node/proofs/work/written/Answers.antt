use Rattle.std.proofs.Common.{◌∙◌, ap, sym, arith}
use Rattle.tmf_model.specs.Transid.{is_transid}
use Rattle.one_node.proofs.work.written.Goals as goal

pub attempt-tx-requires : goal.attempt-tx-requires
attempt-tx-requires g c = record { opens = c.requires.run.0.opens; worker = c.requires.hand.0; seat = c.requires.hand.1.seat_is }

pub put-requires-clause-valid : goal.put-requires-clause-valid
put-requires-clause-valid g c = ap is_transid (c.loop-number.invariant.tx ∙ sym c.attempt-tx.ensures.tx) ∙ c.attempt-tx.ensures.valid
