use Rattle.std.proofs.Common.{sym, ◌∙◌}
use Rattle.run_worker.proofs.Leaving.{no_receipt, receipt_place}
use Rattle.run_worker.proofs.ending.commit_place.Goals as goal

pub unreachable-requires : goal.unreachable-requires
unreachable-requires g c = no_receipt c.args.tx.now (sym c.receipt.ensures ∙ c.in-None.is) c.requires

pub returns : goal.returns
returns g c = receipt_place c.args.tx.now c.in-Some.receipt (sym c.receipt.ensures ∙ c.in-Some.is)
