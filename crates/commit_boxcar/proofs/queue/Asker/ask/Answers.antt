use Rattle.std.proofs.Common.{ap, sym, ◌∙◌, subst}
use Rattle.commit_boxcar.specs.Requests.{IsAsFar}
use Rattle.commit_boxcar.proofs.Ruled.{as_far}
use Rattle.commit_boxcar.proofs.queue.Asker.ask.Goals as goal

pub returns-in-Some-clause-asked : goal.returns-in-Some-clause-asked
returns-in-Some-clause-asked g c = subst (λ r. IsAsFar c.args.waiting r) (sym c.receipt.ensures.receipt) (as_far c.args.self.now c.args.tx c.args.waiting c.in-Some.last c.requires.ends (c.if-tx-self.false ∙ ap (λ t. t.worker) c.self.view_is) c.in-Some.ensures)
