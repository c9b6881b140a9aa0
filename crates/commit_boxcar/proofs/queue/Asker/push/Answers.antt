use Rattle.std.proofs.Common.{sym, subst}
use Rattle.commit_boxcar.specs.Requests.{IsDue, IsOf}
use Rattle.commit_boxcar.proofs.Ruled.{pushes}
use Rattle.commit_boxcar.proofs.queue.Asker.push.Goals as goal

pub push_as-requires-clause-rule : goal.push_as-requires-clause-rule
push_as-requires-clause-rule g c =
    let own = subst (λ t. IsOf t.worker c.args.waiting) (sym c.self.view_is) c.requires.own in
    let due = subst (λ t. IsDue t.last c.args.waiting) (sym c.self.view_is) c.requires.due in
    λ n. pushes n _ _ _ _ c.args.waiting c.self.invariant.1 own due
