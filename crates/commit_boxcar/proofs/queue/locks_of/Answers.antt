use Rattle.std.proofs.Common.{◌+◌, length, ap, ◌∙◌, subst, arith, ◌-◌}
use Rattle.std.proofs.lemmas.List.{length_push}
use Rattle.crossbeam_queue.specs.SegTies.{IsSegPassOf}
use Rattle.commit_boxcar.proofs.Ruled.{first_cut, forks_first, left_over, rest_cut}
use Rattle.commit_boxcar.proofs.queue.locks_of.Goals as goal

pub another-theirs-requires-clause-rule : goal.another-theirs-requires-clause-rule
another-theirs-requires-clause-rule g c =
    let w = c.loop-worker.worker in
    forks_first _ _ w (16 - w) (ap (λ v. v.asks) (left_over _ w (omega arith) c.loop-worker.invariant.1))

pub new-requires-clause-alone : goal.new-requires-clause-alone
new-requires-clause-alone g c =
    let w = c.loop-worker.worker in
    c.another-theirs.ensures.rule.1 ∙ first_cut _ w (16 - w) (left_over _ w (omega arith) c.loop-worker.invariant.1)

pub loop-worker-preserved : goal.loop-worker-preserved
loop-worker-preserved g c =
    let w = c.loop-worker.worker in (
      subst (λ q. IsSegPassOf q c.another-theirs.new.pass) c.requires.queue c.another-theirs.ensures.queue.0,
      c.another-theirs.ensures.rule.0 ∙ rest_cut _ w (16 - w) _ _ (left_over _ w (omega arith) c.loop-worker.invariant.1) (omega arith) (omega arith),
      ap (λ l. length l) c.in_ok-push.ensures.items ∙ length_push _ _ ∙ ap (λ n. n + 1) c.loop-worker.invariant.2,
    )
