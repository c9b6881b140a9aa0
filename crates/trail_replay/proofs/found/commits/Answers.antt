use Rattle.std.proofs.Common.{rules, ◌≡◌, ◌∙◌, ap, sym, subst}
use Rattle.std.proofs.Common.{take, ◌+◌}
use Rattle.std.proofs.lemmas.List.{take_all}
use Rattle.trail_files.specs.Recovered.{commits_of}
use Rattle.trail_replay.proofs.CommitSets.{has-moved, took-commit, took-other}
use Rattle.trail_replay.proofs.found.commits.Goals as goal
use Rattle.trail_replay.proofs.found.commits.Goals.{in-Commit+in_ok-push, in_default}

pub loop-item-preserved : goal.loop-item-preserved
loop-item-preserved c = elim c.match-item.branch [
  | in-Commit+in_ok-push w ↦ subst (λ xs. xs.items ≡ commits_of (take (c.loop-item.item-index + 1) c.args.records.now)) (sym w.transids-is)
      (took-commit c.args.records.now c.loop-item.item-index w.in-Commit.tx c.loop-item.transids.items w.push.new.self.items c.loop-item-test.true w.in-Commit.is c.loop-item.invariant (search rules))
  | in_default w ↦ subst (λ xs. xs.items ≡ commits_of (take (c.loop-item.item-index + 1) c.args.records.now)) (sym w.transids-is)
      (took-other c.args.records.now c.loop-item.item-index c.loop-item.transids.items c.loop-item-test.true w.in_default.not-Commit c.loop-item.invariant)
]

pub returns : goal.returns
returns c =
    has-moved c.args.records.now c.loop-item.transids.items c.new.result
    (c.loop-item.invariant ∙ ap commits_of (take_all c.loop-item.item-index c.args.records.now c.loop-item-test.false)) c.new.ensures
