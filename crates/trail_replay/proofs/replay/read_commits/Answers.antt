use Rattle.std.proofs.Common.{[], ◌∷◌, ◌++◌, ap, rules, refl, sym, subst, IsTrue, ◌∙◌}
use Rattle.std.proofs.lemmas.Result.{err_from_is_err_and}
use Rattle.trail_files.specs.Content.{records_in}
use Rattle.trail_files.specs.Recovered.{commits_of}
use Rattle.trail_replay.specs.Rules.{monitor_formats}
use Rattle.trail_replay.proofs.CommitSets.{has-moved}
use Rattle.trail_replay.proofs.Readings.{read-more, read-all, none-next}
use Rattle.trail_replay.proofs.Passes.{front-placed}
use Rattle.trail_replay.proofs.replay.read_commits.Goals as goal

pub loop-transids-init : goal.loop-transids-init
loop-transids-init g c = record {
  told = λ list is.
      let front = front-placed g.D.Disk monitor_formats c.args.monitor.now c.cursor-cursor.result list c.cursor-cursor.ensures.holds c.cursor-cursor.ensures.reads is in
      (front.0, front.2, [], front.1, c.new-transids.ensures.items);
  holds = λ content holds. holds;
  keeps = search rules;
  same = refl;
  phase = refl;
}

pub returns-in_err-item-clause-told : goal.returns-in_err-item-clause-told
returns-in_err-item-clause-told g c = λ list is.
    let so_far = c.loop-transids.invariant.told list is in
    let p = err_from_is_err_and c.from_residual.result c.from_residual.ensures.1 in
    rw (p.1, p.2) (c.in_err-item.ensures.damage.undamaged so_far.0 (subst IsTrue (sym c.loop-transids.invariant.keeps.device.tells) is.0) so_far.1)

pub loop-transids-preserved : goal.loop-transids-preserved
loop-transids-preserved g c = record {
  told = λ list is.
      let so_far = c.loop-transids.invariant.told list is in
      let next = rw c.in-Some.is at (c.in_ok-item.ensures.passes.next so_far.0 (subst IsTrue (sym c.loop-transids.invariant.keeps.device.tells) is.0) so_far.1) in (
        next.0,
        next.2,
        so_far.2 ++ c.in-Some.item ∷ [],
        read-more so_far.2 (so_far.2 ++ c.in-Some.item ∷ []) (records_in so_far.0) (records_in next.0) list c.in-Some.item refl (ap records_in next.1) so_far.3,
        c.in_ok-add_commit.ensures.ok so_far.2 so_far.4,
      );
  holds = λ content holds. c.next.ensures.frame.holds content (c.loop-transids.invariant.holds content holds);
  keeps = search rules;
  same = c.next.ensures.frame.same ∙ c.loop-transids.invariant.same;
  phase = ap (λ v. v.phase) c.next.ensures.frame.view ∙ c.loop-transids.invariant.phase;
}

pub returns-clause-told : goal.returns-clause-told
returns-clause-told g c = λ list is.
    let so_far = c.loop-transids.invariant.told list is in
    let next = c.in_ok-item.ensures.passes.next so_far.0 (subst IsTrue (sym c.loop-transids.invariant.keeps.device.tells) is.0) so_far.1 in
    has-moved list c.loop-transids.transids.items c.new.result
    (so_far.4 ∙ ap commits_of (read-all so_far.2 (records_in so_far.0) list (ap records_in (none-next c.in_ok-item.field-0 _ _ c.in_default.not-Some next)) so_far.3)) c.new.ensures
