use Rattle.std.specs.List.{list_any}
use Rattle.std.specs.List.Sorted.{IsSorted}
use Rattle.std.proofs.Common.{◌∙◌, ap, subst, sym}
use Rattle.trail_files.specs.MonitorOrder.{is_same_transid}
use Rattle.trail_replay.specs.Reading.{transid_cmp}
use Rattle.trail_replay.proofs.CommitSets.{searched}
use Rattle.trail_replay.proofs.committed.Commits.contains.Goals as goal

pub returns : goal.returns
returns c =
    let is = c.deref.ensures.value in
    c.is_ok.ensures.value
    ∙ searched c.deref.result.now c.args.tx.now c.binary_search.result (subst (IsSorted transid_cmp) (sym is) c.self.invariant) c.binary_search.ensures.bound c.binary_search.ensures.position
    ∙ ap (list_any (is_same_transid c.args.tx.now)) (is ∙ c.self.view_is)
