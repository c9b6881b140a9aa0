use Rattle.trail_replay.proofs.CommitSets.{same-moved}
use Rattle.trail_replay.proofs.committed.Commits.new.Goals as goal

pub returns : goal.returns
returns c = same-moved c.args.transids.items c.sort_unstable.new.self.items c.sort_unstable.ensures.permutation
