use Rattle.std.proofs.Common.{rules}
use Rattle.trail_replay.proofs.CommitSets.{commits-more, commits-same}
use Rattle.trail_replay.proofs.replay.add_commit.Goals as goal

pub returns-else-is_err-clause-ok : goal.returns-else-is_err-clause-ok
returns-else-is_err-clause-ok c = λ list are. commits-more list c.args.item.now c.in-Commit.tx c.args.transids.now.items c.push.new.self.items c.in-Commit.is (search rules) are

pub returns-in_default : goal.returns-in_default
returns-in_default c = record { ok = λ list are. commits-same list c.args.item.now c.args.transids.now.items c.in_default.not-Commit are; err = tt }
