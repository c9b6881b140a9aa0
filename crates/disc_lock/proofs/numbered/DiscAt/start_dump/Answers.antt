use Rattle.std.proofs.Common.{refl}
use Rattle.disc_lock.proofs.Kept.{counted_one, given_one, started_answer, started_ends, started_of, started_taken}
use Rattle.disc_lock.proofs.numbered.DiscAt.start_dump.Goals as goal

pub invariant_of-self : goal.invariant_of-self
invariant_of-self g c =
    let old = c.args.self.now.state in
    let new = c.start_dump-started.new.self in
    let e = c.start_dump-started.ensures in
    let r = c.start_dump-started.result in
    record {
      is = started_of old new c.args.item g.J.Run.opening g.J.NodeRun.found r e.disc e.started e.busy c.args.self.now.is;
      ends = started_ends old new c.args.item c.args.self.now.unended r e.started e.busy c.args.self.now.ends;
      counted = counted_one c.args.self.now.share c.transfer.new.to old.seat new.seat (started_taken old new c.args.item r e.started e.busy) c.transfer.ensures.parts_given c.transfer.ensures.amount_given c.args.self.now.counted;
    }

pub returns-clause-given : goal.returns-clause-given
returns-clause-given g c = given_one c.args.share.now c.transfer.new.self _ refl c.transfer.ensures.parts_left c.transfer.ensures.amount_left

pub returns-clause-answered : goal.returns-clause-answered
returns-clause-answered g c = (let e = c.start_dump-started.ensures in started_answer c.args.self.now.state c.start_dump-started.new.self c.args.item c.start_dump-started.result e.started e.busy)
