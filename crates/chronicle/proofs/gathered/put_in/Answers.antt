use Rattle.std.proofs.Common.{subst}
use Rattle.chronicle.specs.Seats.{Sight}
use Rattle.chronicle.specs.Holders.{Took}
use Rattle.chronicle.proofs.Seating.{took_it, keeps_it}
use Rattle.chronicle.proofs.gathered.put_in.Goals as goal

pub returns-clause-took : goal.returns-clause-took
returns-clause-took g c =
    subst (λ (x : Sight g.row.M-Event.Denot). Took c.join.new.pass.me.0 x) c.into_pass.ensures.same
    (took_it g.M.Machine.rules c.args.all.now.me.0 c.into_pass.result.me.0 c.join.new.pass.me.0 c.join.ensures.taken)

pub returns-clause-kept : goal.returns-clause-kept
returns-clause-kept g c = keeps_it g.M.Machine.rules c.args.all.now.me.0 c.into_pass.result.me.0 c.join.new.pass.me.0 c.join.ensures.taken
