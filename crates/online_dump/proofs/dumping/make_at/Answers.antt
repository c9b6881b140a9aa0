use Rattle.std.specs.Prelude.{IfErr, IfSome, OnOk, Result}
use Rattle.std.proofs.Common.{ℕ, Option, subst}
use Rattle.disc_lock.specs.Locks.{number_of}
use Rattle.online_dump.specs.Dumped.{HasSeenEnd, HasSeenSeal, IsStopFor}
use Rattle.online_dump.specs.declared.refused.DumpRefused.{DumpRefused}
use Rattle.online_dump.proofs.Since.{more_same, more_then}
use Rattle.online_dump.proofs.Stopping.{stopped_wider}
use Rattle.online_dump.proofs.dumping.make_at.Goals as goal

pub loop-init : goal.loop-init
loop-init g c = more_same g.J.Run.opening c.args.seat.now c.lawful.ensures

pub loop-preserved : goal.loop-preserved
loop-preserved g c = more_then g.J.Run.opening c.args.seat.now c.loop.seat c.go_on_in-ended.new.seat c.loop.invariant c.go_on_in-ended.ensures.seat

pub returns-in-Some-ended-clause-ended : goal.returns-in-Some-ended-clause-ended
returns-in-Some-ended-clause-ended g c =
    subst (λ (r : Option (Result (Unit {0}) DumpRefused)). IfSome r (λ x. OnOk x (HasSeenSeal g.J.NodeRun.found.config (number_of c.args.disc.now) c.args.copying.number c.args.copying.start c.go_on_in-ended.new.seat))) c.in-Some-ended.is c.go_on_in-ended.ensures.ended

pub returns-in-Some-ended-clause-refused : goal.returns-in-Some-ended-clause-refused
returns-in-Some-ended-clause-refused g c =
    let volume : ℕ = number_of c.args.disc.now in
    let b = c.loop.seat in
    let d = c.go_on_in-ended.new.seat in
    let stop = subst (λ (r : Option (Result (Unit {0}) DumpRefused)). IfSome r (λ x. IfErr x (λ e. IsStopFor g.D.Disk g.J.DeviceRun.devices g.J.NodeRun.found volume c.args.item b d e × HasSeenEnd volume c.args.copying.number d))) c.in-Some-ended.is c.go_on_in-ended.ensures.refused in
    stopped_wider g.D.Disk g.J.DeviceRun.devices g.J.NodeRun.found volume c.args.item c.args.copying.number c.args.seat.now b d c.in-Some-ended.ended c.loop.invariant.0.begins stop

pub returns-in-Some-ended-clause-seat : goal.returns-in-Some-ended-clause-seat
returns-in-Some-ended-clause-seat g c = more_then g.J.Run.opening c.args.seat.now c.loop.seat c.go_on_in-ended.new.seat c.loop.invariant c.go_on_in-ended.ensures.seat
