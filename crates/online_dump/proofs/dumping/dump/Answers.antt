use Rattle.std.proofs.Common.{ℕ, inr, subst}
use Rattle.disc_lock.specs.Locks.{number_of}
use Rattle.std.specs.Prelude.{IfErr, IfOk, Result}
use Rattle.online_dump.specs.Dumped.{HasBegunFor, IsDumpRefusal, IsFit, WasFit}
use Rattle.online_dump.specs.declared.copying.Copying.{Copying}
use Rattle.online_dump.specs.declared.refused.DumpRefused.{DumpRefused}
use Rattle.online_dump.proofs.Since.{more_then, prefix_same}
use Rattle.online_dump.proofs.Stopping.{begun_wider, so_wider}
use Rattle.online_dump.proofs.dumping.dump.Goals as goal

pub returns-in-Ok-make_at-clause-dumped : goal.returns-in-Ok-make_at-clause-dumped
returns-in-Ok-make_at-clause-dumped g c =
    let o = g.J.Run.opening in
    let n = g.J.NodeRun.found in
    let volume : ℕ = number_of c.args.disc.now in
    let copying = c.in-Ok.copying in
    let a = c.args.seat.now in
    let b = c.begin_in-begun.new.seat in
    let d = c.make_at.new.seat in
    let before = c.args.share.now in
    let after = c.begin_in-begun.new.share in
    let begun = subst (λ (r : Result Copying DumpRefused). IfOk r (λ x. WasFit g.D.Disk o n volume a b × HasBegunFor volume c.args.item x.number x.start a b before after)) c.in-Ok.is c.begin_in-begun.ensures.begun in
    record {
      number = copying.number;
      fit = so_wider g.D.Disk o n volume a a b d (IsFit n.config volume) (prefix_same a.seen) c.make_at.ensures.seat.0.begins begun.0;
      begun = begun_wider before after volume c.args.item copying.number copying.start a a b d (prefix_same a.seen) c.make_at.ensures.seat.0.begins begun.1;
      ended = c.in-Ok-make_at.ensures.ended;
    }

pub returns-in-Ok-make_at-clause-seat : goal.returns-in-Ok-make_at-clause-seat
returns-in-Ok-make_at-clause-seat g c = more_then g.J.Run.opening c.args.seat.now c.begin_in-begun.new.seat c.make_at.new.seat c.begin_in-begun.ensures.seat c.make_at.ensures.seat

pub returns-in-Err-make_at-clause-refused : goal.returns-in-Err-make_at-clause-refused
returns-in-Err-make_at-clause-refused g c =
    let o = g.J.Run.opening in
    let n = g.J.NodeRun.found in
    let volume : ℕ = number_of c.args.disc.now in
    let copying = c.in-Ok.copying in
    let a = c.args.seat.now in
    let b = c.begin_in-begun.new.seat in
    let d = c.make_at.new.seat in
    let before = c.args.share.now in
    let after = c.begin_in-begun.new.share in
    let begun = subst (λ (r : Result Copying DumpRefused). IfOk r (λ x. WasFit g.D.Disk o n volume a b × HasBegunFor volume c.args.item x.number x.start a b before after)) c.in-Ok.is c.begin_in-begun.ensures.begun in
    let stop = c.in-Err-make_at.ensures.refused in
    inr (
      so_wider g.D.Disk o n volume a a b d (IsFit n.config volume) (prefix_same a.seen) c.make_at.ensures.seat.0.begins begun.0,
      record {
        number = copying.number;
        start = copying.start;
        between = b;
        behind = c.begin_in-begun.ensures.seat.0.begins;
        later = c.make_at.ensures.seat.0.begins;
        begun = begun.1;
        stop = stop.0;
        ended = stop.1;
      },
    )

pub returns-in-Err-make_at-clause-seat : goal.returns-in-Err-make_at-clause-seat
returns-in-Err-make_at-clause-seat g c = more_then g.J.Run.opening c.args.seat.now c.begin_in-begun.new.seat c.make_at.new.seat c.begin_in-begun.ensures.seat c.make_at.ensures.seat

pub returns-in-Err-clause-refused : goal.returns-in-Err-clause-refused
returns-in-Err-clause-refused g c =
    subst (λ (r : Result Copying DumpRefused). IfErr r (IsDumpRefusal g.D.Disk g.J.DeviceRun.devices g.J.Run.opening g.J.NodeRun.found (number_of c.args.disc.now) c.args.item c.args.seat.now c.begin_in-begun.new.seat c.args.share.now c.begin_in-begun.new.share)) c.in-Err.is c.begin_in-begun.ensures.refused
