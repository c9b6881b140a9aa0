use Rattle.std.proofs.Common.{◌≡◌, ◌+◌, ℕ, inl, ap, ◌∙◌, subst}
use Rattle.node_machine.specs.declared.event.By.TheVariants.{Attempt}
use Rattle.node_machine.specs.declared.event.DumpEvent.TheVariants.{Failed}
use Rattle.node_machine.specs.declared.event.Event.TheVariants.{OfDump}
use Rattle.node_machine.specs.Opening.{dump_part}
use Rattle.node_machine.specs.Parts.{DumpPart}
use Rattle.disc_lock.specs.Locks.{number_of}
use Rattle.online_dump.specs.Dumped.{HasBegunFor, HasSeenSince, IsDumpRefusal, IsFit, IsNextRefusal, WasFit}
use Rattle.online_dump.proofs.Since.{if_err, if_ok, more_then, prefix_same, prefix_then, since_more}
use Rattle.online_dump.proofs.Stopping.{begun_wider, gives_none, next_refused, so_wider}
use Rattle.online_dump.proofs.making.begin_in.Goals as goal

pub returns-in-Some-clause-refused : goal.returns-in-Some-clause-refused
returns-in-Some-clause-refused g c = inl (c.in-Some.ensures.spent, gives_none c.args.share.now)

pub returns-in-Some-clause-number : goal.returns-in-Some-clause-number
returns-in-Some-clause-number g c = ap (λ (s : DumpPart). s.number) c.spent_in.ensures.state.seat.had.part

pub begin_next-requires-clause-number : goal.begin_next-requires-clause-number
begin_next-requires-clause-number g c = c.settle_in.ensures.number ∙ ap (λ (s : DumpPart). s.number) c.spent_in.ensures.state.seat.had.part ∙ c.requires.number

pub begin_next-requires-clause-certain : goal.begin_next-requires-clause-certain
begin_next-requires-clause-certain g c = c.in-Ok.ensures.settled

pub returns-in-Ok-clause-begun : goal.returns-in-Ok-clause-begun
returns-in-Ok-clause-begun g c =
    let o = g.J.Run.opening in
    let n = g.J.NodeRun.found in
    let volume : ℕ = number_of c.args.disc.now in
    let a = c.args.seat.now in
    let b = c.spent_in.new.seat in
    let m = c.settle_in.new.seat in
    let d = c.begin_next.new.seat in
    let before = c.args.share.now in
    let after = c.begin_next.new.share in
    if_ok (λ x. HasBegunFor volume c.args.item x.number x.start m d before after) (λ x. WasFit g.D.Disk o n volume a d × HasBegunFor volume c.args.item x.number x.start a d before after) c.begin_next.result
    (λ x h. (
      so_wider g.D.Disk o n volume a a b d (IsFit n.config volume) (prefix_same a.seen) (prefix_then b.seen m.seen d.seen c.settle_in.ensures.seat.0.begins c.begin_next.ensures.seat.0.begins) c.in-None.ensures.spent,
      begun_wider before after volume c.args.item x.number x.start a m d d (prefix_then a.seen b.seen m.seen c.spent_in.ensures.seat.0.begins c.settle_in.ensures.seat.0.begins) (prefix_same d.seen) h,
    ))
    c.begin_next.ensures.begun

pub returns-in-Ok-clause-refused : goal.returns-in-Ok-clause-refused
returns-in-Ok-clause-refused g c =
    let o = g.J.Run.opening in
    let n = g.J.NodeRun.found in
    let volume : ℕ = number_of c.args.disc.now in
    let a = c.args.seat.now in
    let b = c.spent_in.new.seat in
    let m = c.settle_in.new.seat in
    let d = c.begin_next.new.seat in
    let before = c.args.share.now in
    let after = c.begin_next.new.share in
    if_err (IsNextRefusal g.D.Disk g.J.DeviceRun.devices o n volume c.args.item m d before after) (IsDumpRefusal g.D.Disk g.J.DeviceRun.devices o n volume c.args.item a d before after) c.begin_next.result
    (λ e h. next_refused g.D.Disk g.J.DeviceRun.devices o n volume c.args.item a b m d before after (prefix_then a.seen b.seen m.seen c.spent_in.ensures.seat.0.begins c.settle_in.ensures.seat.0.begins)
    (prefix_then b.seen m.seen d.seen c.settle_in.ensures.seat.0.begins c.begin_next.ensures.seat.0.begins) c.in-None.ensures.spent e h)
    c.begin_next.ensures.refused

pub returns-in-Ok-clause-number : goal.returns-in-Ok-clause-number
returns-in-Ok-clause-number g c = c.begin_next.ensures.number ∙ c.settle_in.ensures.number ∙ ap (λ (s : DumpPart). s.number) c.spent_in.ensures.state.seat.had.part

pub returns-in-Ok-clause-seat : goal.returns-in-Ok-clause-seat
returns-in-Ok-clause-seat g c =
    let o = g.J.Run.opening in
    let b = c.spent_in.new.seat in
    let m = c.settle_in.new.seat in
    more_then o c.args.seat.now m c.begin_next.new.seat (more_then o c.args.seat.now b m c.spent_in.ensures.seat c.settle_in.ensures.seat) c.begin_next.ensures.seat

pub returns-in-Err-clause-refused : goal.returns-in-Err-clause-refused
returns-in-Err-clause-refused g c =
    let o = g.J.Run.opening in
    let n = g.J.NodeRun.found in
    let volume : ℕ = number_of c.args.disc.now in
    let a = c.args.seat.now in
    let b = c.spent_in.new.seat in
    let d = c.settle_in.new.seat in
    let e = OfDump (Failed (Attempt c.args.item)) in
    let before : c.spent_in.new.state.seat.part.number ≡ volume = ap (λ (s : DumpPart). s.number) c.spent_in.ensures.state.seat.had.part ∙ c.requires.number in
    inl (
      so_wider g.D.Disk o n volume a a b d (IsFit n.config volume) (prefix_same a.seen) c.settle_in.ensures.seat.0.begins c.in-None.ensures.spent,
      c.device.ensures ∙ ap (λ (k : ℕ). 12 + k) (c.settle_in.ensures.number ∙ before),
      since_more (dump_part volume) e a b d d c.spent_in.ensures.seat.0.begins (prefix_same d.seen) (subst (λ (k : ℕ). HasSeenSince (dump_part k) e b d) before c.in-Err.ensures.failed),
      gives_none c.args.share.now,
    )

pub returns-in-Err-clause-number : goal.returns-in-Err-clause-number
returns-in-Err-clause-number g c = c.settle_in.ensures.number ∙ ap (λ (s : DumpPart). s.number) c.spent_in.ensures.state.seat.had.part

pub returns-in-Err-clause-seat : goal.returns-in-Err-clause-seat
returns-in-Err-clause-seat g c = more_then g.J.Run.opening c.args.seat.now c.spent_in.new.seat c.settle_in.new.seat c.spent_in.ensures.seat c.settle_in.ensures.seat
