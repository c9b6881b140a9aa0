use Rattle.std.proofs.Common.{◌≡◌, ◌≤◌, ◌+◌, ◌∙◌, Err, ap, inl, inr, ℕ, sym, subst}
use Rattle.chronicle.specs.Seats.{HasNewlySeen, Knows}
use Rattle.node_machine.specs.declared.event.By.TheVariants.{Attempt}
use Rattle.node_machine.specs.declared.event.Event.TheVariants.{OfTrail}
use Rattle.node_machine.specs.declared.event.TrailEvent.TheVariants as trail_did
use Rattle.node_machine.specs.Node.{node}
use Rattle.node_machine.specs.Opening.{trail_part}
use Rattle.node_machine.specs.Parts.Fact.{Floor}
use Rattle.node_machine.specs.Trail.{trail_of}
use Rattle.audit_writer.specs.Writer.{IsWriter}
use Rattle.audit_writer.specs.Writers.{number_of as trail_number}
use Rattle.disc_lock.specs.Locks.{number_of}
use Rattle.control_point.specs.Control.{HasMoved, IsControlRefusal, IsDiscSpent, IsFit, WasSo}
use Rattle.control_point.specs.Given.{HasGivenToControl}
use Rattle.control_point.specs.Purged.{WasPurged}
use Rattle.control_point.specs.declared.refused.ControlRefused.{ControlRefused}
use Rattle.control_point.proofs.Given.{cut_behind, given_at_none, given_at_some, given_wider, gives_none, refused_given}
use Rattle.control_point.proofs.Moves.{at_none, at_some, disc_spent, if_at_some, moved_earlier, number_few, refused_of, was_so_wider}
use Rattle.control_point.proofs.Stops.{more_then, prefix_same, prefix_then, since_newly, since_wider}
use Rattle.control_point.proofs.controlling.control.Goals as goal

pub spent-requires : goal.spent-requires
spent-requires g c = c.writer_of-writer.ensures

pub returns-in-Some-clause-refused : goal.returns-in-Some-clause-refused
returns-in-Some-clause-refused g c = c.in-Some.ensures.is

pub returns-in-Some-clause-given : goal.returns-in-Some-clause-given
returns-in-Some-clause-given g c = gives_none c.args.share.now

pub returns-in-Ok-None-clause-refused : goal.returns-in-Ok-None-clause-refused
returns-in-Ok-None-clause-refused g c =
    let o = g.J.Run.opening in
    let config = g.J.NodeRun.found.config in
    let number : ℕ = number_of c.args.disc.now in
    let old = c.args.seat.now in
    let mid = c.spent.new.seat in
    let new = c.moved.new.seat in
    disc_spent g.D.Disk o config number (15 + c.from.result) old new (ap (λ (n : ℕ). 15 + n) (c.from.ensures ∙ c.number.ensures))
    (was_so_wider g.D.Disk o config number old mid new new (IsDiscSpent config number) c.spent.ensures.seat.0.begins (prefix_same new.seen)
    (at_none (WasSo g.D.Disk o config number mid new (IsDiscSpent config number)) (λ x. HasMoved g.D.Disk o config number (Attempt c.args.item) x.0 x.1 mid new) c.in-Ok-None.field-0 c.in-Ok-None.field-0-is c.in-Ok-None.ensures.moved))

pub returns-in-Ok-None-clause-seat : goal.returns-in-Ok-None-clause-seat
returns-in-Ok-None-clause-seat g c = more_then g.J.Run.opening c.args.seat.now c.spent.new.seat c.moved.new.seat c.spent.ensures.seat c.moved.ensures.seat

pub returns-in-Ok-None-clause-given : goal.returns-in-Ok-None-clause-given
returns-in-Ok-None-clause-given g c =
    given_at_none g.J.NodeRun.found.config (number_of c.args.disc.now) c.args.item c.spent.new.seat c.moved.new.seat c.in-Ok-None.field-0 c.args.share.now c.moved.new.share c.in-Ok-None.field-0-is c.in-Ok-None.ensures.given

pub returns-in-Err-clause-refused : goal.returns-in-Err-clause-refused
returns-in-Err-clause-refused g c =
    let config = g.J.NodeRun.found.config in
    let number : ℕ = number_of c.args.disc.now in
    let old = c.args.seat.now in
    let mid = c.spent.new.seat in
    let new = c.moved.new.seat in
    subst (λ (r : ControlRefused). IsControlRefusal g.D.Disk g.J.Run.opening config number (Attempt c.args.item) old new r) (sym c.refused_from.ensures)
    (refused_of g.D.Disk g.J.Run.opening config number (Attempt c.args.item) old mid new c.in-Err.refused
    (was_so_wider g.D.Disk g.J.Run.opening config number old old mid new (IsFit config number) (prefix_same old.seen) c.moved.ensures.seat.0.begins c.in-None.ensures.is)
    c.spent.ensures.seat.0.begins c.in-Err.ensures.refused)

pub returns-in-Err-clause-seat : goal.returns-in-Err-clause-seat
returns-in-Err-clause-seat g c = more_then g.J.Run.opening c.args.seat.now c.spent.new.seat c.moved.new.seat c.spent.ensures.seat c.moved.ensures.seat

pub returns-in-Err-clause-given : goal.returns-in-Err-clause-given
returns-in-Err-clause-given g c =
    let config = g.J.NodeRun.found.config in
    let number : ℕ = number_of c.args.disc.now in
    let old = c.args.seat.now in
    let mid = c.spent.new.seat in
    let new = c.moved.new.seat in
    let e = c.in-Err.refused in
    let before = c.args.share.now in
    let after = c.moved.new.share in
    subst (λ (r : ControlRefused). HasGivenToControl {A = ℕ} config number c.args.item old new (Err r) before after) (sym c.refused_from.ensures)
    (refused_given config number c.args.item old new e before after
    (given_wider {A = ℕ × ℕ} config number c.args.item old mid new new (Err e) before after c.spent.ensures.seat.0.begins (prefix_same new.seen) c.in-Err.ensures.given))

pub purge_trail-requires-clause-small : goal.purge_trail-requires-clause-small
purge_trail-requires-clause-small g c = subst (λ (n : ℕ). n ≤ 8) (sym c.number-2.ensures) (number_few c.args.disc.now)

pub purge_trail-requires-clause-known : goal.purge_trail-requires-clause-known
purge_trail-requires-clause-known g c = subst (λ (n : ℕ). Knows node g.J.Run.opening c.moved.new.seat (Floor n c.in-Ok-Some.position.1)) (sym c.number-2.ensures)
    (if_at_some (λ x. Knows node g.J.Run.opening c.moved.new.seat (Floor (number_of c.args.disc.now) x.1)) c.in-Ok-Some.field-0 c.in-Ok-Some.position c.in-Ok-Some.field-0-is c.in-Ok-Some.ensures.floor)

pub returns-in-Ok-clause-controlled : goal.returns-in-Ok-clause-controlled
returns-in-Ok-clause-controlled g c =
    let o = g.J.Run.opening in
    let config = g.J.NodeRun.found.config in
    let number : ℕ = number_of c.args.disc.now in
    let by = Attempt c.args.item in
    let old = c.args.seat.now in
    let mid = c.spent.new.seat in
    let between = c.moved.new.seat in
    let new = c.purge_trail.new.caller in
    let low : ℕ = c.in-Ok-Some.position.0 in
    let floor : ℕ = c.in-Ok-Some.position.1 in
    let one = IsWriter g.D.Disk o g.J.NodeRun.found g.J.NodeRun.rules g.J.NodeRun.faults g.J.NodeRun.premise g.J.DeviceRun.devices in
    record {
      fit = was_so_wider g.D.Disk o config number old old mid new (IsFit config number) (prefix_same old.seen) (prefix_then mid.seen between.seen new.seen c.moved.ensures.seat.0.begins c.purge_trail.ensures.seat.0.begins) c.in-None.ensures.is;
      between = between;
      floor = floor;
      moved = moved_earlier g.D.Disk o config number by low floor old mid between c.spent.ensures.seat.0.begins (at_some (WasSo g.D.Disk o config number mid between (IsDiscSpent config number)) (λ x. HasMoved g.D.Disk o config number (Attempt c.args.item) x.0 x.1 mid between) c.in-Ok-Some.field-0 c.in-Ok-Some.position c.in-Ok-Some.field-0-is c.in-Ok-Some.ensures.moved);
      behind = c.purge_trail.ensures.seat;
      purged = subst (λ (n : ℕ). WasPurged g.D.Disk one (trail_of config number) n floor) c.number-2.ensures (subst (λ (n : ℕ). WasPurged g.D.Disk one n c.number-2.result floor) c.writer_of-writer.ensures c.in-Ok.ensures.purged);
    }

pub returns-in-Ok-clause-seat : goal.returns-in-Ok-clause-seat
returns-in-Ok-clause-seat g c =
    more_then g.J.Run.opening c.args.seat.now c.moved.new.seat c.purge_trail.new.caller (more_then g.J.Run.opening c.args.seat.now c.spent.new.seat c.moved.new.seat c.spent.ensures.seat c.moved.ensures.seat) c.purge_trail.ensures.seat

pub returns-in-Ok-clause-given : goal.returns-in-Ok-clause-given
returns-in-Ok-clause-given g c =
    given_at_some g.J.NodeRun.found.config (number_of c.args.disc.now) c.args.item c.spent.new.seat c.moved.new.seat c.in-Ok-Some.field-0 c.in-Ok-Some.position c.args.share.now c.moved.new.share c.in-Ok-Some.field-0-is c.in-Ok-Some.ensures.given

pub returns-in-Err-purge_trail-clause-refused : goal.returns-in-Err-purge_trail-clause-refused
returns-in-Err-purge_trail-clause-refused g c =
    let o = g.J.Run.opening in
    let config = g.J.NodeRun.found.config in
    let number : ℕ = number_of c.args.disc.now in
    let by = Attempt c.args.item in
    let old = c.args.seat.now in
    let mid = c.spent.new.seat in
    let between = c.moved.new.seat in
    let new = c.purge_trail.new.caller in
    let trail : trail_number c.writer_of-writer.result.now ≡ trail_of config number = c.writer_of-writer.ensures in
    let newly : HasNewlySeen (trail_part (trail_of config number)) (OfTrail (trail_did.Failed by)) between new =
    subst (λ (n : ℕ). HasNewlySeen (trail_part n) (OfTrail (trail_did.Failed by)) between new) trail c.in-Err-purge_trail.ensures.failed in (
      was_so_wider g.D.Disk o config number old old mid new (IsFit config number) (prefix_same old.seen) (prefix_then mid.seen between.seen new.seen c.moved.ensures.seat.0.begins c.purge_trail.ensures.seat.0.begins) c.in-None.ensures.is,
      inl (
        c.number-in-Err-purge_trail.ensures ∙ trail,
        since_wider (trail_part (trail_of config number)) (OfTrail (trail_did.Failed by)) old between new new (prefix_then old.seen mid.seen between.seen c.spent.ensures.seat.0.begins c.moved.ensures.seat.0.begins) (prefix_same new.seen)
            (since_newly (trail_part (trail_of config number)) (OfTrail (trail_did.Failed by)) between new newly),
      ),
    )

pub returns-in-Err-purge_trail-clause-seat : goal.returns-in-Err-purge_trail-clause-seat
returns-in-Err-purge_trail-clause-seat g c =
    more_then g.J.Run.opening c.args.seat.now c.moved.new.seat c.purge_trail.new.caller (more_then g.J.Run.opening c.args.seat.now c.spent.new.seat c.moved.new.seat c.spent.ensures.seat c.moved.ensures.seat) c.purge_trail.ensures.seat

pub returns-in-Err-purge_trail-clause-given : goal.returns-in-Err-purge_trail-clause-given
returns-in-Err-purge_trail-clause-given g c =
    let o = g.J.Run.opening in
    let config = g.J.NodeRun.found.config in
    let number : ℕ = number_of c.args.disc.now in
    let item = c.args.item in
    let old = c.args.seat.now in
    let mid = c.spent.new.seat in
    let between = c.moved.new.seat in
    let new = c.purge_trail.new.caller in
    let low : ℕ = c.in-Ok-Some.position.0 in
    let trail : trail_number c.writer_of-writer.result.now ≡ trail_of config number = c.writer_of-writer.ensures in
    let newly : HasNewlySeen (trail_part (trail_of config number)) (OfTrail (trail_did.Failed (Attempt item))) between new =
    subst (λ (n : ℕ). HasNewlySeen (trail_part n) (OfTrail (trail_did.Failed (Attempt item))) between new) trail c.in-Err-purge_trail.ensures.failed in
    let move = moved_earlier g.D.Disk o config number (Attempt item) low c.in-Ok-Some.position.1 old mid between c.spent.ensures.seat.0.begins (at_some (WasSo g.D.Disk o config number mid between (IsDiscSpent config number)) (λ x. HasMoved g.D.Disk o config number (Attempt c.args.item) x.0 x.1 mid between) c.in-Ok-Some.field-0 c.in-Ok-Some.position c.in-Ok-Some.field-0-is c.in-Ok-Some.ensures.moved) in
    inr (
      given_at_some config number item mid between c.in-Ok-Some.field-0 c.in-Ok-Some.position c.args.share.now c.moved.new.share c.in-Ok-Some.field-0-is c.in-Ok-Some.ensures.given,
      cut_behind config number item c.number-in-Err-purge_trail.result low old between new move.more (c.number-in-Err-purge_trail.ensures ∙ trail) (prefix_then old.seen mid.seen between.seen c.spent.ensures.seat.0.begins c.moved.ensures.seat.0.begins)
          c.purge_trail.ensures.seat.0.begins move.events newly,
    )
