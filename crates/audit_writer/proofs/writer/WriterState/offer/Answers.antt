use Rattle.std.proofs.Common.{refl, ◌≡◌, ◌+◌, ◌-◌, ◌<◌, ◌≤◌, ◌++◌, ◌∷◌, [], List, length, take, drop, arith, ap, sym, ◌∙◌, subst, length-drop}
use Rattle.chronicle.specs.Seats.{Knows, own_events}
use Rattle.trail_files.specs.declared.audit_record.AuditRecord.{AuditRecord}
use Rattle.node_machine.specs.declared.event.Event.TheVariants.{OfTrail}
use Rattle.node_machine.specs.declared.event.TrailEvent.TheVariants.{Offer}
use Rattle.node_machine.specs.Node.{node}
use Rattle.node_machine.specs.Trail.{offered}
use Rattle.audit_writer.specs.Seat.{trail_with_event}
use Rattle.audit_writer.specs.Writer.{Writer, Belong, IsRise, disc_made}
use Rattle.audit_writer.specs.Writes.{AreBatches, has_some}
use Rattle.audit_writer.proofs.Written.{is_err}
use Rattle.audit_writer.proofs.Writers.{handed_on, rise_same, rise_failed, writer_of, due_of}
use Rattle.audit_writer.proofs.Queues.{batch_parts, batch_length, some_list, not_none}
use Rattle.audit_writer.proofs.Belongs.{offers, not_offered}
use Rattle.audit_writer.proofs.Batches.{may_offer}
use Rattle.audit_writer.proofs.writer.WriterState.offer.Goals as goal

pub offer-requires : goal.offer-requires
offer-requires g c =
    let o = g.J.Run.opening in
    let w = c.self.inside in
    let n = c.min-count.result in
    let items = w.records.items in
    let now = c.deref.result.now in
    let is = c.self.invariant.2.belong in
    let none = subst (λ v. offered v.seat.part.events ≡ []) (sym c.self.view_is) c.requires.none in
    let some = subst (λ v. 0 < length v.queue) (sym c.self.view_is) c.requires.some in
    let same = c.deref.ensures.value in
    let long = ap length same in
    let tall = length-drop w.landed items in
    let fits : n ≤ length items - w.landed = omega (arith, c.min-count.ensures, c.len.ensures, c.deref.ensures.len, long) in
    let batch : List AuditRecord = take (w.landed + n - w.landed) (drop w.landed now) in
    let size = batch_length w.landed n items now same fits in
    may_offer g.D.Disk (g.J.NodeRun.premise w.seat.part.number) (Knows node o w.seat.sight) w.seat.part w.trail (drop w.landed items) is
    c.present_file.result batch (drop (w.landed + n) items) (batch_parts w.landed n items now same) (omega (arith, size, c.min-count.ensures, some, tall, c.len.ensures, c.deref.ensures.len, long)) (omega (arith, size, c.min-count.ensures)) none
    (omega (arith, c.present_file.ensures, c.load_batch.ensures.file, is.file))

pub invariant_of-self : goal.invariant_of-self
invariant_of-self g c =
    let o = g.J.Run.opening in
    let w = c.self.inside in
    let n = c.min-count.result in
    let items = w.records.items in
    let now = c.deref.result.now in
    let is = c.self.invariant.2.belong in
    let none = subst (λ v. offered v.seat.part.events ≡ []) (sym c.self.view_is) c.requires.none in
    let some = subst (λ v. 0 < length v.queue) (sym c.self.view_is) c.requires.some in
    let same = c.deref.ensures.value in
    let long = ap length same in
    let tall = length-drop w.landed items in
    let fits : n ≤ length items - w.landed = omega (arith, c.min-count.ensures, c.len.ensures, c.deref.ensures.len, long) in
    let batch : List AuditRecord = take (w.landed + n - w.landed) (drop w.landed now) in
    let size = batch_length w.landed n items now same fits in
    let e = c.load_batch.ensures in
    let s = c.offer.ensures in
    let premise = g.J.NodeRun.premise w.seat.part.number in
    let after = Knows node o c.offer.new.self.sight in
    let next = c.load_batch.new.trail in
    let keep = offers g.D.Disk premise (Knows node o w.seat.sight) after w.seat.part w.trail next (drop w.landed items) s.knows e.keeps is batch (drop (w.landed + n) items) (batch_parts w.landed n items now same)
    (omega (arith, size, c.min-count.ensures, some, tall, c.len.ensures, c.deref.ensures.len, long)) none c.in-Ok.ensures.phase e.file (λ content holds empty ordered. c.in-Ok.ensures.holds content holds empty ordered) in
    let part = s.part ∙ ap (λ f. trail_with_event w.seat.part (Offer f batch)) c.present_file.ensures in
    let many = ap (λ p. length (offered p.events)) part ∙ size in
    let old : Writer g.row.D.Denot = record { seat = w.seat; trail = w.trail; queue = drop w.landed items; bounds = w.bounds } in
    let new : Writer g.row.D.Denot = record { seat = c.offer.new.self; trail = next; queue = drop w.landed items; bounds = w.bounds } in (
      omega (arith, fits, c.self.invariant.0, c.deref.ensures.len, long, c.len.ensures),
      sym many,
      writer_of g.D.Disk o g.J.NodeRun.found g.J.NodeRun.rules g.J.NodeRun.faults g.J.NodeRun.premise g.J.DeviceRun.devices old new c.self.invariant.2 s.is (subst (λ p. Belong g.D.Disk premise after p next (drop w.landed items)) (sym part) keep) e.keeps.rules (handed_on g.D.Disk (λ a b d p q. g.met.D.Disk.same_on a b d p q) (g.J.DeviceRun.devices w.seat.part.number) w.trail.device next.device c.self.invariant.2.device e.keeps.device) (ap (λ p. p.number) s.part)
          (subst (λ p. IsRise (g.J.NodeRun.faults w.seat.part.number) (g.D.Disk.faults next.device) p.events) (sym s.part) (rise_same _ _ (g.D.Disk.faults next.device) w.seat.part.events c.self.invariant.2.rise e.cause.later)) s.knows refl,
      due_of w.seat.part c.offer.new.self.part (drop w.landed items) (drop w.landed items) w.due c.self.invariant.3 (ap (λ p. p.firsts) s.part) (λ d. ap (λ p. disc_made p (drop w.landed items) d) s.part),
    )

pub invariant_of-self-in-Err : goal.invariant_of-self-in-Err
invariant_of-self-in-Err g c =
    let o = g.J.Run.opening in
    let w = c.self.inside in
    let n = c.min-count.result in
    let items = w.records.items in
    let now = c.deref.result.now in
    let same = c.deref.ensures.value in
    let is = c.self.invariant.2.belong in
    let none = subst (λ v. offered v.seat.part.events ≡ []) (sym c.self.view_is) c.requires.none in
    let batch : List AuditRecord = take (w.landed + n - w.landed) (drop w.landed now) in
    let e = c.load_batch.ensures in
    let s = c.append.ensures in
    let premise = g.J.NodeRun.premise w.seat.part.number in
    let after = Knows node o c.append.new.self.sight in
    let next = c.load_batch.new.trail in
    let queue = drop w.landed items in
    let keep = not_offered g.D.Disk premise (Knows node o w.seat.sight) after w.seat.part w.trail next queue s.knows e.keeps is c.args.by batch (drop (w.landed + n) items) (batch_parts w.landed n items now same) none c.in-Err.ensures.phase_err e.more e.file
    (λ content holds empty ordered. c.in-Err.ensures.holds content holds empty ordered) in
    let old : Writer g.row.D.Denot = record { seat = w.seat; trail = w.trail; queue = queue; bounds = w.bounds } in
    let new : Writer g.row.D.Denot = record { seat = c.append.new.self; trail = next; queue = queue; bounds = w.bounds } in (
      c.self.invariant.0,
      c.self.invariant.1 ∙ ap (λ p. length (offered p.events)) (sym s.part),
      writer_of g.D.Disk o g.J.NodeRun.found g.J.NodeRun.rules g.J.NodeRun.faults g.J.NodeRun.premise g.J.DeviceRun.devices old new c.self.invariant.2 s.is (subst (λ p. Belong g.D.Disk premise after p next queue) (sym s.part) keep) e.keeps.rules (handed_on g.D.Disk (λ a b d p q. g.met.D.Disk.same_on a b d p q) (g.J.DeviceRun.devices w.seat.part.number) w.trail.device next.device c.self.invariant.2.device e.keeps.device) (ap (λ p. p.number) s.part)
          (subst (λ p. IsRise (g.J.NodeRun.faults w.seat.part.number) (g.D.Disk.faults next.device) p.events) (sym s.part)
          (rise_failed _ _ (g.D.Disk.faults next.device) w.seat.part.events c.args.by c.self.invariant.2.rise e.cause.later (e.cause.failed (is_err c.load_batch.result c.in-Err.fault c.in-Err.is)))) s.knows refl,
      due_of w.seat.part c.append.new.self.part queue queue w.due c.self.invariant.3 (ap (λ p. p.firsts) s.part) (λ d. ap (λ p. disc_made p queue d) s.part),
    )

pub returns-in-Ok-clause-events : goal.returns-in-Ok-clause-events
returns-in-Ok-clause-events g c =
    let w = c.self.inside in
    let items = w.records.items in
    let now = c.deref.result.now in
    let n = c.min-count.result in
    let some = subst (λ v. 0 < length v.queue) (sym c.self.view_is) c.requires.some in
    let long = ap length c.deref.ensures.value in
    let tall = length-drop w.landed items in
    let fits : n ≤ length items - w.landed = omega (arith, c.min-count.ensures, c.len.ensures, c.deref.ensures.len, long) in
    let batch : List AuditRecord = take (w.landed + n - w.landed) (drop w.landed now) in
    let size = batch_length w.landed n items now c.deref.ensures.value fits in
    let s = c.offer.ensures in
    let there = ap (λ p. has_some (offered p.events)) s.part ∙ some_list batch (not_none batch (omega (arith, size, c.min-count.ensures, some, tall, c.len.ensures, c.deref.ensures.len, long))) in
    let event = OfTrail (Offer c.present_file.result batch) in (
      event ∷ [],
      subst (λ v. own_events c.offer.new.self.sight ≡ own_events v.seat.sight ++ event ∷ []) c.self.view_is s.mine,
      subst (λ from. AreBatches from (event ∷ []) (has_some (offered c.offer.new.self.part.events))) (sym (ap (λ l. has_some l) c.requires.none)) (sym there),
    )
