use Rattle.std.proofs.Common.{◌≡◌, ◌≤◌, ◌++◌, ◌∷◌, [], List, length, drop, inl, refl, ap, sym, ◌∙◌, subst, append_assoc, arith}
use Rattle.chronicle.specs.Seats.{Knows, own_events}
use Rattle.node_machine.specs.declared.event.Event.{Event}
use Rattle.node_machine.specs.declared.event.Event.TheVariants.{OfTrail}
use Rattle.node_machine.specs.declared.event.TrailEvent.TheVariants.{Purge, Failed}
use Rattle.node_machine.specs.Node.{node}
use Rattle.node_machine.specs.Trail.{offered, landed, PurgeAsks}
use Rattle.audit_writer.specs.Purge.{AreOfPurge}
use Rattle.audit_writer.specs.Seat.{trail_with_event}
use Rattle.audit_writer.specs.Writer.{Writer, Belong, IsRise, disc_made}
use Rattle.audit_writer.specs.Writes.{Writes}
use Rattle.audit_writer.proofs.Removals.{named, dropped, fell, none_below}
use Rattle.audit_writer.proofs.Written.{is_err}
use Rattle.audit_writer.proofs.Writers.{handed_on, rise_same, rise_failed, writer_of, due_of}
use Rattle.audit_writer.proofs.writer.WriterState.remove_files.Goals as goal

pub returns-then-file-least_file-clause-holds : goal.returns-then-file-least_file-clause-holds
returns-then-file-least_file-clause-holds g c = λ content told holds.
    let w = c.self.inside in
    let low = c.if-file-least_file.true in
    let least : c.least_file.result ≡ c.args.self.now.trail.least = c.least_file.ensures ∙ ap (λ v. v.trail.least) c.self.view_is in
    (omega (arith, low, least), none_below g.D.Disk c.args.self.now.trail content c.args.file holds (omega (arith, low, least)) (c.in_files.ensures.within c.args.self.now.trail content holds told))

pub append-requires : goal.append-requires
append-requires g c =
    let w = c.self.inside in
    let i = c.self.invariant.2 in
    let front = subst (λ v. c.args.file ≤ v.trail.file) (sym c.self.view_is) c.requires.front in
    let asked = subst (λ v. PurgeAsks (Knows node g.J.Run.opening v.seat.sight) v.seat.part.old v.seat.part.events c.args.file) (sym c.self.view_is) c.requires.asks in
    let present = c.present_file.ensures in
    let rises = i.belong.file in (
      record { front = omega (arith, front, present); rises = omega (arith, rises, present) },
      asked,
    )

pub invariant_of-self : goal.invariant_of-self
invariant_of-self g c =
    let o = g.J.Run.opening in
    let n = g.J.NodeRun in
    let w = c.self.inside in
    let s = c.append.ensures in
    let e = c.remove_below.ensures in
    let queue = drop w.landed w.records.items in
    let premise = n.premise w.seat.part.number in
    let after = Knows node o c.append.new.self.sight in
    let next = c.remove_below.new.self in
    let front = subst (λ v. c.args.file ≤ v.trail.file) (sym c.self.view_is) c.requires.front in
    let asked = subst (λ v. PurgeAsks (Knows node g.J.Run.opening v.seat.sight) v.seat.part.old v.seat.part.events c.args.file) (sym c.self.view_is) c.requires.asks in
    let part = trail_with_event w.seat.part (Purge c.args.file c.present_file.result) in
    let keep = dropped g.D.Disk premise after part w.trail queue (named g.D.Disk premise (Knows node o w.seat.sight) w.seat.part w.trail queue c.self.invariant.2.belong after c.args.file c.present_file.result s.knows front c.present_file.ensures asked) next c.args.file c.present_file.result (inl refl) e.keeps e.rest.0 e.rest.1 (λ content f holds told. c.in_files.ensures.split w.trail content f holds told)
    (λ content holds. (c.args.file, omega arith, c.in-Ok.ensures.holds content holds)) in
    let old : Writer g.row.D.Denot = record { seat = w.seat; trail = w.trail; queue = queue; bounds = w.bounds } in
    let new : Writer g.row.D.Denot = record { seat = c.append.new.self; trail = next; queue = queue; bounds = w.bounds } in (
      c.self.invariant.0,
      c.self.invariant.1 ∙ ap (λ p. length (offered p.events)) (sym s.part),
      writer_of g.D.Disk o n.found n.rules n.faults n.premise g.J.DeviceRun.devices old new c.self.invariant.2 s.is (subst (λ p. Belong g.D.Disk premise after p next queue) (sym s.part) keep) e.keeps.rules (handed_on g.D.Disk (λ a b d p q. g.met.D.Disk.same_on a b d p q) (g.J.DeviceRun.devices w.seat.part.number) w.trail.device next.device c.self.invariant.2.device e.keeps.device) (ap (λ p. p.number) s.part)
          (subst (λ p. IsRise (n.faults w.seat.part.number) (g.D.Disk.faults next.device) p.events) (sym s.part) (rise_same _ _ (g.D.Disk.faults next.device) w.seat.part.events c.self.invariant.2.rise e.cause.later)) s.knows refl,
      due_of w.seat.part c.append.new.self.part queue queue w.due c.self.invariant.3 (ap (λ p. p.firsts) s.part) (λ d. ap (λ p. disc_made p queue d) s.part),
    )

pub invariant_of-self-in-Err : goal.invariant_of-self-in-Err
invariant_of-self-in-Err g c =
    let o = g.J.Run.opening in
    let n = g.J.NodeRun in
    let w = c.self.inside in
    let s = c.append.ensures in
    let t = c.append-in-Err.ensures in
    let e = c.remove_below.ensures in
    let queue = drop w.landed w.records.items in
    let premise = n.premise w.seat.part.number in
    let between = Knows node o c.append.new.self.sight in
    let after = Knows node o c.append-in-Err.new.self.sight in
    let next = c.remove_below.new.self in
    let front = subst (λ v. c.args.file ≤ v.trail.file) (sym c.self.view_is) c.requires.front in
    let asked = subst (λ v. PurgeAsks (Knows node g.J.Run.opening v.seat.sight) v.seat.part.old v.seat.part.events c.args.file) (sym c.self.view_is) c.requires.asks in
    let part = trail_with_event w.seat.part (Purge c.args.file c.present_file.result) in
    let part_2 = t.part ∙ ap (λ p. trail_with_event p (Failed c.args.by)) s.part in
    let keep = dropped g.D.Disk premise between part w.trail queue (named g.D.Disk premise (Knows node o w.seat.sight) w.seat.part w.trail queue c.self.invariant.2.belong between c.args.file c.present_file.result s.knows front c.present_file.ensures asked) next c.args.file c.present_file.result (inl refl) e.keeps e.rest.0 e.rest.1 (λ content f holds told. c.in_files.ensures.split w.trail content f holds told)
    (λ content holds. c.in-Err.ensures.holds content holds) in
    let last = fell g.D.Disk premise between part next queue keep after c.args.by t.knows in
    let old : Writer g.row.D.Denot = record { seat = w.seat; trail = w.trail; queue = queue; bounds = w.bounds } in
    let new : Writer g.row.D.Denot = record { seat = c.append-in-Err.new.self; trail = next; queue = queue; bounds = w.bounds } in (
      c.self.invariant.0,
      c.self.invariant.1 ∙ ap (λ p. length (offered p.events)) (sym part_2),
      writer_of g.D.Disk o n.found n.rules n.faults n.premise g.J.DeviceRun.devices old new c.self.invariant.2 t.is (subst (λ p. Belong g.D.Disk premise after p next queue) (sym part_2) last) e.keeps.rules (handed_on g.D.Disk (λ a b d p q. g.met.D.Disk.same_on a b d p q) (g.J.DeviceRun.devices w.seat.part.number) w.trail.device next.device c.self.invariant.2.device e.keeps.device) (ap (λ p. p.number) part_2)
          (subst (λ p. IsRise (n.faults w.seat.part.number) (g.D.Disk.faults next.device) p.events) (sym part_2)
          (rise_failed _ _ (g.D.Disk.faults next.device) (Purge c.args.file c.present_file.result ∷ w.seat.part.events) c.args.by c.self.invariant.2.rise e.cause.later (e.cause.failed (is_err c.remove_below.result c.in-Err.fault c.in-Err.is)))) (λ f known. t.knows f (s.knows f known)) refl,
      due_of w.seat.part c.append-in-Err.new.self.part queue queue w.due c.self.invariant.3 (ap (λ p. p.firsts) part_2) (λ d. ap (λ p. disc_made p queue d) part_2),
    )

pub returns-in-Ok-clause-events : goal.returns-in-Ok-clause-events
returns-in-Ok-clause-events g c =
    let w = c.self.inside in
    let event = OfTrail (Purge c.args.file c.present_file.result) in
    let above = c.if-file-least_file.false in
    let least = c.least_file.ensures in
    let now = c.in-Ok.ensures.least in
    subst (λ v. (es : List Event) × (own_events c.append.new.self.sight ≡ own_events v.seat.sight ++ es) × AreOfPurge v.trail.least v.trail.file c.remove_below.new.self.least es) c.self.view_is
    (event ∷ [], c.append.ensures.mine, (c.present_file.ensures, omega (arith, above, least), omega (arith, above, least, now)))

pub returns-in-Err-clause-events_err : goal.returns-in-Err-clause-events_err
returns-in-Err-clause-events_err g c =
    let w = c.self.inside in
    let event = OfTrail (Purge c.args.file c.present_file.result) in
    let failed = OfTrail (Failed c.args.by) in
    let above = c.if-file-least_file.false in
    let least = c.least_file.ensures in
    let now = c.in-Err.ensures.least.1 in
    let mine = c.append-in-Err.ensures.mine ∙ ap (λ (l : List Event). l ++ failed ∷ []) c.append.ensures.mine ∙ append_assoc (own_events w.seat.sight) (event ∷ []) (failed ∷ []) in
    subst (λ v. (es : List Event) × (own_events c.append-in-Err.new.self.sight ≡ own_events v.seat.sight ++ (es ++ failed ∷ [])) × AreOfPurge v.trail.least v.trail.file c.remove_below.new.self.least es) c.self.view_is
    (event ∷ [], mine, (c.present_file.ensures, omega (arith, above, least), omega (arith, above, least, now)))

pub returns-in-Err-clause-kept : goal.returns-in-Err-clause-kept
returns-in-Err-clause-kept g c =
    let w = c.self.inside in
    let s = c.append.ensures in
    let t = c.append-in-Err.ensures in
    let e = c.remove_below.ensures in
    let queue = drop w.landed w.records.items in
    let part = t.part ∙ ap (λ p. trail_with_event p (Failed c.args.by)) s.part in
    let new : Writer g.row.D.Denot = record { seat = c.append-in-Err.new.self; trail = c.remove_below.new.self; queue = queue; bounds = w.bounds } in
    subst (λ v. Writes g.D.Disk v new) c.self.view_is
    (record {
      handed = ap (λ p. landed p.events ++ queue) part;
      config = ap (λ p. p.config) part;
      number = ap (λ p. p.number) part;
      firsts = ap (λ p. p.firsts) part;
      bounds = refl;
      seat = t.seat ∙ s.seat;
      begins = (s.begins.0 ++ t.begins.0, sym (append_assoc w.seat.sight.seen s.begins.0 t.begins.0) ∙ ap (λ l. l ++ t.begins.0) s.begins.1 ∙ t.begins.1);
      trail = e.keeps;
    })
