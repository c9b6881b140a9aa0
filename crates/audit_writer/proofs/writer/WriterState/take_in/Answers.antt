use Rattle.std.proofs.Common.{◌≡◌, ◌+◌, ◌-◌, ◌≤◌, ◌++◌, ℕ, List, length, drop, min, refl, arith, ap, sym, ◌∙◌, subst, set, take, length-drop, inr}
use Rattle.std.proofs.lemmas.List.{drop-append-le, take_all}
use Rattle.chronicle.specs.Histories.{IsHistory}
use Rattle.chronicle.specs.Seats.{Knows}
use Rattle.trail_files.specs.declared.audit_record.AuditRecord.{AuditRecord}
use Rattle.node_machine.specs.Node.{node}
use Rattle.node_machine.specs.Trail.{offered}
use Rattle.audit_writer.specs.Handing.{Takes, disc_of, last_of}
use Rattle.audit_writer.specs.Drains.{MayTake}
use Rattle.audit_writer.specs.Writer.{Writer, Belong, IsWriter, IsRise, AreDue, AreFrom}
use Rattle.audit_writer.specs.Writes.{HasUpTo}
use Rattle.audit_writer.proofs.Belongs.{learned}
use Rattle.audit_writer.proofs.Hand.{Hands, Taking, taking_of, from_right, belongs, due_then, has_then}
use Rattle.audit_writer.proofs.Writers.{writer_of}
use Rattle.audit_writer.proofs.writer.WriterState.take_in.Goals as goal

pub overflow_add-first : goal.overflow_add-first
overflow_add-first g c =
    let parts = c.in-Some.ensures.1 in
    let may = (c.requires.may (λ none. absurd (cc (parts, none)))).made in
    let d = disc_of c.args.records.now in
    let from = subst (λ l. AreFrom (may.volume.next + length may.front) d l) parts (from_right may.volume.next d may.front c.args.records.now may.positions) in
    let short = may.small in
    let at = from.1 in
    omega (arith, short, at)

pub invariant_of-self : goal.invariant_of-self
invariant_of-self g c =
    let n = g.J.NodeRun in
    let w = c.self.inside in
    let e = c.in_err-extend_from_slice.ensures in
    let i = c.self.invariant in (
      omega (arith, i.0, e.len),
      i.1,
      subst (λ l. IsWriter g.D.Disk g.J.Run.opening n.found n.rules n.faults n.premise g.J.DeviceRun.devices (record { seat = w.seat; trail = w.trail; queue = drop w.landed l; bounds = w.bounds })) (sym e.items) i.2,
      subst (λ l. AreDue w.seat.part (drop w.landed l) w.due) (sym e.items) i.3,
    )

rest_of : {A : Type 0} (k : ℕ) (xs : List A) → take (length xs - k) (drop k xs) ≡ drop k xs
rest_of k xs = (let long = length-drop k xs in take_all (length xs - k) (drop k xs) (omega (arith, long)))

hands : (g : _) → (c : goal.After-max g) → Hands g.D.Disk (g.J.NodeRun.premise c.meet.new.self.part.number) g.J.Run.opening g.J.NodeRun.found c.meet.new.self c.self.inside.trail (drop c.self.inside.landed c.self.inside.records.items) (g.J.NodeRun.rules c.meet.new.self.part.number) c.args.disc.now c.from-number.result c.args.records.now c.self.inside.due c.in-Some.first.position c.min-passed.result
hands g c =
    let o = g.J.Run.opening in
    let n = g.J.NodeRun in
    let w = c.self.inside in
    let i = c.self.invariant in
    let m = c.meet.ensures in
    let v = c.meet.new.self in
    let records : List AuditRecord = c.args.records.now in
    let queue = drop w.landed w.records.items in
    let parts = c.in-Some.ensures.1 in
    let number : v.part.number ≡ c.args.self.now.seat.part.number = ap (λ p. p.number) m.part ∙ ap (λ x. x.seat.part.number) c.self.view_is in
    let disc : disc_of records ≡ c.from-number.result = ap (λ l. disc_of l) parts ∙ sym c.from-number.ensures in
    let old : Writer g.row.D.Denot = record { seat = w.seat; trail = w.trail; queue = queue; bounds = w.bounds } in
    let asked : MayTake o n.found (n.rules w.seat.part.number) old c.args.disc.now (disc_of records) records =
    subst (λ (x : Writer g.row.D.Denot). MayTake o n.found (n.rules x.seat.part.number) x c.args.disc.now (disc_of records) records) (sym c.self.view_is) (c.requires.may (λ none. absurd (cc (parts, none)))) in
    let taking = subst (λ d. Taking o n.found (n.rules v.part.number) v.part queue c.args.disc.now d records) disc
    (subst (λ p. Taking o n.found (n.rules p.number) p queue c.args.disc.now (disc_of records) records) (sym m.part)
    (taking_of o n.found (n.rules w.seat.part.number) old c.args.disc.now (disc_of records) records asked)) in
    let may = taking.made in
    let from = subst (λ l. AreFrom (may.volume.next + length may.front) c.from-number.result l) parts (from_right may.volume.next c.from-number.result may.front records may.positions) in
    let many = ap length parts in
    record {
      at = m.is;
      history = subst (λ l. IsHistory node o l) (sym m.same) m.learned.history;
      is = subst (λ k. Belong g.D.Disk (n.premise k) (Knows node o v.sight) v.part w.trail queue) (ap (λ p. p.number) (sym m.part))
          (subst (λ p. Belong g.D.Disk (n.premise w.seat.part.number) (Knows node o v.sight) p w.trail queue) (sym m.part) (learned g.D.Disk (n.premise w.seat.part.number) (Knows node o w.seat.sight) (Knows node o v.sight) w.seat.part w.trail queue m.knows i.2.belong));
      rules_is = i.2.rules ∙ ap (λ p. n.rules p.number) (sym m.part);
      told = m.told;
      may = may;
      before = taking.before;
      reaches = taking.reaches;
      there = taking.there;
      are_due = subst (λ p. AreDue p queue w.due) (sym m.part) i.3;
      nine = c.self.told.0;
      p_is = from.1;
      k_is = c.min-passed.ensures ∙ ap (λ k. min k (length records)) c.saturating_sub.ensures;
      some = omega (arith, many);
    }

pub invariant_of-self-2 : goal.invariant_of-self-2
invariant_of-self-2 g c =
    let o = g.J.Run.opening in
    let n = g.J.NodeRun in
    let w = c.self.inside in
    let i = c.self.invariant in
    let m = c.meet.ensures in
    let v = c.meet.new.self in
    let queue = drop w.landed w.records.items in
    let then = drop w.landed c.extend_from_slice.new.self.items in
    let new = drop c.min-passed.result c.args.records.now in
    let e = c.in_ok-extend_from_slice.ensures in
    let same = ap (λ (l : List AuditRecord). length l) c.as_slice.ensures.value in
    let fits : w.landed ≤ length w.records.items = omega (arith, i.0, c.as_slice.ensures.len, same) in
    let all : then ≡ queue ++ new = ap (λ l. drop w.landed l) (e.items ∙ ap (λ l. w.records.items ++ l) (rest_of c.min-passed.result c.args.records.now)) ∙ drop-append-le w.landed w.records.items new fits in
    let h = hands g c in
    let old : Writer g.row.D.Denot = record { seat = w.seat; trail = w.trail; queue = queue; bounds = w.bounds } in
    let next : Writer g.row.D.Denot = record { seat = v; trail = w.trail; queue = then; bounds = w.bounds } in (
      omega (arith, i.0, e.len),
      i.1 ∙ ap (λ p. length (offered p.events)) (sym m.part),
      writer_of g.D.Disk o n.found n.rules n.faults n.premise g.J.DeviceRun.devices old next i.2 m.is
          (subst (λ k. Belong g.D.Disk (n.premise k) (Knows node o v.sight) v.part w.trail then) (ap (λ p. p.number) m.part) (subst (λ l. Belong g.D.Disk (n.premise v.part.number) (Knows node o v.sight) v.part w.trail l) (sym all) (belongs h))) refl i.2.device (ap (λ p. p.number) m.part)
          (subst (λ p. IsRise (n.faults w.seat.part.number) (g.D.Disk.faults w.trail.device) p.events) (sym m.part) i.2.rise) m.knows refl,
      subst (λ l. AreDue v.part l (set w.due c.from-number.result c.max.result)) (sym all) (subst (λ k. AreDue v.part (queue ++ new) (set w.due c.from-number.result k)) (sym c.max.ensures) (due_then h)),
    )

pub returns-clause-takes : goal.returns-clause-takes
returns-clause-takes g c =
    let w = c.self.inside in
    let i = c.self.invariant in
    let m = c.meet.ensures in
    let new = drop c.min-passed.result c.args.records.now in
    let e = c.in_ok-extend_from_slice.ensures in
    let same = ap (λ (l : List AuditRecord). length l) c.as_slice.ensures.value in
    let fits : w.landed ≤ length w.records.items = omega (arith, i.0, c.as_slice.ensures.len, same) in
    let all = ap (λ l. drop w.landed l) (e.items ∙ ap (λ l. w.records.items ++ l) (rest_of c.min-passed.result c.args.records.now)) ∙ drop-append-le w.landed w.records.items new fits in
    let next : Writer g.row.D.Denot = record { seat = c.meet.new.self; trail = w.trail; queue = drop w.landed c.extend_from_slice.new.self.items; bounds = w.bounds } in
    subst (λ v. Takes v next) c.self.view_is (record { trail = refl; queue = (new, sym all); bounds = refl; part = m.part; mine = m.mine; seat = m.seat; begins = m.begins })

pub returns-clause-has : goal.returns-clause-has
returns-clause-has g c = λ some.
    let w = c.self.inside in
    let i = c.self.invariant in
    let new = drop c.min-passed.result c.args.records.now in
    let e = c.in_ok-extend_from_slice.ensures in
    let same = ap (λ (l : List AuditRecord). length l) c.as_slice.ensures.value in
    let fits : w.landed ≤ length w.records.items = omega (arith, i.0, c.as_slice.ensures.len, same) in
    let all : drop w.landed c.extend_from_slice.new.self.items ≡ drop w.landed w.records.items ++ new = ap (λ l. drop w.landed l) (e.items ∙ ap (λ l. w.records.items ++ l) (rest_of c.min-passed.result c.args.records.now)) ∙ drop-append-le w.landed w.records.items new fits in
    let disc : disc_of c.args.records.now ≡ c.from-number.result = ap (λ l. disc_of l) c.in-Some.ensures.1 ∙ sym c.from-number.ensures in
    let next : List AuditRecord → Writer g.row.D.Denot = λ l. record { seat = c.meet.new.self; trail = w.trail; queue = l; bounds = w.bounds } in
    let has = has_then (hands g c) in
    subst (λ d. HasUpTo (next (drop w.landed c.extend_from_slice.new.self.items)) d (last_of c.args.records.now)) (sym disc)
    (subst (λ l. HasUpTo (next l) c.from-number.result (last_of c.args.records.now)) (sym all) (has.0, inr has.1))
