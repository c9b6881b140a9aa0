use Rattle.std.specs.Prelude.{IfSome, Result, Err, IsErr}
use Rattle.std.proofs.Common.{◌≡◌, [], ◌∷◌, Some, refl, ap, sym, ◌∙◌, subst}
use Rattle.std.specs.Prelude.{option_map}
use Rattle.chronicle.specs.Seats.{Knows}
use Rattle.node_machine.specs.declared.event.DumpEvent.TheVariants.{Failed}
use Rattle.node_machine.specs.Dump.{offered_label}
use Rattle.node_machine.specs.Node.{node}
use Rattle.online_dump.specs.Copies.{HasFront}
use Rattle.online_dump.specs.Dumper.{Dumper, base_found, IsCopying}
use Rattle.online_dump.specs.Dumping.{HasBegun, HasFailed, MayBegin, new_copying}
use Rattle.online_dump.specs.Seat.{dump_with_event}
use Rattle.online_dump.proofs.Bodied.{apart_next, bodies_on, bodies_same, front_begun, no_way}
use Rattle.online_dump.proofs.Dumped.{copying_begun, copying_failed, named_same, next_not_there, tied_failed, tied_same, new_uncopied}
use Rattle.online_dump.proofs.Dumpers.{dumper_worked, rise_failed, rise_same, stepped_none, told_on}
use Rattle.online_dump.proofs.Seats.{had_none}
use Rattle.online_dump.proofs.dumper.DumperState.begin.Goals as goal

is_err : {T E : Type 0} (r : Result T E) (e : E) → r ≡ Err e → IsErr r
is_err r e is = subst (λ (x : _). IsErr x) (sym is) refl

pub begin_body-requires : goal.begin_body-requires
begin_body-requires g c =
    let o = g.J.Run.opening in
    let w = c.self.inside in
    let may = subst (λ v. MayBegin (Knows node o v.seat.sight) v.seat.part c.args.number c.args.start) (sym c.self.view_is) c.requires.may in
    record { certain = next_not_there (λ l. l.start) (offered_label w.seat.part.events) w.file.next may.certain c.self.invariant.1.tied.offered }

pub invariant_of-self : goal.invariant_of-self
invariant_of-self g c =
    let o = g.J.Run.opening in
    let n = g.J.NodeRun in
    let w = c.self.inside in
    let i = c.self.invariant in
    let part = w.seat.part in
    let known = Knows node o w.seat.sight in
    let may = subst (λ v. MayBegin (Knows node o v.seat.sight) v.seat.part c.args.number c.args.start) (sym c.self.view_is) c.requires.may in
    let new = new_copying c.args.number c.args.start in
    let e = c.begin_body.ensures in
    let copying = subst (λ x. IsCopying known part x new) (sym c.in-Ok.ensures.filled) (copying_begun known part c.args.number c.args.start may) in
    let v : Dumper g.row.D.Denot = record { seat = w.seat; file = w.file; current = w.current } in (
      i.0,
      dumper_worked g.D.Disk o n.found n.faults n.premise g.J.DeviceRun.devices (λ a b d p q. g.met.D.Disk.same_on a b d p q) v w.seat [] c.begin_body.new.self (Some new) part i.1 (stepped_none o n.found w.seat i.1.at) refl refl e.same.volume
          (tied_same part w.file c.begin_body.new.self e.same.found e.same.next i.1.tied) i.1.named copying e.works.is_later (rise_same _ _ _ part.events i.1.rise e.works.is_later.later) e.holds
          (λ told. told_on (base_found n.found part.number) (λ base b.
          bodies_same g.D.Disk.held known known (λ f k. k) part base w.file c.begin_body.new.self w.current b e.same.found (λ dump at. e.others told dump.label.body (apart_next w.file c.lawful.ensures dump at)) e.same.next (λ label at. absurd (cc (sym may.certain ∙ at))) (Some new)
          (subst (λ x. IfSome x (HasFront g.D.Disk.held known part base c.begin_body.new.self c.args.number)) (sym c.in-Ok.ensures.filled)
          (front_begun g.D.Disk.held known part base c.begin_body.new.self c.args.number (λ f k. new_uncopied part.events c.args.number f k may.is_new) (c.in-Ok.ensures.begun told)))))
          (λ none. (none, e.same.found)),
    )

pub invariant_of-self-in-Err : goal.invariant_of-self-in-Err
invariant_of-self-in-Err g c =
    let o = g.J.Run.opening in
    let n = g.J.NodeRun in
    let w = c.self.inside in
    let i = c.self.invariant in
    let s = c.append.ensures in
    let part = w.seat.part in
    let now = dump_with_event part (Failed c.args.by) in
    let known = Knows node o w.seat.sight in
    let after = Knows node o c.append.new.self.sight in
    let may = subst (λ v. MayBegin (Knows node o v.seat.sight) v.seat.part c.args.number c.args.start) (sym c.self.view_is) c.requires.may in
    let new = new_copying c.args.number c.args.start in
    let e = c.begin_body.ensures in
    let copying = subst (λ x. IsCopying after now x new) (sym c.in-Err.ensures.filled) (copying_failed known after s.knows part (Some 0) new c.args.by (copying_begun known part c.args.number c.args.start may)) in
    let v : Dumper g.row.D.Denot = record { seat = w.seat; file = w.file; current = w.current } in (
      i.0 ∙ ap (λ p. option_map (λ l. l.number) (offered_label p.events)) (sym s.had.part),
      dumper_worked g.D.Disk o n.found n.faults n.premise g.J.DeviceRun.devices (λ a b d p q. g.met.D.Disk.same_on a b d p q) v c.append.new.self (Failed c.args.by ∷ []) c.begin_body.new.self (Some new) now i.1 s s.had.part refl e.same.volume
          (tied_same now w.file c.begin_body.new.self e.same.found e.same.next (tied_failed part w.file w.file c.args.by i.1.tied)) (named_same known after s.knows part i.1.named) copying e.works.is_later
          (rise_failed _ _ _ part.events c.args.by i.1.rise e.works.is_later.later (e.works.failed (is_err c.begin_body.result c.in-Err.fault c.in-Err.is))) e.holds
          (λ told. told_on (base_found n.found part.number) (λ base b.
          bodies_on g.D.Disk.held known after s.knows part base w.file c.begin_body.new.self w.current b e.same.found (λ dump at. e.others told dump.label.body (apart_next w.file c.lawful.ensures dump at)) (Failed c.args.by) e.same.next refl refl (λ k f m. refl) (λ x h. h)
          (λ label at. absurd (cc (sym may.certain ∙ at))) (Some new) (no_way g.D.Disk.held after now base c.begin_body.new.self (Some new) c.begin_body.new.self.filled c.in-Err.ensures.filled)))
          (λ none. (none, e.same.found)),
    )

pub returns-in-Ok-clause-begun : goal.returns-in-Ok-clause-begun
returns-in-Ok-clause-begun g c =
    let w = c.self.inside in
    subst (λ v. HasBegun c.args.number c.args.start v (record { seat = w.seat; file = c.begin_body.new.self; current = Some (new_copying c.args.number c.args.start) })) c.self.view_is (record { had = had_none w.seat; current_is = refl; filled = c.in-Ok.ensures.filled })

pub returns-in-Err-clause-failed : goal.returns-in-Err-clause-failed
returns-in-Err-clause-failed g c =
    let new = Some (new_copying c.args.number c.args.start) in
    subst (λ v. HasFailed c.args.by new v (record { seat = c.append.new.self; file = c.begin_body.new.self; current = new })) c.self.view_is (record { had = c.append.ensures.had; current_is = refl })
