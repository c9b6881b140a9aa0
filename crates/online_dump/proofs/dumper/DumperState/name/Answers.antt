use Rattle.std.specs.Prelude.{Result, Err, IfSome, IsErr, IsSome, Option, option_map}
use Rattle.std.proofs.Common.{◌≡◌, [], ◌∷◌, true, None, Some, refl, ap, sym, ◌∙◌, subst}
use Rattle.chronicle.specs.Seats.{Knows}
use Rattle.node_machine.specs.declared.event.DumpEvent.TheVariants.{Sealed, Failed}
use Rattle.std.specs.Option.{option_or}
use Rattle.node_machine.specs.Dump.{landed_here, offered_label}
use Rattle.node_machine.specs.Parts.{DumpStart}
use Rattle.node_machine.specs.Node.{node}
use Rattle.online_dump.specs.Dumper.{Dumper, base_found, IsCopying, IsNamed}
use Rattle.online_dump.specs.Copies.{HasFront}
use Rattle.online_dump.specs.Filling.{HasSealed, next_body}
use Rattle.online_dump.specs.Found.{start_in}
use Rattle.online_dump.specs.Sealing.{next_slot}
use Rattle.online_dump.specs.Seat.{dump_with_event}
use Rattle.online_dump.proofs.Bodied.{apart_label, bodies_on, bodies_sealed, no_way_offered}
use Rattle.online_dump.proofs.Dumped.{failed_offered, named_same, named_more, next_there, offered_named, over_sealed, some_offered, tied_failed, tied_same, tied_sealed}
use Rattle.online_dump.proofs.Dumpers.{dumper_worked, knows_over, rise_failed, rise_same, told_on}
use Rattle.online_dump.proofs.dumper.DumperState.name.Goals as goal

is_err : {T E : Type 0} (r : Result T E) (e : E) → r ≡ Err e → IsErr r
is_err r e is = subst (λ (x : _). IsErr x) (sym is) refl

some_is : {A : Type 0} (o : Option A) → IsSome o → (x : A) × (o ≡ Some x)
some_is None some = absurd (cc (some))
some_is (Some x) some = (x, refl)

pub seal-requires : goal.seal-requires
seal-requires g c =
    let w = c.self.inside in
    let i = c.self.invariant in
    let req = subst (λ v. option_map (λ l. l.number) (offered_label v.seat.part.events) ≡ Some c.args.number) (sym c.self.view_is) c.requires.offered in
    let one = some_offered (offered_label w.seat.part.events) c.args.number req in
    next_there (λ l. l.start) (offered_label w.seat.part.events) w.file.next one.0 one.1 i.1.tied.offered

pub append-requires : goal.append-requires
append-requires g c =
    let w = c.self.inside in
    let i = c.self.invariant in
    let req = subst (λ v. option_map (λ l. l.number) (offered_label v.seat.part.events) ≡ Some c.args.number) (sym c.self.view_is) c.requires.offered in
    let one = some_offered (offered_label w.seat.part.events) c.args.number req in
    (one, i.1.named c.args.number (subst (λ n. IsNamed w.seat.part.events n) one.2 (offered_named w.seat.part.events one.0 one.1)))

pub invariant_of-self : goal.invariant_of-self
invariant_of-self g c =
    let o = g.J.Run.opening in
    let n = g.J.NodeRun in
    let w = c.self.inside in
    let i = c.self.invariant in
    let s = c.append.ensures in
    let events = w.seat.part.events in
    let req = subst (λ v. option_map (λ l. l.number) (offered_label v.seat.part.events) ≡ Some c.args.number) (sym c.self.view_is) c.requires.offered in
    let one = some_offered (offered_label events) c.args.number req in
    let next = some_is w.file.next (next_there (λ l. l.start) (offered_label events) w.file.next one.0 one.1 i.1.tied.offered) in
    let sealed = c.in-Ok.ensures.sealed next.0 next.1 in
    let number = c.args.number in
    let part = dump_with_event w.seat.part (Sealed number true) in
    let known = Knows node o w.seat.sight in
    let after = Knows node o c.append.new.self.sight in
    let start = i.1.named number (subst (λ k. IsNamed events k) one.2 (offered_named events one.0 one.1)) in
    let stands = ap start_in sealed.found ∙ ap (λ x. option_map (λ l. l.start) x) (sym next.1) in
    let v : Dumper g.row.D.Denot = record { seat = w.seat; file = w.file; current = w.current } in (
      sym (ap (λ p. option_map (λ l. l.number) (offered_label p.events)) s.had.part),
      dumper_worked g.D.Disk o n.found n.faults n.premise g.J.DeviceRun.devices (λ a b d p q. g.met.D.Disk.same_on a b d p q) v c.append.new.self (Sealed number true ∷ []) c.seal.new.self None part i.1 s s.had.part refl sealed.volume
          (tied_sealed w.seat.part w.file c.seal.new.self number one.0 one.1 stands sealed.next i.1.tied) (named_more known after s.knows w.seat.part number start.0 start.1 i.1.named) tt c.seal.ensures.works.is_later
          (rise_same _ _ _ part.events i.1.rise c.seal.ensures.works.is_later.later) c.seal.ensures.holds
          (λ told. told_on (base_found n.found w.seat.part.number) (λ base b.
          bodies_sealed g.D.Disk.held known after s.knows w.seat.part base w.file c.seal.new.self w.current b number one.0 (record { label = next.0; slot = next_slot w.file.found }) one.1 one.2 sealed.found (b.named next.0 next.1)
          (c.seal.ensures.others told (next_body w.file.found) c.lawful.ensures.behind_label) sealed.next))
          (λ none. absurd (cc (ap (λ (x : Option DumpStart). option_or x (landed_here events)) (sym one.1) ∙ none))),
    )

pub invariant_of-self-in-Err : goal.invariant_of-self-in-Err
invariant_of-self-in-Err g c =
    let o = g.J.Run.opening in
    let n = g.J.NodeRun in
    let w = c.self.inside in
    let i = c.self.invariant in
    let s = c.append-in-Err.ensures in
    let events = w.seat.part.events in
    let req = subst (λ v. option_map (λ l. l.number) (offered_label v.seat.part.events) ≡ Some c.args.number) (sym c.self.view_is) c.requires.offered in
    let one = some_offered (offered_label events) c.args.number req in
    let left = c.in-Err.ensures.offered in
    let part = dump_with_event w.seat.part (Failed c.args.by) in
    let known = Knows node o w.seat.sight in
    let after = Knows node o c.append-in-Err.new.self.sight in
    let works = c.seal.ensures.works in
    let copying = subst (λ x. IfSome w.current (IsCopying after part x)) (sym left.filled) (failed_offered known after s.knows w.seat.part w.file.filled w.current c.args.by one.0 one.1 i.1.current) in
    let v : Dumper g.row.D.Denot = record { seat = w.seat; file = w.file; current = w.current } in (
      i.0 ∙ ap (λ p. option_map (λ l. l.number) (offered_label p.events)) (sym s.had.part),
      dumper_worked g.D.Disk o n.found n.faults n.premise g.J.DeviceRun.devices (λ a b d p q. g.met.D.Disk.same_on a b d p q) v c.append-in-Err.new.self (Failed c.args.by ∷ []) c.seal.new.self w.current part i.1 s s.had.part refl left.volume
          (tied_same part w.file c.seal.new.self left.found left.next (tied_failed w.seat.part w.file w.file c.args.by i.1.tied)) (named_same known after s.knows w.seat.part i.1.named) copying works.is_later
          (rise_failed _ _ _ events c.args.by i.1.rise works.is_later.later (works.failed (is_err c.seal.result c.in-Err.fault c.in-Err.is))) c.seal.ensures.holds
          (λ told. told_on (base_found n.found w.seat.part.number) (λ base b.
          bodies_on g.D.Disk.held known after s.knows w.seat.part base w.file c.seal.new.self w.current b left.found (λ dump at. c.seal.ensures.others told dump.label.body (apart_label w.file c.lawful.ensures dump at)) (Failed c.args.by) left.next refl refl (λ k f m. refl) (λ x h. h)
          (λ label at. c.seal.ensures.others told (next_body w.file.found) c.lawful.ensures.behind_label) w.current
          (subst (λ x. IfSome w.current (λ d. IfSome x (HasFront g.D.Disk.held after part base c.seal.new.self d.number))) (sym left.filled) (no_way_offered g.D.Disk.held known after w.seat.part part base c.seal.new.self w.current w.file.filled one.0 one.1 i.1.current))))
          (λ none. (none, left.found)),
    )

pub returns-in-Ok-clause-over : goal.returns-in-Ok-clause-over
returns-in-Ok-clause-over g c = λ label is.
    let w = c.self.inside in
    let s = c.append.ensures in
    let here = subst (λ v. offered_label v.seat.part.events ≡ Some label) (sym c.self.view_is) is in
    knows_over g.J.Run.opening g.J.NodeRun.found c.append.new.self (dump_with_event w.seat.part (Sealed c.args.number true)) c.args.number (Some label.start) s.is s.had.part (over_sealed w.seat.part c.args.number label here)

pub returns-in-Ok-clause-stands : goal.returns-in-Ok-clause-stands
returns-in-Ok-clause-stands g c = λ label is.
    let here = subst (λ v. v.file.next ≡ Some label) (sym c.self.view_is) is in
    subst (λ v. HasSealed v.file c.seal.new.self label) c.self.view_is (c.in-Ok.ensures.sealed label here)
