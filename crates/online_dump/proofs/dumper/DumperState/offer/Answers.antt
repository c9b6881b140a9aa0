use Rattle.std.specs.Prelude.{Result, Err, IfSome, IsErr, option_map}
use Rattle.std.proofs.Common.{◌≡◌, [], ◌∷◌, Some, refl, ap, sym, ◌∙◌, subst}
use Rattle.tmf_model.specs.Config.{IsWithin}
use Rattle.chronicle.specs.Seats.{Knows}
use Rattle.node_machine.specs.declared.event.DumpEvent.TheVariants.{Seal, Failed}
use Rattle.node_machine.specs.Dump.{offered_label}
use Rattle.node_machine.specs.Node.{node}
use Rattle.keyed_file.specs.Dump.{blocks_in_all}
use Rattle.online_dump.specs.Copies.{HasFront, files_of}
use Rattle.online_dump.specs.Filling.{next_body, next_label}
use Rattle.online_dump.specs.Dumper.{Dumper, base_found, IsCopying, open_dump}
use Rattle.online_dump.specs.Dumping.{MaySealAll}
use Rattle.online_dump.specs.Seat.{dump_with_event}
use Rattle.online_dump.proofs.Bodied.{apart_label, apart_next, bodies_offered, bodies_on, body_of_front, body_on, no_way}
use Rattle.online_dump.proofs.Dumped.{copying_offered, failed_all, idle_now, may_seal, named_more, named_same, next_not_there, of_current, open_is, tied_failed, tied_offered, tied_same}
use Rattle.online_dump.proofs.Dumpers.{dumper_worked, rise_failed, rise_same, of_some, told_on}
use Rattle.online_dump.proofs.dumper.DumperState.offer.Goals as goal

is_err : {T E : Type 0} (r : Result T E) (e : E) → r ≡ Err e → IsErr r
is_err r e is = subst (λ (x : _). IsErr x) (sym is) refl

pub write_next-requires : goal.write_next-requires
write_next-requires g c =
    let o = g.J.Run.opening in
    let w = c.self.inside in
    let i = c.self.invariant in
    let known = Knows node o w.seat.sight in
    let opened = open_is w.file.filled w.current c.args.copying (subst (λ v. open_dump v ≡ Some c.args.copying) (sym c.self.view_is) c.requires.open) in
    let is = of_current (IsCopying known w.seat.part w.file.filled) w.current c.args.copying opened.0 i.1.current in
    record {
      begun = opened.1;
      start = is.within;
      volume = subst (λ m. IsWithin 1 8 m) (sym i.1.volume) i.1.within;
      none = next_not_there (λ l. l.start) (offered_label w.seat.part.events) w.file.next (idle_now known w.seat.part w.file.filled c.args.copying is opened.1) i.1.tied.offered;
    }

pub append-requires : goal.append-requires
append-requires g c =
    let o = g.J.Run.opening in
    let w = c.self.inside in
    let known = Knows node o w.seat.sight in
    let opened = open_is w.file.filled w.current c.args.copying (subst (λ v. open_dump v ≡ Some c.args.copying) (sym c.self.view_is) c.requires.open) in
    let may = subst (λ v. MaySealAll (Knows node o v.seat.sight) v.seat.part v.file.filled c.args.copying) (sym c.self.view_is) c.requires.may in
    let is = of_current (IsCopying known w.seat.part w.file.filled) w.current c.args.copying opened.0 c.self.invariant.1.current in
    may_seal known w.seat.part w.file.filled c.args.copying is may

pub invariant_of-self : goal.invariant_of-self
invariant_of-self g c =
    let o = g.J.Run.opening in
    let n = g.J.NodeRun in
    let w = c.self.inside in
    let i = c.self.invariant in
    let s = c.append.ensures in
    let part = w.seat.part in
    let copying = c.args.copying in
    let now = dump_with_event part (Seal copying.number copying.start) in
    let known = Knows node o w.seat.sight in
    let after = Knows node o c.append.new.self.sight in
    let opened = open_is w.file.filled w.current copying (subst (λ v. open_dump v ≡ Some copying) (sym c.self.view_is) c.requires.open) in
    let may = subst (λ v. MaySealAll (Knows node o v.seat.sight) v.seat.part v.file.filled copying) (sym c.self.view_is) c.requires.may in
    let is = of_current (IsCopying known part w.file.filled) w.current copying opened.0 i.1.current in
    let e = c.write_next.ensures in
    let next = c.in-Ok.ensures.written in
    let new = c.write_next.new.file in
    let copied = subst (λ x. IsCopying after now x copying) (sym e.unfilled) (copying_offered known after s.knows part w.file.filled copying is) in
    let current = subst (λ x. IfSome x (IsCopying after now new.filled)) (sym opened.0) copied in
    let v : Dumper g.row.D.Denot = record { seat = w.seat; file = w.file; current = w.current } in (
      sym (ap (λ p. option_map (λ l. l.number) (offered_label p.events)) s.had.part),
      dumper_worked g.D.Disk o n.found n.faults n.premise g.J.DeviceRun.devices (λ a b d p q. g.met.D.Disk.same_on a b d p q) v c.append.new.self (Seal copying.number copying.start ∷ []) new w.current now i.1 s s.had.part refl next.volume
          (tied_offered part w.file new copying.number copying.start next.found (ap (λ x. option_map (λ l. l.start) x) next.next) may.rises i.1.tied)
          (named_more known after s.knows part copying.number copying.start is.started i.1.named) current e.works.is_later (rise_same _ _ _ part.events i.1.rise e.works.is_later.later) e.holds
          (λ told. told_on (base_found n.found part.number) (λ base b.
          (let way = of_some (λ d. IfSome w.file.filled (HasFront g.D.Disk.held known part base w.file d.number)) w.current copying opened.0 b.under_way in
          let front = of_some (HasFront g.D.Disk.held known part base w.file copying.number) w.file.filled (blocks_in_all (files_of part)) may.all way in
          let body = body_of_front g.D.Disk.held known part base w.file new copying.number front may.all (c.in-Ok.ensures.body front.text told front.body) in
          bodies_offered g.D.Disk.held known after s.knows part base w.file new w.current b next.found (λ dump at. e.others dump.label.body told (apart_label w.file c.lawful.ensures dump at) (apart_next w.file c.lawful.ensures dump at)) copying.number copying.start (λ label at. (let one : next_label w.file copying.start ≡ label = cc (sym next.next ∙ at) in sym (ap (λ l. l.body) one)))
          (body_on g.D.Disk.held known after s.knows part base new new (Seal copying.number copying.start) copying.number (next_body w.file.found) (λ f k. refl) refl body) e.unfilled w.current)))
          (λ none. (none, next.found)),
    )

pub invariant_of-self-in-Err : goal.invariant_of-self-in-Err
invariant_of-self-in-Err g c =
    let o = g.J.Run.opening in
    let n = g.J.NodeRun in
    let w = c.self.inside in
    let i = c.self.invariant in
    let s = c.append-in-Err.ensures in
    let part = w.seat.part in
    let now = dump_with_event part (Failed c.args.by) in
    let known = Knows node o w.seat.sight in
    let after = Knows node o c.append-in-Err.new.self.sight in
    let e = c.write_next.ensures in
    let same = c.in-Err.ensures.same in
    let opened = open_is w.file.filled w.current c.args.copying (subst (λ v. open_dump v ≡ Some c.args.copying) (sym c.self.view_is) c.requires.open) in
    let idle = idle_now known part w.file.filled c.args.copying (of_current (IsCopying known part w.file.filled) w.current c.args.copying opened.0 i.1.current) opened.1 in
    let new = c.write_next.new.file in
    let current = subst (λ x. IfSome w.current (IsCopying after now x)) (sym e.unfilled) (failed_all known after s.knows part w.file.filled w.current c.args.by i.1.current) in
    let v : Dumper g.row.D.Denot = record { seat = w.seat; file = w.file; current = w.current } in (
      i.0 ∙ ap (λ p. option_map (λ l. l.number) (offered_label p.events)) (sym s.had.part),
      dumper_worked g.D.Disk o n.found n.faults n.premise g.J.DeviceRun.devices (λ a b d p q. g.met.D.Disk.same_on a b d p q) v c.append-in-Err.new.self (Failed c.args.by ∷ []) new w.current now i.1 s s.had.part refl same.volume
          (tied_same now w.file new same.found same.next (tied_failed part w.file w.file c.args.by i.1.tied)) (named_same known after s.knows part i.1.named) current e.works.is_later
          (rise_failed _ _ _ part.events c.args.by i.1.rise e.works.is_later.later (e.works.failed (is_err c.write_next.result c.in-Err.fault c.in-Err.is))) e.holds
          (λ told. told_on (base_found n.found part.number) (λ base b.
          bodies_on g.D.Disk.held known after s.knows part base w.file new w.current b same.found (λ dump at. e.others dump.label.body told (apart_label w.file c.lawful.ensures dump at) (apart_next w.file c.lawful.ensures dump at)) (Failed c.args.by) same.next refl refl (λ k f m. refl) (λ x h. h)
          (λ label at. absurd (cc (sym idle ∙ at))) w.current (no_way g.D.Disk.held after now base new w.current new.filled e.unfilled)))
          (λ none. (none, same.found)),
    )
