use Rattle.std.specs.Prelude.{Result, Err, IfSome, IsErr, option_map}
use Rattle.std.specs.Option.{MatchOption}
use Rattle.std.proofs.Common.{◌≡◌, ◌++◌, ◌<◌, [], ◌∷◌, Some, refl, ap, sym, ◌∙◌, subst}
use Rattle.tmf_model.specs.Config.{IsValidConfig}
use Rattle.chronicle.specs.Seats.{Knows}
use Rattle.node_machine.specs.declared.event.DumpEvent.TheVariants.{Copy, Failed}
use Rattle.node_machine.specs.Dump.{offered_label}
use Rattle.node_machine.specs.Node.{node}
use Rattle.online_dump.specs.Copies.{HasFront, place_of}
use Rattle.online_dump.specs.Filling.{HoldsBody}
use Rattle.online_dump.specs.Dumper.{Dumper, IsCopying, open_dump, base_found}
use Rattle.online_dump.specs.Dumping.{HasFailed, HasPut, MayCopyNext}
use Rattle.online_dump.specs.Seat.{MayStep, dump_with_event}
use Rattle.online_dump.proofs.Bodied.{apart_next, bodies_copied, bodies_on, front_more, no_way}
use Rattle.online_dump.proofs.Dumped.{copying_copied, failed_all, idle_now, may_copy, named_more, named_same, next_not_there, of_current, open_some, some_of, tied_copied, tied_failed, tied_same}
use Rattle.online_dump.proofs.Fewness.{few_places}
use Rattle.online_dump.proofs.Dumpers.{dumper_worked, rise_failed, rise_same, of_some, told_both, told_on}
use Rattle.online_dump.proofs.dumper.DumperState.put.Goals as goal

is_err : {T E : Type 0} (r : Result T E) (e : E) → r ≡ Err e → IsErr r
is_err r e is = subst (λ (x : _). IsErr x) (sym is) refl

pub put_block-requires-clause-begun : goal.put_block-requires-clause-begun
put_block-requires-clause-begun g c =
    let o = g.J.Run.opening in
    let w = c.self.inside in
    let may = subst (λ v. MatchOption (open_dump v) ⊥ (MayCopyNext (Knows node o v.seat.sight) (base_found g.J.NodeRun.found v.seat.part.number) v.seat.part v.file.filled c.args.n.file c.args.n.number c.args.position c.args.block.now)) (sym c.self.view_is) c.requires.may in
    let one = open_some w.file.filled w.current _ may in
    let i = c.self.invariant.1 in
    let few = few_places w.seat.part c.args.n.file c.args.n.number (subst IsValidConfig (sym i.at.was.config) i.valid) one.3.here in
    subst (λ x. MatchOption x ⊥ (λ k. k < 65536)) (sym one.3.at) few

pub put_block-requires-clause-certain : goal.put_block-requires-clause-certain
put_block-requires-clause-certain g c =
    let o = g.J.Run.opening in
    let w = c.self.inside in
    let i = c.self.invariant in
    let known = Knows node o w.seat.sight in
    let may = subst (λ v. MatchOption (open_dump v) ⊥ (MayCopyNext (Knows node o v.seat.sight) (base_found g.J.NodeRun.found v.seat.part.number) v.seat.part v.file.filled c.args.n.file c.args.n.number c.args.position c.args.block.now)) (sym c.self.view_is) c.requires.may in
    let one = open_some w.file.filled w.current _ may in
    let is = of_current (IsCopying known w.seat.part w.file.filled) w.current one.0 one.1 i.1.current in
    let none = idle_now known w.seat.part w.file.filled one.0 is (some_of w.file.filled (place_of w.seat.part c.args.n.file c.args.n.number) one.3.at) in
    next_not_there (λ l. l.start) (offered_label w.seat.part.events) w.file.next none i.1.tied.offered

pub append-requires : goal.append-requires
append-requires g c =
    let o = g.J.Run.opening in
    let w = c.self.inside in
    let known = Knows node o w.seat.sight in
    let may = subst (λ v. MatchOption (open_dump v) ⊥ (MayCopyNext (Knows node o v.seat.sight) (base_found g.J.NodeRun.found v.seat.part.number) v.seat.part v.file.filled c.args.n.file c.args.n.number c.args.position c.args.block.now)) (sym c.self.view_is) c.requires.may in
    let one = open_some w.file.filled w.current _ may in
    let copying = c.in-Some.copying in
    let same : one.0 ≡ copying = cc (one.1, c.in-Some.is) in
    let is = of_current (IsCopying known w.seat.part w.file.filled) w.current one.0 one.1 c.self.invariant.1.current in
    subst (λ x. MayStep o w.seat (Copy x.number c.args.n.file c.args.n.number c.args.position)) same (may_copy known (base_found g.J.NodeRun.found w.seat.part.number) w.seat.part w.file.filled one.0 c.args.n.file c.args.n.number c.args.position c.args.block.now is one.3)

pub invariant_of-self : goal.invariant_of-self
invariant_of-self g c =
    let o = g.J.Run.opening in
    let n = g.J.NodeRun in
    let w = c.self.inside in
    let i = c.self.invariant in
    let s = c.append.ensures in
    let part = w.seat.part in
    let file = c.args.n.file in
    let block = c.args.n.number in
    let copying = c.in-Some.copying in
    let now = dump_with_event part (Copy copying.number file block c.args.position) in
    let known = Knows node o w.seat.sight in
    let after = Knows node o c.append.new.self.sight in
    let may = subst (λ v. MatchOption (open_dump v) ⊥ (MayCopyNext (Knows node o v.seat.sight) (base_found g.J.NodeRun.found v.seat.part.number) v.seat.part v.file.filled file block c.args.position c.args.block.now)) (sym c.self.view_is) c.requires.may in
    let one = open_some w.file.filled w.current _ may in
    let same : one.0 ≡ copying = cc (one.1, c.in-Some.is) in
    let is = subst (λ x. IsCopying known part w.file.filled x) same (of_current (IsCopying known part w.file.filled) w.current one.0 one.1 i.1.current) in
    let at = subst (λ x. IsCopying known part x copying) one.3.at is in
    let e = c.put_block.ensures in
    let filled = c.in-Ok.ensures.filled (place_of part file block) one.3.at in
    let copied = subst (λ x. IsCopying after now x copying) (sym filled) (copying_copied known after s.knows part copying file block c.args.position one.3.here at) in
    let current = subst (λ x. IfSome x (IsCopying after now c.put_block.new.self.filled)) (sym c.in-Some.is) copied in
    let v : Dumper g.row.D.Denot = record { seat = w.seat; file = w.file; current = w.current } in (
      i.0 ∙ ap (λ p. option_map (λ l. l.number) (offered_label p.events)) (sym s.had.part),
      dumper_worked g.D.Disk o n.found n.faults n.premise g.J.DeviceRun.devices (λ a b d p q. g.met.D.Disk.same_on a b d p q) v c.append.new.self (Copy copying.number file block c.args.position ∷ []) c.put_block.new.self w.current now i.1 s s.had.part refl e.same.volume
          (tied_same now w.file c.put_block.new.self e.same.found e.same.next (tied_copied part w.file w.file copying.number file block c.args.position i.1.tied))
          (named_more known after s.knows part copying.number copying.start is.started i.1.named) current e.works.is_later (rise_same _ _ _ part.events i.1.rise e.works.is_later.later) e.holds
          (λ told b. told_both (base_found n.found part.number) (λ base h values.
          (let way = of_some (λ d. IfSome w.file.filled (HasFront g.D.Disk.held known part base w.file d.number)) w.current copying c.in-Some.is h.under_way in
          let front = of_some (HasFront g.D.Disk.held known part base w.file copying.number) w.file.filled (place_of part file block) one.3.at way in
          let body = subst (λ l. HoldsBody g.D.Disk.held c.put_block.new.self (front.text ++ l)) one.3.spelled (c.in-Ok.ensures.body front.text told front.body) in
          let more = front_more g.D.Disk.held known after s.knows part base w.file c.put_block.new.self copying.number file block c.args.position one.3.content one.3.records front one.3.at body one.3.here one.3.fits one.3.is_made values in
          bodies_copied g.D.Disk.held known after s.knows part base w.file c.put_block.new.self w.current h e.same.found (λ dump at. e.others told dump.label.body (apart_next w.file c.lawful.ensures dump at)) copying file block c.args.position e.same.next is.ongoing
          (idle_now known part w.file.filled copying is (some_of w.file.filled (place_of part file block) one.3.at)) w.current
          (subst (λ x. IfSome x (λ d. IfSome c.put_block.new.self.filled (HasFront g.D.Disk.held after now base c.put_block.new.self d.number))) (sym c.in-Some.is)
          (subst (λ x. IfSome x (HasFront g.D.Disk.held after now base c.put_block.new.self copying.number)) (sym filled) more)))) b one.3.values)
          (λ none. (none, e.same.found)),
    )

pub invariant_of-self-in-Err : goal.invariant_of-self-in-Err
invariant_of-self-in-Err g c =
    let o = g.J.Run.opening in
    let n = g.J.NodeRun in
    let w = c.self.inside in
    let i = c.self.invariant in
    let s = c.append-in-Err.ensures in
    let part = w.seat.part in
    let now = dump_with_event part (Failed c.args.by) in
    let known = Knows node o w.seat.sight in
    let after = Knows node o c.append-in-Err.new.self.sight in
    let may = subst (λ v. MatchOption (open_dump v) ⊥ (MayCopyNext (Knows node o v.seat.sight) (base_found g.J.NodeRun.found v.seat.part.number) v.seat.part v.file.filled c.args.n.file c.args.n.number c.args.position c.args.block.now)) (sym c.self.view_is) c.requires.may in
    let one = open_some w.file.filled w.current _ may in
    let e = c.put_block.ensures in
    let filled = c.in-Err.ensures.filled (place_of part c.args.n.file c.args.n.number) one.3.at in
    let is = of_current (IsCopying known part w.file.filled) w.current one.0 one.1 i.1.current in
    let idle = idle_now known part w.file.filled one.0 is (some_of w.file.filled (place_of part c.args.n.file c.args.n.number) one.3.at) in
    let current = subst (λ x. IfSome w.current (IsCopying after now x)) (sym filled) (failed_all known after s.knows part w.file.filled w.current c.args.by i.1.current) in
    let v : Dumper g.row.D.Denot = record { seat = w.seat; file = w.file; current = w.current } in (
      i.0 ∙ ap (λ p. option_map (λ l. l.number) (offered_label p.events)) (sym s.had.part),
      dumper_worked g.D.Disk o n.found n.faults n.premise g.J.DeviceRun.devices (λ a b d p q. g.met.D.Disk.same_on a b d p q) v c.append-in-Err.new.self (Failed c.args.by ∷ []) c.put_block.new.self w.current now i.1 s s.had.part refl e.same.volume
          (tied_same now w.file c.put_block.new.self e.same.found e.same.next (tied_failed part w.file w.file c.args.by i.1.tied)) (named_same known after s.knows part i.1.named) current e.works.is_later
          (rise_failed _ _ _ part.events c.args.by i.1.rise e.works.is_later.later (e.works.failed (is_err c.put_block.result c.in-Err.fault c.in-Err.is))) e.holds
          (λ told. told_on (base_found n.found part.number) (λ base b.
          bodies_on g.D.Disk.held known after s.knows part base w.file c.put_block.new.self w.current b e.same.found (λ dump at. e.others told dump.label.body (apart_next w.file c.lawful.ensures dump at)) (Failed c.args.by) e.same.next refl refl (λ k f m. refl) (λ x h. h)
          (λ label at. absurd (cc (sym idle ∙ at))) w.current (no_way g.D.Disk.held after now base c.put_block.new.self w.current c.put_block.new.self.filled filled)))
          (λ none. (none, e.same.found)),
    )

pub returns-in-Ok-clause-put : goal.returns-in-Ok-clause-put
returns-in-Ok-clause-put g c =
    let o = g.J.Run.opening in
    let w = c.self.inside in
    let copying = c.in-Some.copying in
    let may = subst (λ v. MatchOption (open_dump v) ⊥ (MayCopyNext (Knows node o v.seat.sight) (base_found g.J.NodeRun.found v.seat.part.number) v.seat.part v.file.filled c.args.n.file c.args.n.number c.args.position c.args.block.now)) (sym c.self.view_is) c.requires.may in
    let one = open_some w.file.filled w.current _ may in
    let same : one.0 ≡ copying = cc (one.1, c.in-Some.is) in
    subst (λ v. HasPut c.args.n.file c.args.n.number c.args.position v (record { seat = c.append.new.self; file = c.put_block.new.self; current = w.current })) c.self.view_is
    (record { c = copying; was = one.2 ∙ ap Some same; had = c.append.ensures.had; current_is = c.in-Some.is; filled = c.in-Ok.ensures.filled (place_of w.seat.part c.args.n.file c.args.n.number) one.3.at })

pub returns-in-Err-clause-failed : goal.returns-in-Err-clause-failed
returns-in-Err-clause-failed g c =
    let w = c.self.inside in
    subst (λ v. HasFailed c.args.by v.current v (record { seat = c.append-in-Err.new.self; file = c.put_block.new.self; current = w.current })) c.self.view_is (record { had = c.append-in-Err.ensures.had; current_is = refl })
