use Rattle.disc_process.specs.LiveTx.{LiveTx, noted}
use Rattle.disc_process.specs.Span.{grown}
use Rattle.disc_process.specs.Live.{live_of}
use Rattle.trail_files.specs.MonitorOrder.{is_same_transid}
use Rattle.disc_process.proofs.Coming.{coming_moved, coming_same, here_changed, left_few}
use Rattle.std.proofs.Common.{◌||◌, cond, ◌≡◌, ℕ, ◌+◌, ◌-◌, ◌<◌, ◌≤◌, arith, false, true, List, [], ◌∷◌, ◌++◌, Option, Some, length, ap, sym, subst, ◌∙◌, refl}
use Rattle.std.specs.Prelude.{IsTrue}
use Rattle.std.specs.Option.{is_some, option_map}
use Rattle.std.proofs.lemmas.List.{length_push}
use Rattle.chronicle.specs.Seats.{Knows, MayAppend, own_events, part_state}
use Rattle.tmf_model.specs.declared.transid.Transid.{Transid}
use Rattle.tmf_model.specs.Place.{block_of}
use Rattle.tmf_model.specs.Transid.{is_transid}
use Rattle.trail_files.specs.AuditFormat.{is_audit_record}
use Rattle.trail_files.specs.AuditRecord.{audit_format}
use Rattle.trail_files.specs.Format.{AllValid}
use Rattle.trail_files.specs.declared.audit_record.AuditKind.TheVariants.{Change as ChangeKind}
use Rattle.trail_files.specs.declared.audit_record.AuditRecord.{AuditRecord}
use Rattle.node_machine.specs.declared.event.DiscEvent.TheVariants as did
use Rattle.node_machine.specs.declared.event.Event.{Event}
use Rattle.node_machine.specs.declared.event.Event.TheVariants.{OfDisc}
use Rattle.node_machine.specs.Disc.{MayAct, MayWrite, IsNoOther, OfValues, TellsChange}
use Rattle.node_machine.specs.Made.{has_released, holder, home_block, made, next_position, volume_of}
use Rattle.node_machine.specs.Node.{node}
use Rattle.node_machine.specs.Parts.{DiscPart}
use Rattle.node_machine.specs.Parts.Fact.{Durable, Enlisted}
use Rattle.node_machine.specs.Parts.PartState.{Disc}
use Rattle.node_machine.specs.Trail.{trail_of}
use Rattle.node_machine.specs.Worker.{IsOpen, has_finished}
use Rattle.node_machine.proofs.Appending.{disc_may}
use Rattle.keyed_file.specs.Block.{CanTake}
use Rattle.keyed_file.specs.Volume.{blocks_of as label_blocks}
use Rattle.keyed_file.specs.declared.label.Label.{Label}
use Rattle.block_cache.specs.declared.frame.Frame.{Frame}
use Rattle.block_cache.specs.Blocks.{InCache}
use Rattle.block_cache.specs.Cache.{entry_at}
use Rattle.disc_process.specs.declared.found.Found.TheVariants as found
use Rattle.tmf_model.specs.declared.config.Config.{Config}
use Rattle.record_locks.specs.Locks.{HasTaken, SameLocks, key_name}
use Rattle.disc_process.specs.Blocks.{HasMarked, cached, set_in}
use Rattle.disc_process.specs.Disc.{DiscView, Finds, FindsIn, HoldsPending, Keeps, record_of, the_disc, last_position, position_limit}
use Rattle.disc_process.proofs.Acting.{may_act_seats}
use Rattle.disc_process.proofs.Caches.{marked_from}
use Rattle.disc_process.proofs.Draws.{below_written, drawn_written}
use Rattle.disc_process.proofs.Founds.{can_take, changes}
use Rattle.disc_process.proofs.Keeping.{disc_seat_next, draws_changed, err_of, keeps_locks, live_changed, keeps_roomy, live_same, ok_of, told_changed, pending_changed, position_changed}
use Rattle.disc_process.proofs.Locking.{held_alone, locks_changed, locks_same}
use Rattle.disc_process.proofs.Recording.{all_more, from_more, record_valid, some_image}
use Rattle.disc_process.proofs.Telling.{of_values, tells_change}
use Rattle.disc_process.proofs.Later.{enlisted_met, enlisted_txn, later_then, met_txn}
use Rattle.disc_process.specs.Write.{HasDone}
use Rattle.disc_process.specs.Moves.{HoldsMoves}
use Rattle.disc_process.proofs.Moving.{moves_label, moves_written}
use Rattle.disc_process.specs.Spans.{HoldsSpans}
use Rattle.disc_process.proofs.Spans.{noted_span, spans_recorded, spans_same}
use Rattle.disc_process.specs.Device.{HoldsDevice, device_of}
use Rattle.disc_process.proofs.Damaged.{blocks_changed}
use Rattle.disc_process.proofs.Devices.{device_left}
use Rattle.disc_process.specs.Seats.{IsLaterSeat}
use Rattle.disc_process.proofs.Seats.{seat_grown, seat_then}
use Rattle.disc_process.proofs.Keys.{keys_same, keys_written}
use Rattle.disc_process.proofs.disc.DiscState.change.Goals as goal

pub append-requires : goal.append-requires
append-requires g c =
    let o = g.J.Run.opening in
    let i = c.self.invariant in
    let s : DiscPart = the_disc o c.self.inside.seat in
    let step = c.args.step.now in
    let old = c.self.inside.blocks in
    let number : ℕ = home_block s.config step.file step.key in
    let b : InCache old.cache step.file number (λ f. FindsIn s step number (found.Change c.args.before c.args.after) f.block) =
    subst (λ (v : DiscView g.row.D.Denot). Finds v step (found.Change c.args.before c.args.after)) (sym c.self.view_is) c.requires.found in
    let frame : Frame = b.1.0 in
    let is = changes frame.block b.1.2.kept step c.args.before c.args.after b.1.2.is in
    let here : volume_of s.config step.file ≡ s.number = subst (λ (v : DiscView g.row.D.Denot). volume_of v.part.config step.file ≡ v.part.number) (sym c.self.view_is) c.requires.here in
    let m = c.meet.ensures in
    let t : Transid = c.tx-t.result in
    let in_cache : cached old step.file number ≡ Some frame.block = ap (option_map (λ (x : Frame). x.block)) b.1.1 in
    let at : part_state node o c.meet.new.other ≡ Some (Disc s) = m.met.second_learned.state ∙ i.seat.at in
    let is_t : c.args.tx.now.tx ≡ t = sym c.tx-t.ensures.tx in
    let free : IsNoOther (holder s.events step.file step.key) t =
    subst (λ (x : Transid). IsNoOther (holder s.events step.file step.key) x) is_t (subst (λ (v : DiscView g.row.D.Denot). IsNoOther (holder v.part.events step.file step.key) c.args.tx.now.tx) (sym c.self.view_is) c.requires.free) in
    let a = m.state.active in
    let now_t : c.meet.new.self.tx ≡ t = m.met.tx ∙ c.enlist_here.ensures.tx ∙ is_t in
    let acts : MayAct s t = may_act_seats o c.meet.new.self.seat c.meet.new.other i.fresh m.met.second_learned.history m.met.same a.part a.at t (subst (IsOpen a.part) now_t a.is_open) (subst (λ (x : Transid). has_finished a.part.events x ≡ false) now_t a.unfinished) s at in
    let r : AuditRecord = c.change_record-change.result in
    let r_is = c.change_record-change.ensures.value in
    let plain : AuditRecord = record { kind = ChangeKind; disc = c.self.inside.volume; file = step.file; tx = t; position = c.self.inside.next; key = step.key; before = c.args.before; after = c.args.after } in
    let told : OfValues s.base s.events (TellsChange s plain step.op) =
    of_values g.D.Disk.tells g.D.Disk.held s old step.file number frame.block here in_cache (TellsChange s plain step.op)
    (λ values same. (let y = tells_change s step number frame.block (found.Change c.args.before c.args.after) b.1.2 refl values same t c.args.before c.args.after is in
    record { before = y.before; after = y.after; room = y.room })) s.base i.keeps.values in
    let may : MayWrite s plain step.op = record {
      takes = record { here = here; acts = acts; free = free };
      op_changes = is.op_changes;
      kind = refl;
      disc = sym i.seat.number;
      position = i.keeps.position;
      told = told;
    } in
    let knows = subst (λ (x : Transid). Knows node o c.meet.new.other (Enlisted x c.self.inside.volume)) is_t (m.met.tells (Enlisted c.args.tx.now.tx c.self.inside.volume) c.enlist_here.ensures.knows) in
    subst (λ (x : AuditRecord). MayAppend node o c.meet.new.other (OfDisc (did.Write x step.op))) (sym r_is)
    (disc_may o c.meet.new.other s (did.Write plain step.op) at may (subst (λ (n : ℕ). Knows node o c.meet.new.other (Enlisted t n)) (sym i.seat.number) knows))

pub set-requires-clause-cached : goal.set-requires-clause-cached
set-requires-clause-cached g c =
    let o = g.J.Run.opening in
    let i = c.self.invariant in
    let s : DiscPart = the_disc o c.self.inside.seat in
    let step = c.args.step.now in
    let old = c.self.inside.blocks in
    let number : ℕ = home_block s.config step.file step.key in
    let b : InCache old.cache step.file number (λ f. FindsIn s step number (found.Change c.args.before c.args.after) f.block) =
    subst (λ (v : DiscView g.row.D.Denot). Finds v step (found.Change c.args.before c.args.after)) (sym c.self.view_is) c.requires.found in
    let frame : Frame = b.1.0 in
    let is = changes frame.block b.1.2.kept step c.args.before c.args.after b.1.2.is in
    let here : volume_of s.config step.file ≡ s.number = subst (λ (v : DiscView g.row.D.Denot). volume_of v.part.config step.file ≡ v.part.number) (sym c.self.view_is) c.requires.here in
    let n_is : c.home-n.result.number ≡ number = c.home-n.ensures.number ∙ ap (λ (x : Config). home_block x step.file step.key) (sym i.seat.config_is) in
    let after : c.change_record-change.result.after ≡ c.args.after = ap (λ (x : AuditRecord). x.after) c.change_record-change.ensures.value in
    let take : CanTake frame.block.records step.key c.args.after = can_take frame.block b.1.2.kept step.op step.key c.args.before c.args.after is in
    let there : InCache old.cache step.file number (λ f. CanTake f.block.records step.key c.args.after) = (b.0, (frame, b.1.1, take)) in
    subst (λ (v : Option (List ℕ)). InCache old.cache c.home-n.result.file c.home-n.result.number (λ f. CanTake f.block.records step.key v)) (sym after)
    (subst (λ (x : ℕ × ℕ). InCache old.cache x.0 x.1 (λ f. CanTake f.block.records step.key c.args.after)) (λ j. (sym c.home-n.ensures.file j, sym n_is j)) there)

pub set-requires-clause-home : goal.set-requires-clause-home
set-requires-clause-home g c =
    let o = g.J.Run.opening in
    let i = c.self.invariant in
    let s : DiscPart = the_disc o c.self.inside.seat in
    let step = c.args.step.now in
    let old = c.self.inside.blocks in
    let number : ℕ = home_block s.config step.file step.key in
    let b : InCache old.cache step.file number (λ f. FindsIn s step number (found.Change c.args.before c.args.after) f.block) =
    subst (λ (v : DiscView g.row.D.Denot). Finds v step (found.Change c.args.before c.args.after)) (sym c.self.view_is) c.requires.found in
    let frame : Frame = b.1.0 in
    let is = changes frame.block b.1.2.kept step c.args.before c.args.after b.1.2.is in
    let here : volume_of s.config step.file ≡ s.number = subst (λ (v : DiscView g.row.D.Denot). volume_of v.part.config step.file ≡ v.part.number) (sym c.self.view_is) c.requires.here in
    let n_is : c.home-n.result.number ≡ number = c.home-n.ensures.number ∙ ap (λ (x : Config). home_block x step.file step.key) (sym i.seat.config_is) in
    ap (λ (f : ℕ). block_of step.key (label_blocks old.label.files f)) c.home-n.ensures.file ∙ ap (block_of step.key) (i.keeps.files step.file here) ∙ sym n_is

pub invariant_of-self-2 : goal.invariant_of-self-2
invariant_of-self-2 g c =
    let o = g.J.Run.opening in
    let i = c.self.invariant in
    let s : DiscPart = the_disc o c.self.inside.seat in
    let step = c.args.step.now in
    let old = c.self.inside.blocks in
    let number : ℕ = home_block s.config step.file step.key in
    let b : InCache old.cache step.file number (λ f. FindsIn s step number (found.Change c.args.before c.args.after) f.block) =
    subst (λ (v : DiscView g.row.D.Denot). Finds v step (found.Change c.args.before c.args.after)) (sym c.self.view_is) c.requires.found in
    let frame : Frame = b.1.0 in
    let is = changes frame.block b.1.2.kept step c.args.before c.args.after b.1.2.is in
    let here : volume_of s.config step.file ≡ s.number = subst (λ (v : DiscView g.row.D.Denot). volume_of v.part.config step.file ≡ v.part.number) (sym c.self.view_is) c.requires.here in
    let m = c.meet.ensures in
    let t : Transid = c.tx-t.result in
    let new = c.set.new.self in
    let r : AuditRecord = c.change_record-change.result in
    let r_is = c.change_record-change.ensures.value in
    let r_file : r.file ≡ step.file = ap (λ (x : AuditRecord). x.file) r_is in
    let r_key : r.key ≡ step.key = ap (λ (x : AuditRecord). x.key) r_is in
    let r_tx : r.tx ≡ t = ap (λ (x : AuditRecord). x.tx) r_is in
    let r_position : r.position ≡ c.self.inside.next = ap (λ (x : AuditRecord). x.position) r_is in
    let r_disc : r.disc ≡ c.self.inside.volume = ap (λ (x : AuditRecord). x.disc) r_is in
    let r_before : r.before ≡ c.args.before = ap (λ (x : AuditRecord). x.before) r_is in
    let r_after : r.after ≡ c.args.after = ap (λ (x : AuditRecord). x.after) r_is in
    let in_cache : cached old step.file number ≡ Some frame.block = ap (option_map (λ (x : Frame). x.block)) b.1.1 in
    let changed : AuditRecord = record { kind = ChangeKind; disc = c.self.inside.volume; file = step.file; tx = t; position = c.self.inside.next; key = step.key; before = c.args.before; after = c.args.after } in
    let told_r : OfValues s.base s.events (TellsChange s r step.op) =
    subst (λ (x : AuditRecord). OfValues s.base s.events (TellsChange s x step.op)) (sym r_is)
    (of_values g.D.Disk.tells g.D.Disk.held s old step.file number frame.block here in_cache (TellsChange s changed step.op)
    (λ values same. (let y = tells_change s step number frame.block (found.Change c.args.before c.args.after) b.1.2 refl values same t c.args.before c.args.after is in
    record { before = y.before; after = y.after; room = y.room })) s.base i.keeps.values) in
    let some_r = subst (λ (x : AuditRecord). (is_some x.before || is_some x.after) ≡ true) (sym r_is) (some_image step.op c.args.before c.args.after is.op_changes is.gives) in
    let free_t : IsNoOther (holder s.events step.file step.key) t =
    subst (λ (x : Transid). IsNoOther (holder s.events step.file step.key) x) (sym c.tx-t.ensures.tx) (subst (λ (v : DiscView g.row.D.Denot). IsNoOther (holder v.part.events step.file step.key) c.args.tx.now.tx) (sym c.self.view_is) c.requires.free) in
    let free_r : IsNoOther (holder s.events r.file r.key) r.tx = subst (λ (x : AuditRecord). IsNoOther (holder s.events x.file x.key) x.tx) (sym r_is) free_t in
    let e = did.Write r step.op in
    let next = disc_seat_next o c.self.inside.config.now c.self.inside.volume _ c.self.inside.seat c.meet.new.other c.append.new.seat e i.seat m.met.second_learned.state m.met.second.part c.append.ensures.part c.append.ensures.state in
    let took = ok_of c.take.result (HasTaken c.self.inside.locks c.take.new.self (key_name step.file step.key) t) (sym c.is_err-2.ensures.value ∙ c.if-is_err-2.false) c.take.ensures.taken in
    let kept = i.keeps in
    let room : next_position s < last_position = subst (λ (v : DiscView g.row.D.Denot). next_position v.part < last_position) (sym c.self.view_is) c.requires.room in
    let at_position = kept.position in
    let fewer = left_few s.events in
    let few : c.self.inside.next + 1 ≤ position_limit = omega (arith, room, at_position) in
    let now_t : c.meet.new.self.tx ≡ t = m.met.tx ∙ c.enlist_here.ensures.tx ∙ sym c.tx-t.ensures.tx in
    let a = m.state.active in
    let acts : MayAct s t = may_act_seats o c.meet.new.self.seat c.meet.new.other i.fresh m.met.second_learned.history m.met.same a.part a.at t (subst (IsOpen a.part) now_t a.is_open) (subst (λ (x : Transid). has_finished a.part.events x ≡ false) now_t a.unfinished) s (m.met.second_learned.state ∙ i.seat.at) in
    let free : has_released s.events r.tx ≡ false = subst (λ (x : Transid). has_released s.events x ≡ false) (sym r_tx) acts.unreleased in
    let pushed = ap length c.push_reserved.ensures.items in
    let one_more = length_push c.reserve-2.new.self.items r in
    let same_items = ap length c.reserve-2.ensures.items in
    let same_durable : c.self.inside.next - 1 - length c.self.inside.pending.items ≡ c.self.inside.next + 1 - 1 - length c.push_reserved.new.self.items = omega (arith, pushed, one_more, same_items) in
    let n_is : c.home-n.result.number ≡ number = c.home-n.ensures.number ∙ ap (λ (x : Config). home_block x step.file step.key) (sym i.seat.config_is) in
    let n_at : entry_at old.cache c.home-n.result.file c.home-n.result.number ≡ Some frame = ap (λ (x : ℕ × ℕ). entry_at old.cache x.0 x.1) (λ j. (c.home-n.ensures.file j, n_is j)) ∙ b.1.1 in
    let marked_n : HasMarked old new c.home-n.result.file c.home-n.result.number (set_in step.key r.after c.self.inside.next) =
    marked_from old new c.home-n.result.file c.home-n.result.number frame (set_in step.key r.after c.self.inside.next) n_at (c.set.ensures.cache frame n_at) c.set.ensures.label c.set.ensures.frames in
    let file_is : c.home-n.result.file ≡ r.file = c.home-n.ensures.file ∙ sym r_file in
    let set : HasMarked old new r.file number (set_in r.key r.after r.position) =
    subst (λ (x : List ℕ × ℕ). HasMarked old new r.file number (set_in x.0 r.after x.1)) (λ j. (sym r_key j, sym r_position j))
    (subst (λ (x : ℕ × ℕ). HasMarked old new x.0 x.1 (set_in step.key r.after c.self.inside.next)) (λ j. (file_is j, n_is j)) marked_n) in
    let home : home_block s.config r.file r.key ≡ number = ap (λ (x : ℕ × List ℕ). home_block s.config x.0 x.1) (λ j. (r_file j, r_key j)) in
    let there : entry_at old.cache r.file number ≡ Some frame = ap (λ (f : ℕ). entry_at old.cache f number) r_file ∙ b.1.1 in
    let at_next : r.position ≡ next_position s = r_position ∙ kept.position in
    let tells_same : IsTrue (g.D.Disk.tells old.device) → IsTrue (g.D.Disk.tells new.device) = λ x. subst (λ d. IsTrue (g.D.Disk.tells d)) (sym c.set.ensures.device) x in
    let items : c.reserve-2.new.self.items ++ r ∷ [] ≡ c.push_reserved.new.self.items = sym c.push_reserved.ensures.items in
    let items_old : c.self.inside.pending.items ++ r ∷ [] ≡ c.push_reserved.new.self.items = ap (λ (xs : List AuditRecord). xs ++ r ∷ []) (sym c.reserve-2.ensures.items) ∙ items in
    let keeps : Keeps g.D.Disk.tells g.D.Disk.held new c.mark.new.self c.note.new.self c.push_reserved.new.self.items (c.self.inside.next + 1) (record s { events = e ∷ s.events }) = record {
      position = position_changed s r step.op c.self.inside.next kept.position;
      few = (omega (arith, room, at_position, fewer));
      holds_locks = locks_changed c.self.inside.locks c.take.new.self step.file step.key t took c.mark.new.self c.mark.ensures s.events r step.op r_file r_key r_tx kept.holds_locks;
      holds_live = λ u unreleased. live_changed c.reserve.new.self c.note.new.self s.events r step.op u (c.note.ensures u) (live_same c.self.inside.live c.reserve.new.self s.events u (c.reserve.ensures.same u) (kept.holds_live u unreleased));
      coming = coming_moved c.reserve.new.self c.note.new.self s e r.tx (noted r) (λ u. c.note.ensures u) (λ l u same. ap (λ b. cond b true l.come) (sym same)) (λ u other. other) (λ u. refl) free
          (here_changed s r step.op (subst (λ (f : ℕ). volume_of s.config f ≡ s.number) (sym r_file) here) kept.coming.here) (coming_same c.self.inside.live c.reserve.new.self s (λ u. c.reserve.ensures.same u) kept.coming);
      holds_pending = subst (λ (xs : List AuditRecord). HoldsPending xs (e ∷ s.events)) items_old (pending_changed c.self.inside.pending.items s.events r step.op kept.holds_pending);
      values = told_changed g.D.Disk.tells g.D.Disk.held s old new r step.op number r.position home set kept.homes tells_same c.set.ensures.holds frame there kept.draws at_next kept.values;
      draws = draws_changed s r step.op kept.draws;
      are_drawn = drawn_written s old new kept.are_drawn r step.op number b.0 home set frame there at_next kept.draws kept.below;
      below = below_written s r step.op at_next kept.below;
      audit = from_more s.first s.number (made s.events) r kept.audit (r_disc ∙ sym i.seat.number) at_next;
      homes = kept.homes;
      files = λ f on. ap (λ (l : Label). label_blocks l.files f) set.label ∙ kept.files f on;
      only = λ f some. kept.only f (subst (λ (l : Label). 0 < label_blocks l.files f) set.label some);
    } in
    let rules = g.J.NodeRun.rules (trail_of c.self.inside.config.now c.self.inside.volume) in
    let on_volume : volume_of c.self.inside.config.now step.file ≡ c.self.inside.volume = subst (λ (x : Config × ℕ). volume_of x.0 step.file ≡ x.1) (λ j. (i.seat.config_is j, i.seat.number j)) here in
    let tx_valid : is_transid r.tx ≡ true = subst (λ (x : Transid). is_transid x ≡ true) (sym c.tx-t.ensures.tx ∙ sym r_tx) c.requires.valid in
    let first = kept.draws.first in
    let plain : AuditRecord = record { kind = ChangeKind; disc = c.self.inside.volume; file = step.file; tx = t; position = c.self.inside.next; key = step.key; before = c.args.before; after = c.args.after } in
    let valid : is_audit_record rules plain ≡ true =
    record_valid rules plain i.is_found.disc_of (i.is_found.file_of step.file on_volume) (subst (λ (x : Transid). is_transid x ≡ true) r_tx tx_valid) (omega (arith, at_position, first)) (omega (arith, few)) c.change_record-change.ensures.key c.change_record-change.ensures.before c.change_record-change.ensures.after (some_image step.op c.args.before c.args.after is.op_changes is.gives) in
    record {
      fresh = i.fresh;
      valid = i.valid;
      volume_few = i.volume_few;
      declared = i.declared;
      is_found = i.is_found;
      records = subst (AllValid (audit_format rules)) items_old (all_more (λ x. is_audit_record rules x ≡ true) c.self.inside.pending.items r i.records (subst (λ (x : AuditRecord). is_audit_record rules x ≡ true) (sym r_is) valid));
      seat = next.1;
      spans = subst (λ (x : DiscPart). HoldsSpans c.note.new.self x) (sym next.0) (spans_recorded s (e ∷ s.events) r refl (λ u other. refl) (λ u. refl) free at_next kept.below kept.draws.first c.self.inside.live c.note.new.self (λ u. ap (λ (l : LiveTx). l.span) (c.note.ensures u) ∙ noted_span (is_same_transid r.tx u) r (live_of c.reserve.new.self u) ∙ ap (λ (l : LiveTx). cond (is_same_transid r.tx u) (grown l.span r.position) l.span) (c.reserve.ensures.same u)) i.spans);
      holds_moves = subst (λ (x : DiscPart). HoldsMoves c.self.inside.moves new x) (sym next.0) (moves_label c.self.inside.moves old new (record s { events = e ∷ s.events }) c.set.ensures.label (moves_written c.self.inside.moves old s r step.op free at_next (subst (λ (f : ℕ). volume_of s.config f ≡ s.number) (sym r_file) here) i.holds_moves));
      keeps = subst (λ (x : DiscPart). Keeps g.D.Disk.tells g.D.Disk.held new c.mark.new.self c.note.new.self c.push_reserved.new.self.items (c.self.inside.next + 1) x) (sym next.0) keeps;
      holds_keys = keys_same _ _ next.0 (keys_written s r step.op (held_alone c.self.inside.locks s.events c.always.ensures kept.holds_locks) i.holds_keys free_r some_r told_r is.op_changes);
      holds_blocks = blocks_changed g.D.Disk (g.J.DeviceRun.devices (device_of c.self.inside.volume)) old new c.home-n.result.file c.home-n.result.number frame (set_in step.key r.after c.self.inside.next frame) n_at i.holds_device.handed c.set.ensures.valid.label c.set.ensures.label.same c.set.ensures.device (c.set.ensures.cache frame n_at) refl i.holds_blocks;
      holds_device = device_left g.D.Disk _ _ new.device s _ e next.0 refl (subst (λ (x : g.row.D.Denot). HoldsDevice g.D.Disk (g.J.DeviceRun.devices (device_of c.self.inside.volume)) (g.J.NodeRun.faults (device_of c.self.inside.volume)) x s.events) (sym c.set.ensures.device) i.holds_device);
      durable = subst (λ (p : ℕ). Knows node o c.append.new.seat (Durable c.self.inside.volume p)) same_durable (c.append.ensures.knows (Durable c.self.inside.volume (c.self.inside.next - 1 - length c.self.inside.pending.items)) (m.met.second_learned.knows (Durable c.self.inside.volume (c.self.inside.next - 1 - length c.self.inside.pending.items)) i.durable));
    }

pub invariant_of-self-then-is_err : goal.invariant_of-self-then-is_err
invariant_of-self-then-is_err g c =
    let o = g.J.Run.opening in
    let i = c.self.invariant in
    record {
      fresh = i.fresh;
      valid = i.valid;
      volume_few = i.volume_few;
      declared = i.declared;
      is_found = i.is_found;
      records = subst (AllValid (audit_format (g.J.NodeRun.rules (trail_of c.self.inside.config.now c.self.inside.volume)))) (sym c.reserve-2.ensures.items) i.records;
      seat = i.seat;
      spans = spans_same c.self.inside.live c.reserve.new.self (the_disc o c.self.inside.seat) (λ u. c.reserve.ensures.same u) i.spans;
      holds_moves = i.holds_moves;
      keeps = keeps_roomy g.D.Disk.tells g.D.Disk.held (the_disc o c.self.inside.seat) c.self.inside.blocks c.self.inside.locks c.self.inside.live c.reserve.new.self c.self.inside.pending.items c.reserve-2.new.self.items c.self.inside.next (λ u. c.reserve.ensures.same u) c.reserve-2.ensures.items i.keeps;
      holds_keys = i.holds_keys;
      holds_blocks = i.holds_blocks;
      holds_device = i.holds_device;
      durable = subst (λ (xs : List AuditRecord). Knows node o c.self.inside.seat (Durable c.self.inside.volume (c.self.inside.next - 1 - length xs))) (sym c.reserve-2.ensures.items) i.durable;
    }

pub invariant_of-self-then-is_err-2 : goal.invariant_of-self-then-is_err-2
invariant_of-self-then-is_err-2 g c =
    let o = g.J.Run.opening in
    let i = c.self.invariant in
    let s : DiscPart = the_disc o c.self.inside.seat in
    let same = err_of c.take.result (SameLocks c.self.inside.locks c.take.new.self) (sym c.is_err-2.ensures.value ∙ c.if-is_err-2.true) c.take.ensures.unchanged in
    let roomy = keeps_roomy g.D.Disk.tells g.D.Disk.held s c.self.inside.blocks c.self.inside.locks c.self.inside.live c.reserve.new.self c.self.inside.pending.items c.reserve-2.new.self.items c.self.inside.next (λ u. c.reserve.ensures.same u) c.reserve-2.ensures.items i.keeps in
    record {
      fresh = i.fresh;
      valid = i.valid;
      volume_few = i.volume_few;
      declared = i.declared;
      is_found = i.is_found;
      records = subst (AllValid (audit_format (g.J.NodeRun.rules (trail_of c.self.inside.config.now c.self.inside.volume)))) (sym c.reserve-2.ensures.items) i.records;
      seat = i.seat;
      spans = spans_same c.self.inside.live c.reserve.new.self (the_disc o c.self.inside.seat) (λ u. c.reserve.ensures.same u) i.spans;
      holds_moves = i.holds_moves;
      keeps = keeps_locks g.D.Disk.tells g.D.Disk.held s c.self.inside.blocks c.self.inside.locks c.take.new.self c.reserve.new.self c.reserve-2.new.self.items c.self.inside.next (locks_same c.self.inside.locks c.take.new.self s.events same i.keeps.holds_locks) roomy;
      holds_keys = i.holds_keys;
      holds_blocks = i.holds_blocks;
      holds_device = i.holds_device;
      durable = subst (λ (xs : List AuditRecord). Knows node o c.self.inside.seat (Durable c.self.inside.volume (c.self.inside.next - 1 - length xs))) (sym c.reserve-2.ensures.items) i.durable;
    }

pub returns-clause-done : goal.returns-clause-done
returns-clause-done g c =
    let o = g.J.Run.opening in
    let i = c.self.invariant in
    let m = c.meet.ensures in
    let s : DiscPart = the_disc o c.self.inside.seat in
    let step = c.args.step.now in
    let old = c.self.inside.blocks in
    let new = c.set.new.self in
    let number : ℕ = home_block s.config step.file step.key in
    let what = found.Change c.args.before c.args.after in
    let b : InCache old.cache step.file number (λ f. FindsIn s step number what f.block) = subst (λ (v : DiscView g.row.D.Denot). Finds v step what) (sym c.self.view_is) c.requires.found in
    let frame : Frame = b.1.0 in
    let r_is = c.change_record-change.ensures.value in
    let after : c.change_record-change.result.after ≡ c.args.after = ap (λ (x : AuditRecord). x.after) r_is in
    let n_is : c.home-n.result.number ≡ number = c.home-n.ensures.number ∙ ap (λ (x : Config). home_block x step.file step.key) (sym i.seat.config_is) in
    let n_at : entry_at old.cache c.home-n.result.file c.home-n.result.number ≡ Some frame = ap (λ (x : ℕ × ℕ). entry_at old.cache x.0 x.1) (λ j. (c.home-n.ensures.file j, n_is j)) ∙ b.1.1 in
    let marked : HasMarked old new c.home-n.result.file c.home-n.result.number (set_in step.key c.change_record-change.result.after c.self.inside.next) =
    marked_from old new c.home-n.result.file c.home-n.result.number frame (set_in step.key c.change_record-change.result.after c.self.inside.next) n_at (c.set.ensures.cache frame n_at) c.set.ensures.label c.set.ensures.frames in
    let at : HasMarked old new step.file number (set_in step.key c.args.after (next_position s)) =
    subst (λ (x : ℕ × (ℕ × (Option (List ℕ) × ℕ))). HasMarked old new x.0 x.1.0 (set_in step.key x.1.1.0 x.1.1.1)) (λ j. (c.home-n.ensures.file j, (n_is j, (after j, i.keeps.position j)))) marked in
    let plain : AuditRecord = record { kind = ChangeKind; disc = c.self.inside.volume; file = step.file; tx = c.tx-t.result; position = c.self.inside.next; key = step.key; before = c.args.before; after = c.args.after } in
    let named : plain ≡ record_of s c.args.tx.now.tx step c.args.before c.args.after =
    λ j. record { kind = ChangeKind; disc = sym i.seat.number j; file = step.file; tx = c.tx-t.ensures.tx j; position = i.keeps.position j; key = step.key; before = c.args.before; after = c.args.after } in
    subst (λ (v : DiscView g.row.D.Denot). HasDone v (record { seat = c.append.new.seat; part = the_disc o c.append.new.seat; blocks = new; handed_in = g.J.DeviceRun.devices (device_of c.self.inside.volume) }) c.args.tx.now c.meet.new.self step what) c.self.view_is
    (record {
      block = frame.block;
      was = ap (option_map (λ (x : Frame). x.block)) b.1.1;
      others = λ f n few other. ap (option_map (λ (x : Frame). x.block)) (at.others f n few other);
      finds = b.1.2;
      cached = (b.0, (set_in step.key c.args.after (next_position s) frame, at.entry ∙ ap (option_map (set_in step.key c.args.after (next_position s))) b.1.1, refl));
      disc_events = c.append.ensures.mine
          ∙ ap (λ (xs : List Event). xs ++ OfDisc (did.Write c.change_record-change.result step.op) ∷ []) m.met.second.mine
          ∙ ap (λ (x : AuditRecord). own_events c.self.inside.seat ++ OfDisc (did.Write x step.op) ∷ []) (r_is ∙ named);
      worker = enlisted_met o c.args.tx.now c.enlist_here.new.self c.meet.new.self s.number c.self.inside.volume c.self.inside.seat c.meet.new.other (sym i.seat.number) c.enlist_here.ensures m.met;
    })

pub returns-clause-txn : goal.returns-clause-txn
returns-clause-txn g c =
    later_then g.J.Run.opening c.args.tx.now c.enlist_here.new.self c.meet.new.self (enlisted_txn g.J.Run.opening c.args.tx.now c.enlist_here.new.self c.self.inside.volume c.enlist_here.ensures)
    (met_txn g.J.Run.opening c.enlist_here.new.self c.meet.new.self c.self.inside.seat c.meet.new.other c.meet.ensures.met)

pub returns-clause-later_seat : goal.returns-clause-later_seat
returns-clause-later_seat g c =
    subst (λ (v : DiscView g.row.D.Denot). IsLaterSeat v.seat c.append.new.seat) c.self.view_is
    (seat_then c.self.inside.seat c.meet.new.other c.append.new.seat (seat_grown c.self.inside.seat c.meet.new.other c.meet.ensures.met.second) (record { place = c.append.ensures.part; begins = c.append.ensures.begins }))
