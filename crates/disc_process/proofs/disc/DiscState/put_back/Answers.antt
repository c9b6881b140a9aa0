use Rattle.std.proofs.Common.{◌≡◌, ◌≢◌, ◌⊎◌, ℕ, ◌+◌, ◌-◌, ◌<◌, arith, cond, true, map, List, [], ◌∷◌, ◌++◌, Some, length, ap, sym, subst, ◌∙◌, refl}
use Rattle.std.specs.Prelude.{IsTrue, slice_get}
use Rattle.std.specs.Option.{IsSome, option_map}
use Rattle.std.proofs.lemmas.List.{length_push}
use Rattle.chronicle.specs.Seats.{Knows, MayAppend, own_events, part_state}
use Rattle.tmf_model.specs.declared.config.Config.{Config}
use Rattle.tmf_model.specs.declared.transid.Transid.{Transid}
use Rattle.tmf_model.specs.Place.{block_of}
use Rattle.trail_files.specs.MonitorOrder.{is_same_transid}
use Rattle.trail_files.specs.AuditFormat.{is_audit_record}
use Rattle.trail_files.specs.AuditRecord.{audit_format}
use Rattle.trail_files.specs.Format.{AllValid}
use Rattle.trail_files.specs.declared.audit_record.AuditKind.TheVariants.{Undo as UndoKind}
use Rattle.trail_files.specs.declared.audit_record.AuditRecord.{AuditRecord}
use Rattle.node_machine.specs.declared.event.DiscEvent.{DiscEvent}
use Rattle.node_machine.specs.declared.event.DiscEvent.TheVariants as did
use Rattle.node_machine.specs.declared.event.Event.TheVariants.{OfDisc}
use Rattle.node_machine.specs.Disc.{OfValues, IsBackedOut, MayUndo}
use Rattle.node_machine.specs.Made.{has_undone, volume_of}
use Rattle.node_machine.specs.Node.{node}
use Rattle.node_machine.specs.Parts.{DiscPart}
use Rattle.node_machine.specs.Parts.Fact.{Durable}
use Rattle.node_machine.specs.Trail.{trail_of}
use Rattle.node_machine.proofs.Appending.{disc_may}
use Rattle.keyed_file.specs.Block.{KeyedBlock, value_at}
use Rattle.keyed_file.specs.Volume.{blocks_of as label_blocks}
use Rattle.block_cache.specs.declared.frame.Frame.{Frame}
use Rattle.block_cache.specs.Blocks.{InCache}
use Rattle.block_cache.specs.Cache.{entry_at}
use Rattle.disc_process.specs.declared.live.Change.{Change}
use Rattle.disc_process.specs.Blocks.{HasMarked, cached, set_in, with_change}
use Rattle.disc_process.specs.Disc.{DiscView, Keeps, the_disc}
use Rattle.disc_process.specs.Live.{live_of}
use Rattle.disc_process.specs.LiveTx.{LiveTx, change_of}
use Rattle.disc_process.specs.Moves.{HoldsMoves}
use Rattle.disc_process.specs.Release.{with_event}
use Rattle.disc_process.specs.Spans.{HoldsSpans}
use Rattle.disc_process.specs.Undo.{HasPutBack, IsNewest, home_of_change, takes_back, undo_of, undone_block}
use Rattle.disc_process.proofs.Caches.{marked_from}
use Rattle.disc_process.proofs.Keeping.{disc_seat_next, keeps_roomy}
use Rattle.disc_process.proofs.Moving.{moves_label, moves_undone}
use Rattle.disc_process.proofs.Recording.{all_more, record_valid}
use Rattle.disc_process.proofs.Spans.{spans_recorded, taken_span}
use Rattle.disc_process.proofs.Telling.{of_values}
use Rattle.disc_process.proofs.Undoing.{can_take_back, keeps_undone, left_shorter, some_taken}
use Rattle.disc_process.specs.Device.{HoldsDevice, device_of}
use Rattle.disc_process.proofs.Damaged.{blocks_changed}
use Rattle.disc_process.proofs.Devices.{device_left}
use Rattle.disc_process.specs.Seats.{IsLaterSeat}
use Rattle.disc_process.proofs.Keys.{keys_same, keys_undone}
use Rattle.disc_process.proofs.disc.DiscState.put_back.Goals as goal

pub append-requires : goal.append-requires
append-requires g c =
    let o = g.J.Run.opening in
    let i = c.self.invariant in
    let s : DiscPart = the_disc o c.self.inside.seat in
    let t : Transid = c.args.t in
    let change : Change = c.args.change.now in
    let old = c.self.inside.blocks in
    let number : ℕ = home_of_change s change in
    let newest : IsNewest s t change = subst (λ (v : DiscView g.row.D.Denot). IsNewest v.part t change) (sym c.self.view_is) c.requires.newest in
    let n_is : c.args.n.number ≡ number = subst (λ (v : DiscView g.row.D.Denot). c.args.n.number ≡ home_of_change v.part change) (sym c.self.view_is) c.requires.number in
    let there : InCache old.cache c.args.n.file c.args.n.number (λ f. (value_at f.block change.key ≡ c.args.before) × (takes_back f.block change.before c.args.before ≡ true)) =
    subst (λ (v : DiscView g.row.D.Denot). InCache v.blocks.cache c.args.n.file c.args.n.number (λ f. (value_at f.block change.key ≡ c.args.before) × (takes_back f.block change.before c.args.before ≡ true))) (sym c.self.view_is) c.requires.cached in
    let frame : Frame = there.1.0 in
    let at : entry_at old.cache change.file number ≡ Some frame = ap (λ (x : ℕ × ℕ). entry_at old.cache x.0 x.1) (λ j. (sym c.requires.file j, sym n_is j)) ∙ there.1.1 in
    let plain : AuditRecord = record { kind = UndoKind; disc = c.self.inside.volume; file = change.file; tx = t; position = c.self.inside.next; key = change.key; before = c.args.before; after = change.before } in
    let told : OfValues s.base s.events (λ values. c.args.before ≡ values change.file change.key) =
    of_values g.D.Disk.tells g.D.Disk.held s old change.file number frame.block newest.here (ap (option_map (λ (x : Frame). x.block)) at) (λ values. c.args.before ≡ values change.file change.key)
    (λ values same. sym there.1.2.0 ∙ same change.key refl) s.base i.keeps.values in
    let may : MayUndo s plain = record {
      change = newest.item;
      others = newest.others;
      newest = newest.left;
      file = sym (ap (λ (x : Change). x.file) newest.is);
      key = sym (ap (λ (x : Change). x.key) newest.is);
      after = sym (ap (λ (x : Change). x.before) newest.is);
      kind = refl;
      disc = sym i.seat.number;
      position = i.keeps.position;
      told = told;
    } in
    let asks : IsBackedOut (Knows node o c.self.inside.seat) t = subst (λ (v : DiscView g.row.D.Denot). IsBackedOut (Knows node o v.seat) t) (sym c.self.view_is) c.requires.decided in
    subst (λ (e : DiscEvent). MayAppend node o c.self.inside.seat (OfDisc e)) (sym (c.undo_event-event.ensures ∙ ap (λ (x : AuditRecord). did.Undo x) c.undo_record-item.ensures.value)) (disc_may o c.self.inside.seat s (did.Undo plain) i.seat.at may asks)

pub set-requires-clause-cached : goal.set-requires-clause-cached
set-requires-clause-cached g c =
    let change : Change = c.args.change.now in
    let old = c.self.inside.blocks in
    let there : InCache old.cache c.args.n.file c.args.n.number (λ f. (value_at f.block change.key ≡ c.args.before) × (takes_back f.block change.before c.args.before ≡ true)) =
    subst (λ (v : DiscView g.row.D.Denot). InCache v.blocks.cache c.args.n.file c.args.n.number (λ f. (value_at f.block change.key ≡ c.args.before) × (takes_back f.block change.before c.args.before ≡ true))) (sym c.self.view_is) c.requires.cached in
    (there.0, (there.1.0, there.1.1, can_take_back there.1.0.block change.key c.args.before change.before there.1.2.0 there.1.2.1))

pub set-requires-clause-home : goal.set-requires-clause-home
set-requires-clause-home g c =
    let o = g.J.Run.opening in
    let i = c.self.invariant in
    let s : DiscPart = the_disc o c.self.inside.seat in
    let t : Transid = c.args.t in
    let change : Change = c.args.change.now in
    let old = c.self.inside.blocks in
    let newest : IsNewest s t change = subst (λ (v : DiscView g.row.D.Denot). IsNewest v.part t change) (sym c.self.view_is) c.requires.newest in
    let n_is : c.args.n.number ≡ home_of_change s change = subst (λ (v : DiscView g.row.D.Denot). c.args.n.number ≡ home_of_change v.part change) (sym c.self.view_is) c.requires.number in
    ap (λ (f : ℕ). block_of change.key (label_blocks old.label.files f)) c.requires.file ∙ ap (block_of change.key) (i.keeps.files change.file newest.here) ∙ sym n_is

pub invariant_of-self : goal.invariant_of-self
invariant_of-self g c =
    let o = g.J.Run.opening in
    let i = c.self.invariant in
    record {
      fresh = i.fresh;
      valid = i.valid;
      volume_few = i.volume_few;
      declared = i.declared;
      is_found = i.is_found;
      records = subst (AllValid (audit_format (g.J.NodeRun.rules (trail_of c.self.inside.config.now c.self.inside.volume)))) (sym c.reserve.ensures.items) i.records;
      seat = i.seat;
      spans = i.spans;
      holds_moves = i.holds_moves;
      keeps = keeps_roomy g.D.Disk.tells g.D.Disk.held (the_disc o c.self.inside.seat) c.self.inside.blocks c.self.inside.locks c.self.inside.live c.self.inside.live c.self.inside.pending.items c.reserve.new.self.items c.self.inside.next (λ u. refl) c.reserve.ensures.items i.keeps;
      holds_keys = i.holds_keys;
      holds_blocks = i.holds_blocks;
      holds_device = i.holds_device;
      durable = subst (λ (xs : List AuditRecord). Knows node o c.self.inside.seat (Durable c.self.inside.volume (c.self.inside.next - 1 - length xs))) (sym c.reserve.ensures.items) i.durable;
    }

pub take_back-requires : goal.take_back-requires
take_back-requires g c =
    let o = g.J.Run.opening in
    let i = c.self.invariant in
    let s : DiscPart = the_disc o c.self.inside.seat in
    let t : Transid = c.args.t in
    let change : Change = c.args.change.now in
    let newest : IsNewest s t change = subst (λ (v : DiscView g.row.D.Denot). IsNewest v.part t change) (sym c.self.view_is) c.requires.newest in
    let left : change_of newest.item ∷ _ ≡ (live_of c.self.inside.live t).left = ap (map change_of) (sym newest.left) ∙ (i.keeps.holds_live t newest.unreleased).left in
    subst (λ (xs : List Change). IsSome (slice_get xs 0)) left refl

pub invariant_of-self-2 : goal.invariant_of-self-2
invariant_of-self-2 g c =
    let o = g.J.Run.opening in
    let i = c.self.invariant in
    let kept = i.keeps in
    let s : DiscPart = the_disc o c.self.inside.seat in
    let t : Transid = c.args.t in
    let change : Change = c.args.change.now in
    let old = c.self.inside.blocks in
    let new = c.set.new.self in
    let number : ℕ = home_of_change s change in
    let newest : IsNewest s t change = subst (λ (v : DiscView g.row.D.Denot). IsNewest v.part t change) (sym c.self.view_is) c.requires.newest in
    let n_is : c.args.n.number ≡ number = subst (λ (v : DiscView g.row.D.Denot). c.args.n.number ≡ home_of_change v.part change) (sym c.self.view_is) c.requires.number in
    let there : InCache old.cache c.args.n.file c.args.n.number (λ f. (value_at f.block change.key ≡ c.args.before) × (takes_back f.block change.before c.args.before ≡ true)) =
    subst (λ (v : DiscView g.row.D.Denot). InCache v.blocks.cache c.args.n.file c.args.n.number (λ f. (value_at f.block change.key ≡ c.args.before) × (takes_back f.block change.before c.args.before ≡ true))) (sym c.self.view_is) c.requires.cached in
    let frame : Frame = there.1.0 in
    let at : entry_at old.cache change.file number ≡ Some frame = ap (λ (x : ℕ × ℕ). entry_at old.cache x.0 x.1) (λ j. (sym c.requires.file j, sym n_is j)) ∙ there.1.1 in
    let plain : AuditRecord = record { kind = UndoKind; disc = c.self.inside.volume; file = change.file; tx = t; position = c.self.inside.next; key = change.key; before = c.args.before; after = change.before } in
    let r : AuditRecord = c.undo_record-item.result in
    let r_is : r ≡ plain = c.undo_record-item.ensures.value in
    let state = c.append.ensures.state ∙ ap (λ (x : DiscEvent). option_map (λ y. node.step y (OfDisc x)) (part_state node o c.self.inside.seat)) (c.undo_event-event.ensures ∙ ap (λ (x : AuditRecord). did.Undo x) c.undo_record-item.ensures.value) in
    let next = disc_seat_next o c.self.inside.config.now c.self.inside.volume _ c.self.inside.seat c.self.inside.seat c.append.new.seat (did.Undo plain) i.seat refl refl c.append.ensures.part state in
    let marked_n : HasMarked old new c.args.n.file c.args.n.number (set_in change.key change.before c.self.inside.next) =
    marked_from old new c.args.n.file c.args.n.number frame (set_in change.key change.before c.self.inside.next) there.1.1 (c.set.ensures.cache frame there.1.1) c.set.ensures.label c.set.ensures.frames in
    let set : HasMarked old new change.file number (set_in change.key change.before c.self.inside.next) =
    subst (λ (x : ℕ × ℕ). HasMarked old new x.0 x.1 (set_in change.key change.before c.self.inside.next)) (λ j. (c.requires.file j, n_is j)) marked_n in
    let tells_same : IsTrue (g.D.Disk.tells old.device) → IsTrue (g.D.Disk.tells new.device) = λ x. subst (λ d. IsTrue (g.D.Disk.tells d)) (sym c.set.ensures.device) x in
    let items : c.self.inside.pending.items ++ plain ∷ [] ≡ c.push_reserved.new.self.items =
    ap (λ (x : List AuditRecord × AuditRecord). x.0 ++ x.1 ∷ []) (λ j. (sym c.reserve.ensures.items j, sym r_is j)) ∙ sym c.push_reserved.ensures.items in
    let keeps_plain : Keeps g.D.Disk.tells g.D.Disk.held new c.self.inside.locks c.take_back.new.self (c.self.inside.pending.items ++ plain ∷ []) (c.self.inside.next + 1) (with_event s (did.Undo plain)) =
    keeps_undone g.D.Disk.tells g.D.Disk.held s plain old new c.self.inside.locks c.self.inside.live c.take_back.new.self c.self.inside.pending.items c.self.inside.next number (subst (λ (n : ℕ). n < 256) n_is there.0) refl set tells_same (λ landed after h. c.set.ensures.holds landed after h)
    frame at kept.position (sym i.seat.number) (λ u. c.take_back.ensures u) newest.unreleased newest.item newest.others newest.left kept in
    let keeps : Keeps g.D.Disk.tells g.D.Disk.held new c.self.inside.locks c.take_back.new.self c.push_reserved.new.self.items (c.self.inside.next + 1) (with_event s (did.Undo plain)) =
    subst (λ (xs : List AuditRecord). Keeps g.D.Disk.tells g.D.Disk.held new c.self.inside.locks c.take_back.new.self xs (c.self.inside.next + 1) (with_event s (did.Undo plain))) items keeps_plain in
    let rules = g.J.NodeRun.rules (trail_of c.self.inside.config.now c.self.inside.volume) in
    let on_volume : volume_of c.self.inside.config.now change.file ≡ c.self.inside.volume = subst (λ (x : Config × ℕ). volume_of x.0 change.file ≡ x.1) (λ j. (i.seat.config_is j, i.seat.number j)) newest.here in
    let first = kept.draws.first in
    let at_position = kept.position in
    let fewer = left_shorter s.events t newest.item newest.others newest.left in
    let few = kept.few in
    let valid : is_audit_record rules plain ≡ true =
    record_valid rules plain i.is_found.disc_of (i.is_found.file_of change.file on_volume) c.requires.valid (omega (arith, at_position, first)) (omega (arith, few, fewer)) c.undo_record-item.ensures.key c.undo_record-item.ensures.before c.undo_record-item.ensures.after (some_taken frame.block c.args.before change.before there.1.2.1) in
    let pushed = ap length (sym items) in
    let one_more = length_push c.self.inside.pending.items plain in
    let same_durable : c.self.inside.next - 1 - length c.self.inside.pending.items ≡ c.self.inside.next + 1 - 1 - length c.push_reserved.new.self.items = omega (arith, pushed, one_more) in
    record {
      fresh = i.fresh;
      valid = i.valid;
      volume_few = i.volume_few;
      declared = i.declared;
      is_found = i.is_found;
      records = subst (AllValid (audit_format rules)) items (all_more (λ x. is_audit_record rules x ≡ true) c.self.inside.pending.items plain i.records valid);
      seat = next.1;
      spans = subst (λ (x : DiscPart). HoldsSpans c.take_back.new.self x) (sym next.0)
          (spans_recorded s (did.Undo plain ∷ s.events) plain refl (λ u other. ap (λ b. cond b true (has_undone s.events u)) other) (λ u. refl) newest.unreleased kept.position kept.below kept.draws.first c.self.inside.live c.take_back.new.self
          (λ u. ap (λ (l : LiveTx). l.span) (c.take_back.ensures u) ∙ taken_span (is_same_transid t u) c.self.inside.next (live_of c.self.inside.live u)) i.spans);
      holds_moves = subst (λ (x : DiscPart). HoldsMoves c.self.inside.moves new x) (sym next.0)
          (moves_label c.self.inside.moves old new (with_event s (did.Undo plain)) c.set.ensures.label (moves_undone c.self.inside.moves old s plain newest.unreleased kept.position newest.here i.holds_moves));
      keeps = subst (λ (x : DiscPart). Keeps g.D.Disk.tells g.D.Disk.held new c.self.inside.locks c.take_back.new.self c.push_reserved.new.self.items (c.self.inside.next + 1) x) (sym next.0) keeps;
      holds_keys = keys_same _ _ next.0 (keys_undone s plain newest.item newest.others i.holds_keys newest.unreleased newest.left (ap (λ (x : Change). x.file) (sym newest.is)) (ap (λ (x : Change). x.key) (sym newest.is)) (ap (λ (x : Change). x.before) (sym newest.is)));
      holds_blocks = blocks_changed g.D.Disk (g.J.DeviceRun.devices (device_of c.self.inside.volume)) old new c.args.n.file c.args.n.number frame (set_in change.key change.before c.self.inside.next frame) there.1.1 i.holds_device.handed c.set.ensures.valid.label c.set.ensures.label.same c.set.ensures.device (c.set.ensures.cache frame there.1.1) refl i.holds_blocks;
      holds_device = device_left g.D.Disk _ _ new.device s _ (did.Undo plain) next.0 refl (subst (λ (x : g.row.D.Denot). HoldsDevice g.D.Disk (g.J.DeviceRun.devices (device_of c.self.inside.volume)) (g.J.NodeRun.faults (device_of c.self.inside.volume)) x s.events) (sym c.set.ensures.device) i.holds_device);
      durable = subst (λ (p : ℕ). Knows node o c.append.new.seat (Durable c.self.inside.volume p)) same_durable (c.append.ensures.knows (Durable c.self.inside.volume (c.self.inside.next - 1 - length c.self.inside.pending.items)) i.durable);
    }

pub returns-clause-undone : goal.returns-clause-undone
returns-clause-undone g c =
    let o = g.J.Run.opening in
    let i = c.self.invariant in
    let s : DiscPart = the_disc o c.self.inside.seat in
    let t : Transid = c.args.t in
    let change : Change = c.args.change.now in
    let old = c.self.inside.blocks in
    let new = c.set.new.self in
    let number : ℕ = home_of_change s change in
    let n_is : c.args.n.number ≡ number = subst (λ (v : DiscView g.row.D.Denot). c.args.n.number ≡ home_of_change v.part change) (sym c.self.view_is) c.requires.number in
    let there : InCache old.cache c.args.n.file c.args.n.number (λ f. (value_at f.block change.key ≡ c.args.before) × (takes_back f.block change.before c.args.before ≡ true)) =
    subst (λ (v : DiscView g.row.D.Denot). InCache v.blocks.cache c.args.n.file c.args.n.number (λ f. (value_at f.block change.key ≡ c.args.before) × (takes_back f.block change.before c.args.before ≡ true))) (sym c.self.view_is) c.requires.cached in
    let frame : Frame = there.1.0 in
    let plain : AuditRecord = record { kind = UndoKind; disc = c.self.inside.volume; file = change.file; tx = t; position = c.self.inside.next; key = change.key; before = c.args.before; after = change.before } in
    let state = c.append.ensures.state ∙ ap (λ (x : DiscEvent). option_map (λ y. node.step y (OfDisc x)) (part_state node o c.self.inside.seat)) (c.undo_event-event.ensures ∙ ap (λ (x : AuditRecord). did.Undo x) c.undo_record-item.ensures.value) in
    let next = disc_seat_next o c.self.inside.config.now c.self.inside.volume _ c.self.inside.seat c.self.inside.seat c.append.new.seat (did.Undo plain) i.seat refl refl c.append.ensures.part state in
    let stands : c.args.before ≡ value_at frame.block change.key = sym there.1.2.0 in
    let named : plain ≡ undo_of s t change (value_at frame.block change.key) =
    λ j. record { kind = UndoKind; disc = sym i.seat.number j; file = change.file; tx = t; position = i.keeps.position j; key = change.key; before = stands j; after = change.before } in
    let marked_n : HasMarked old new c.args.n.file c.args.n.number (set_in change.key change.before c.self.inside.next) =
    marked_from old new c.args.n.file c.args.n.number frame (set_in change.key change.before c.self.inside.next) there.1.1 (c.set.ensures.cache frame there.1.1) c.set.ensures.label c.set.ensures.frames in
    let entry_n : entry_at new.cache c.args.n.file c.args.n.number ≡ Some (set_in change.key change.before c.self.inside.next frame) = marked_n.entry ∙ ap (option_map (set_in change.key change.before c.self.inside.next)) there.1.1 in
    let cached_n : InCache new.cache c.args.n.file c.args.n.number (λ f. f.block ≡ undone_block s change frame.block) =
    (there.0, (set_in change.key change.before c.self.inside.next frame, entry_n, ap (λ (p : ℕ). with_change change.key change.before p frame.block) i.keeps.position)) in
    let cached_in : InCache new.cache change.file number (λ f. f.block ≡ undone_block s change frame.block) =
    subst (λ (x : ℕ × ℕ). InCache new.cache x.0 x.1 (λ f. f.block ≡ undone_block s change frame.block)) (λ j. (c.requires.file j, n_is j)) cached_n in
    subst (λ (v : DiscView g.row.D.Denot). (block : KeyedBlock) × HasPutBack v (record { seat = c.append.new.seat; part = the_disc o c.append.new.seat; blocks = new; handed_in = g.J.DeviceRun.devices (device_of c.self.inside.volume) }) t change block) c.self.view_is (
      frame.block,
      record {
        was = subst (λ (x : ℕ × ℕ). cached old x.0 x.1 ≡ Some frame.block) (λ j. (c.requires.file j, n_is j)) (ap (option_map (λ (x : Frame). x.block)) there.1.1);
        others = λ f n few other.
            ap (option_map (λ (x : Frame). x.block)) (marked_n.others f n few (subst (λ (x : ℕ × ℕ). (f ≢ x.0) ⊎ (n ≢ x.1)) (λ j. (sym c.requires.file j, sym n_is j)) other));
        part = next.0 ∙ ap (λ (r : AuditRecord). with_event s (did.Undo r)) named;
        events = c.append.ensures.mine ∙ ap (λ (e : DiscEvent). own_events c.self.inside.seat ++ OfDisc e ∷ []) ((c.undo_event-event.ensures ∙ ap (λ (x : AuditRecord). did.Undo x) c.undo_record-item.ensures.value) ∙ ap (λ (r : AuditRecord). did.Undo r) named);
        cached = cached_in;
      },
    )

pub returns-clause-later_seat : goal.returns-clause-later_seat
returns-clause-later_seat g c = subst (λ (v : DiscView g.row.D.Denot). IsLaterSeat v.seat c.append.new.seat) c.self.view_is (record { place = c.append.ensures.part; begins = c.append.ensures.begins })
