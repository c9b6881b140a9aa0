use Rattle.std.specs.Prelude.{List}
use Rattle.trail_files.specs.MonitorOrder.{is_same_transid}
use Rattle.trail_files.specs.declared.audit_record.AuditRecord.{AuditRecord}
use Rattle.node_machine.specs.Same.{Among}
use Rattle.record_locks.specs.Locks.{SameLocks}
use Rattle.disc_process.specs.Live.{live_of}
use Rattle.disc_process.specs.LiveTx.{LiveTx, arrived}
use Rattle.disc_process.proofs.Coming.{coming_moved}
use Rattle.disc_process.proofs.Locking.{locks_same}
use Rattle.std.proofs.Common.{cond, true, [], ◌++◌, ◌∷◌, ◌≡◌, ℕ, ◌-◌, false, Some, length, ap, sym, subst, ◌∙◌, refl}
use Rattle.std.specs.Option.{option_map}
use Rattle.chronicle.specs.Seats.{Knows, MayAppend, own_events, part_state}
use Rattle.tmf_model.specs.declared.transid.Transid.{Transid}
use Rattle.node_machine.specs.declared.event.DiscEvent.{DiscEvent}
use Rattle.node_machine.specs.declared.event.Event.{Event}
use Rattle.node_machine.specs.declared.event.Event.TheVariants.{OfDisc}
use Rattle.node_machine.specs.Disc.{MayAct, MayTake, IsNoOther}
use Rattle.node_machine.specs.Made.{holder, home_block, volume_of}
use Rattle.node_machine.specs.Node.{node}
use Rattle.node_machine.specs.Parts.{DiscPart}
use Rattle.node_machine.specs.Parts.Fact.{Durable, Enlisted}
use Rattle.node_machine.specs.Parts.PartState.{Disc}
use Rattle.node_machine.specs.Worker.{IsOpen, has_finished}
use Rattle.node_machine.proofs.Appending.{disc_may}
use Rattle.record_locks.specs.Locks.{HasTaken, key_name}
use Rattle.disc_process.specs.Blocks.{cached}
use Rattle.disc_process.specs.Disc.{DiscView, Finds, FindsIn, Keeps, event_of, hold_event, the_disc}
use Rattle.disc_process.specs.Device.{device_of}
use Rattle.disc_process.specs.Write.{HasDone}
use Rattle.disc_process.proofs.Behind.{after_held, event_held}
use Rattle.disc_process.proofs.Acting.{may_act_seats}
use Rattle.disc_process.proofs.Locking.{held_alone, locks_held}
use Rattle.block_cache.specs.Blocks.{InCache}
use Rattle.block_cache.specs.declared.frame.Frame.{Frame}
use Rattle.disc_process.proofs.Keeping.{alike_arrived, disc_seat_next, err_of, hold_comes, hold_files, hold_keys, hold_writing, keeps_left, keeps_locks, keeps_roomy, leaves_hold, ok_of}
use Rattle.disc_process.proofs.Telling.{hold_may}
use Rattle.disc_process.proofs.Later.{enlisted_met, enlisted_txn, later_then, met_txn}
use Rattle.disc_process.specs.Moves.{HoldsMoves}
use Rattle.disc_process.proofs.Moving.{moves_held}
use Rattle.disc_process.specs.Spans.{HoldsSpans}
use Rattle.disc_process.proofs.Spans.{arrived_span, spans_moved, spans_same}
use Rattle.disc_process.proofs.Devices.{device_left, hold_fails}
use Rattle.disc_process.specs.Seats.{IsLaterSeat}
use Rattle.disc_process.proofs.Seats.{seat_grown, seat_then}
use Rattle.disc_process.proofs.Keys.{keys_held, keys_same}
use Rattle.disc_process.proofs.disc.DiscState.hold.Goals as goal

pub append-requires : goal.append-requires
append-requires g c =
    let o = g.J.Run.opening in
    let i = c.self.invariant in
    let m = c.meet.ensures in
    let s : DiscPart = the_disc o c.self.inside.seat in
    let t : Transid = c.tx-t.result in
    let step = c.args.step.now in
    let what = c.args.what.now in
    let at : part_state node o c.meet.new.other ≡ Some (Disc s) = m.met.second_learned.state ∙ i.seat.at in
    let here : volume_of s.config step.file ≡ s.number = subst (λ (v : DiscView g.row.D.Denot). volume_of v.part.config step.file ≡ v.part.number) (sym c.self.view_is) c.requires.here in
    let is_t : c.args.tx.now.tx ≡ t = sym c.tx-t.ensures.tx in
    let free : IsNoOther (holder s.events step.file step.key) t =
    subst (λ (x : Transid). IsNoOther (holder s.events step.file step.key) x) is_t (subst (λ (v : DiscView g.row.D.Denot). IsNoOther (holder v.part.events step.file step.key) c.args.tx.now.tx) (sym c.self.view_is) c.requires.free) in
    let a = m.state.active in
    let now_t : c.meet.new.self.tx ≡ t = m.met.tx ∙ c.enlist_here.ensures.tx ∙ is_t in
    let acts : MayAct s t = may_act_seats o c.meet.new.self.seat c.meet.new.other i.fresh m.met.second_learned.history m.met.same a.part a.at t (subst (IsOpen a.part) now_t a.is_open) (subst (λ (x : Transid). has_finished a.part.events x ≡ false) now_t a.unfinished) s at in
    let b : InCache c.self.inside.blocks.cache step.file (home_block s.config step.file step.key) (λ f. FindsIn s step (home_block s.config step.file step.key) what f.block) =
    subst (λ (v : DiscView g.row.D.Denot). Finds v step what) (sym c.self.view_is) c.requires.found in
    let in_cache : cached c.self.inside.blocks step.file (home_block s.config step.file step.key) ≡ Some b.1.0.block = ap (option_map (λ (x : Frame). x.block)) b.1.1 in
    let takes : MayTake s t step.file step.key = record { here = here; acts = acts; free = free } in
    let knows = subst (λ (x : Transid). Knows node o c.meet.new.other (Enlisted x c.self.inside.volume)) is_t (m.met.tells (Enlisted c.args.tx.now.tx c.self.inside.volume) c.enlist_here.ensures.knows) in
    let asks = subst (λ (n : ℕ). Knows node o c.meet.new.other (Enlisted t n)) (sym i.seat.number) knows in
    let may = hold_may g.D.Disk.tells g.D.Disk.held s c.self.inside.blocks step (home_block s.config step.file step.key) b.1.0.block what here in_cache b.1.2 refl t takes c.requires.holding (Knows node o c.meet.new.other) asks i.keeps.values in
    subst (λ (e : DiscEvent). MayAppend node o c.meet.new.other (OfDisc e)) (sym c.hold_event-event.ensures) (disc_may o c.meet.new.other s (hold_event t step what) at may.0 may.1)

pub invariant_of-self-2 : goal.invariant_of-self-2
invariant_of-self-2 g c =
    let o = g.J.Run.opening in
    let i = c.self.invariant in
    let m = c.meet.ensures in
    let s : DiscPart = the_disc o c.self.inside.seat in
    let t : Transid = c.tx-t.result in
    let step = c.args.step.now in
    let what = c.args.what.now in
    let e = hold_event t step what in
    let state = c.append.ensures.state ∙ ap (λ (x : DiscEvent). option_map (λ y. node.step y (OfDisc x)) (part_state node o c.meet.new.other)) c.hold_event-event.ensures in
    let next = disc_seat_next o c.self.inside.config.now c.self.inside.volume _ c.self.inside.seat c.meet.new.other c.append.new.seat e i.seat m.met.second_learned.state m.met.second.part c.append.ensures.part state in
    let took = ok_of c.take.result (HasTaken c.self.inside.locks c.take.new.self (key_name step.file step.key) t) (sym c.is_err.ensures.value ∙ c.if-is_err.false) c.take.ensures.taken in
    let a = m.state.active in
    let now_t : c.meet.new.self.tx ≡ t = m.met.tx ∙ c.enlist_here.ensures.tx ∙ sym c.tx-t.ensures.tx in
    let acts : MayAct s t = may_act_seats o c.meet.new.self.seat c.meet.new.other i.fresh m.met.second_learned.history m.met.same a.part a.at t (subst (IsOpen a.part) now_t a.is_open) (subst (λ (x : Transid). has_finished a.part.events x ≡ false) now_t a.unfinished) s (m.met.second_learned.state ∙ i.seat.at) in
    let free : IsNoOther (holder s.events step.file step.key) t =
    subst (λ (x : Transid). IsNoOther (holder s.events step.file step.key) x) (sym c.tx-t.ensures.tx) (subst (λ (v : DiscView g.row.D.Denot). IsNoOther (holder v.part.events step.file step.key) c.args.tx.now.tx) (sym c.self.view_is) c.requires.free) in
    let kept = i.keeps in
    let leaves = leaves_hold t step what in
    let table : (u : Transid) → live_of c.arrive.new.self u ≡ cond (is_same_transid t u) (arrived (live_of c.self.inside.live u)) (live_of c.self.inside.live u) = λ u. c.arrive.ensures u ∙ ap (λ (l : LiveTx). cond (is_same_transid t u) (arrived l) l) (c.reserve.ensures.same u) in
    let comes = coming_moved c.self.inside.live c.arrive.new.self s e t arrived table (λ l u same. ap (λ b. cond b true l.come) (sym (hold_comes t step what u c.requires.holding ∙ same))) (λ u other. hold_comes t step what u c.requires.holding ∙ other) (λ u. leaves.released s.events u) acts.unreleased
    (λ u r there. kept.coming.here u r (subst (λ (rs : List AuditRecord). Among rs r) (leaves.left s.events u) there)) kept.coming in
    let held_ = locks_held c.self.inside.locks c.take.new.self step.file step.key t took s.events e (hold_keys t step what c.requires.holding s.events) (hold_writing t step what s.events) (hold_files t step what s.events) kept.holds_locks in
    let keeps = keeps_left g.D.Disk.tells g.D.Disk.held s e c.self.inside.blocks c.self.inside.locks c.take.new.self c.self.inside.live c.arrive.new.self c.self.inside.pending.items c.self.inside.pending.items c.self.inside.next leaves held_ (λ u. alike_arrived (is_same_transid t u) (live_of c.self.inside.live u) (live_of c.arrive.new.self u) (table u)) comes refl kept in
    record {
      fresh = i.fresh;
      valid = i.valid;
      volume_few = i.volume_few;
      declared = i.declared;
      is_found = i.is_found;
      records = i.records;
      seat = next.1;
      spans = subst (λ (x : DiscPart). HoldsSpans c.arrive.new.self x) (sym next.0) (spans_moved s (e ∷ s.events) (leaves.made_same s.events) (λ u. leaves.undone s.events u) (λ u. leaves.released s.events u) c.self.inside.live c.arrive.new.self (λ u. ap (λ (l : LiveTx). l.span) (table u) ∙ arrived_span (is_same_transid t u) (live_of c.self.inside.live u)) i.spans);
      holds_moves = subst (λ (x : DiscPart). HoldsMoves c.self.inside.moves c.self.inside.blocks x) (sym next.0) (moves_held c.self.inside.moves c.self.inside.blocks s t step what i.holds_moves);
      keeps = subst (λ (x : DiscPart). Keeps g.D.Disk.tells g.D.Disk.held c.self.inside.blocks c.take.new.self c.arrive.new.self c.self.inside.pending.items c.self.inside.next x) (sym next.0) keeps;
      holds_keys = keys_same _ _ next.0 (keys_held s t step what c.requires.holding (held_alone c.self.inside.locks s.events c.always.ensures kept.holds_locks) free i.holds_keys);
      holds_blocks = i.holds_blocks;
      holds_device = device_left g.D.Disk _ _ c.self.inside.blocks.device s _ e next.0 (hold_fails t step what s.events) i.holds_device;
      durable = c.append.ensures.knows (Durable c.self.inside.volume (c.self.inside.next - 1 - length c.self.inside.pending.items)) (m.met.second_learned.knows (Durable c.self.inside.volume (c.self.inside.next - 1 - length c.self.inside.pending.items)) i.durable);
    }

pub invariant_of-self-then-is_err : goal.invariant_of-self-then-is_err
invariant_of-self-then-is_err g c =
    let o = g.J.Run.opening in
    let i = c.self.invariant in
    let s : DiscPart = the_disc o c.self.inside.seat in
    let same = err_of c.take.result (SameLocks c.self.inside.locks c.take.new.self) (sym c.is_err.ensures.value ∙ c.if-is_err.true) c.take.ensures.unchanged in
    let roomy = keeps_roomy g.D.Disk.tells g.D.Disk.held s c.self.inside.blocks c.self.inside.locks c.self.inside.live c.reserve.new.self c.self.inside.pending.items c.self.inside.pending.items c.self.inside.next (λ u. c.reserve.ensures.same u) refl i.keeps in
    record {
      fresh = i.fresh;
      valid = i.valid;
      volume_few = i.volume_few;
      declared = i.declared;
      is_found = i.is_found;
      records = i.records;
      seat = i.seat;
      spans = spans_same c.self.inside.live c.reserve.new.self s (λ u. c.reserve.ensures.same u) i.spans;
      holds_moves = i.holds_moves;
      keeps = keeps_locks g.D.Disk.tells g.D.Disk.held s c.self.inside.blocks c.self.inside.locks c.take.new.self c.reserve.new.self c.self.inside.pending.items c.self.inside.next (locks_same c.self.inside.locks c.take.new.self s.events same i.keeps.holds_locks) roomy;
      holds_keys = i.holds_keys;
      holds_blocks = i.holds_blocks;
      holds_device = i.holds_device;
      durable = i.durable;
    }

pub returns-clause-done : goal.returns-clause-done
returns-clause-done g c =
    let o = g.J.Run.opening in
    let i = c.self.invariant in
    let m = c.meet.ensures in
    let s : DiscPart = the_disc o c.self.inside.seat in
    let step = c.args.step.now in
    let what = c.args.what.now in
    let number : ℕ = home_block s.config step.file step.key in
    let b : InCache c.self.inside.blocks.cache step.file number (λ f. FindsIn s step number what f.block) = subst (λ (v : DiscView g.row.D.Denot). Finds v step what) (sym c.self.view_is) c.requires.found in
    let frame : Frame = b.1.0 in
    let told : c.hold_event-event.result ≡ event_of s c.args.tx.now.tx step what =
    c.hold_event-event.ensures ∙ ap (λ (x : Transid). hold_event x step what) c.tx-t.ensures.tx ∙ event_held s c.args.tx.now.tx step what c.requires.holding in
    subst (λ (v : DiscView g.row.D.Denot). HasDone v (record { seat = c.append.new.seat; part = the_disc o c.append.new.seat; blocks = c.self.inside.blocks; handed_in = g.J.DeviceRun.devices (device_of c.self.inside.volume) }) c.args.tx.now c.meet.new.self step what) c.self.view_is
    (record {
      block = frame.block;
      was = ap (option_map (λ (x : Frame). x.block)) b.1.1;
      others = λ f n few other. refl;
      finds = b.1.2;
      cached = (b.0, (frame, b.1.1, after_held s step what frame.block c.requires.holding));
      disc_events = c.append.ensures.mine
          ∙ ap (λ (xs : List Event). xs ++ OfDisc c.hold_event-event.result ∷ []) m.met.second.mine
          ∙ ap (λ (e : DiscEvent). own_events c.self.inside.seat ++ OfDisc e ∷ []) told;
      worker = enlisted_met o c.args.tx.now c.enlist_here.new.self c.meet.new.self s.number c.self.inside.volume c.self.inside.seat c.meet.new.other (sym i.seat.number) c.enlist_here.ensures m.met;
    })

pub returns-clause-txn : goal.returns-clause-txn
returns-clause-txn g c =
    later_then g.J.Run.opening c.args.tx.now c.enlist_here.new.self c.meet.new.self (enlisted_txn g.J.Run.opening c.args.tx.now c.enlist_here.new.self c.self.inside.volume c.enlist_here.ensures)
    (met_txn g.J.Run.opening c.enlist_here.new.self c.meet.new.self c.self.inside.seat c.meet.new.other c.meet.ensures.met)

pub returns-clause-later_seat : goal.returns-clause-later_seat
returns-clause-later_seat g c =
    subst (λ (v : DiscView g.row.D.Denot). IsLaterSeat v.seat c.append.new.seat) c.self.view_is
    (seat_then c.self.inside.seat c.meet.new.other c.append.new.seat (seat_grown c.self.inside.seat c.meet.new.other c.meet.ensures.met.second) (record { place = c.append.ensures.part; begins = c.append.ensures.begins }))
