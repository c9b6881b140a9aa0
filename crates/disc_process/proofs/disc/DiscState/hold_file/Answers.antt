use Rattle.std.proofs.Common.{cond, true, ◌∷◌, ◌≡◌, ℕ, ◌-◌, false, Some, length, ap, sym, subst, ◌∙◌, refl}
use Rattle.chronicle.specs.Seats.{Knows, part_state}
use Rattle.tmf_model.specs.declared.transid.Transid.{Transid}
use Rattle.trail_files.specs.MonitorOrder.{is_same_transid}
use Rattle.node_machine.specs.declared.event.DiscEvent.TheVariants as did
use Rattle.node_machine.specs.Disc.{MayAct, MayLock}
use Rattle.node_machine.specs.Made.{volume_of}
use Rattle.node_machine.specs.Node.{node}
use Rattle.node_machine.specs.Parts.{DiscPart}
use Rattle.node_machine.specs.Parts.Fact.{Durable, Enlisted}
use Rattle.node_machine.specs.Parts.PartState.{Disc}
use Rattle.node_machine.specs.Worker.{IsOpen, has_finished}
use Rattle.node_machine.proofs.Appending.{disc_may}
use Rattle.record_locks.specs.Locks.{HasTaken, SameLocks, file_name}
use Rattle.disc_process.specs.Disc.{DiscView, Keeps, the_disc}
use Rattle.disc_process.specs.FileLocks.{IsFileFree}
use Rattle.disc_process.specs.Live.{live_of}
use Rattle.disc_process.specs.LiveTx.{LiveTx, arrived}
use Rattle.disc_process.specs.Moves.{HoldsMoves}
use Rattle.disc_process.specs.Seats.{IsLaterSeat}
use Rattle.disc_process.specs.Spans.{HoldsSpans}
use Rattle.disc_process.proofs.Acting.{may_act_seats}
use Rattle.disc_process.proofs.Coming.{coming_moved}
use Rattle.disc_process.proofs.Devices.{device_left}
use Rattle.disc_process.proofs.Keeping.{alike_arrived, disc_seat_next, err_of, keeps_left, keeps_locks, keeps_roomy, leaves_file_lock, ok_of}
use Rattle.disc_process.proofs.Keys.{keys_left, keys_same, leaves_lock}
use Rattle.disc_process.proofs.Later.{enlisted_met, enlisted_txn, later_then, met_txn}
use Rattle.disc_process.proofs.Locking.{locks_filed, locks_same}
use Rattle.disc_process.proofs.Moving.{moves_moved}
use Rattle.disc_process.proofs.Seats.{seat_grown, seat_then}
use Rattle.disc_process.proofs.Spans.{arrived_span, spans_moved, spans_same}
use Rattle.disc_process.proofs.disc.DiscState.hold_file.Goals as goal

pub append-requires : goal.append-requires
append-requires g c =
    let o = g.J.Run.opening in
    let i = c.self.invariant in
    let m = c.meet.ensures in
    let s : DiscPart = the_disc o c.self.inside.seat in
    let t : Transid = c.tx-t.result in
    let file = c.args.file in
    let at : part_state node o c.meet.new.other ≡ Some (Disc s) = m.met.second_learned.state ∙ i.seat.at in
    let here : volume_of s.config file ≡ s.number = subst (λ (v : DiscView g.row.D.Denot). volume_of v.part.config file ≡ v.part.number) (sym c.self.view_is) c.requires.here in
    let is_t : c.args.tx.now.tx ≡ t = sym c.tx-t.ensures.tx in
    let free : IsFileFree s t file =
    subst (λ (x : Transid). IsFileFree s x file) is_t (subst (λ (v : DiscView g.row.D.Denot). IsFileFree v.part c.args.tx.now.tx file) (sym c.self.view_is) c.requires.free) in
    let a = m.state.active in
    let now_t : c.meet.new.self.tx ≡ t = m.met.tx ∙ c.enlist_here.ensures.tx ∙ is_t in
    let acts : MayAct s t = may_act_seats o c.meet.new.self.seat c.meet.new.other i.fresh m.met.second_learned.history m.met.same a.part a.at t (subst (IsOpen a.part) now_t a.is_open) (subst (λ (x : Transid). has_finished a.part.events x ≡ false) now_t a.unfinished) s at in
    let may : MayLock s t file = record { here = here; acts = acts; free = free.whole; keys_free = free.keys } in
    let knows = subst (λ (x : Transid). Knows node o c.meet.new.other (Enlisted x c.self.inside.volume)) is_t (m.met.tells (Enlisted c.args.tx.now.tx c.self.inside.volume) c.enlist_here.ensures.knows) in
    let asks = subst (λ (n : ℕ). Knows node o c.meet.new.other (Enlisted t n)) (sym i.seat.number) knows in
    disc_may o c.meet.new.other s (did.Lock t file) at may asks

pub invariant_of-self-2 : goal.invariant_of-self-2
invariant_of-self-2 g c =
    let o = g.J.Run.opening in
    let i = c.self.invariant in
    let m = c.meet.ensures in
    let s : DiscPart = the_disc o c.self.inside.seat in
    let t : Transid = c.tx-t.result in
    let file = c.args.file in
    let e = did.Lock t file in
    let next = disc_seat_next o c.self.inside.config.now c.self.inside.volume _ c.self.inside.seat c.meet.new.other c.append.new.seat e i.seat m.met.second_learned.state m.met.second.part c.append.ensures.part c.append.ensures.state in
    let took = ok_of c.take_file.result (HasTaken c.self.inside.locks c.take_file.new.self (file_name file) t) (sym c.is_err.ensures.value ∙ c.if-is_err.false) c.take_file.ensures.taken in
    let a = m.state.active in
    let now_t : c.meet.new.self.tx ≡ t = m.met.tx ∙ c.enlist_here.ensures.tx ∙ sym c.tx-t.ensures.tx in
    let acts : MayAct s t = may_act_seats o c.meet.new.self.seat c.meet.new.other i.fresh m.met.second_learned.history m.met.same a.part a.at t (subst (IsOpen a.part) now_t a.is_open) (subst (λ (x : Transid). has_finished a.part.events x ≡ false) now_t a.unfinished) s (m.met.second_learned.state ∙ i.seat.at) in
    let kept = i.keeps in
    let leaves = leaves_file_lock t file in
    let table : (u : Transid) → live_of c.arrive.new.self u ≡ cond (is_same_transid t u) (arrived (live_of c.self.inside.live u)) (live_of c.self.inside.live u) = λ u. c.arrive.ensures u ∙ ap (λ (l : LiveTx). cond (is_same_transid t u) (arrived l) l) (c.reserve.ensures.same u) in
    let comes = coming_moved c.self.inside.live c.arrive.new.self s e t arrived table (λ l u same. ap (λ b. cond b true l.come) (sym same)) (λ u other. other) (λ u. refl) acts.unreleased kept.coming.here kept.coming in
    let held_ = locks_filed c.self.inside.locks c.take_file.new.self file t took s.events kept.holds_locks in
    let keeps = keeps_left g.D.Disk.tells g.D.Disk.held s e c.self.inside.blocks c.self.inside.locks c.take_file.new.self c.self.inside.live c.arrive.new.self c.self.inside.pending.items c.self.inside.pending.items c.self.inside.next leaves held_ (λ u. alike_arrived (is_same_transid t u) (live_of c.self.inside.live u) (live_of c.arrive.new.self u) (table u)) comes refl kept in
    record {
      fresh = i.fresh;
      valid = i.valid;
      volume_few = i.volume_few;
      declared = i.declared;
      is_found = i.is_found;
      records = i.records;
      seat = next.1;
      spans = subst (λ (x : DiscPart). HoldsSpans c.arrive.new.self x) (sym next.0) (spans_moved s (e ∷ s.events) refl (λ u. refl) (λ u. refl) c.self.inside.live c.arrive.new.self (λ u. ap (λ (l : LiveTx). l.span) (table u) ∙ arrived_span (is_same_transid t u) (live_of c.self.inside.live u)) i.spans);
      holds_moves = subst (λ (x : DiscPart). HoldsMoves c.self.inside.moves c.self.inside.blocks x) (sym next.0) (moves_moved c.self.inside.moves c.self.inside.blocks s (e ∷ s.events) refl refl refl refl refl refl (λ u. refl) (λ u same. same) i.holds_moves.few i.holds_moves);
      keeps = subst (λ (x : DiscPart). Keeps g.D.Disk.tells g.D.Disk.held c.self.inside.blocks c.take_file.new.self c.arrive.new.self c.self.inside.pending.items c.self.inside.next x) (sym next.0) keeps;
      holds_keys = keys_same _ _ next.0 (keys_left s e (leaves_lock s t file) i.holds_keys);
      holds_blocks = i.holds_blocks;
      holds_device = device_left g.D.Disk _ _ c.self.inside.blocks.device s _ e next.0 refl i.holds_device;
      durable = c.append.ensures.knows (Durable c.self.inside.volume (c.self.inside.next - 1 - length c.self.inside.pending.items)) (m.met.second_learned.knows (Durable c.self.inside.volume (c.self.inside.next - 1 - length c.self.inside.pending.items)) i.durable);
    }

pub invariant_of-self-then-is_err : goal.invariant_of-self-then-is_err
invariant_of-self-then-is_err g c =
    let o = g.J.Run.opening in
    let i = c.self.invariant in
    let s : DiscPart = the_disc o c.self.inside.seat in
    let same = err_of c.take_file.result (SameLocks c.self.inside.locks c.take_file.new.self) (sym c.is_err.ensures.value ∙ c.if-is_err.true) c.take_file.ensures.unchanged in
    let roomy = keeps_roomy g.D.Disk.tells g.D.Disk.held s c.self.inside.blocks c.self.inside.locks c.self.inside.live c.reserve.new.self c.self.inside.pending.items c.self.inside.pending.items c.self.inside.next (λ u. c.reserve.ensures.same u) refl i.keeps in
    record {
      fresh = i.fresh;
      valid = i.valid;
      volume_few = i.volume_few;
      declared = i.declared;
      is_found = i.is_found;
      records = i.records;
      seat = i.seat;
      spans = spans_same c.self.inside.live c.reserve.new.self s (λ u. c.reserve.ensures.same u) i.spans;
      holds_moves = i.holds_moves;
      keeps = keeps_locks g.D.Disk.tells g.D.Disk.held s c.self.inside.blocks c.self.inside.locks c.take_file.new.self c.reserve.new.self c.self.inside.pending.items c.self.inside.next (locks_same c.self.inside.locks c.take_file.new.self s.events same i.keeps.holds_locks) roomy;
      holds_keys = i.holds_keys;
      holds_blocks = i.holds_blocks;
      holds_device = i.holds_device;
      durable = i.durable;
    }

pub returns-clause-enlisted : goal.returns-clause-enlisted
returns-clause-enlisted g c =
    enlisted_met g.J.Run.opening c.args.tx.now c.enlist_here.new.self c.meet.new.self c.args.self.now.part.number c.self.inside.volume c.self.inside.seat c.meet.new.other
    (sym c.self.invariant.seat.number ∙ ap (λ (v : DiscView g.row.D.Denot). v.part.number) c.self.view_is) c.enlist_here.ensures c.meet.ensures.met

pub returns-clause-txn : goal.returns-clause-txn
returns-clause-txn g c =
    later_then g.J.Run.opening c.args.tx.now c.enlist_here.new.self c.meet.new.self (enlisted_txn g.J.Run.opening c.args.tx.now c.enlist_here.new.self c.self.inside.volume c.enlist_here.ensures)
    (met_txn g.J.Run.opening c.enlist_here.new.self c.meet.new.self c.self.inside.seat c.meet.new.other c.meet.ensures.met)

pub returns-clause-later_seat : goal.returns-clause-later_seat
returns-clause-later_seat g c =
    subst (λ (v : DiscView g.row.D.Denot). IsLaterSeat v.seat c.append.new.seat) c.self.view_is
    (seat_then c.self.inside.seat c.meet.new.other c.append.new.seat (seat_grown c.self.inside.seat c.meet.new.other c.meet.ensures.met.second) (record { place = c.append.ensures.part; begins = c.append.ensures.begins }))
