use Rattle.std.proofs.Common.{cond, ◌≡◌, ℕ, ◌-◌, ◌==◌, true, [], ◌∷◌, ◌++◌, Some, length, ap, sym, subst, ◌∙◌, refl}
use Rattle.std.specs.List.{list_any}
use Rattle.chronicle.specs.Seats.{Knows, own_events}
use Rattle.tmf_model.specs.declared.transid.Transid.{Transid}
use Rattle.trail_files.specs.MonitorOrder.{is_same_transid}
use Rattle.node_machine.specs.declared.event.DiscEvent.TheVariants as did
use Rattle.node_machine.specs.declared.event.Event.TheVariants.{OfDisc}
use Rattle.node_machine.specs.Disc.{MayAct}
use Rattle.node_machine.specs.Made.{has_closed, last_write}
use Rattle.node_machine.specs.Node.{node}
use Rattle.node_machine.specs.Parts.{DiscPart}
use Rattle.node_machine.specs.Parts.Fact.{Closed, Durable, Enlisted, Finished}
use Rattle.node_machine.specs.Parts.PartState.{Disc}
use Rattle.node_machine.specs.SameLaws.{same_self}
use Rattle.node_machine.proofs.Appending.{disc_may}
use Rattle.disc_process.specs.Disc.{DiscView, Keeps, closings, the_disc}
use Rattle.disc_process.specs.Live.{live_of}
use Rattle.disc_process.specs.LiveTx.{LiveTx}
use Rattle.disc_process.proofs.Closing.{closed_told, closing_live, ended_last, ending_enlisted, ending_finished, no_closings, one_closing}
use Rattle.disc_process.specs.Seats.{IsLaterSeat}
use Rattle.disc_process.proofs.Seats.{seat_grown, seat_then}
use Rattle.disc_process.proofs.Keeping.{disc_seat_next, disc_seat_same, keeps_closed, keeps_roomy}
use Rattle.disc_process.specs.Moves.{HoldsMoves}
use Rattle.disc_process.proofs.Moving.{moves_closed}
use Rattle.disc_process.specs.Spans.{HoldsSpans}
use Rattle.disc_process.proofs.Spans.{ended_span, spans_moved}
use Rattle.disc_process.proofs.Devices.{device_left}
use Rattle.disc_process.proofs.Keys.{keys_left, keys_same, leaves_close}
use Rattle.disc_process.proofs.disc.DiscState.close_step.Goals as goal

pub returns-then-has_closed-clause-events : goal.returns-then-has_closed-clause-events
returns-then-has_closed-clause-events g c =
    let kept = closing_live g.J.Run.opening c.self.inside.seat c.self.invariant c.args.tx.now c.meet.new.self c.meet.new.other c.tx-t.result c.tx-t.ensures.tx c.meet.ensures.met.tx c.meet.ensures.state c.meet.ensures.met.second_learned c.meet.ensures.met.same c.reserve.new.self (c.reserve.ensures.same c.tx-t.result) in
    let s : DiscPart = the_disc g.J.Run.opening c.self.inside.seat in
    subst (λ (p : DiscView g.row.D.Denot × Transid). own_events c.meet.new.other ≡ own_events p.0.seat ++ closings p.0.part.events p.1) (λ j. (c.self.view_is j, c.tx-t.ensures.tx j))
    (c.meet.ensures.met.second.mine ∙ no_closings (own_events c.self.inside.seat) s.events c.tx-t.result (kept.0.closed ∙ sym c.has_closed.ensures ∙ c.if-has_closed.true))

pub returns-then-has_closed-clause-closed : goal.returns-then-has_closed-clause-closed
returns-then-has_closed-clause-closed g c =
    let kept = closing_live g.J.Run.opening c.self.inside.seat c.self.invariant c.args.tx.now c.meet.new.self c.meet.new.other c.tx-t.result c.tx-t.ensures.tx c.meet.ensures.met.tx c.meet.ensures.state c.meet.ensures.met.second_learned c.meet.ensures.met.same c.reserve.new.self (c.reserve.ensures.same c.tx-t.result) in
    let o = g.J.Run.opening in
    let m = c.meet.ensures in
    let s : DiscPart = the_disc o c.self.inside.seat in
    let told = closed_told o c.meet.new.self.seat c.meet.new.other s c.tx-t.result c.last.result (m.met.second_learned.state ∙ c.self.invariant.seat.at) (kept.0.closed ∙ sym c.has_closed.ensures ∙ c.if-has_closed.true) (sym (c.last.ensures ∙ sym kept.0.last)) m.met.same in
    subst (λ (p : DiscView g.row.D.Denot × Transid). (c.last.result ≡ last_write p.0.part.events p.1) × Knows node o c.meet.new.self.seat (Closed p.1 p.0.part.number c.last.result)) (λ j. (c.self.view_is j, c.tx-t.ensures.tx j))
    (c.last.ensures ∙ sym kept.0.last, told)

pub append-requires : goal.append-requires
append-requires g c =
    let kept = closing_live g.J.Run.opening c.self.inside.seat c.self.invariant c.args.tx.now c.meet.new.self c.meet.new.other c.tx-t.result c.tx-t.ensures.tx c.meet.ensures.met.tx c.meet.ensures.state c.meet.ensures.met.second_learned c.meet.ensures.met.same c.reserve.new.self (c.reserve.ensures.same c.tx-t.result) in
    let o = g.J.Run.opening in
    let i = c.self.invariant in
    let m = c.meet.ensures in
    let s : DiscPart = the_disc o c.self.inside.seat in
    let t : Transid = c.tx-t.result in
    let there : list_any (λ d. d == s.number) c.args.tx.now.discs ≡ true = subst (λ (v : DiscView g.row.D.Denot). list_any (λ d. d == v.part.number) c.args.tx.now.discs ≡ true) (sym c.self.view_is) c.requires in
    let enlisted = m.met.tells (Enlisted c.args.tx.now.tx s.number) (ending_enlisted o c.args.tx.now s.number c.tx-t.ensures.state there) in
    let finished = m.met.tells (Finished c.args.tx.now.tx) (ending_finished o c.args.tx.now c.tx-t.ensures.state) in
    let is_left = kept.1 in
    let may : MayAct s t = record { unclosed = kept.0.closed ∙ sym c.has_closed.ensures ∙ c.if-has_closed.false; nothing_undone = is_left.nothing_undone; unreleased = is_left.unreleased } in
    disc_may o c.meet.new.other s (did.Close t) (m.met.second_learned.state ∙ i.seat.at) may (
      subst (λ (x : Transid). Knows node o c.meet.new.other (Enlisted x s.number)) (sym c.tx-t.ensures.tx) enlisted,
      subst (λ (x : Transid). Knows node o c.meet.new.other (Finished x)) (sym c.tx-t.ensures.tx) finished,
    )

pub invariant_of-self-2 : goal.invariant_of-self-2
invariant_of-self-2 g c =
    let kept = closing_live g.J.Run.opening c.self.inside.seat c.self.invariant c.args.tx.now c.meet.new.self c.meet.new.other c.tx-t.result c.tx-t.ensures.tx c.meet.ensures.met.tx c.meet.ensures.state c.meet.ensures.met.second_learned c.meet.ensures.met.same c.reserve.new.self (c.reserve.ensures.same c.tx-t.result) in
    let o = g.J.Run.opening in
    let i = c.self.invariant in
    let m = c.meet.ensures in
    let m2 = c.meet-2.ensures in
    let s : DiscPart = the_disc o c.self.inside.seat in
    let t : Transid = c.tx-t.result in
    let next = disc_seat_next o c.self.inside.config.now c.self.inside.volume _ c.self.inside.seat c.meet.new.other c.append.new.seat (did.Close t) i.seat m.met.second_learned.state m.met.second.part c.append.ensures.part c.append.ensures.state in
    let same = disc_seat_same o c.self.inside.config.now c.self.inside.volume _ c.append.new.seat c.meet-2.new.other next.1 m2.met.second_learned.state m2.met.second.part in
    let p : ℕ = c.self.inside.next - 1 - length c.self.inside.pending.items in
    let roomy = keeps_roomy g.D.Disk.tells g.D.Disk.held s c.self.inside.blocks c.self.inside.locks c.self.inside.live c.reserve.new.self c.self.inside.pending.items c.self.inside.pending.items c.self.inside.next (λ u. c.reserve.ensures.same u) refl i.keeps in
    let keeps : Keeps g.D.Disk.tells g.D.Disk.held c.self.inside.blocks c.self.inside.locks c.close.new.self c.self.inside.pending.items c.self.inside.next (record s { events = did.Close t ∷ s.events }) =
    keeps_closed g.D.Disk.tells g.D.Disk.held s t c.self.inside.blocks c.self.inside.locks c.reserve.new.self c.close.new.self c.self.inside.pending.items c.self.inside.next (λ u. c.close.ensures u) kept.1.unreleased roomy in
    record {
      fresh = i.fresh;
      valid = i.valid;
      volume_few = i.volume_few;
      declared = i.declared;
      is_found = i.is_found;
      records = i.records;
      seat = same.1;
      spans = subst (λ (x : DiscPart). HoldsSpans c.close.new.self x) (sym (same.0 ∙ next.0)) (spans_moved s (did.Close t ∷ s.events) refl (λ u. refl) (λ u. refl) c.self.inside.live c.close.new.self (λ u. ap (λ (l : LiveTx). l.span) (c.close.ensures u) ∙ ended_span (is_same_transid t u) (live_of c.reserve.new.self u) ∙ ap (λ (l : LiveTx). l.span) (c.reserve.ensures.same u)) i.spans);
      holds_moves = subst (λ (x : DiscPart). HoldsMoves c.self.inside.moves c.self.inside.blocks x) (sym (same.0 ∙ next.0)) (moves_closed c.self.inside.moves c.self.inside.blocks s t i.holds_moves);
      keeps = subst (λ (x : DiscPart). Keeps g.D.Disk.tells g.D.Disk.held c.self.inside.blocks c.self.inside.locks c.close.new.self c.self.inside.pending.items c.self.inside.next x) (sym (same.0 ∙ next.0)) keeps;
      holds_keys = keys_same _ _ (same.0 ∙ next.0) (keys_left s (did.Close t) (leaves_close s t) i.holds_keys);
      holds_blocks = i.holds_blocks;
      holds_device = device_left g.D.Disk _ _ c.self.inside.blocks.device s _ (did.Close t) (same.0 ∙ next.0) refl i.holds_device;
      durable = m2.met.second_learned.knows (Durable c.self.inside.volume p) (c.append.ensures.knows (Durable c.self.inside.volume p) (m.met.second_learned.knows (Durable c.self.inside.volume p) i.durable));
    }

pub returns-clause-events : goal.returns-clause-events
returns-clause-events g c =
    let kept = closing_live g.J.Run.opening c.self.inside.seat c.self.invariant c.args.tx.now c.meet.new.self c.meet.new.other c.tx-t.result c.tx-t.ensures.tx c.meet.ensures.met.tx c.meet.ensures.state c.meet.ensures.met.second_learned c.meet.ensures.met.same c.reserve.new.self (c.reserve.ensures.same c.tx-t.result) in
    let s : DiscPart = the_disc g.J.Run.opening c.self.inside.seat in
    subst (λ (p : DiscView g.row.D.Denot × Transid). own_events c.meet-2.new.other ≡ own_events p.0.seat ++ closings p.0.part.events p.1) (λ j. (c.self.view_is j, c.tx-t.ensures.tx j))
    (c.meet-2.ensures.met.second.mine ∙ c.append.ensures.mine ∙ ap (λ xs. xs ++ OfDisc (did.Close c.tx-t.result) ∷ []) c.meet.ensures.met.second.mine ∙ ap (λ xs. own_events c.self.inside.seat ++ xs) (one_closing s.events c.tx-t.result (kept.0.closed ∙ sym c.has_closed.ensures ∙ c.if-has_closed.false)))

pub returns-clause-closed : goal.returns-clause-closed
returns-clause-closed g c =
    let kept = closing_live g.J.Run.opening c.self.inside.seat c.self.invariant c.args.tx.now c.meet.new.self c.meet.new.other c.tx-t.result c.tx-t.ensures.tx c.meet.ensures.met.tx c.meet.ensures.state c.meet.ensures.met.second_learned c.meet.ensures.met.same c.reserve.new.self (c.reserve.ensures.same c.tx-t.result) in
    let o = g.J.Run.opening in
    let i = c.self.invariant in
    let m = c.meet.ensures in
    let m2 = c.meet-2.ensures in
    let s : DiscPart = the_disc o c.self.inside.seat in
    let t : Transid = c.tx-t.result in
    let next = disc_seat_next o c.self.inside.config.now c.self.inside.volume _ c.self.inside.seat c.meet.new.other c.append.new.seat (did.Close t) i.seat m.met.second_learned.state m.met.second.part c.append.ensures.part c.append.ensures.state in
    let same = disc_seat_same o c.self.inside.config.now c.self.inside.volume _ c.append.new.seat c.meet-2.new.other next.1 m2.met.second_learned.state m2.met.second.part in
    let last = c.last-2.ensures ∙ ap (λ (l : LiveTx). l.last) (c.close.ensures t) ∙ ended_last (is_same_transid t t) (live_of c.reserve.new.self t) ∙ sym kept.0.last in
    let told = closed_told o c.meet-2.new.self.seat c.meet-2.new.other (record s { events = did.Close t ∷ s.events }) t c.last-2.result (same.1.at ∙ ap (λ (x : DiscPart). Some (Disc x)) (same.0 ∙ next.0)) (ap (λ b. cond b true (has_closed s.events t)) (same_self t)) (sym last) m2.met.same in
    subst (λ (p : DiscView g.row.D.Denot × Transid). (c.last-2.result ≡ last_write p.0.part.events p.1) × Knows node o c.meet-2.new.self.seat (Closed p.1 p.0.part.number c.last-2.result)) (λ j. (c.self.view_is j, c.tx-t.ensures.tx j))
    (last, told)

pub returns-clause-later_seat : goal.returns-clause-later_seat
returns-clause-later_seat g c =
    let last = c.meet-2.new.other in
    subst (λ (v : DiscView g.row.D.Denot). IsLaterSeat v.seat last) c.self.view_is
    (seat_then c.self.inside.seat c.meet.new.other last (seat_grown c.self.inside.seat c.meet.new.other c.meet.ensures.met.second)
    (seat_then c.meet.new.other c.append.new.seat last (record { place = c.append.ensures.part; begins = c.append.ensures.begins }) (seat_grown c.append.new.seat last c.meet-2.ensures.met.second)))
