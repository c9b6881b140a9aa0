use Rattle.std.proofs.Common.{◌≡◌, ◌≤◌, ◌-◌, ℕ, List, reverse, sym, subst, ap, ◌∙◌}
use Rattle.chronicle.specs.Seats.{Knows, own_events}
use Rattle.node_machine.specs.declared.event.Event.{Event}
use Rattle.tmf_model.specs.declared.transid.Transid.{Transid}
use Rattle.node_machine.specs.Made.{last_write, next_position}
use Rattle.node_machine.specs.Node.{node}
use Rattle.node_machine.specs.Parts.{DiscPart}
use Rattle.node_machine.specs.Parts.Fact.{Closed}
use Rattle.disc_process.specs.CloseLanded.{HasClosed, IsIdleDisc}
use Rattle.disc_process.specs.Disc.{DiscView}
use Rattle.disc_process.specs.Draws.{MadeBelow}
use Rattle.disc_process.proofs.Handovers.{ok_either, told_either}
use Rattle.disc_process.proofs.LastWrite.{last_behind}
use Rattle.disc_process.proofs.disc.DiscState.close_handing.Goals as goal

pub hand_out-requires : goal.hand_out-requires
hand_out-requires g c =
    let o = g.J.Run.opening in
    let old = c.args.self.now in
    let new = c.close.new.self in
    let e = c.close.ensures in
    let closed = c.in_ok-close.ensures.closed in
    let below : MadeBelow old.part = subst (λ (v : DiscView g.row.D.Denot). MadeBelow v.part) c.self.view_is c.self.invariant.keeps.below in
    let seen : c.close.new.tx.seat.seen ≡ new.seat.seen = c.in_ok-close.ensures.seen in
    let number : old.part.number ≡ new.part.number = sym (ap (λ (s : DiscPart). s.number) e.disc.part) in
    let last : last_write old.part.events c.args.tx.now.tx ≤ next_position new.part - 1 =
    subst (λ (s : DiscPart). last_write old.part.events c.args.tx.now.tx ≤ next_position s - 1) (sym e.disc.part) (last_behind old.part (reverse e.disc.more) c.args.tx.now.tx below) in
    let knows : Knows node o new.seat (Closed c.args.tx.now.tx old.part.number c.in_ok-close.field-0) = subst (λ (l : List (ℕ × Event)). Knows node o (record { part = new.seat.part; seen = l }) (Closed c.args.tx.now.tx old.part.number c.in_ok-close.field-0)) seen closed.1 in (
      c.in_ok-close.field-0,
      subst (λ (x : Transid × ℕ). Knows node o new.seat (Closed x.0 x.1 c.in_ok-close.field-0)) (λ j. (sym c.tx-t.ensures.tx j, number j)) knows,
      subst (λ (p : ℕ). p ≤ next_position new.part - 1) (sym closed.0) last,
    )

pub returns-clause-events : goal.returns-clause-events
returns-clause-events g c =
    let old = c.args.self.now in
    let new = c.hand_out.new.self in
    let closed : HasClosed old new c.args.tx.now.tx = ap (λ (v : DiscView g.row.D.Denot). own_events v.seat) c.hand_out.ensures.same ∙ c.in_ok-close.ensures.events in
    told_either c.hand_out.result (HasClosed old new c.args.tx.now.tx) (IsIdleDisc old new) closed

pub returns-clause-closed : goal.returns-clause-closed
returns-clause-closed g c =
    let o = g.J.Run.opening in
    let old = c.args.self.now in
    let t = c.args.tx.now.tx in
    let seat = c.close.new.tx.seat in
    let closed = c.in_ok-close.ensures.closed in
    ok_either c.hand_out.result (Knows node o seat (Closed t old.part.number (last_write old.part.events t)))
    (subst (λ (p : ℕ). Knows node o seat (Closed t old.part.number p)) closed.0 closed.1)

pub returns-clause-seen : goal.returns-clause-seen
returns-clause-seen g c =
    let old = c.args.self.now in
    let new = c.hand_out.new.self in
    told_either c.hand_out.result (c.close.new.tx.seat.seen ≡ new.seat.seen) (IsIdleDisc old new)
    (c.in_ok-close.ensures.seen ∙ sym (ap (λ (v : DiscView g.row.D.Denot). v.seat.seen) c.hand_out.ensures.same))
