use Rattle.std.proofs.Common.{ℕ, [], ◌∷◌, ◌++◌, ap, sym, ◌∙◌, subst}
use Rattle.chronicle.specs.Seats.{Sight, own_events}
use Rattle.chronicle.specs.Holders.{IsSeat, sight_of}
use Rattle.chronicle.specs.Views.{first_part}
use Rattle.chronicle.specs.declared.view.View.{View}
use Rattle.chronicle.proofs.Facts.{next_part_state}
use Rattle.chronicle.proofs.Seating.{one_more, seat_appended}
use Rattle.chronicle.proofs.seat.Seat.append.Goals as goal

pub invariant_of-self : goal.invariant_of-self
invariant_of-self g c =
    let e = c.append-number.ensures in
    let next = seat_appended g.M.Machine.rules g.J.Run.table g.J.Run.opening c.self.inside.pass c.append-number.new.pass c.self.inside.count c.append-number.result (g.E.Names.event c.args.event.now) c.self.invariant e.own.0 e.own.1 e.added in
    subst (λ (n : ℕ). IsSeat g.M.Machine.rules g.J.Run.table g.J.Run.opening c.append-number.new.pass n) (sym c.saturating_add-self-inside.ensures) next

pub returns-clause-mine : goal.returns-clause-mine
returns-clause-mine g c =
    one_more g.M.Machine.rules (g.E.Names.event c.args.event.now) c.self.inside.pass.me.0 c.append-number.new.pass.me.0 c.append-number.result c.append-number.ensures.added
    ∙ ap (λ (v : Sight g.row.M-Event.Denot). own_events v ++ g.E.Names.event c.args.event.now ∷ []) c.self.view_is

pub returns-clause-state : goal.returns-clause-state
returns-clause-state g c =
    let e : g.row.M-Event.Denot = g.E.Names.event c.args.event.now in
    let w : View g.row.M-State.Denot g.row.M-Event.Denot = c.append-number.new.pass.me.0 in
    let part = ap (λ (u : View g.row.M-State.Denot g.row.M-Event.Denot). first_part u.parts) c.append-number.ensures.added.view ∙ ap (λ (v : Sight g.row.M-Event.Denot). v.part) c.self.view_is in
    next_part_state g.M.Machine.rules g.J.Run.opening c.args.self.now (sight_of w) e part (returns-clause-mine g c)
