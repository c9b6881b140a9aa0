use Rattle.std.proofs.Common.{ℕ, List, subst, sym}
use Rattle.chronicle.specs.Histories.{states_after, IsTrueIn}
use Rattle.chronicle.proofs.Facts.{learned}
use Rattle.chronicle.proofs.chronicle.Chronicle.meet.Goals as goal

pub returns-clause-first_learned : goal.returns-clause-first_learned
returns-clause-first_learned g c =
    learned g.M.Machine.rules g.J.Run.opening g.M.Machine.facts_stay c.args.a.now c.meet_seats.new.a c.meet_seats.ensures.first c.lawful.ensures

pub returns-clause-second_learned : goal.returns-clause-second_learned
returns-clause-second_learned g c =
    learned g.M.Machine.rules g.J.Run.opening g.M.Machine.facts_stay c.args.b.now c.meet_seats.new.b c.meet_seats.ensures.second c.lawful-2.ensures

pub returns-clause-told : goal.returns-clause-told
returns-clause-told g c f t =
    subst (λ (l : List (ℕ × g.row.M-Event.Denot)). IsTrueIn g.M.Machine.rules (states_after g.M.Machine.rules g.J.Run.opening l) f) (sym c.meet_seats.ensures.same) ((returns-clause-second_learned g c).knows f t)

pub returns-clause-tells : goal.returns-clause-tells
returns-clause-tells g c f t =
    subst (λ (l : List (ℕ × g.row.M-Event.Denot)). IsTrueIn g.M.Machine.rules (states_after g.M.Machine.rules g.J.Run.opening l) f) c.meet_seats.ensures.same ((returns-clause-first_learned g c).knows f t)
