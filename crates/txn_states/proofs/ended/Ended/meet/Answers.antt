use Rattle.std.proofs.Common.{refl, subst}
use Rattle.txn_states.specs.Txn.{EndedView, HasMet, Txn}
use Rattle.txn_states.proofs.Endings.{ended_more}
use Rattle.txn_states.proofs.ended.Ended.meet.Goals as goal

pub returns-clause-met : goal.returns-clause-met
returns-clause-met g c =
    let new : Txn = record { tx = c.self.inside.tx; discs = c.self.inside.discs; seat = c.meet.new.a; steps = c.self.inside.node.now.steps } in
    subst
    (λ (t : EndedView). HasMet g.J.Run.opening t.txn new c.args.other.now c.meet.new.b)
    c.self.view_is
    (record {
      tx = refl;
      discs = refl;
      steps = refl;
      first = c.meet.ensures.first;
      second = c.meet.ensures.second;
      same = c.meet.ensures.same;
      both = c.meet.ensures.union;
      first_learned = c.meet.ensures.first_learned;
      second_learned = c.meet.ensures.second_learned;
      told = c.meet.ensures.told;
      tells = c.meet.ensures.tells;
    })

pub invariant_of-self : goal.invariant_of-self
invariant_of-self g c = record {
  ended = ended_more g.J.Run.opening (record { tx = c.self.inside.tx; discs = c.self.inside.discs; seat = c.self.inside.seat; steps = c.self.inside.node.now.steps }) c.meet.new.a c.self.inside.place c.meet.ensures.first_learned.knows c.self.invariant.ended;
  discs = c.self.invariant.discs;
}

pub returns-clause-state : goal.returns-clause-state
returns-clause-state g c = invariant_of-self g c
