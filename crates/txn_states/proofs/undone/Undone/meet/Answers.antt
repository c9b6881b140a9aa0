use Rattle.std.proofs.Common.{refl, subst}
use Rattle.txn_states.specs.Txn.{HasMet, Txn}
use Rattle.tmf_model.specs.declared.script.Close.TheVariants.{Abort as Aborting}
use Rattle.txn_states.proofs.Decisions.{last_learned}
use Rattle.txn_states.proofs.undone.Undone.meet.Goals as goal

pub returns-clause-met : goal.returns-clause-met
returns-clause-met g c =
    let new : Txn = record { tx = c.self.inside.tx; discs = c.self.inside.discs; seat = c.meet.new.a; steps = c.self.inside.node.now.steps } in
    subst
    (λ (t : Txn). HasMet g.J.Run.opening t new c.args.other.now c.meet.new.b)
    c.self.view_is
    (record {
      tx = refl;
      discs = refl;
      steps = refl;
      first = c.meet.ensures.first;
      second = c.meet.ensures.second;
      same = c.meet.ensures.same;
      both = c.meet.ensures.union;
      first_learned = c.meet.ensures.first_learned;
      second_learned = c.meet.ensures.second_learned;
      told = c.meet.ensures.told;
      tells = c.meet.ensures.tells;
    })

pub invariant_of-self : goal.invariant_of-self
invariant_of-self g c = record {
  decided = c.meet.ensures.first_learned.knows _ c.self.invariant.decided;
  last = λ found opens. last_learned g.J.Run.opening c.self.inside.seat c.meet.new.a c.self.inside.tx Aborting c.meet.ensures.first_learned (c.self.invariant.last found opens);
  discs = c.self.invariant.discs;
}

pub returns-clause-state : goal.returns-clause-state
returns-clause-state g c = invariant_of-self g c
