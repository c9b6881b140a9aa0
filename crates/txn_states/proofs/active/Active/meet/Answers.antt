use Rattle.std.proofs.Common.{refl, subst}
use Rattle.txn_states.specs.Txn.{HasMet, Txn}
use Rattle.txn_states.proofs.active.Active.meet.Goals as goal

pub returns-clause-met : goal.returns-clause-met
returns-clause-met g c =
    let new : Txn = record { tx = c.self.inside.tx; discs = c.self.inside.discs; seat = c.meet.new.a; steps = c.self.inside.node.now.steps } in
    subst
    (λ (t : Txn). HasMet g.J.Run.opening t new c.args.other.now c.meet.new.b)
    c.self.view_is
    (record {
      tx = refl;
      discs = refl;
      steps = refl;
      first = c.meet.ensures.first;
      second = c.meet.ensures.second;
      same = c.meet.ensures.same;
      both = c.meet.ensures.union;
      first_learned = c.meet.ensures.first_learned;
      second_learned = c.meet.ensures.second_learned;
      told = c.meet.ensures.told;
      tells = c.meet.ensures.tells;
    })
