use Rattle.std.proofs.Common.{[], ◌∷◌, sym, subst}
use Rattle.node_machine.specs.declared.event.Event.TheVariants.{OfWorker}
use Rattle.node_machine.specs.declared.event.WorkerEvent.TheVariants.{Finish}
use Rattle.txn_states.specs.Txn.{HasStepped, Txn}
use Rattle.txn_states.proofs.Endings.{stepped}
use Rattle.txn_states.proofs.active.Active.end.Goals as goal

pub returns : goal.returns
returns g c =
    let old : Txn = record { tx = c.self.inside.tx; discs = c.self.inside.discs; seat = c.self.inside.seat; steps = c.self.inside.node.now.steps } in
    let new : Txn = record { tx = c.self.inside.tx; discs = c.self.inside.discs; seat = c.append.new.seat; steps = c.self.inside.node.now.steps } in
    let step = stepped g.J.Run.opening old c.append.new.seat (OfWorker (Finish old.tx) ∷ [])
    (record { part = c.append.ensures.part; begins = c.append.ensures.begins; events = c.append.ensures.mine; kept = c.append.ensures.knows }) in
    subst
    (λ (r : Txn). HasStepped g.J.Run.opening c.args.self (OfWorker (Finish c.args.self.tx) ∷ []) r)
    (sym c.new.ensures)
    (subst (λ (t : Txn). HasStepped g.J.Run.opening t (OfWorker (Finish t.tx) ∷ []) new) c.self.view_is step)
