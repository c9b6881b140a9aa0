use Rattle.std.proofs.Common.{[], ◌∷◌, Some, sym, subst}
use Rattle.node_machine.specs.declared.event.Event.TheVariants.{OfWorker}
use Rattle.node_machine.specs.declared.event.WorkerEvent.TheVariants.{End}
use Rattle.txn_states.specs.Txn.{HasStepped, Txn}
use Rattle.txn_states.proofs.Endings.{stepped}
use Rattle.tmf_model.specs.declared.script.Close.TheVariants.{Commit as Committing}
use Rattle.trail_files.specs.MonitorOrder.{is_same_transid}
use Rattle.node_machine.specs.Parts.{WorkerPart}
use Rattle.node_machine.specs.Parts.Fact.{Decided}
use Rattle.node_machine.specs.Parts.PartState.{Worker}
use Rattle.node_machine.specs.SameLaws.{same_self, case_true}
use Rattle.node_machine.specs.Worker.{decision}
use Rattle.txn_states.proofs.Decisions.{state_after, last_after_end}
use Rattle.txn_states.proofs.flushed.Flushed.decide.Goals as goal

pub returns : goal.returns
returns g c =
    let old : Txn = record { tx = c.self.inside.tx; discs = c.self.inside.discs; seat = c.self.inside.seat; steps = c.self.inside.node.now.steps } in
    let new : Txn = record { tx = c.self.inside.tx; discs = c.self.inside.discs; seat = c.append.new.seat; steps = c.self.inside.node.now.steps } in
    let step = stepped g.J.Run.opening old c.append.new.seat (OfWorker (End old.tx) ∷ [])
    (record { part = c.append.ensures.part; begins = c.append.ensures.begins; events = c.append.ensures.mine; kept = c.append.ensures.knows }) in
    subst
    (λ (r : Txn). HasStepped g.J.Run.opening c.args.self (OfWorker (End c.args.self.tx) ∷ []) r)
    (sym c.new.ensures)
    (subst (λ (t : Txn). HasStepped g.J.Run.opening t (OfWorker (End t.tx) ∷ []) new) c.self.view_is step)

pub new-requires : goal.new-requires
new-requires g c =
    let o = g.J.Run.opening in
    let w = c.self.inside in
    let a = c.self.invariant.ending.committing in
    let e = c.append.ensures in
    let new : WorkerPart = record a.part { events = End w.tx ∷ a.part.events } in
    let at = state_after o w.seat c.append.new.seat a.part (End w.tx) a.at e.state in
    record {
      decided = e.makes (Worker new) (Decided w.tx Committing w.discs) at (record { worker = a.is_open.is_own.worker; epoch = a.is_open.is_own.epoch }, case_true (is_same_transid w.tx w.tx) (Some Committing) (decision a.part.events w.tx) (same_self w.tx), a.discs_are);
      last = λ found opens. last_after_end o found w.seat c.append.new.seat a.part w.tx opens e.history a.at a.is_open e.state;
      flushed = λ d there. (let h = c.self.invariant.flushed d there in (h.0, e.knows _ h.1, e.knows _ h.2));
      discs = c.self.invariant.ending.discs;
    }
