use Rattle.std.proofs.Common.{◌≡◌, ◌<◌, ◌≤◌, ℕ, List, length, get_or, sym, subst, ◌∙◌, arith}
use Rattle.chronicle.specs.Seats.{Knows}
use Rattle.node_machine.specs.Monitor.{IsFlushed}
use Rattle.node_machine.specs.Node.{node}
use Rattle.node_machine.specs.Trail.{trail_of}
use Rattle.node_machine.specs.declared.event.By.TheVariants.{Attempt}
use Rattle.audit_writer.specs.Locked.{HasFailed}
use Rattle.phase_one.specs.declared.phase.Stopped.{Stopped}
use Rattle.phase_one.specs.Stopped.{IsStopped}
use Rattle.phase_one.proofs.Flushing.{come_more, come_stopped, come_whole}
use Rattle.phase_one.proofs.phase.run.Goals as goal

pub returns-in-Err-clause-stopped : goal.returns-in-Err-clause-stopped
returns-in-Err-clause-stopped g c =
    let come = c.loop-index.invariant.come in
    let discs : c.discs.result.now ≡ c.args.tx.discs = c.discs.ensures ∙ come.stepped.discs in
    let few : c.loop-index.index < length c.args.tx.discs = omega (arith, c.loop-index.invariant.all, c.loop-index-test.true) in
    subst (λ (s : Stopped). IsStopped g.J.NodeRun.found.config c.args.tx c.flush_at.new.tx s) (sym c.stopped_from.ensures)
    (come_stopped g.J.Run.opening g.J.NodeRun.found.config c.args.tx c.loop-index.ending c.flush_at.new.tx c.loop-index.index c.in-Err.refused come few
    (subst (λ (xs : List ℕ). HasFailed (trail_of g.J.NodeRun.found.config (get_or xs c.loop-index.index 0)) (Attempt c.loop-index.ending.tx) c.loop-index.ending.seat c.flush_at.new.tx.seat c.in-Err.refused) discs c.in-Err.ensures.refused))

pub loop-index-preserved : goal.loop-index-preserved
loop-index-preserved g c =
    let come = c.loop-index.invariant.come in
    let discs : c.discs.result.now ≡ c.args.tx.discs = c.discs.ensures ∙ come.stepped.discs in
    record {
      all = c.loop-index.invariant.all;
      come = come_more g.J.Run.opening c.args.tx c.loop-index.ending c.flush_at.new.tx c.loop-index.index come c.flush_at.ensures.txn
          (subst (λ (xs : List ℕ). IsFlushed (Knows node g.J.Run.opening c.flush_at.new.tx.seat) c.loop-index.ending.tx (get_or xs c.loop-index.index 0)) discs c.in-Ok.ensures.flushed);
    }

pub flushed-requires : goal.flushed-requires
flushed-requires g c =
    let all : length c.args.tx.discs ≤ c.loop-index.index = omega (arith, c.loop-index.invariant.all, c.loop-index-test.false) in
    come_whole g.J.Run.opening c.args.tx c.loop-index.ending c.loop-index.index c.loop-index.invariant.come all
