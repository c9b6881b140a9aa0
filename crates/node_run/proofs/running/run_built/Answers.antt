use Rattle.std.proofs.Common.{◌≡◌, ◌+◌, ℕ, List, length, subst, sym, arith}
use Rattle.run_threads.specs.Hands.{HaveBegun, HaveWorked}
use Rattle.run_threads.specs.declared.hand.Hand.{Hand}
use Rattle.node_run.specs.Tokens.{AreHome}
use Rattle.node_run.proofs.Lists.{front_taken}
use Rattle.node_run.proofs.running.run_built.Goals as goal

pub make_crew-requires-clause-few : goal.make_crew-requires-clause-few
make_crew-requires-clause-few g c = (let few = c.requires.built.0.few in omega (arith, few, c.count_discs-discs.ensures))

pub make_crew-requires-clause-tokens : goal.make_crew-requires-clause-tokens
make_crew-requires-clause-tokens g c =
    subst (λ (n : ℕ). AreHome n 0 c.args.built.tokens.book c.args.built.tokens.home) (sym c.count_discs-discs.ensures) c.requires.built.1

pub make_crew-requires-clause-workers : goal.make_crew-requires-clause-workers
make_crew-requires-clause-workers g c = c.requires.run.phase_is.valid.few

pub work_all-requires-clause-begun : goal.work_all-requires-clause-begun
work_all-requires-clause-begun g c κs within =
    subst (λ (l : List (Hand g.row.J.Denot)). HaveBegun (length c.args.built.stage.rows.discs) c.args.run.phase.now l) (sym c.as_mut_slice.ensures.value)
    (subst (λ (n : ℕ). HaveBegun n c.args.run.phase.now c.make_crew.new.crew.hands.items) c.count_discs-discs.ensures c.make_crew.ensures.begun)

pub take_down-requires-clause-tokens : goal.take_down-requires-clause-tokens
take_down-requires-clause-tokens g c =
    subst (λ (n : ℕ). AreHome (n + length c.args.run.phase.now.workers) (length c.args.run.phase.now.workers) c.make_crew.new.tokens.book c.make_crew.new.tokens.home) c.count_discs-discs.ensures c.make_crew.ensures.tokens

pub take_down-requires-clause-worked : goal.take_down-requires-clause-worked
take_down-requires-clause-worked g c =
    let new : List (Hand g.row.J.Denot) = c.work_all.new.hands in
    let many : c.make_crew.new.crew.hands.len ≡ length new = omega (arith, c.as_mut_slice.ensures.len, c.work_all.auto.hands) in
    subst (λ (l : List (Hand g.row.J.Denot)). HaveWorked g.D.Disk g.J.NodeRun.found c.args.run.phase.now g.J.DeviceRun.devices l) (sym (front_taken new _ c.make_crew.new.crew.hands.len many)) c.work_all.ensures
