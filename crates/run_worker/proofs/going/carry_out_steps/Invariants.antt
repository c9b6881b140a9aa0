use Rattle.std.proofs.Common.{◌≡◌, length}
use Rattle.std.specs.Prelude.{take, vec_capacity}
use Rattle.std.specs.List.{filter}
use Rattle.disc_process.specs.Later.{IsLaterTxn}
use Rattle.run_outcomes.specs.Concerned.{volumes_of_steps}
use Rattle.run_outcomes.specs.Told.{is_read}
use Rattle.run_worker.specs.Going.{HasGivenSome, HasOnlyEnlisted}
use Rattle.run_worker.specs.Shared.{KeepsItsDiscs}
use Rattle.run_worker.specs.Steps.{reach_of}
use Rattle.run_worker.proofs.Goings.{Gone}
use Rattle.run_worker.proofs.going.carry_out_steps.Given as goal

abbrev pub invariant-loop-step : goal.invariant-loop-step
invariant-loop-step g l = record {
  number_is : l.number ≡ l.step-index;
  gone : Gone g.J.Run.opening g.J.NodeRun.found.config l.fn.tx.tx l.steps l.reads.items (reach_of l.fn.tx l.fn.share) (reach_of l.tx l.share) l.step-index;
  given : HasGivenSome l.step-index l.fn.share l.share;
  space : vec_capacity l.reads ≡ vec_capacity l.fn.reads;
  kept : length l.reads.items ≡ length (filter (λ step. is_read step.op) (take l.step-index l.steps));
  later : IsLaterTxn g.J.Run.opening l.fn.tx l.tx;
  worker : HasOnlyEnlisted (volumes_of_steps g.J.NodeRun.found.config l.steps) l.fn.tx l.tx;
  discs : KeepsItsDiscs l.shared.discs.now l.fn.tx l.tx;
}
