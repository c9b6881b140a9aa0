use Rattle.std.proofs.Common.{◌≡◌, ◌≤◌, length, take}
use Rattle.std.specs.List.{filter}
use Rattle.run_outcomes.specs.Told.{is_read}
use Rattle.run_outcomes.proofs.room.count_reads.Given as goal

abbrev pub invariant-loop-step : goal.invariant-loop-step
invariant-loop-step l = record {
  counted : l.count ≡ length (filter (λ step. is_read step.op) (take l.step-index l.steps));
  few : l.count ≤ l.step-index;
}
