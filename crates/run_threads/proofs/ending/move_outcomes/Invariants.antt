use Rattle.std.specs.Prelude.{◌≤◌, vec_capacity}
use Rattle.std.proofs.Common.{◌≡◌, ◌+◌, ◌++◌, length, vec_len}
use Rattle.run_threads.proofs.ending.move_outcomes.Given as goal

abbrev pub invariant-loop-outcome : goal.invariant-loop-outcome
invariant-loop-outcome l = record {
  moved : l.outcomes.items ++ l.rest ≡ l.fn.outcomes.items ++ l.fn.own.items;
  room : vec_len l.outcomes + length l.rest ≤ vec_capacity l.outcomes;
  capacity : vec_capacity l.outcomes ≡ vec_capacity l.fn.outcomes;
}

abbrev pub decreases-loop-outcome : goal.decreases-loop-outcome
decreases-loop-outcome l = length l.rest
