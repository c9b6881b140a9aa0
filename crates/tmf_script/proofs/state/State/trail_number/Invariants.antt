use Rattle.std.proofs.Common.{◌≡◌, ◌≤◌, ◌+◌, bytes_eq, length}
use Rattle.std.specs.List.{position_from}
use Rattle.tmf_script.specs.State.{declared_trail}
use Rattle.tmf_script.proofs.state.State.trail_number.Given as goal

-- it is none of those that were passed, and their number is within bounds
abbrev pub invariant-loop-rest : goal.invariant-loop-rest
invariant-loop-rest l = record {
  passed : position_from (λ item. bytes_eq item l.name) l.number l.rest ≡ declared_trail l.self l.name;
  few : l.number + length l.rest ≤ 17;
}

abbrev pub decreases-loop-rest : goal.decreases-loop-rest
decreases-loop-rest l = length l.rest
