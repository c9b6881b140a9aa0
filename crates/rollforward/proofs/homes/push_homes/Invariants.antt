use Rattle.std.proofs.Common.{◌≡◌, ◌++◌}
use Rattle.rollforward.specs.Body.{homes_below}
use Rattle.rollforward.proofs.homes.push_homes.Given as goal

abbrev pub invariant-loop-number : goal.invariant-loop-number
invariant-loop-number l = l.homes.items ≡ l.initial.homes.items ++ homes_below l.file l.blocks l.number
