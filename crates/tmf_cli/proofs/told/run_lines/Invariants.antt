use Rattle.std.proofs.Common.{◌≡◌, take}
use Rattle.tmf_cli.specs.RunLines.{run_lines}
use Rattle.tmf_cli.proofs.told.run_lines.Given as goal

abbrev pub invariant-loop-outcome : goal.invariant-loop-outcome
invariant-loop-outcome l = l.lines.items ≡ run_lines l.config (take l.outcome-index l.outcomes)
