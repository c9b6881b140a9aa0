use Rattle.std.proofs.Common.{◌≡◌, ◌++◌, take}
use Rattle.tmf_cli.specs.RunLines.{read_lines}
use Rattle.tmf_cli.proofs.told.add_reads.Given as goal

abbrev pub invariant-loop-read : goal.invariant-loop-read
invariant-loop-read l = l.lines.items ≡ l.initial.lines.items ++ read_lines l.tx (take l.read-index l.reads)
