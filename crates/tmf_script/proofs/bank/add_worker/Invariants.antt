use Rattle.std.proofs.Common.{◌≡◌, ◌++◌}
use Rattle.tmf_script.specs.Bank.{written_lines, transfers_lines}
use Rattle.tmf_script.proofs.bank.add_worker.Given as goal

abbrev pub invariant-loop-i : goal.invariant-loop-i
invariant-loop-i l = l.text.items ≡ l.initial.text.items ++ written_lines (transfers_lines l.worker l.i)
