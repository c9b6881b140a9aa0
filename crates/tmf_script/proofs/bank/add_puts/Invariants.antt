use Rattle.std.proofs.Common.{◌≡◌, ◌++◌, map}
use Rattle.std.specs.List.{range_with_len}
use Rattle.tmf_script.specs.Bank.{written_lines, put_account_line}
use Rattle.tmf_script.proofs.bank.add_puts.Given as goal

abbrev pub invariant-loop-number : goal.invariant-loop-number
invariant-loop-number l = l.text.items ≡ l.initial.text.items ++ written_lines (map (put_account_line l.worker) (range_with_len 0 l.number))
