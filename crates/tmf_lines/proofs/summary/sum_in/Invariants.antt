use Rattle.std.proofs.Common.{◌≡◌, ◌*◌, pos, neg_ℤ, take}
use Rattle.std.specs.Prelude.{◌≤ℤ◌}
use Rattle.tmf_lines.specs.Summary.{sum_in}
use Rattle.tmf_lines.proofs.summary.sum_in.Given as goal

-- each number is one of i64, so that the sum of so many of them is one of i128
abbrev pub invariant-loop-line : goal.invariant-loop-line
invariant-loop-line l = record {
  least : neg_ℤ (pos (l.line-index * 9223372036854775808)) ≤ℤ l.sum;
  most : l.sum ≤ℤ pos (l.line-index * 9223372036854775808);
  summed : l.sum ≡ sum_in l.name (take l.line-index l.lines);
}
