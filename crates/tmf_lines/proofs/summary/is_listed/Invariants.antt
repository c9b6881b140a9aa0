use Rattle.std.proofs.Common.{◌≡◌, false, take}
use Rattle.std.specs.List.{list_any}
use Rattle.tmf_lines.specs.Summary.{is_listing}
use Rattle.tmf_lines.proofs.summary.is_listed.Given as goal

abbrev pub invariant-loop-line : goal.invariant-loop-line
invariant-loop-line l = list_any (is_listing l.name) (take l.line-index l.lines) ≡ false
