use Rattle.std.specs.Prelude.{map}
use Rattle.std.proofs.Common.{◌≡◌, ◌++◌, length}
use Rattle.tmf_lines.specs.declared.line.Line.TheVariants.{Entry}
use Rattle.tmf_lines.proofs.report.listing_lines.Given as goal

abbrev pub invariant-loop-entry : goal.invariant-loop-entry
invariant-loop-entry l = l.lines.items ++ map (λ entry. Entry l.file entry.0 entry.1) l.rest ≡ map (λ entry. Entry l.file entry.0 entry.1) l.entries

abbrev pub decreases-loop-entry : goal.decreases-loop-entry
decreases-loop-entry l = length l.rest
