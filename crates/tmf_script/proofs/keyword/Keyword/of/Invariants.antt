use Rattle.std.proofs.Common.{◌≡◌, bytes_eq, length}
use Rattle.std.specs.List.{find}
use Rattle.tmf_script.specs.Line.{keyword_text, keyword_of}
use Rattle.tmf_script.proofs.keyword.Keyword.of.Given as goal

-- it is not among the words that were passed
abbrev pub invariant-loop-keyword : goal.invariant-loop-keyword
invariant-loop-keyword l = find (λ keyword. bytes_eq (keyword_text keyword) l.word) l.rest ≡ keyword_of l.word

abbrev pub decreases-loop-keyword : goal.decreases-loop-keyword
decreases-loop-keyword l = length l.rest
