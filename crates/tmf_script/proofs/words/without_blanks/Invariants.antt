use Rattle.std.proofs.Common.{◌≡◌, length}
use Rattle.tmf_script.specs.Text.{words_of}
use Rattle.tmf_script.proofs.words.without_blanks.Given as goal

-- only blanks were passed
abbrev pub invariant-loop-rest : goal.invariant-loop-rest
invariant-loop-rest l = words_of l.rest ≡ words_of l.fn.line

abbrev pub decreases-loop-rest : goal.decreases-loop-rest
decreases-loop-rest l = length l.rest
