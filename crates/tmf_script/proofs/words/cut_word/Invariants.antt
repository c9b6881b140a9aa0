use Rattle.std.proofs.Common.{IsTrue, take}
use Rattle.tmf_script.proofs.TextFronts.{has_no_blank}
use Rattle.tmf_script.proofs.words.cut_word.Given as goal

-- no blank so far
abbrev pub invariant-loop-i : goal.invariant-loop-i
invariant-loop-i l = IsTrue (has_no_blank (take l.i l.line))
