use Rattle.std.proofs.Common.{IsTrue, take}
use Rattle.tmf_script.specs.Text.{lacks}
use Rattle.tmf_script.proofs.words.cut.Given as goal

-- no such byte so far
abbrev pub invariant-loop-i : goal.invariant-loop-i
invariant-loop-i l = IsTrue (lacks l.at (take l.i l.bytes))
