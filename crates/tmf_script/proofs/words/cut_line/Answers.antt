use Rattle.std.proofs.Common.{◌≡◌, ◌<◌, ℕ, List, [], ◌∷◌, length, ◌∙◌, ap, arith, IsTrue}
use Rattle.tmf_script.specs.Text.{raw_lines, lacks}
use Rattle.tmf_script.proofs.TextFronts.{raw_lines-ended, raw_lines-last}
use Rattle.tmf_script.proofs.words.cut_line.Goals as goal

pub returns-in-Some-clause-line : goal.returns-in-Some-clause-line
returns-in-Some-clause-line c =
    ap raw_lines c.in-Some.ensures.1 ∙ raw_lines-ended c.in-Some.parts.0.now c.in-Some.parts.1.now c.in-Some.ensures.0

whole : (text : List ℕ) → 0 < length text → IsTrue (lacks 10 text) → raw_lines text ≡ text ∷ []
whole [] some none = absurd (omega arith)
whole (byte ∷ line) some none = raw_lines-last byte line none

pub returns-in-None-clause-line : goal.returns-in-None-clause-line
returns-in-None-clause-line c = whole c.args.text.now c.requires c.in-None.ensures
