use Rattle.std.proofs.Common.{◌-◌, IsTrue, ◌∷◌, length, length-drop, take, drop, ◌∙◌, ap, subst, sym, arith}
use Rattle.std.proofs.lemmas.List.{take_all}
use Rattle.tmf_script.specs.Text.{words_of}
use Rattle.tmf_script.proofs.TextFronts.{has_no_blank, words_of-cut, words_of-whole}
use Rattle.tmf_script.proofs.words.cut_word.Goals as goal

pub returns-then-is_blank_byte : goal.returns-then-is_blank_byte
returns-then-is_blank_byte c =
    let line = c.args.line.now in
    let rest = drop c.loop-i.i line in
    words_of-cut line c.loop-i.i c.loop-i-test.true c.requires c.loop-i.invariant (sym c.is_blank_byte.ensures ∙ c.if-is_blank_byte.true)
    ∙ ap (λ r. take c.loop-i.i line ∷ words_of r) (sym (take_all (length line - c.loop-i.i) rest (omega (arith, length-drop c.loop-i.i line))))

pub returns : goal.returns
returns c =
    let line = c.args.line.now in
    words_of-whole line c.requires (subst (λ l. IsTrue (has_no_blank l)) (take_all c.loop-i.i line c.loop-i-test.false) c.loop-i.invariant)
