use Rattle.std.proofs.Common.{◌∷◌, [], ◌++◌, sym, ◌∙◌, ap}
use Rattle.tmf_script.specs.Text.{without_cr}
use Rattle.tmf_script.proofs.TextFronts.{without_cr-dropped, without_cr-kept}
use Rattle.tmf_script.proofs.words.without_return.Goals as goal

pub returns-then-last-eq13 : goal.returns-then-last-eq13
returns-then-last-eq13 c =
    sym (ap without_cr (c.in-Some.ensures.cases.0 ∙ ap (λ last. c.in-Some.front.now ++ last ∷ []) c.if-last-eq13.true)
    ∙ without_cr-dropped c.in-Some.front.now)

pub returns-else-last-eq13 : goal.returns-else-last-eq13
returns-else-last-eq13 c =
    c.in-Some.ensures.cases.0
    ∙ sym (ap without_cr c.in-Some.ensures.cases.0 ∙ without_cr-kept c.in-Some.front.now c.in-Some.last.now c.if-last-eq13.false)
