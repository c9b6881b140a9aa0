-- Lines that are the same apart from the positions that they tell.
use Rattle.std.specs.Prelude.{map}
use Rattle.std.proofs.Common.{false, ◌≡◌, ◌++◌, ◌∷◌, [], List, refl, sym, ap, ◌∙◌}
use Rattle.std.proofs.lemmas.List.{map-append}
use Rattle.tmf_model.specs.declared.config.Config.{Config}
use Rattle.tmf_model.specs.declared.transid.Transid.{Transid}
use Rattle.run_outcomes.specs.declared.outcome.Outcome.{Outcome}
use Rattle.run_outcomes.specs.declared.outcome.Told.{Told}
use Rattle.run_outcomes.specs.declared.outcome.Told.TheVariants as told
use Rattle.single_law.specs.One.{AreSameOutcomes, plain_outcome, without_position}
use Rattle.tmf_lines.specs.declared.line.Line.{Line}
use Rattle.tmf_lines.specs.declared.line.Line.TheVariants.{Controlled, Dumped, Rolled}
use Rattle.tmf_cli.specs.OneOutput.{AreSameLines, TellNoPosition, plain_line, tells_position}
use Rattle.tmf_cli.specs.RunLines.{run_lines, told_lines}

-- equal lines are the same
pub alike : (lines other : List Line) → lines ≡ other → AreSameLines lines other
alike lines other is = ap (map plain_line) is

-- so are rows of such
pub both-alike : (a b c d : List Line) → AreSameLines a b → AreSameLines c d → AreSameLines (a ++ c) (b ++ d)
both-alike a b c d one two = map-append plain_line a c ∙ ap (λ l. l ++ map plain_line c) one ∙ ap (λ l. map plain_line b ++ l) two ∙ sym (map-append plain_line b d)

tells-still : (line : Line) → tells_position (plain_line line) ≡ tells_position line
tells-still (Controlled tx volume low) = refl
tells-still (Dumped tx volume start) = refl
tells-still (Rolled volume next) = refl
tells-still _ = refl

plain-already : (line : Line) → tells_position line ≡ false → plain_line line ≡ line
plain-already (Controlled tx volume low) none = absurd (cc none)
plain-already (Dumped tx volume start) none = absurd (cc none)
plain-already (Rolled volume next) none = absurd (cc none)
plain-already _ none = refl

line-exact : (line other : Line) → plain_line other ≡ plain_line line → tells_position line ≡ false → other ≡ line
line-exact line other same none = sym (plain-already other (sym (tells-still other) ∙ ap tells_position same ∙ tells-still line ∙ none)) ∙ same ∙ plain-already line none

-- lines that tell no position are the same as others that are so apart from positions
pub lines-exact : (lines other : List Line) → AreSameLines other lines → TellNoPosition lines → other ≡ lines
lines-exact [] [] same none = refl
lines-exact [] (o ∷ others) same none = absurd (cc same)
lines-exact (l ∷ lines) [] same none = absurd (cc same)
lines-exact (l ∷ lines) (o ∷ others) same none =
    let first : plain_line o ≡ plain_line l = cc same in
    let rest : AreSameLines others lines = cc same in
    ap (λ x. x ∷ others) (line-exact l o first none.0) ∙ ap (λ xs. l ∷ xs) (lines-exact lines others rest none.1)

told-plain : (config : Config) (tx : Transid) (tells : Told) → AreSameLines (told_lines config tx tells) (told_lines config tx (without_position tells))
told-plain config tx (told.Controlled volume low) = refl
told-plain config tx (told.Dumped volume start) = refl
told-plain config tx _ = refl

run-plain : (config : Config) (outcomes : List Outcome) → AreSameLines (run_lines config outcomes) (run_lines config (map plain_outcome outcomes))
run-plain config [] = refl
run-plain config (o ∷ rest) =
    both-alike (told_lines config o.tx o.told) (told_lines config o.tx (without_position o.told)) (run_lines config rest) (run_lines config (map plain_outcome rest)) (told-plain config o.tx o.told) (run-plain config rest)

-- outcomes that are the same apart from positions have such lines
pub run-alike : (config : Config) (outcomes others : List Outcome) → AreSameOutcomes outcomes others → AreSameLines (run_lines config outcomes) (run_lines config others)
run-alike config outcomes others same = run-plain config outcomes ∙ ap (λ os. map plain_line (run_lines config os)) same ∙ sym (run-plain config others)
