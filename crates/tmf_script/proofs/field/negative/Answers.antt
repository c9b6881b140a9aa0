use Rattle.std.proofs.Common.{◌≡◌, ◌∷◌, ◌-◌, suc, negsuc, Ok, ap, ◌∙◌, arith}
use Rattle.std.specs.Fmt.{decimal}
use Rattle.std.proofs.lemmas.Int.{ints}
use Rattle.tmf_script.proofs.Numbers.{number_text-is, number_text-minus, decimal-injective}
use Rattle.tmf_script.proofs.field.negative.Goals as goal
use Rattle.tmf_script.proofs.field.negative.Goals.{else-number-ge1-via-then-number-ge1+else-number, else-number-ge1-via-else-number-ge1}

pub returns-then-number : goal.returns-then-number
returns-then-number c =
    let n = c.in-Some.number in
    let again : n ≡ suc (n - 1) = omega arith in
    number_text-is (negsuc (n - 1)) (45 ∷ c.args.digits.now) (record { sfits = omega arith })
    (ap (λ digits. 45 ∷ digits) (c.in-Some.ensures ∙ ap decimal again))
    ∙ ap (λ z. Ok z) (omega (arith, ints))

pub returns-else-number-ge1 : goal.returns-else-number-ge1
returns-else-number-ge1 c = number_text-minus c.args.digits.now (λ n some small is.
    let same = decimal-injective n c.in-Some.number c.args.digits.now (omega arith) (omega arith) is c.in-Some.ensures in
    elim c.else-number-ge1.branch [
      | else-number-ge1-via-then-number-ge1+else-number w ↦ omega (arith, same)
      | else-number-ge1-via-else-number-ge1 w ↦ omega (arith, same)
    ])

pub returns-in-None : goal.returns-in-None
returns-in-None c = number_text-minus c.args.digits.now (λ n some small is. c.in-None.ensures n (omega arith) is)
