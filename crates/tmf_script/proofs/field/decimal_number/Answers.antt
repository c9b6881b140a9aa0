use Rattle.std.proofs.Common.{◌∷◌, [], sym, ◌∙◌, arith}
use Rattle.std.proofs.lemmas.Slice.Eq.{bytes_eq-Decides}
use Rattle.tmf_script.proofs.Numbers.{decimal_zero, first_digit}
use Rattle.tmf_script.proofs.field.decimal_number.Goals as goal

pub returns-then-is_same : goal.returns-then-is_same
returns-then-is_same c =
    (bytes_eq-Decides c.args.bytes.now (48 ∷ [])).0 (sym c.is_same.ensures ∙ c.if-is_same.true) ∙ sym decimal_zero

pub returns-else-bytes-ge49 : goal.returns-else-bytes-ge49
returns-else-bytes-ge49 c = λ n small is.
    let above = first_digit c.args.bytes.now n small is (λ zero. let told = (bytes_eq-Decides c.args.bytes.now (48 ∷ [])).1 zero in cc) in
    omega arith
