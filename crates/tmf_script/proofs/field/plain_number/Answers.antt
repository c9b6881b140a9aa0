use Rattle.std.proofs.Common.{pos, Ok, ap, ◌∙◌, arith}
use Rattle.std.proofs.lemmas.Int.{ints}
use Rattle.tmf_script.proofs.Numbers.{number_text-is, number_text-plain, decimal-injective}
use Rattle.tmf_script.proofs.field.plain_number.Goals as goal

pub returns-then-number : goal.returns-then-number
returns-then-number c =
    number_text-is (pos c.in-Some.number) c.args.word.now (record { sfits = omega arith }) c.in-Some.ensures
    ∙ ap (λ z. Ok z) (omega (arith, ints))

pub returns-else-number : goal.returns-else-number
returns-else-number c = number_text-plain c.args.word.now c.requires (λ n small is.
    let same = decimal-injective n c.in-Some.number c.args.word.now (omega arith) (omega arith) is c.in-Some.ensures in omega arith)

pub returns-in-None : goal.returns-in-None
returns-in-None c = number_text-plain c.args.word.now c.requires (λ n small is. c.in-None.ensures n (omega arith) is)
