use Rattle.tmf_script.proofs.Numbers.{decimal_of_parsed, same_number, no_error, IsUtf8-decimal}
use Rattle.tmf_script.proofs.field.parsed.Goals as goal

pub returns-in-Ok-parse-clause-found : goal.returns-in-Ok-parse-clause-found
returns-in-Ok-parse-clause-found c =
    same_number c.args.bytes.now c.in-Ok-parse.number
    (rw c.in-Ok.ensures.cases.0 at c.in-Ok-parse.ensures.value.0)

pub returns-in-Ok-parse-clause-plain : goal.returns-in-Ok-parse-clause-plain
returns-in-Ok-parse-clause-plain c =
    decimal_of_parsed c.args.bytes.now c.in-Ok-parse.number
    (rw c.in-Ok.ensures.cases.0 at c.in-Ok-parse.ensures.value.0)

pub returns-in-Err-parse-clause-accepts : goal.returns-in-Err-parse-clause-accepts
returns-in-Err-parse-clause-accepts c =
    no_error c.args.bytes.now c.in-Err-parse.field-0
    (rw c.in-Ok.ensures.cases.0 at c.in-Err-parse.ensures.value.0)

pub returns-in-Err-clause-accepts : goal.returns-in-Err-clause-accepts
returns-in-Err-clause-accepts c = λ n small e.
    c.in-Err.ensures.cases.0 (IsUtf8-decimal c.args.bytes.now n small e)
