use Rattle.std.proofs.Common.{sym, ap, ◌∙◌, arith}
use Rattle.keyed_file.specs.Row.{bad_row}
use Rattle.keyed_file.specs.BlockFormat.{record_row}
use Rattle.keyed_file.proofs.BlockCalls.{ReadAs, read_as, read_valid, read_at_home, read_spelled, read_only, not_bad, bad_behind}
use Rattle.keyed_file.proofs.block.read_block.Goals as goal

found : (c : goal.In-Ok-read_records) → ReadAs c.args.home c.args.bytes.now (record { file = c.head_in-head.result.file; number = c.head_in-head.result.number; position = c.head_in-head.result.position; records = c.read_records.new.records.items })
found c =
    let head = c.head_in-head.ensures in
    read_as c.args.home c.args.bytes.now c.split_at.result.1.now _ _ _ _ _ c.requires.bytes (λ i. omega (arith, c.type_inv.bytes i)) (sym c.head_fault.ensures ∙ c.in_default.is)
    head.file head.number head.position head.count c.split_at.ensures.back c.in-Ok-read_records.ensures.value c.in-Ok-read_records.ensures.fine

pub invariant_of-result : goal.invariant_of-result
invariant_of-result c = (omega (arith, c.read_records.ensures.room, c.in-Ok.ensures.exact, c.from.ensures), read_valid _ _ _ (found c))

pub returns-in-Ok-read_records-clause-valid : goal.returns-in-Ok-read_records-clause-valid
returns-in-Ok-read_records-clause-valid c = read_valid _ _ _ (found c)

pub returns-in-Ok-read_records-clause-home : goal.returns-in-Ok-read_records-clause-home
returns-in-Ok-read_records-clause-home c = read_at_home _ _ _ (found c)

pub returns-in-Ok-read_records-clause-spelled : goal.returns-in-Ok-read_records-clause-spelled
returns-in-Ok-read_records-clause-spelled c = read_spelled _ _ _ (found c)

pub returns-in-Ok-read_records-clause-only : goal.returns-in-Ok-read_records-clause-only
returns-in-Ok-read_records-clause-only c = read_only _ _ _ (found c)

pub returns-in-Err-read_records-clause-only : goal.returns-in-Err-read_records-clause-only
returns-in-Err-read_records-clause-only c = λ block is at_home spelled.
    let wrong = bad_behind c.args.home c.args.bytes.now _ _ (sym c.head_fault.ensures ∙ c.in_default.is) c.head_in-head.ensures.count (ap (bad_row (record_row c.args.home) 128 _ c.head_in-head.result.count) (sym c.split_at.ensures.back) ∙ c.in-Err-read_records.ensures.cause) in
    absurd (not_bad c.args.home c.args.bytes.now block _ is at_home spelled wrong)
