use Rattle.std.proofs.Common.{sym, arith}
use Rattle.keyed_file.proofs.BlockCalls.{ReadAs, fine_count, fine_slots, refilled_as, read_valid, read_at_home, read_spelled, read_only, not_bad}
use Rattle.keyed_file.proofs.block.Block.take.Goals as goal

found : (c : goal.After-self-3-1) → ReadAs c.args.home c.args.bytes.now (record { file = c.head_in-head.result.file; number = c.head_in-head.result.number; position = c.head_in-head.result.position; records = c.take_records.new.records.items })
found c =
    let head = c.head_in-head.ensures in
    refilled_as c.args.home c.args.bytes.now c.split_at.result.1.now _ _ _ _ _ c.requires.bytes (λ i. omega (arith, c.type_inv.bytes i)) c.requires.fine
    head.file head.number head.position head.count c.split_at.ensures.back c.take_records.ensures.value

pub invariant_of-self : goal.invariant_of-self
invariant_of-self c = (omega (arith, c.take_records.ensures.room, c.clear.ensures.capacity, c.self.invariant.0), read_valid _ _ _ (found c))

pub returns-clause-valid : goal.returns-clause-valid
returns-clause-valid c = read_valid _ _ _ (found c)

pub returns-clause-home : goal.returns-clause-home
returns-clause-home c = read_at_home _ _ _ (found c)

pub returns-clause-spelled : goal.returns-clause-spelled
returns-clause-spelled c = read_spelled _ _ _ (found c)

pub returns-clause-only : goal.returns-clause-only
returns-clause-only c = read_only _ _ _ (found c)

pub take_records-requires-clause-few : goal.take_records-requires-clause-few
take_records-requires-clause-few c = fine_count c.args.home c.args.bytes.now c.head_in-head.result.count c.requires.bytes c.requires.fine c.head_in-head.ensures.count

pub take_records-requires-clause-fine : goal.take_records-requires-clause-fine
take_records-requires-clause-fine c = fine_slots c.args.home c.args.bytes.now c.split_at.result.1.now c.head_in-head.result.count c.requires.fine c.head_in-head.ensures.count c.split_at.ensures.back
