use Rattle.std.proofs.Common.{Some, None, sym, ap, ◌∙◌, arith}
use Rattle.block_cache.proofs.Damages.{cut_fault, whole_fault}
use Rattle.block_cache.proofs.reading.slot_fault.Goals as goal

pub returns-then-count-lt-BLOCK_BYTES-clause-exact : goal.returns-then-count-lt-BLOCK_BYTES-clause-exact
returns-then-count-lt-BLOCK_BYTES-clause-exact c = λ file read. sym (cut_fault c.args.home file c.args.slot c.args.count c.args.bytes.now read c.if-count-lt-BLOCK_BYTES.true)

pub returns-in-Some-clause-exact : goal.returns-in-Some-clause-exact
returns-in-Some-clause-exact c = λ file read.
    let whole = whole_fault c.args.home file c.args.slot c.args.count c.args.bytes.now (Some c.in-Some.bad) read c.if-count-lt-BLOCK_BYTES.false (sym c.in-Some.ensures) in
    ap Some (omega (arith, c.slot_offset.ensures.at c.args.home.file, c.from.ensures)) ∙ sym whole

pub returns-in-None-clause-exact : goal.returns-in-None-clause-exact
returns-in-None-clause-exact c = λ file read. sym (whole_fault c.args.home file c.args.slot c.args.count c.args.bytes.now None read c.if-count-lt-BLOCK_BYTES.false (sym c.in-None.ensures))
