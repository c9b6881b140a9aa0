use Rattle.std.proofs.Common.{sym, refl}
use Rattle.block_cache.proofs.OnePieces.{cut-read, cut-selected}
use Rattle.block_cache.proofs.data_file.fault_in.Goals as goal

pub returns-then-bytes-from : goal.returns-then-bytes-from
returns-then-bytes-from c = sym (cut-selected c.args.home c.args.bytes.now c.selected_slot-slot.result c.slot_offset-from.result c.selected_slot-slot.ensures.named (c.slot_offset-from.ensures.at c.args.home.file) c.if-bytes-from.true)

pub returns : goal.returns
returns c = c.slot_fault.ensures.exact c.args.bytes.now (cut-read c.args.home c.args.bytes.now _ c.selected_slot-slot.result c.slot_offset-from.result c.selected_slot-slot.ensures.named (c.slot_offset-from.ensures.at c.args.home.file) c.if-bytes-from.false refl)
