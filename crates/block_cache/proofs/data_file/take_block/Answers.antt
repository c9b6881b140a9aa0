use Rattle.std.proofs.Common.{◌≡◌, ◌+◌, ◌-◌, ◌≤◌, ℕ, List, Option, Some, drop, length, take, refl, subst, arith}
use Rattle.keyed_file.specs.BlockFormat.{bad_block}
use Rattle.block_cache.specs.OnePiece.{TellsIn}
use Rattle.block_cache.proofs.OnePieces.{cut-bad, cut-read, cut-shows}
use Rattle.block_cache.proofs.data_file.take_block.Goals as goal

pub slice_bounds-decode_at-end : goal.slice_bounds-decode_at-end
slice_bounds-decode_at-end c = omega (arith, c.requires.whole, c.requires.number, c.selected_slot-slot.ensures.small, c.slot_offset-from.ensures.at c.args.home.file)

pub returns-in-Ok-clause-spelled : goal.returns-in-Ok-clause-spelled
returns-in-Ok-clause-spelled c =
    let long : c.slot_offset-from.result + 4096 ≤ length c.args.bytes.now = omega (arith, c.requires.whole, c.requires.number, c.selected_slot-slot.ensures.small, c.slot_offset-from.ensures.at c.args.home.file) in
    cut-shows c.args.home c.args.bytes.now _ c.selected_slot-slot.result c.in-Ok.decoded
    (cut-read c.args.home c.args.bytes.now _ c.selected_slot-slot.result c.slot_offset-from.result c.selected_slot-slot.ensures.named (c.slot_offset-from.ensures.at c.args.home.file) long refl)
    (record { valid = c.in-Ok.ensures.valid; home = c.in-Ok.ensures.home }) c.in-Ok.ensures.spelled

pub returns-in-Err-clause-bad : goal.returns-in-Err-clause-bad
returns-in-Err-clause-bad c =
    let home = c.args.home in
    let bytes = c.args.bytes.now in
    let from : ℕ = c.slot_offset-from.result in
    let place = c.slot_offset-from.ensures.at home.file in
    let long : from + 4096 ≤ length bytes = omega (arith, c.requires.whole, c.requires.number, c.selected_slot-slot.ensures.small, place) in
    let room : List ℕ = take (from + 4096 - from) (drop from bytes) in
    let bad : Option ℕ = bad_block (Some home) room in
    let read = cut-read home bytes room c.selected_slot-slot.result from c.selected_slot-slot.ensures.named place long refl in
    subst (λ (o : Option ℕ). TellsIn home o c.slot_refused.result) (cut-bad home bytes room c.selected_slot-slot.result from bad read place refl) (c.slot_refused.ensures bad c.in-Err.ensures.cause)
