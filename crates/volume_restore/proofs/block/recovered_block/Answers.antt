use Rattle.std.proofs.Common.{sym, ap}
use Rattle.keyed_file.specs.Block.{value_at}
use Rattle.volume_restore.specs.Changed.{changed_value, changed_values}
use Rattle.volume_restore.proofs.Making.{if_ok}
use Rattle.volume_restore.proofs.Parts.{room_of}
use Rattle.volume_restore.proofs.block.recovered_block.Goals as goal

pub returns-else-is_changed-clause-room : goal.returns-else-is_changed-clause-room
returns-else-is_changed-clause-room c =
    if_ok c.copied.result
    (room_of c.args.home (changed_values c.args.changes.now c.args.block.now) c.args.block.now c.copied.ensures.valid
    (λ key lives. sym (ap (λ change. changed_value change (value_at c.args.block.now key)) (c.is_changed.ensures.unchanged c.if-is_changed.false key lives))))
