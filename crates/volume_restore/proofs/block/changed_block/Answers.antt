use Rattle.std.proofs.Common.{refl, sym, ap}
use Rattle.keyed_file.specs.Block.{value_at}
use Rattle.volume_restore.specs.Changed.{changed_value, changed_values}
use Rattle.volume_restore.proofs.Parts.{room_of}
use Rattle.volume_restore.proofs.block.changed_block.Goals as goal

pub returns-then-not-is_changed-clause-room : goal.returns-then-not-is_changed-clause-room
returns-then-not-is_changed-clause-room c =
    room_of c.args.home (changed_values c.args.changes.now c.args.block.now) c.args.block.now c.requires.content.valid
    (λ key lives. sym (ap (λ change. changed_value change (value_at c.args.block.now key)) (c.if-not-is_changed.ensures.unchanged refl key lives)))
