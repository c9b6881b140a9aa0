use Rattle.disk_model.specs.Held.{Held}
use Rattle.block_cache.specs.OnePiece.{AreFileBytes}
use Rattle.volume_restore.specs.Listed.{AreFine, AreRead}
use Rattle.volume_restore.proofs.list.add_blocks.Given as goal

abbrev pub invariant-loop-number : goal.invariant-loop-number
invariant-loop-number l = record {
  read : (held : Held) → AreFileBytes l.fn.first held l.fn.bytes → AreRead l.fn.first.file l.fn.first.blocks l.number held l.records;
  fine : (held : Held) → AreFileBytes l.fn.first held l.fn.bytes → AreFine l.fn.first.file l.fn.first.blocks l.number held;
}
