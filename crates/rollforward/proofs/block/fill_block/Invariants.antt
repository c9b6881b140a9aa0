use Rattle.std.proofs.Common.{drop}
use Rattle.rollforward.proofs.Blocks.{IsFillingFrom}
use Rattle.rollforward.proofs.block.fill_block.Given as goal

abbrev pub invariant-loop-file : goal.invariant-loop-file
invariant-loop-file l = IsFillingFrom l.fn.home l.fn.records (drop l.file-index l.fn.records) l.block
