use Rattle.rollforward.proofs.PartRows.{IsRolling}
use Rattle.rollforward.proofs.rolled.rolled_records.Given as goal

abbrev pub invariant-loop-index : goal.invariant-loop-index
invariant-loop-index l = IsRolling l.homes l.blocks l.files l.index l.records.items l.parts.items
