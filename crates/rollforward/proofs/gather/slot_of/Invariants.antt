use Rattle.std.proofs.Common.{◌*◌, ◌≤◌, drop}
use Rattle.rollforward.proofs.Gathers.{IsPassed}
use Rattle.rollforward.proofs.gather.slot_of.Given as goal

abbrev pub invariant-loop-other : goal.invariant-loop-other
invariant-loop-other l = record {
  passed : IsPassed l.files (drop l.other-index l.files) l.file l.before;
  small : l.before ≤ 256 * l.other-index;
}
