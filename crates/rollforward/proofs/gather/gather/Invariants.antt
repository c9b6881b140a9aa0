use Rattle.std.proofs.Common.{◌≡◌, length, take}
use Rattle.keyed_file.specs.Dump.{blocks_in_all}
use Rattle.rollforward.proofs.Gathers.{AreGathered}
use Rattle.rollforward.proofs.gather.gather.Given as goal

abbrev pub invariant-loop-entry : goal.invariant-loop-entry
invariant-loop-entry l = record {
  many : length l.groups.items ≡ blocks_in_all l.files;
  so_far : AreGathered l.files l.groups.items (take l.entry-index l.records);
}
