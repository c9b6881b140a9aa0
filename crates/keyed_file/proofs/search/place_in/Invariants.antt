use Rattle.std.proofs.Common.{◌≡◌, take}
use Rattle.keyed_file.specs.Search.{IsAbove}
use Rattle.keyed_file.proofs.search.place_in.Given as goal

abbrev pub invariant-loop-other : goal.invariant-loop-other
invariant-loop-other l = record {
  at : l.at ≡ l.other-index;
  above : IsAbove l.key (take l.at l.records);
}
