use Rattle.std.proofs.Common.{◌≡◌, ◌+◌, ◌≤◌, length, drop}
use Rattle.keyed_file.specs.Block.{new_keys}
use Rattle.keyed_file.proofs.search.count_new.Given as goal

abbrev pub invariant-loop-key : goal.invariant-loop-key
invariant-loop-key l = record {
  few : l.count ≤ l.key-index;
  rest : l.count + length (new_keys l.records (drop l.key-index l.keys)) ≡ length (new_keys l.records l.keys);
}
