use Rattle.std.proofs.Common.{◌≡◌, ◌*◌, take}
use Rattle.std.specs.Prelude.{flat_map}
use Rattle.keyed_file.specs.BlockFormat.{record_text}
use Rattle.keyed_file.proofs.block_bytes.write_records.Given as goal

abbrev pub invariant-loop-key : goal.invariant-loop-key
invariant-loop-key l = record {
  at : l.at ≡ 64 * l.key-index;
  written : take l.at l.slots ≡ flat_map record_text (take l.key-index l.records);
}
