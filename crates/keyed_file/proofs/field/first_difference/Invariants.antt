use Rattle.std.proofs.Common.{◌≡◌, drop}
use Rattle.keyed_file.specs.Fields.{first_difference}
use Rattle.keyed_file.proofs.field.first_difference.Given as goal

abbrev pub invariant-loop-byte : goal.invariant-loop-byte
invariant-loop-byte l = record {
  here : l.at ≡ l.byte-index;
  same : first_difference 0 l.bytes l.wanted ≡ first_difference l.at (drop l.byte-index l.bytes) l.rest;
}
