use Rattle.std.proofs.Common.{◌≡◌, ◌+◌, drop}
use Rattle.keyed_file.specs.Fields.{first_outside}
use Rattle.keyed_file.proofs.field.first_outside.Given as goal

abbrev pub invariant-loop-byte : goal.invariant-loop-byte
invariant-loop-byte l = record {
  here : l.here ≡ l.at + l.byte-index;
  rest : first_outside l.least l.greatest l.at l.bytes ≡ first_outside l.least l.greatest l.here (drop l.byte-index l.bytes);
}
