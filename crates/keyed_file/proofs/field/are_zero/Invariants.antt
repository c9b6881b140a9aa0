use Rattle.std.proofs.Common.{◌≡◌, ◌+◌, ℕ, true, drop}
use Rattle.keyed_file.specs.Fields.{first_nonzero}
use Rattle.keyed_file.proofs.field.are_zero.Given as goal

abbrev pub invariant-loop-byte : goal.invariant-loop-byte
invariant-loop-byte l = l.fine ≡ true → (at : ℕ) → first_nonzero at l.bytes ≡ first_nonzero (at + l.byte-index) (drop l.byte-index l.bytes)
