use Rattle.std.proofs.Common.{◌≡◌, ◌<◌, take}
use Rattle.tmf_model.specs.Place.{key_sum}
use Rattle.tmf_model.proofs.place.sum_of.Given as goal

abbrev pub invariant-loop-byte : goal.invariant-loop-byte
invariant-loop-byte l = (l.sum ≡ key_sum (take l.byte-index l.byte-items)) × (l.sum < 65521)
