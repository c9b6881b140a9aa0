use Rattle.std.proofs.Common.{◌+◌, ◌*◌, ◌%◌, sym, ◌∙◌, lit<}
use Rattle.std.proofs.Math.Nat.{mod-lt}
use Rattle.tmf_model.proofs.KeySums.{key_sum-more}
use Rattle.tmf_model.proofs.place.sum_of.Goals as goal

pub loop-byte-preserved : goal.loop-byte-preserved
loop-byte-preserved c = (
  (λ i. (31 * c.loop-byte.invariant.0 i + c.from.ensures i) % 65521)
      ∙ sym (key_sum-more _ c.loop-byte.byte-index c.loop-byte-test.true),
  mod-lt _ (lit< tt),
)
