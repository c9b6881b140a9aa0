-- Which low position a volume's label may be told to have: one in its range.
use Rattle.std.specs.Prelude.{◌≡◌, ◌+◌, ◌^◌, ℕ, List}
use Rattle.std.proofs.Common.{refl, arith}
use Rattle.std.specs.Int.{to_be_bytes, w64}
use Rattle.disk_model.specs.Held.{Held}
use Rattle.tmf_model.specs.declared.config.Config.{Config}
use Rattle.run_outcomes.specs.Attaching.{HasLow}

-- the bytes do not tell the two apart
same_bytes : to_be_bytes w64 1 ≡ to_be_bytes w64 (1 + 2 ^ 64)
same_bytes = refl

-- No device has a label with the second.
pub not_beyond : (config : Config) (epoch : ℕ) (named : List ℕ) (held : ℕ → Held) (volume low : ℕ) → HasLow config epoch named held volume (low + 2 ^ 64) → ⊥
not_beyond config epoch named held volume low has = (let few = has.0.low.below in omega (arith, few))
