-- A value that is told by what is so of it alone: where no two values have it, there is one such value at most.
use Rattle.std.proofs.Common.{◌≡◌, ℕ, ◌+◌, arith}
use Rattle.std.proofs.Math.Logic.{∥∥₁_elim, ∥∥₁_prop}
use Rattle.std.specs.Coded.{Coded}
use base.Stored.{Coded-set}
use mathlib.Core.HLevel.{Σ_prop_path}

-- a value of which this is so
abbrev pub TheOnly : {A : Type 0} → (A → Type 0) → Type 0
TheOnly {A} P = (x : A) × ∥ P x ∥₁

-- where no two values have it, there is one at most, so a ghost field may hold it
pub only_prop : {A : Type 0} (code : Coded A) (P : A → Type 0) → ((x y : A) → P x → P y → x ≡ y) → IsProp (TheOnly P)
only_prop {A} code P one a b =
    Σ_prop_path (λ x. ∥∥₁_prop) (∥∥₁_elim a.1 (Coded-set code a.0 b.0) (λ (p : P a.0). ∥∥₁_elim b.1 (Coded-set code a.0 b.0) (λ (q : P b.0). one a.0 b.0 p q)))

abbrev pub IsHalf : ℕ → ℕ → Type 0
IsHalf epoch n = n + n ≡ epoch

pub one_half : (epoch x y : ℕ) → IsHalf epoch x → IsHalf epoch y → x ≡ y
one_half epoch x y a b = omega (arith, a, b)
