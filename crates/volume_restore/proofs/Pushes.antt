-- What holds of each item of a list with one more.
use Rattle.std.proofs.Common.{◌≡◌, ℕ, zero, suc, List, [], ◌∷◌, ◌++◌, length, subst}
use Rattle.std.specs.Prelude.{Option, Some, None, slice_get}

some_is : {X : Type 0} (a b : X) → ◌≡◌ {A = Option X} (Some a) (Some b) → a ≡ b
some_is a b e = cc

none_is : {X : Type 0} (a : X) → ◌≡◌ {A = Option X} None (Some a) → ⊥
none_is a e = cc

pub pushed : {X : Type 0} (P : ℕ → X → Type 0) (xs : List X) (x : X) → ((n : ℕ) (y : X) → slice_get xs n ≡ Some y → P n y) → P (length xs) x → (n : ℕ) (y : X) → slice_get (xs ++ x ∷ []) n ≡ Some y → P n y
pushed P [] x each here zero y at = subst (P 0) (some_is x y at) here
pushed P [] x each here (suc n) y at = absurd (none_is y at)
pushed P (z ∷ xs) x each here zero y at = each zero y at
pushed P (z ∷ xs) x each here (suc n) y at = pushed (λ m w. P (suc m) w) xs x (λ m w a. each (suc m) w a) here n y at
