-- Lists to which an item is added.
use Rattle.std.specs.Prelude.{slice_get}
use Rattle.std.proofs.Common.{◌≡◌, zero, suc, ℕ, List, [], ◌∷◌, ◌++◌, length, Some, refl, ap, ◌⊎◌, inl, inr, ⊎_elim, get_or}

-- an item of a list with one more at the end
pub get_push : {A : Type 0} (xs : List A) (x y : A) (n : ℕ) → slice_get (xs ++ y ∷ []) n ≡ Some x → (slice_get xs n ≡ Some x) ⊎ (n ≡ length xs) × (y ≡ x)
get_push [] x y zero e = inr (refl, cc (e))
get_push [] x y (suc n) e = absurd (cc (e))
get_push (z ∷ xs) x y zero e = inl e
get_push (z ∷ xs) x y (suc n) e = ⊎_elim (λ h. inl h) (λ h. inr (ap suc h.0, h.1)) (get_push xs x y n e)

-- the item that is there
pub got : {A : Type 0} (xs : List A) (n : ℕ) (x y : A) → slice_get xs n ≡ Some x → get_or xs n y ≡ x
got [] n x y at = absurd (cc (at))
got (z ∷ xs) zero x y at = cc (at)
got (z ∷ xs) (suc n) x y at = got xs n x y at
