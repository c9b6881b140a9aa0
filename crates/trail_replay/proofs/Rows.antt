-- The items of a list, by their numbers.
use Rattle.std.specs.Prelude.{drop, slice_get, Some}
use Rattle.std.proofs.Common.{◌≡◌, ◌<◌, zero, suc, ℕ, List, [], ◌∷◌, length, refl, arith}

-- an item below the number of items is there
pub there : {V : Type 0} (items : List V) (n : ℕ) → n < length items → (item : V) × (slice_get items n ≡ Some item)
there [] n lt = absurd (omega (arith, lt))
there (x ∷ xs) zero lt = (x, refl)
there (x ∷ xs) (suc n) lt = there xs n (omega (arith, lt))

-- the first of the items behind so many
pub drop-first : {V : Type 0} (n : ℕ) (xs : List V) (x : V) (more : List V) → drop n xs ≡ x ∷ more → (slice_get xs n ≡ Some x) × (more ≡ drop (suc n) xs)
drop-first zero [] x more e = absurd (cc)
drop-first zero (y ∷ ys) x more e = (cc, cc)
drop-first (suc n) [] x more e = absurd (cc)
drop-first (suc n) (y ∷ ys) x more e = drop-first n ys x more e
