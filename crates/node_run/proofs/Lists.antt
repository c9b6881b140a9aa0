-- Items of lists.
use Rattle.std.specs.Prelude.{◌≡◌, ◌<◌, zero, suc, ℕ, List, [], ◌∷◌, ◌++◌, length, map, take, Some, slice_get}
use Rattle.std.specs.Option.{option_map}
use Rattle.std.proofs.Common.{refl, ap, ◌∙◌, arith}
use Rattle.std.proofs.lemmas.Option.{slice_get-map}

-- an item stands at each place of a list
pub item_there : {A : Type 0} (xs : List A) (n : ℕ) → n < length xs → (x : A) × (slice_get xs n ≡ Some x)
item_there [] n few = absurd (omega (arith, few))
item_there (x ∷ xs) zero few = (x, refl)
item_there (x ∷ xs) (suc n) few = item_there xs n (omega (arith, few))

-- what one item is mapped to stands at its place
pub mapped_at : {A B : Type 0} (f : A → B) (xs : List A) (n : ℕ) (x : A) → slice_get xs n ≡ Some x → slice_get (map f xs) n ≡ Some (f x)
mapped_at f xs n x at = slice_get-map f xs n ∙ ap (option_map f) at

pub some_same : {A : Type 0} (a b : A) → Some a ≡ Some b → a ≡ b
some_same a b e = cc (e)

-- a list in front of another one is as many items as it has
pub front_taken : {A : Type 0} (xs ys : List A) (n : ℕ) → n ≡ length xs → take n (xs ++ ys) ≡ xs
front_taken [] ys zero many = refl
front_taken [] ys (suc n) many = absurd (omega (arith, many))
front_taken (x ∷ xs) ys zero many = absurd (omega (arith, many))
front_taken (x ∷ xs) ys (suc n) many = ap (λ l. x ∷ l) (front_taken xs ys n (omega (arith, many)))
