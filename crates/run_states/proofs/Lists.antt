-- Lists from which an item is taken, and to which one is added.
use Rattle.std.specs.Prelude.{slice_get, slice_index_or}
use Rattle.std.specs.List.{Contains}
use Rattle.std.proofs.Common.{◌≡◌, ◌≢◌, ◌<◌, zero, suc, ℕ, List, [], ◌∷◌, ◌++◌, length, take, drop, Some, refl, sym, ◌∙◌, arith}

-- what is still there when another was removed
pub removed_in : (xs : List ℕ) (i n m : ℕ) → n ≢ m → slice_index_or xs i n ≡ n → Contains xs m → Contains (take i xs ++ drop (suc i) xs) m
removed_in [] i n m apart at (k, lt, e) = absurd (omega (arith, lt))
removed_in (x ∷ xs) zero n m apart at (zero, lt, e) = absurd (apart (sym at ∙ e))
removed_in (x ∷ xs) zero n m apart at (suc k, lt, e) = (k, omega (arith, lt), e)
removed_in (x ∷ xs) (suc i) n m apart at (zero, lt, e) = (zero, omega arith, e)
removed_in (x ∷ xs) (suc i) n m apart at (suc k, lt, e) =
    let r = removed_in xs i n m apart at (k, omega (arith, lt), e) in (suc r.0, omega (arith, r.1), r.2)

pub still_at : {A : Type 0} (xs : List A) (y x : A) (n : ℕ) → slice_get xs n ≡ Some x → slice_get (xs ++ y ∷ []) n ≡ Some x
still_at [] y x n e = absurd (cc (e))
still_at (z ∷ xs) y x zero e = e
still_at (z ∷ xs) y x (suc n) e = still_at xs y x n e

pub last_at : {A : Type 0} (xs : List A) (y : A) → slice_get (xs ++ y ∷ []) (length xs) ≡ Some y
last_at [] y = refl
last_at (x ∷ xs) y = last_at xs y

pub get_within : {A : Type 0} (xs : List A) (n : ℕ) (x : A) → slice_get xs n ≡ Some x → n < length xs
get_within [] n x at = absurd (cc (at))
get_within (y ∷ xs) zero x at = omega arith
get_within (y ∷ xs) (suc n) x at = (let less = get_within xs n x at in omega (arith, less))

-- an item stands at each place of a list
pub item_there : {A : Type 0} (xs : List A) (n : ℕ) → n < length xs → (x : A) × (slice_get xs n ≡ Some x)
item_there [] n few = absurd (omega (arith, few))
item_there (x ∷ xs) zero few = (x, refl)
item_there (x ∷ xs) (suc n) few = item_there xs n (omega (arith, few))

-- the first item of what is left of a list, and what is left behind it
pub left_front : {A : Type 0} (xs : List A) (n : ℕ) (x : A) (rest : List A) → drop n xs ≡ x ∷ rest → (slice_get xs n ≡ Some x) × (drop (suc n) xs ≡ rest)
left_front [] zero x rest e = absurd (cc (e))
left_front [] (suc n) x rest e = absurd (cc (e))
left_front (y ∷ xs) zero x rest e = (cc (e), cc (e))
left_front (y ∷ xs) (suc n) x rest e = left_front xs n x rest e
