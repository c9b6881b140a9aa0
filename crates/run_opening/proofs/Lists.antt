-- Lists that grow at their end, and their items.
use Rattle.std.proofs.Common.{◌≡◌, ◌⊎◌, ℕ, zero, suc, ◌+◌, ◌-◌, ◌<◌, ◌≤◌, List, [], ◌∷◌, ◌++◌, length, map, drop, Option, Some, None, refl, sym, ap, ◌∙◌, arith, inl, inr, ⊎_elim}
use Rattle.std.specs.Prelude.{slice_get}

-- the last items of two lists that are the same are the same
pub last_same : {A : Type 0} (xs ys : List A) (x y : A) → xs ++ x ∷ [] ≡ ys ++ y ∷ [] → x ≡ y
last_same [] [] x y e = cc
last_same [] (b ∷ []) x y e = absurd (cc)
last_same [] (b ∷ c ∷ ys) x y e = absurd (cc)
last_same (a ∷ []) [] x y e = absurd (cc)
last_same (a ∷ c ∷ xs) [] x y e = absurd (cc)
last_same (a ∷ xs) (b ∷ ys) x y e = (let rest : xs ++ x ∷ [] ≡ ys ++ y ∷ [] = cc in last_same xs ys x y rest)

pub never_empty : {A : Type 0} (xs : List A) (x : A) → [] ≡ xs ++ x ∷ [] → ⊥
never_empty [] x e = cc
never_empty (a ∷ xs) x e = cc

-- an item of a list with one more at the end
pub get_push : {A : Type 0} (xs : List A) (x y : A) (n : ℕ) → slice_get (xs ++ y ∷ []) n ≡ Some x → (slice_get xs n ≡ Some x) ⊎ ((n ≡ length xs) × (y ≡ x))
get_push [] x y zero e = inr (refl, cc (e))
get_push [] x y (suc n) e = absurd (cc (e))
get_push (z ∷ xs) x y zero e = inl e
get_push (z ∷ xs) x y (suc n) e = ⊎_elim (λ h. inl h) (λ h. inr (ap suc h.0, h.1)) (get_push xs x y n e)

-- two items of one place are the same
pub item_same : {A : Type 0} (o : Option A) (x y : A) → o ≡ Some x → o ≡ Some y → x ≡ y
item_same o x y is_x is_y = (let e : Some x ≡ Some y = sym is_x ∙ is_y in cc)

-- an item of two lists in a row
pub get_cases : {A : Type 0} (xs ys : List A) (n : ℕ) (x : A) → slice_get (xs ++ ys) n ≡ Some x → (slice_get xs n ≡ Some x) ⊎ ((length xs ≤ n) × (slice_get ys (n - length xs) ≡ Some x))
get_cases [] ys n x at = inr (omega arith, (let same : n - 0 ≡ n = omega arith in ap (slice_get ys) same ∙ at))
get_cases (y ∷ xs) ys zero x at = inl at
get_cases (y ∷ xs) ys (suc n) x at = ⊎_elim (λ h. inl h) (λ h. (let le = h.0 in inr (omega (arith, le), (let same : suc n - suc (length xs) ≡ n - length xs = omega arith in ap (slice_get ys) same ∙ h.1)))) (get_cases xs ys n x at)

pub get_map : {A B : Type 0} (f : A → B) (xs : List A) (n : ℕ) (y : B) → slice_get (map f xs) n ≡ Some y → (x : A) × (slice_get xs n ≡ Some x) × (y ≡ f x)
get_map f [] n y at = absurd (none n at) where
  none : (k : ℕ) → slice_get [] k ≡ Some y → ⊥
  none zero e = cc
  none (suc k) e = cc
get_map f (x ∷ xs) zero y at = (x, refl, cc)
get_map f (x ∷ xs) (suc n) y at = get_map f xs n y at

get_none : {A : Type 0} (xs : List A) (n : ℕ) → xs ≡ [] → slice_get xs n ≡ None
get_none [] zero none = refl
get_none [] (suc n) none = refl
get_none (x ∷ xs) n none = absurd (cc)

pub get_drop : {A : Type 0} (k : ℕ) (xs : List A) (n : ℕ) → slice_get (drop k xs) n ≡ slice_get xs (k + n)
get_drop zero xs n = (let same : n ≡ 0 + n = omega arith in ap (slice_get xs) same)
get_drop (suc k) [] n = get_none [] n refl ∙ sym (get_none [] (suc k + n) refl)
get_drop (suc k) (x ∷ xs) n = get_drop k xs n ∙ (let same : suc (k + n) ≡ suc k + n = omega arith in ap (slice_get (x ∷ xs)) same)

pub at_here : {A : Type 0} (xs ys : List A) (y : A) → slice_get (xs ++ y ∷ ys) (length xs) ≡ Some y
at_here [] ys y = refl
at_here (x ∷ xs) ys y = at_here xs ys y

-- an item of the first of two lists in a row
pub get_front : {A : Type 0} (xs ys : List A) (n : ℕ) → n < length xs → slice_get (xs ++ ys) n ≡ slice_get xs n
get_front [] ys n lt = absurd (omega (arith, lt))
get_front (x ∷ xs) ys zero lt = refl
get_front (x ∷ xs) ys (suc n) lt = get_front xs ys n (omega (arith, lt))

-- nothing stands behind all items
pub none_behind : {A : Type 0} (n : ℕ) (xs : List A) → length xs ≤ n → drop n xs ≡ []
none_behind zero [] le = refl
none_behind (suc n) [] le = refl
none_behind zero (x ∷ xs) le = absurd (omega (arith, le))
none_behind (suc n) (x ∷ xs) le = none_behind n xs (omega (arith, le))
