-- A list with one item for each number below a bound, and no other: what its items weigh is what the numbers do.
use Rattle.std.specs.Prelude.{◌≡◌, ℕ, zero, suc, ◌+◌, ◌<◌, List, [], ◌∷◌, ◌++◌, length, Option, Some}
use Rattle.std.specs.List.{Contains, sum_by}
use Rattle.std.proofs.Common.{refl, sym, ap, subst, ◌∙◌, arith, ⊎_elim, length-append}
use Rattle.std.proofs.lemmas.List.Elements.{Contains-append_cases, Contains-append_left, Contains-append_right}
use Rattle.std.proofs.lemmas.List.Sums.{sum_by-append, sum_by-cons}

-- what the numbers below a bound weigh
abbrev pub sum_below : (ℕ → ℕ) → ℕ → ℕ
sum_below f zero = 0
sum_below f (suc n) = sum_below f n + f n

module _ {A : Type 0} where
  -- the item stands behind some of the list's, and before the others
  record IsBetween (xs : List A) (x : A) : Type 0 where
    front : List A
    rest : List A
    is : xs ≡ front ++ x ∷ rest

  between : (xs : List A) (x : A) → Contains xs x → IsBetween xs x
  between [] x (k, lt, e) = absurd (omega (arith, lt))
  between (y ∷ xs) x (zero, lt, e) = record { front = []; rest = xs; is = ap (λ (z : A). z ∷ xs) e }
  between (y ∷ xs) x (suc k, lt, e) =
      let more = between xs x (k, omega (arith, lt), e) in
      record { front = y ∷ more.front; rest = more.rest; is = ap (λ (l : List A). y ∷ l) more.is }

  alone_in : (y x : A) → Contains (y ∷ []) x → y ≡ x
  alone_in y x (zero, lt, e) = e
  alone_in y x (suc k, lt, e) = absurd (omega (arith, lt))

  -- what is in the list without that item is in it
  put_in : (front rest : List A) (y x : A) → Contains (front ++ rest) x → Contains (front ++ y ∷ rest) x
  put_in front rest y x has =
      ⊎_elim
      (λ first. Contains-append_left front (y ∷ rest) x first)
      (λ last. Contains-append_right front (y ∷ rest) x (Contains-append_right (y ∷ []) rest x last))
      (Contains-append_cases front rest x has)

  -- what is in it, and is not that item, is in it without that
  left_in : (front rest : List A) (y x : A) → (y ≡ x → ⊥) → Contains (front ++ y ∷ rest) x → Contains (front ++ rest) x
  left_in front rest y x apart has =
      ⊎_elim
      (λ first. Contains-append_left front rest x first)
      (λ behind. ⊎_elim
      (λ here. absurd (apart (alone_in y x here)))
      (λ last. Contains-append_right front rest x last)
      (Contains-append_cases (y ∷ []) rest x behind))
      (Contains-append_cases front (y ∷ rest) x has)

module _ {A : Type 0} (weight : A → ℕ) (key : A → Option ℕ) where
  abbrev pub HasEach : ℕ → List A → Type 0
  HasEach n xs = (p : ℕ) → p < n → (x : A) × Contains xs x × (key x ≡ Some p)

  pub sum_of_each : (f : ℕ → ℕ) (n : ℕ) (xs : List A) → length xs ≡ n → HasEach n xs → ((x : A) → Contains xs x → (p : ℕ) → p < n → key x ≡ Some p → weight x ≡ f p) → sum_by weight xs ≡ sum_below f n
  sum_of_each f zero [] many each weighs = refl
  sum_of_each f zero (x ∷ xs) many each weighs = absurd (omega (arith, many))
  sum_of_each f (suc n) xs many each weighs =
      let last = each n (omega arith) in
      let parts = between xs last.0 last.1 in
      let front = parts.front in
      let rest = parts.rest in
      let x = last.0 in
      let long : length xs ≡ length front + suc (length rest) = ap (λ (l : List A). length l) parts.is ∙ length-append front (x ∷ rest) in
      let fewer = length-append front rest in
      let apart : (y : A) (p : ℕ) → p < n → key y ≡ Some p → x ≡ y → ⊥ = λ y p lt at same. differ p lt (sym last.2 ∙ ap key same ∙ at) in
      let others = sum_of_each f n (front ++ rest) (omega (arith, many, long, fewer))
      (λ p lt. let one = each p (omega (arith, lt)) in (one.0, left_in front rest x one.0 (apart one.0 p lt one.2) (subst (λ (l : List A). Contains l one.0) parts.is one.1), one.2))
      (λ y has p lt at. weighs y (subst (λ (l : List A). Contains l y) (sym parts.is) (put_in front rest x y has)) p (omega (arith, lt)) at) in
      let own = weighs x last.1 n (omega arith) last.2 in
      let whole : sum_by weight xs ≡ sum_by weight (front ++ x ∷ rest) = ap (λ (l : List A). sum_by weight l) parts.is in
      let split = sum_by-append weight front (x ∷ rest) in
      let here = sum_by-cons weight x rest in
      let left = sum_by-append weight front rest in
      omega (arith, whole, split, here, left, others, own)
    where
      differ : (p : ℕ) → p < n → Some n ≡ Some p → ⊥
      differ p lt e = (let same : n ≡ p = cc (e) in omega (arith, lt, same))
