-- Lists: their elements by number, their sums, and lists of lists.
use Rattle.std.specs.Prelude.{◌≡◌, ℕ, zero, suc, ◌+◌, ◌*◌, ◌<◌, ◌≤◌, List, [], ◌∷◌, ◌++◌, length, map, drop, All, Some, slice_get, slice_index_or, sum}
use Rattle.std.specs.List.{AllZip, Contains, flat_map, sum_by}
use Rattle.std.proofs.Common.{refl, sym, ap, subst, ◌∙◌, arith, ⊎_elim}
use Rattle.std.proofs.lemmas.List.Elements.{All-head, All-tail}
use Rattle.std.proofs.lemmas.List.Sums.{sum_by-cons}
use Rattle.node_machine.specs.Opening.{each_from}
use Rattle.node_machine.specs.Same.{Among}
use Rattle.node_machine.specs.SameLaws.{among_append, among_left, among_right}

-- a list of numbers from the first on, with one more at its end
pub each_more : (first n : ℕ) → each_from (λ k. k) first (suc n) ≡ each_from (λ k. k) first n ++ (first + n) ∷ []
each_more first zero = let same : first ≡ first + 0 = omega arith in ap (λ (x : ℕ). x ∷ []) same
each_more first (suc n) =
    let same : (first + 1) + n ≡ first + suc n = omega arith in
    ap (λ (l : List ℕ). first ∷ l) (each_more (first + 1) n ∙ ap (λ (x : ℕ). each_from (λ k. k) (first + 1) n ++ x ∷ []) same)

module _ {A : Type 0} where
  -- an item stands at each place of a list
  pub item_there : (xs : List A) (n : ℕ) → n < length xs → (x : A) × (slice_get xs n ≡ Some x)
  item_there [] n few = absurd (omega (arith, few))
  item_there (x ∷ xs) zero few = (x, refl)
  item_there (x ∷ xs) (suc n) few = item_there xs n (omega (arith, few))

  pub contains_at : (xs : List A) (n : ℕ) (x : A) → slice_get xs n ≡ Some x → Contains xs x
  contains_at [] n x at = absurd (cc (at))
  contains_at (y ∷ xs) zero x at = (zero, omega arith, cc (at))
  contains_at (y ∷ xs) (suc n) x at = let r = contains_at xs n x at in (suc r.0, omega (arith, r.1), r.2)

  pub all_at : (P : A → Type 0) (xs : List A) → All P xs → (n : ℕ) (x : A) → slice_get xs n ≡ Some x → P x
  all_at P [] all n x at = absurd (cc (at))
  all_at P (y ∷ xs) all zero x at = (let same : y ≡ x = cc (at) in subst P same (All-head P y xs all))
  all_at P (y ∷ xs) all (suc n) x at = all_at P xs (All-tail P y xs all) n x at

  -- the first item of what is left of a list, and what is left behind it
  pub left_front : (xs : List A) (n : ℕ) (x : A) (rest : List A) → drop n xs ≡ x ∷ rest → (slice_get xs n ≡ Some x) × (drop (suc n) xs ≡ rest)
  left_front [] zero x rest e = absurd (cc (e))
  left_front [] (suc n) x rest e = absurd (cc (e))
  left_front (y ∷ xs) zero x rest e = (cc (e), cc (e))
  left_front (y ∷ xs) (suc n) x rest e = left_front xs n x rest e

  -- a relation that holds place by place
  pub zip_each : (R : A → A → Type 0) (xs ys : List A) → length ys ≡ length xs → ((i : ℕ) (d : A) → i < length xs → R (slice_index_or xs i d) (slice_index_or ys i d)) → AllZip R xs ys
  zip_each R [] [] many each = tt
  zip_each R [] (y ∷ ys) many each = absurd (omega (arith, many))
  zip_each R (x ∷ xs) [] many each = absurd (omega (arith, many))
  zip_each R (x ∷ xs) (y ∷ ys) many each = (each 0 x (omega arith), zip_each R xs ys (omega (arith, many)) (λ i d lt. each (suc i) d (omega (arith, lt))))

module _ {A : Type 0} (number : A → ℕ) where
  -- where the numbers go on from the first one, an item's number is its place's
  pub number_at : (xs : List A) (first count : ℕ) → map number xs ≡ each_from (λ k. k) first count → (n : ℕ) (x : A) → slice_get xs n ≡ Some x → number x ≡ first + n
  number_at [] first count same n x at = absurd (cc (at))
  number_at (y ∷ xs) first zero same n x at = absurd (cc (same))
  number_at (y ∷ xs) first (suc count) same zero x at =
      let head : number y ≡ first = cc (same) in
      let is : y ≡ x = cc (at) in
      let start : first ≡ first + 0 = omega arith in
      ap number (sym is) ∙ head ∙ start
  number_at (y ∷ xs) first (suc count) same (suc n) x at =
      let tail : map number xs ≡ each_from (λ k. k) (first + 1) count = cc (same) in
      let next : (first + 1) + n ≡ first + suc n = omega arith in
      number_at xs (first + 1) count tail n x at ∙ next

  pub count_of : (xs : List A) (first count : ℕ) → map number xs ≡ each_from (λ k. k) first count → length xs ≡ count
  count_of [] first zero same = refl
  count_of [] first (suc count) same = absurd (cc (same))
  count_of (y ∷ xs) first zero same = absurd (cc (same))
  count_of (y ∷ xs) first (suc count) same =
      let tail : map number xs ≡ each_from (λ k. k) (first + 1) count = cc (same) in
      let rest = count_of xs (first + 1) count tail in omega (arith, rest)

module _ {A B : Type 0} (f : A → List B) where
  -- what stands in lists one behind the other stands in one of them
  pub flat_among : (xs : List A) (n : ℕ) (x : A) (y : B) → slice_get xs n ≡ Some x → Among (f x) y → Among (flat_map f xs) y
  flat_among [] n x y at has = absurd (cc (at))
  flat_among (z ∷ xs) zero x y at has = (let same : z ≡ x = cc (at) in among_left (f z) (flat_map f xs) y (subst (λ (w : A). Among (f w) y) (sym same) has))
  flat_among (z ∷ xs) (suc n) x y at has = among_right (f z) (flat_map f xs) y (flat_among xs n x y at has)

  pub record IsIn (xs : List A) (y : B) : Type 0 where
    pub place : ℕ
    pub item : A
    pub at : slice_get xs place ≡ Some item
    pub has : Among (f item) y

  pub among_flat : (xs : List A) (y : B) → Among (flat_map f xs) y → IsIn xs y
  among_flat [] y has = absurd has
  among_flat (x ∷ xs) y has = ⊎_elim
      (λ (own : Among (f x) y). record { place = zero; item = x; at = refl; has = own })
      (λ (later : Among (flat_map f xs) y). let r = among_flat xs y later in record { place = suc r.place; item = r.item; at = r.at; has = r.has })
      (among_append (f x) (flat_map f xs) y has)

-- SUMS

sum_first : (f : ℕ → ℕ) (first count : ℕ) → sum (each_from f first (suc count)) ≡ f first + sum (each_from f (first + 1) count)
sum_first f first count = sum_by-cons (λ x. x) (f first) (each_from f (first + 1) count)

sum_same : (f : ℕ → ℕ) (c first count : ℕ) → ((n : ℕ) → first ≤ n → f n ≡ c) → sum (each_from f first count) ≡ count * c
sum_same f c first zero same = omega arith
sum_same f c first (suc count) same =
    let one = sum_first f first count in
    let here = same first (omega arith) in
    let rest = sum_same f c (first + 1) count (λ n le. same n (omega (arith, le))) in
    omega (arith, one, here, rest)

-- the sum over numbers of which the first are those of items, and the others have the same
pub sum_split : {A : Type 0} (amount : A → ℕ) (xs : List A) (f : ℕ → ℕ) (c first count more : ℕ) → count ≡ length xs + more
    → ((n k : ℕ) (x : A) → slice_get xs n ≡ Some x → k ≡ first + n → f k ≡ amount x) → ((k : ℕ) → first + length xs ≤ k → f k ≡ c)
    → sum (each_from f first count) ≡ sum_by amount xs + more * c
sum_split amount [] f c first count more is here else =
    let rest = sum_same f c first count (λ n le. else n (omega (arith, le))) in
    let many : count ≡ more = omega (arith, is) in
    let sums : sum (each_from f first count) ≡ more * c = rest ∙ ap (λ (k : ℕ). k * c) many in
    omega (arith, sums)
sum_split amount (x ∷ xs) f c first zero more is here else = absurd (omega (arith, is))
sum_split amount (x ∷ xs) f c first (suc count) more is here else =
    let one = sum_first f first count in
    let own = here zero first x refl (omega arith) in
    let rest = sum_split amount xs f c (first + 1) count more (omega (arith, is)) (λ n k y at e. here (suc n) k y at (omega (arith, e))) (λ k le. else k (omega (arith, le))) in
    let sums = sum_by-cons amount x xs in
    omega (arith, one, own, rest, sums)
