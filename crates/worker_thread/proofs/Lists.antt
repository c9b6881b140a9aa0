-- Elements of lists, by their numbers.
use Rattle.std.specs.Prelude.{◌≤◌, All}
use Rattle.std.specs.List.{flat_map}
use Rattle.std.proofs.Common.{◌≡◌, inl, inr, ⊎_elim, ℕ, zero, suc, List, [], ◌∷◌, ◌++◌, length, map, Some, slice_get, ap, sym, subst, arith}
use Rattle.std.proofs.lemmas.List.Elements.{All-head, All-tail}
use Rattle.std.proofs.lemmas.Option.{slice_get_within}
use Rattle.tmf_model.specs.Commits.{numbered}
use Rattle.node_machine.specs.Same.{Among}
use Rattle.node_machine.specs.SameLaws.{among_left, among_right}

module _ {A : Type 0} where
  pub numbered_within : (xs : List A) (n : ℕ) (x : A) → numbered xs n ≡ Some x → (1 ≤ n) × (n ≤ length xs)
  numbered_within xs zero x at = absurd (cc (at))
  numbered_within xs (suc n) x at = (omega arith, (let few = slice_get_within xs n x at in omega (arith, few)))

  among_at : (xs : List A) (n : ℕ) (x : A) → slice_get xs n ≡ Some x → Among xs x
  among_at [] n x at = absurd (cc (at))
  among_at (y ∷ xs) zero x at = inl (cc (at))
  among_at (y ∷ xs) (suc n) x at = inr (among_at xs n x at)

  pub among_numbered : (xs : List A) (n : ℕ) (x : A) → numbered xs n ≡ Some x → Among xs x
  among_numbered xs zero x at = absurd (cc (at))
  among_numbered xs (suc n) x at = among_at xs n x at

  pub among_index : (xs : List A) (n : ℕ) (x : A) → slice_get xs n ≡ Some x → Among xs x
  among_index xs n x at = among_at xs n x at

  -- what holds of all holds of each
  pub all_among : (P : A → Type 0) (xs : List A) (x : A) → All P xs → Among xs x → P x
  all_among P [] x all among = absurd among
  all_among P (y ∷ xs) x all among = ⊎_elim
      (λ (same : y ≡ x). subst P same (All-head P y xs all))
      (λ (later : Among xs x). all_among P xs x (All-tail P y xs all) later)
      among

  -- the element with a number stands between a front and a rest
  pub rest_at : (front rest : List A) (n : ℕ) (x : A) → length front ≡ n → slice_get (front ++ rest) n ≡ Some x → (more : List A) × (rest ≡ x ∷ more)
  rest_at [] [] n x size at = absurd (cc (at))
  rest_at [] (y ∷ more) zero x size at = (more, (let same : y ≡ x = cc (at) in ap (λ (z : A). z ∷ more) same))
  rest_at [] (y ∷ more) (suc n) x size at = absurd (omega (arith, size))
  rest_at (y ∷ front) rest zero x size at = absurd (omega (arith, size))
  rest_at (y ∷ front) rest (suc n) x size at = rest_at front rest n x (omega (arith, size)) at

module _ {A B : Type 0} where
  pub among_map : (f : A → B) (xs : List A) (x : A) → Among xs x → Among (map f xs) (f x)
  among_map f [] x among = absurd among
  among_map f (y ∷ xs) x among = ⊎_elim (λ (same : y ≡ x). inl (ap f same)) (λ (later : Among xs x). inr (among_map f xs x later)) among

  pub among_flat : (f : A → List B) (xs : List A) (x : A) (y : B) → Among xs x → Among (f x) y → Among (flat_map f xs) y
  among_flat f [] x y among has = absurd among
  among_flat f (z ∷ xs) x y among has = ⊎_elim
      (λ (same : z ≡ x). among_left (f z) (flat_map f xs) y (subst (λ (w : A). Among (f w) y) (sym same) has))
      (λ (later : Among xs x). among_right (f z) (flat_map f xs) y (among_flat f xs x y later has))
      among
