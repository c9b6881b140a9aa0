-- Elements of lists.
use Rattle.std.specs.Prelude.{◌≡◌, ℕ, zero, suc, Bool, true, false, cond, List, [], ◌∷◌, ◌++◌, map, reverse, take, slice_get, Option, Some, None}
use Rattle.std.specs.List.{cons_option, filter, filter_map}
use Rattle.std.proofs.Common.{refl, sym, ap, subst, ◌∙◌, append_assoc, inl, inr, ⊎_elim}
use mathlib.Core.List.{IsPrefix, reverse-cons}
use Rattle.node_machine.specs.Same.{Among}
use Rattle.node_machine.specs.SameLaws.{among_append, among_left, among_right}

module _ {A : Type 0} where
  pub reversed_among : (xs : List A) (x : A) → Among (reverse xs) x → Among xs x
  reversed_among [] x among = absurd among
  reversed_among (y ∷ xs) x among = ⊎_elim
      (λ (later : Among (reverse xs) x). inr (reversed_among xs x later))
      (λ (last : Among (y ∷ []) x). ⊎_elim (λ (same : y ≡ x). inl same) (λ none. absurd none) last)
      (among_append (reverse xs) (y ∷ []) x (subst (λ (l : List A). Among l x) (reverse-cons y xs) among))

  pub among_take : (count : ℕ) (xs : List A) (x : A) → Among (take count xs) x → Among xs x
  among_take zero [] x among = absurd among
  among_take zero (y ∷ xs) x among = absurd among
  among_take (suc count) [] x among = among
  among_take (suc count) (y ∷ xs) x among = ⊎_elim (λ (same : y ≡ x). inl same) (λ (later : Among (take count xs) x). inr (among_take count xs x later)) among

  pub among_at : (xs : List A) (n : ℕ) (x : A) → slice_get xs n ≡ Some x → Among xs x
  among_at [] n x at = absurd (cc (at))
  among_at (y ∷ xs) zero x at = inl (cc (at))
  among_at (y ∷ xs) (suc n) x at = inr (among_at xs n x at)

  pub prefix_then : (a b c : List A) → IsPrefix a b → IsPrefix b c → IsPrefix a c
  prefix_then a b c p q = (p.0 ++ q.0, sym (append_assoc a p.0 q.0) ∙ ap (λ l. l ++ q.0) p.1 ∙ q.1)

  pub among_reverse : (xs : List A) (x : A) → Among xs x → Among (reverse xs) x
  among_reverse [] x h = absurd h
  among_reverse (y ∷ xs) x h = subst (λ (l : List A). Among l x) (sym (reverse-cons y xs))
      (⊎_elim (λ (e : y ≡ x). among_right (reverse xs) (y ∷ []) x (inl e)) (λ (k : Among xs x). among_left (reverse xs) (y ∷ []) x (among_reverse xs x k)) h)

  passes_step : (f : A → Bool) (y x : A) (xs : List A) (b : Bool) → f y ≡ b → (Among (filter f xs) x → f x ≡ true) → Among (cond b (y ∷ filter f xs) (filter f xs)) x → f x ≡ true
  passes_step f y x xs true is rest has = ⊎_elim (λ (same : y ≡ x). ap f (sym same) ∙ is) (λ (later : Among (filter f xs) x). rest later) has
  passes_step f y x xs false is rest has = rest has

  -- what stands among those that pass has passed
  pub filter_passes : (f : A → Bool) (xs : List A) (x : A) → Among (filter f xs) x → f x ≡ true
  filter_passes f [] x among = absurd among
  filter_passes f (y ∷ xs) x among = passes_step f y x xs (f y) refl (filter_passes f xs x) among

  -- where none passes, none is left
  pub filter_none : (f : A → Bool) (xs : List A) → ((x : A) → Among xs x → f x ≡ false) → filter f xs ≡ []
  filter_none f [] none = refl
  filter_none f (y ∷ xs) none = ap (λ (b : Bool). cond b (y ∷ filter f xs) (filter f xs)) (none y (inl refl)) ∙ filter_none f xs (λ x later. none x (inr later))

pub among_map : {A B : Type 0} (f : A → B) (xs : List A) (x : A) → Among xs x → Among (map f xs) (f x)
among_map f [] x among = among
among_map f (y ∷ xs) x among = ⊎_elim (λ (same : y ≡ x). inl (ap f same)) (λ (later : Among xs x). inr (among_map f xs x later)) among

-- what a test gives of an item is among what it gives of the list
pub among_given : {A B : Type 0} (f : A → Option B) (xs : List A) (x : A) (y : B) → Among xs x → f x ≡ Some y → Among (filter_map f xs) y
among_given f [] x y among is = among
among_given {A} {B} f (z ∷ xs) x y among is = ⊎_elim
    (λ (same : z ≡ x). subst (λ (o : Option B). Among (cons_option o (filter_map f xs)) y) (sym (ap f same ∙ is)) (inl refl))
    (λ (later : Among xs x). by_case (f z) (among_given f xs x y later is))
    among
  where
    by_case : (o : Option B) → Among (filter_map f xs) y → Among (cons_option o (filter_map f xs)) y
    by_case None has = has
    by_case (Some w) has = inr has

-- and is given of one of them
given_one : {A B : Type 0} (f : A → Option B) (z : A) (xs : List A) (y : B) → (Among (filter_map f xs) y → (x : A) × Among xs x × (f x ≡ Some y)) → (o : Option B) → f z ≡ o
    → Among (cons_option o (filter_map f xs)) y → (x : A) × Among (z ∷ xs) x × (f x ≡ Some y)
given_one f z xs y rest None is has = (let r = rest has in (r.0, inr r.1, r.2))
given_one f z xs y rest (Some w) is has = ⊎_elim (λ (same : w ≡ y). (z, inl refl, is ∙ ap (λ v. Some v) same)) (λ (later : Among (filter_map f xs) y). let r = rest later in (r.0, inr r.1, r.2)) has

pub given_by : {A B : Type 0} (f : A → Option B) (xs : List A) (y : B) → Among (filter_map f xs) y → (x : A) × Among xs x × (f x ≡ Some y)
given_by f [] y has = absurd has
given_by f (z ∷ xs) y has = given_one f z xs y (given_by f xs y) (f z) refl has
