-- Spellings in steps.
use Rattle.std.proofs.Common.{◌≡◌, ℕ, ◌+◌, ◌*◌, ◌<◌, List, [], ◌∷◌, ◌++◌, length, get_or, set, take, refl, sym, ap, ◌∙◌, arith, append_assoc, length-append}
use Rattle.std.proofs.lemmas.List.{append-nil, length-take-le, take_more}
use Rattle.trail_files.specs.Text.{head, body, records_text}

module _ {R : Type 0} (text : R → ℕ → List ℕ) where
  pub records_text-append : (place : ℕ) (xs ys : List R) → records_text text place (xs ++ ys) ≡ records_text text place xs ++ records_text text (place + length xs) ys
  records_text-append place [] ys = ap (λ p. records_text text p ys) (omega arith)
  records_text-append place (x ∷ xs) ys =
      let p : (place + 1) + length xs ≡ place + length (x ∷ xs) = omega arith in
      ap (λ (l : List ℕ). text x place ++ l) (records_text-append (place + 1) xs ys ∙ ap (λ q. records_text text (place + 1) xs ++ records_text text q ys) p) ∙ sym (append_assoc (text x place) _ _)

  pub length-records_text : (size : ℕ) → ((item : R) (place : ℕ) → length (text item place) ≡ size) → (place : ℕ) (xs : List R) → length (records_text text place xs) ≡ length xs * size
  length-records_text size each place [] = omega arith
  length-records_text size each place (x ∷ xs) = omega (arith, each x place, length-records_text size each (place + 1) xs, length-append (text x place) (records_text text (place + 1) xs))

  -- one record more
  pub records_text-more : (place : ℕ) (xs : List R) (i : ℕ) (x : R) → i < length xs → x ≡ get_or xs i x → records_text text place (take (i + 1) xs) ≡ records_text text place (take i xs) ++ text x (place + i)
  records_text-more place xs i x lt is =
      let len : length (take i xs) ≡ i = length-take-le i xs (omega arith) in
      ap (records_text text place) (take_more xs i x lt ∙ ap (λ y. take i xs ++ y ∷ []) (sym is))
      ∙ records_text-append place (take i xs) (x ∷ [])
      ∙ ap (λ y. records_text text place (take i xs) ++ y) (append-nil (text x (place + length (take i xs))) ∙ ap (λ n. text x (place + n)) len)

pub one_set : (xs : List ℕ) (v : ℕ) → length xs ≡ 1 → set xs 0 v ≡ v ∷ []
one_set [] v h = absurd (omega arith)
one_set (x ∷ []) v h = refl
one_set (x ∷ y ∷ xs) v h = absurd (omega arith)

pub length-body : {R : Type 0} (text : R → ℕ → List ℕ) (size : ℕ) → ((item : R) (place : ℕ) → length (text item place) ≡ size) → (place : ℕ) (xs : List R) → length (body text place xs) ≡ 15 + length xs * size
unfolding body
length-body text size each place xs = omega (arith, length-append (head (length xs)) (records_text text place xs), length-records_text text size each place xs)
