-- Going over a list from its front on, each item set in turn.
use Rattle.std.specs.Prelude.{slice_set}
use Rattle.std.proofs.Common.{zero, suc, ◌≡◌, ◌≢◌, ◌≤◌, ◌<◌, ◌+◌, ◌∷◌, [], ℕ, List, length, get_or, refl, sym, ap, subst, ◌∙◌, arith, ⊎_elim}
use Rattle.std.proofs.lemmas.Bool.{cases_lt}

module _ {X : Type 0} where
  set-here : (xs : List X) (at : ℕ) (new d : X) → at < length xs → get_or (slice_set xs at new) at d ≡ new
  set-here [] at new d lt = absurd (omega (arith, lt))
  set-here (x ∷ xs) zero new d lt = refl
  set-here (x ∷ xs) (suc at) new d lt = set-here xs at new d (omega (arith, lt))

  set-else : (xs : List X) (at n : ℕ) (new d : X) → n ≢ at → get_or (slice_set xs at new) n d ≡ get_or xs n d
  set-else [] at n new d other = refl
  set-else (x ∷ xs) zero zero new d other = absurd (other refl)
  set-else (x ∷ xs) zero (suc n) new d other = refl
  set-else (x ∷ xs) (suc at) zero new d other = refl
  set-else (x ∷ xs) (suc at) (suc n) new d other = set-else xs at n new d (λ e. other (ap suc e))

  same-item : (xs : List X) (n : ℕ) (d e : X) → n < length xs → get_or xs n d ≡ get_or xs n e
  same-item [] n d e lt = absurd (omega (arith, lt))
  same-item (x ∷ xs) zero d e lt = refl
  same-item (x ∷ xs) (suc n) d e lt = same-item xs n d e (omega (arith, lt))

  -- what is said of each item that was gone over is said of one more
  pub swept-set : (P : X → X → Type 0) (old xs : List X) (at : ℕ) (was new : X) → at < length xs
      → ((n : ℕ) (d : X) → n < at → P (get_or old n d) (get_or xs n d)) → ((n : ℕ) (d : X) → at ≤ n → get_or xs n d ≡ get_or old n d)
      → P (get_or xs at was) new → (n : ℕ) (d : X) → n < at + 1 → P (get_or old n d) (get_or (slice_set xs at new) n d)
  swept-set P old xs at was new lt swept rest holds n d less =
      ⊎_elim
      (λ below. subst (λ y. P (get_or old n d) y) (sym (set-else xs at n new d (λ e. omega (arith, e, below)))) (swept n d below))
      (λ above.
      let here : n ≡ at = omega (arith, above, less) in
      subst (λ m. P (get_or old m d) (get_or (slice_set xs at new) m d)) (sym here)
      (subst (λ y. P y (get_or (slice_set xs at new) at d)) (same-item xs at was d lt ∙ rest at d (omega arith))
      (subst (λ y. P (get_or xs at was) y) (sym (set-here xs at new d lt)) holds)))
      (cases_lt n at)

  -- the items behind it are as they were
  pub rest-set : (old xs : List X) (at : ℕ) (new : X) → ((n : ℕ) (d : X) → at ≤ n → get_or xs n d ≡ get_or old n d)
      → (n : ℕ) (d : X) → at + 1 ≤ n → get_or (slice_set xs at new) n d ≡ get_or old n d
  rest-set old xs at new rest n d above = set-else xs at n new d (λ e. omega (arith, e, above)) ∙ rest n d (omega (arith, above))
