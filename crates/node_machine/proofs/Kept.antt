-- What each event keeps of its part, every history keeps of every part.
use Rattle.std.proofs.Common.{◌≡◌, ◌⊎◌, ℕ, zero, suc, List, [], ◌∷◌, Some, slice_get, refl, ap, sym, ◌∙◌, subst, ⊎_elim, inl, inr}
use Rattle.chronicle.specs.Histories.{Rules, changed_at, next_states, states_after, IsHistory}

-- a part after a change is as before, or it is the changed one
pub changed_or : {S : Type 0} (f : S → S) (p q : ℕ) (ss : List S) (s : S) → slice_get (changed_at f p ss) q ≡ Some s
    → (slice_get ss q ≡ Some s) ⊎ ((t : S) × (slice_get ss q ≡ Some t) × (q ≡ p) × (s ≡ f t))
changed_or f p q [] s at = inl at
changed_or f zero zero (x ∷ ss) s at = inr (x, refl, refl, (let e : f x ≡ s = cc (at) in sym e))
changed_or f zero (suc q) (x ∷ ss) s at = inl at
changed_or f (suc p) zero (x ∷ ss) s at = inl at
changed_or f (suc p) (suc q) (x ∷ ss) s at =
    ⊎_elim
    (λ (h : slice_get ss q ≡ Some s). inl h)
    (λ (h : (t : _) × (slice_get ss q ≡ Some t) × (q ≡ p) × (s ≡ f t)). inr (h.0, h.1, ap (λ (n : ℕ). suc n) h.2, h.3))
    (changed_or f p q ss s at)

module _ {S E F : Type 0} (R : Rules S E F) (P : ℕ → S → Type 0) (keeps : (q : ℕ) (s : S) (e : E) → R.allows s e → P q s → P q (R.step s e)) where
  -- this is so of each part of these states
  abbrev pub Each : List S → Type 0
  Each ss = (q : ℕ) (s : S) → slice_get ss q ≡ Some s → P q s

  pub kept : (ss : List S) (log : List (ℕ × E)) → IsHistory R ss log → Each ss → Each (states_after R ss log)
  kept ss [] h each = each
  kept ss (x ∷ log) h each = kept (next_states R ss x) log h.1 (λ q s at.
      ⊎_elim
      (λ (same : slice_get ss q ≡ Some s). each q s same)
      (λ (c : (t : S) × (slice_get ss q ≡ Some t) × (q ≡ x.0) × (s ≡ R.step t x.1)).
      (let both : Some h.0.0 ≡ Some c.0 = sym h.0.1 ∙ (ap (λ (n : ℕ). slice_get ss n) (sym c.2) ∙ c.1) in
      let one : h.0.0 ≡ c.0 = cc (both) in
      let may : R.allows c.0 x.1 = subst (λ (u : S). R.allows u x.1) one h.0.2 in
      subst (λ (u : S). P q u) (sym c.3) (keeps q c.0 x.1 may (each q c.0 c.1))))
      (changed_or (λ u. R.step u x.1) x.0 q ss s at))
