-- Parts among those of a list, and of two lists put together.
use Rattle.std.proofs.Common.{◌≡◌, ◌⊎◌, ℕ, List, [], ◌∷◌, ◌++◌, Some, ⊎_elim, inl, inr}
use Rattle.chronicle.specs.Views.{Among, first_part}

-- the first part is among the parts
pub first_among : (ps : List ℕ) (p : ℕ) → first_part ps ≡ Some p → Among ps p
first_among [] p is = absurd (cc (is))
first_among (q ∷ ps) p is = inl (cc (is))

pub among_left : (ps qs : List ℕ) (p : ℕ) → Among ps p → Among (ps ++ qs) p
among_left [] qs p has = absurd has
among_left (q ∷ ps) qs p has = ⊎_elim (λ (x : q ≡ p). inl x) (λ x. inr (among_left ps qs p x)) has

pub among_right : (ps qs : List ℕ) (p : ℕ) → Among qs p → Among (ps ++ qs) p
among_right [] qs p has = has
among_right (q ∷ ps) qs p has = inr (among_right ps qs p has)

pub among_append : (ps qs : List ℕ) (p : ℕ) → Among (ps ++ qs) p → Among ps p ⊎ Among qs p
among_append [] qs p has = inr has
among_append (q ∷ ps) qs p has = ⊎_elim (λ (x : q ≡ p). inl (inl x)) (λ x. ⊎_elim (λ y. inl (inr y)) (λ y. inr y) (among_append ps qs p x)) has
