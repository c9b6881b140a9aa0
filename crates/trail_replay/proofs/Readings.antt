-- Reading records one after the other.
use Rattle.std.specs.Prelude.{Option, Some, None, MatchOption}
use Rattle.std.proofs.Common.{◌≡◌, List, [], ◌∷◌, ◌++◌, refl, sym, ap, ◌∙◌}

pub append_assoc_one : {R : Type 0} (before : List R) (r : R) (rs : List R) → (before ++ r ∷ []) ++ rs ≡ before ++ r ∷ rs
append_assoc_one [] r rs = refl
append_assoc_one (x ∷ xs) r rs = ap (λ rest. x ∷ rest) (append_assoc_one xs r rs)

pub append-empty : {R : Type 0} (xs : List R) → xs ++ [] ≡ xs
append-empty [] = refl
append-empty (x ∷ xs) = ap (λ rest. x ∷ rest) (append-empty xs)

-- one more is read
pub read-more : {R : Type 0} (old new rest more list : List R) (item : R) → new ≡ old ++ item ∷ [] → rest ≡ item ∷ more → old ++ rest ≡ list → new ++ more ≡ list
read-more old new rest more list item is behind so_far =
    ap (λ xs. xs ++ more) is ∙ append_assoc_one old item more ∙ ap (λ xs. old ++ xs) (sym behind) ∙ so_far

-- none is left
pub read-all : {R : Type 0} (old rest list : List R) → rest ≡ [] → old ++ rest ≡ list → old ≡ list
read-all old rest list none so_far = sym (append-empty old) ∙ ap (λ xs. old ++ xs) (sym none) ∙ so_far

-- what holds where there is no next item
pub none-next : {X : Type 0} (next : Option X) (P : Type 0) (Q : X → Type 0) → ((x : X) → next ≡ Some x → ⊥) → MatchOption next P Q → P
none-next None P Q none holds = holds
none-next (Some x) P Q none holds = absurd (none x refl)
