-- Items that are moved from one list behind another.
use Rattle.std.specs.Prelude.{◌≡◌, List, [], ◌∷◌, ◌++◌}
use Rattle.std.proofs.Common.{sym, ap, ◌∙◌, append_assoc}

-- when the first of those that are left stands behind those that were moved
pub one_moved : {A : Type 0} (front rest more whole after : List A) (item : A) → front ++ rest ≡ whole → rest ≡ item ∷ more → after ≡ front ++ item ∷ [] → after ++ more ≡ whole
one_moved {A} front rest more whole after item so_far first pushed =
    ap (λ (l : List A). l ++ more) pushed ∙ append_assoc front (item ∷ []) more ∙ ap (λ (l : List A). front ++ l) (sym first) ∙ so_far

-- what stands behind nothing is all that there is
pub behind_none : {A : Type 0} (front own after : List A) → front ≡ [] → after ≡ front ++ own → after ≡ own
behind_none {A} front own after none pushed = pushed ∙ ap (λ (l : List A). l ++ own) none
