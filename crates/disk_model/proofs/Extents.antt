-- Which offsets lists of ranges have.
use Rattle.std.proofs.Common.{◌≡◌, ℕ, Bool, true, false, List, [], ◌∷◌, ◌++◌, refl, ◌∙◌}
use Rattle.std.specs.Prelude.{◌||◌}
use Rattle.std.specs.List.Sorted.{IsPermutation}
use Rattle.std.proofs.lemmas.List.Folds.{list_any-append}
use Rattle.std.proofs.lemmas.List.Sorted.{list_any-IsPermutation}
use Rattle.disk_model.specs.Held.{is_within}
use Rattle.disk_model.specs.Extent.{is_at_risk}
use Rattle.disk_model.specs.declared.extent.Extent.{Extent}

or_false : (a b : Bool) → (a || (b || false)) ≡ (a || b)
or_false true b = refl
or_false false true = refl
or_false false false = refl

-- one range more
pub is_at_risk-push : (extents : List Extent) (e : Extent) → is_at_risk (extents ++ e ∷ []) ≡ (λ i. is_at_risk extents i || is_within e.at e.size i)
is_at_risk-push extents e = λ k i. (list_any-append (λ (x : Extent). is_within x.at x.size i) extents (e ∷ []) ∙ or_false (is_at_risk extents i) (is_within e.at e.size i)) k

-- the order of the ranges says nothing
pub is_at_risk-permuted : (i : ℕ) (xs ys : List Extent) → IsPermutation xs ys → is_at_risk xs i ≡ is_at_risk ys i
is_at_risk-permuted i xs ys is = list_any-IsPermutation (λ (x : Extent). is_within x.at x.size i) xs ys is
