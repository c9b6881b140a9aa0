-- Rows of records with one more.
use Rattle.std.proofs.Common.{◌≡◌, Bool, true, ◌&&◌, List, [], ◌∷◌, ◌++◌, Option, Some, None, refl, sym, ap, ◌∙◌}
use Rattle.std.proofs.lemmas.Bool.{and_parts}
use Rattle.std.specs.Option.{option_or}
use Rattle.trail_files.specs.RecordOrder.{each_follows, each_follows-append, last_told}

module _ {R : Type 0} (follows : List R → R → Bool) where
  -- records in order with one more that may stand behind them
  pub each_follows-push : (xs : List R) (r : R) → each_follows follows [] xs ≡ true → follows xs r ≡ true → each_follows follows [] (xs ++ r ∷ []) ≡ true
  each_follows-push xs r e f = rw (each_follows-append follows [] xs (r ∷ []), e, f) refl

  pub follows-push : (xs : List R) (r : R) → each_follows follows [] (xs ++ r ∷ []) ≡ true → follows xs r ≡ true
  follows-push xs r e = (and_parts (follows xs r) true (and_parts (each_follows follows [] xs) (follows xs r && true) (sym (each_follows-append follows [] xs (r ∷ [])) ∙ e)).1).0

module _ {R X : Type 0} (tells : R → Option X) where
  pub last_told-push : (xs : List R) (r : R) → last_told tells (xs ++ r ∷ []) ≡ option_or (tells r) (last_told tells xs)
  last_told-push [] r = elim (tells r) as (λ o. o ≡ option_or o None) [ None ↦ refl | Some x ↦ refl ]
  last_told-push (x ∷ xs) r =
      ap (λ o. option_or o (tells x)) (last_told-push xs r)
      ∙ (elim (tells r) as (λ o. option_or (option_or o (last_told tells xs)) (tells x) ≡ option_or o (option_or (last_told tells xs) (tells x))) [ None ↦ refl | Some y ↦ refl ])
