-- A file has one listing.
use Rattle.std.proofs.Common.{◌≡◌, ℕ, Bool, true, false, cond, ◌&&◌, T, List, [], ◌∷◌, Some, bytes_eq, refl, sym, ap, subst, ◌∙◌}
use Rattle.std.specs.List.{AllByRecursion}
use Rattle.std.specs.List.Sorted.{IsStrictlySortedBy}
use Rattle.std.specs.Map.{lookup, keys_of}
use Rattle.std.specs.Ordering.{nat_cmp, is_eq, is_lt}
use Rattle.std.specs.declared.cmp.Ordering.TheVariants.{Less, Equal}
use Rattle.std.specs.Cmp.Lexicographic.{slice_cmp, nat_list_cmp_total}
use Rattle.std.specs.FinMap.Entries.{find, below_all, is_sorted, same_entries}
use Rattle.std.proofs.lemmas.Map.Text.{is_eq-slice_cmp}
use Rattle.std.proofs.lemmas.Slice.Eq.{bytes_eq-Decides}
use Rattle.tmf_model.specs.RecordMap.{RecordMap, IsListing}

both : (a b : Bool) → T a → T b → T (a && b)
both true b p q = q
both false b p q = absurd p

-- texts that compare as equal are equal
pub equal_texts : (xs ys : List ℕ) → slice_cmp nat_cmp xs ys ≡ Equal → xs ≡ ys
equal_texts xs ys tie = (bytes_eq-Decides xs ys).0 (sym (is_eq-slice_cmp xs ys) ∙ ap is_eq tie)

find-lookup : (key : List ℕ) (entries : List (List ℕ × List ℕ)) → find (slice_cmp nat_cmp) key entries ≡ lookup (bytes_eq key) entries
find-lookup key [] = refl
find-lookup key (e ∷ es) = λ i. cond (is_eq-slice_cmp key e.0 i) (Some e.1) (find-lookup key es i)

below_from_all : (key : List ℕ) (entries : List (List ℕ × List ℕ)) → AllByRecursion (λ other. slice_cmp nat_cmp key other ≡ Less) (keys_of entries) → T (below_all (slice_cmp nat_cmp) key entries)
below_from_all key [] all = tt
below_from_all key (e ∷ es) all = both _ _ (subst (λ o. T (is_lt o)) (sym all.0) tt) (below_from_all key es all.1)

sorted_from_rising : (entries : List (List ℕ × List ℕ)) → IsStrictlySortedBy (slice_cmp nat_cmp) (keys_of entries) → T (is_sorted (slice_cmp nat_cmp) entries)
unfolding IsStrictlySortedBy
sorted_from_rising [] rising = tt
sorted_from_rising (e ∷ es) rising = both _ _ (below_from_all e.0 es rising.0) (sorted_from_rising es rising.1)

-- two listings of one file are the same
pub IsListing-unique : (map : RecordMap) (file : ℕ) (xs ys : List (List ℕ × List ℕ)) → IsListing map file xs → IsListing map file ys → xs ≡ ys
IsListing-unique map file xs ys x y =
    same_entries (slice_cmp nat_cmp) nat_list_cmp_total equal_texts xs ys (sorted_from_rising xs x.rising) (sorted_from_rising ys y.rising)
    (λ key. find-lookup key xs ∙ x.exact key ∙ sym (y.exact key) ∙ sym (find-lookup key ys))
