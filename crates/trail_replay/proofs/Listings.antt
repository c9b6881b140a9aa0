-- The listing of a file is the part of the values found that have one.
use Rattle.std.specs.Prelude.{Option, Some, None, bytes_eq}
use Rattle.std.specs.BTreeMap.{BTreeMap}
use Rattle.std.specs.Cmp.Lexicographic.{slice_cmp}
use Rattle.std.specs.List.{AllByRecursion}
use Rattle.std.specs.List.Sorted.{IsStrictlySortedBy}
use Rattle.std.specs.Map.{lookup, keys_of}
use Rattle.std.specs.Ordering.{nat_cmp, is_eq}
use Rattle.std.specs.declared.cmp.Ordering.TheVariants.{Less}
use Rattle.std.proofs.Common.{◌≡◌, ℕ, Bool, true, false, cond, List, [], ◌∷◌, ◌++◌, refl, sym, ap, subst, ◌∙◌}
use Rattle.std.proofs.lemmas.Slice.Eq.{bytes_eq-Decides}
use Rattle.std.proofs.lemmas.Map.Text.{is_eq-slice_cmp}
use Rattle.tmf_model.specs.RecordMap.{RecordMap, IsListing}
use Rattle.trail_replay.specs.Found.{value_of, records_found}
use Rattle.trail_replay.proofs.Readings.{append-empty}

-- an entry of the values found
abbrev pub Entry : Type 0
Entry = List ℕ × Option (List ℕ)

-- the entries with one more in front, if it has a value
abbrev pub listed_onto : List ℕ → Option (List ℕ) → List (List ℕ × List ℕ) → List (List ℕ × List ℕ)
listed_onto key None rest = rest
listed_onto key (Some value) rest = (key, value) ∷ rest

abbrev pub listed : List Entry → List (List ℕ × List ℕ)
listed [] = []
listed (e ∷ es) = listed_onto e.0 e.1 (listed es)

abbrev IsBelow : List ℕ → List (List ℕ) → Type 0
IsBelow key others = AllByRecursion (λ other. slice_cmp nat_cmp key other ≡ Less) others

below_onto : (key other : List ℕ) (value : Option (List ℕ)) (rest : List (List ℕ × List ℕ)) → slice_cmp nat_cmp key other ≡ Less → IsBelow key (keys_of rest) → IsBelow key (keys_of (listed_onto other value rest))
below_onto key other None rest here all = all
below_onto key other (Some v) rest here all = (here, all)

below-listed : (key : List ℕ) (es : List Entry) → IsBelow key (keys_of es) → IsBelow key (keys_of (listed es))
below-listed key [] all = tt
below-listed key (e ∷ es) all = below_onto key e.0 e.1 (listed es) all.0 (below-listed key es all.1)

rising_onto : (key : List ℕ) (value : Option (List ℕ)) (rest : List (List ℕ × List ℕ)) → IsBelow key (keys_of rest) → IsStrictlySortedBy (slice_cmp nat_cmp) (keys_of rest)
    → IsStrictlySortedBy (slice_cmp nat_cmp) (keys_of (listed_onto key value rest))
unfolding IsStrictlySortedBy
rising_onto key None rest above rising = rising
rising_onto key (Some v) rest above rising = (above, rising)

listed-rising : (es : List Entry) → IsStrictlySortedBy (slice_cmp nat_cmp) (keys_of es) → IsStrictlySortedBy (slice_cmp nat_cmp) (keys_of (listed es))
unfolding IsStrictlySortedBy
listed-rising [] rising = tt
listed-rising (e ∷ es) rising = rising_onto e.0 e.1 (listed es) (below-listed e.0 es rising.0) (listed-rising es rising.1)

-- no entry above a key has it
none_onto : (key other : List ℕ) (value : Option (List ℕ)) (rest : List (List ℕ × List ℕ)) → bytes_eq key other ≡ false → lookup (bytes_eq key) rest ≡ None → lookup (bytes_eq key) (listed_onto other value rest) ≡ None
none_onto key other None rest apart none = none
none_onto key other (Some v) rest apart none = rw apart none

none_above : (key : List ℕ) (es : List Entry) → IsBelow key (keys_of es) → lookup (bytes_eq key) (listed es) ≡ None
none_above key [] all = refl
none_above key (e ∷ es) all = none_onto key e.0 e.1 (listed es) (sym (is_eq-slice_cmp key e.0) ∙ ap is_eq all.0) (none_above key es all.1)

exact_onto : (key : List ℕ) (same : Bool) (other : List ℕ) (value : Option (List ℕ)) (rest : List (List ℕ × List ℕ)) (found : Option (Option (List ℕ)))
    → (same ≡ true → lookup (bytes_eq key) rest ≡ None) → bytes_eq key other ≡ same → lookup (bytes_eq key) rest ≡ value_of found
    → lookup (bytes_eq key) (listed_onto other value rest) ≡ value_of (cond same (Some value) found)
exact_onto key true other None rest found none is exact = none refl
exact_onto key true other (Some v) rest found none is exact = rw is refl
exact_onto key false other None rest found none is exact = exact
exact_onto key false other (Some v) rest found none is exact = rw is exact

listed-exact : (key : List ℕ) (es : List Entry) → IsStrictlySortedBy (slice_cmp nat_cmp) (keys_of es) → lookup (bytes_eq key) (listed es) ≡ value_of (lookup (λ q. is_eq (slice_cmp nat_cmp key q)) es)
unfolding IsStrictlySortedBy
listed-exact key [] rising = refl
listed-exact key (e ∷ es) rising =
    rw (is_eq-slice_cmp key e.0)
    (exact_onto key (bytes_eq key e.0) e.0 e.1 (listed es) (lookup (λ q. is_eq (slice_cmp nat_cmp key q)) es)
    (λ same. subst (λ k. lookup (bytes_eq k) (listed es) ≡ None) (sym ((bytes_eq-Decides key e.0).0 same)) (none_above e.0 es rising.0))
    refl (listed-exact key es rising.1))

-- the entries listed of a map in order are a file's listing
pub listed-listing : (found : BTreeMap (List ℕ) (Option (List ℕ))) (file : ℕ) (entries : List (List ℕ × List ℕ))
    → IsStrictlySortedBy (slice_cmp nat_cmp) (keys_of found.entries) → entries ≡ listed found.entries → IsListing (records_found found) file entries
listed-listing found file entries ordered e = record {
  rising = subst (λ xs. IsStrictlySortedBy (slice_cmp nat_cmp) (keys_of xs)) (sym e) (listed-rising found.entries ordered);
  exact = λ key. subst (λ xs. lookup (bytes_eq key) xs ≡ records_found found file key) (sym e) (listed-exact key found.entries ordered);
}

-- what is listed when nothing is left
pub listed-whole : (entries : List (List ℕ × List ℕ)) (rest all : List Entry) → rest ≡ [] → entries ++ listed rest ≡ listed all → entries ≡ listed all
listed-whole entries rest all none so_far = sym (append-empty entries) ∙ ap (λ xs. entries ++ listed xs) (sym none) ∙ so_far

-- two maps with the same values in the file have the same listing
pub listing-as : (a b : RecordMap) (file : ℕ) (entries : List (List ℕ × List ℕ)) → ((key : List ℕ) → a file key ≡ b file key) → IsListing a file entries → IsListing b file entries
listing-as a b file entries same is = record { rising = is.rising; exact = λ key. is.exact key ∙ same key }
