-- The transactions that are committed, in rising order.
use Rattle.std.specs.Cmp.{IsTotalOrder, tied_then}
use Rattle.std.specs.List.{list_any, cons_option, AllWithin}
use Rattle.std.specs.List.Sorted.{IsBinarySearchResult, IsPermutation, IsSearchInRange, IsSorted}
use Rattle.std.specs.Ordering.{nat_cmp, is_eq, ordering_then}
use Rattle.std.specs.Prelude.{Option, None, Result, Ok, Err, is_ok, ◌==◌}
use Rattle.std.specs.declared.cmp.Ordering.{Ordering}
use Rattle.std.specs.declared.cmp.Ordering.TheVariants.{Less, Equal, Greater}
use Rattle.std.proofs.Common.{ℕ, ◌+◌, ◌<◌, false, ◌&&◌, length, take, get_or, inl, inr, refl, ◌≡◌, List, [], ◌∷◌, ◌++◌, sym, ap, ◌∙◌, arith}
use Rattle.std.proofs.lemmas.Bool.{cases_lt}
use Rattle.std.proofs.lemmas.Bool.Decides.{nat_tests}
use Rattle.std.proofs.lemmas.Cmp.{nat_cmp_total, on_total, then_total}
use Rattle.std.proofs.lemmas.List.{take_more}
use Rattle.std.proofs.lemmas.List.Elements.{filter_map-append}
use Rattle.std.proofs.lemmas.List.Folds.{list_any_at, list_any_none}
use Rattle.std.proofs.lemmas.List.Sorted.{list_any-IsPermutation, searchable_from_sorted}
use Rattle.tmf_model.specs.declared.transid.Transid.{Transid}
use Rattle.trail_files.specs.declared.monitor_record.MonitorRecord.{MonitorRecord}
use Rattle.trail_files.specs.declared.monitor_record.MonitorRecord.TheVariants.{Start, Commit, Abort}
use Rattle.trail_files.specs.MonitorOrder.{is_same_transid}
use Rattle.trail_files.specs.Recovered.{committed_by, commits_of}
use Rattle.trail_replay.specs.Reading.{transid_cmp, HaveSame, HasCommits}
use Rattle.trail_replay.proofs.Readings.{append-empty}

transid_total : IsTotalOrder transid_cmp
transid_total =
    then_total (on_total (λ (t : Transid). t.epoch) nat_cmp_total)
    (then_total (on_total (λ (t : Transid). t.worker) nat_cmp_total) (then_total (on_total (λ (t : Transid). t.ordinal) nat_cmp_total) (on_total (λ (t : Transid). t.attempt) nat_cmp_total)))

-- identifiers that tie are the same
four-tied : (a b c d : Ordering) → is_eq (ordering_then a (ordering_then b (ordering_then c d))) ≡ (is_eq a && (is_eq b && (is_eq c && is_eq d)))
four-tied a b c d =
    sym (tied_then a (ordering_then b (ordering_then c d)))
    ∙ ap (λ x. is_eq a && x) (sym (tied_then b (ordering_then c d)) ∙ ap (λ y. is_eq b && y) (sym (tied_then c d)))

tie : (a b : ℕ) → is_eq (nat_cmp a b) ≡ (b == a)
tie a b = grind (arith, nat_tests)

transid-tied : (k q : Transid) → is_eq (transid_cmp k q) ≡ is_same_transid q k
transid-tied k q =
    four-tied (nat_cmp k.epoch q.epoch) (nat_cmp k.worker q.worker) (nat_cmp k.ordinal q.ordinal) (nat_cmp k.attempt q.attempt)
    ∙ (λ i. tie k.epoch q.epoch i && (tie k.worker q.worker i && (tie k.ordinal q.ordinal i && tie k.attempt q.attempt i)))

same-by : (y x : Transid) (o : Ordering) → transid_cmp y x ≡ o → is_same_transid x y ≡ is_eq o
same-by y x o is = sym (transid-tied y x) ∙ ap is_eq is

-- none of the identifiers is the one that was sought
none-same : (xs : List Transid) (x : Transid) (i k : ℕ) (d : Transid) → AllWithin (λ y. transid_cmp y x ≡ Less) xs 0 i → AllWithin (λ y. transid_cmp y x ≡ Greater) xs i (length xs) → k < length xs
    → is_same_transid x (get_or xs k d) ≡ false
none-same xs x i k d below above within = elim (cases_lt k i) [
  | inl lt ↦ same-by (get_or xs k d) x Less (below k d (omega arith) lt)
  | inr le ↦ same-by (get_or xs k d) x Greater (above k d le within)
]

-- what a search by halving finds among identifiers in rising order
pub searched : (xs : List Transid) (x : Transid) (r : Result ℕ ℕ) → IsSorted transid_cmp xs → IsSearchInRange r (length xs) → IsBinarySearchResult (λ y. transid_cmp y x) xs r
    → is_ok r ≡ list_any (is_same_transid x) xs
searched xs x (Ok i) sorted within found = sym (list_any_at (is_same_transid x) xs i x within (same-by (get_or xs i x) x Equal (found x)))
searched xs x (Err i) sorted within found =
    let parts = found (searchable_from_sorted transid_total (λ (t : Transid). t) xs x sorted) in
    sym (list_any_none (is_same_transid x) xs (λ k d lt. none-same xs x i k d parts.0 parts.1 lt))

pub same-moved : (xs ys : List Transid) → IsPermutation xs ys → HaveSame xs ys
same-moved xs ys moved = λ tx. sym (list_any-IsPermutation (is_same_transid tx) xs ys moved)

-- one commit more
pub commits-commit : (list : List MonitorRecord) (tx : Transid) → commits_of (list ++ Commit tx ∷ []) ≡ commits_of list ++ tx ∷ []
commits-commit list tx = filter_map-append committed_by list (Commit tx ∷ [])

-- any other record commits nothing
commits_none : (item : MonitorRecord) → ((tx : Transid) → item ≡ Commit tx → ⊥) → committed_by item ≡ None
commits_none (Start epoch) not = refl
commits_none (Commit tx) not = absurd (not tx refl)
commits_none (Abort tx) not = refl

none-kept : (o : Option Transid) → o ≡ None → cons_option o [] ≡ []
none-kept o e = ap (λ x. cons_option x []) e

pub commits-other : (list : List MonitorRecord) (item : MonitorRecord) → ((tx : Transid) → item ≡ Commit tx → ⊥) → commits_of (list ++ item ∷ []) ≡ commits_of list
commits-other list item not =
    filter_map-append committed_by list (item ∷ [])
    ∙ ap (λ rest. commits_of list ++ rest) (none-kept (committed_by item) (commits_none item not))
    ∙ append-empty (commits_of list)

-- a record that commits, behind those whose commits were taken
pub commits-more : (list : List MonitorRecord) (item : MonitorRecord) (tx : Transid) (old new : List Transid) → item ≡ Commit tx → new ≡ old ++ tx ∷ [] → old ≡ commits_of list
    → new ≡ commits_of (list ++ item ∷ [])
commits-more list item tx old new is pushed are =
    pushed ∙ ap (λ xs. xs ++ tx ∷ []) are ∙ sym (commits-commit list tx) ∙ ap (λ r. commits_of (list ++ r ∷ [])) (sym is)

-- one that does not
pub commits-same : (list : List MonitorRecord) (item : MonitorRecord) (old : List Transid) → ((tx : Transid) → item ≡ Commit tx → ⊥) → old ≡ commits_of list → old ≡ commits_of (list ++ item ∷ [])
commits-same list item old not are = are ∙ sym (commits-other list item not)

-- the same along a row of records
next-item : (records : List MonitorRecord) (index : ℕ) → index < length records → commits_of (take index records ++ get_or records index (Start 0) ∷ []) ≡ commits_of (take (index + 1) records)
next-item records index within = ap commits_of (sym (take_more records index (Start 0) within))

pub took-commit : (records : List MonitorRecord) (index : ℕ) (tx : Transid) (old new : List Transid) → index < length records → get_or records index (Start 0) ≡ Commit tx
    → old ≡ commits_of (take index records) → new ≡ old ++ tx ∷ [] → new ≡ commits_of (take (index + 1) records)
took-commit records index tx old new within is are pushed =
    commits-more (take index records) (get_or records index (Start 0)) tx old new is pushed are ∙ next-item records index within

pub took-other : (records : List MonitorRecord) (index : ℕ) (old : List Transid) → index < length records → ((tx : Transid) → get_or records index (Start 0) ≡ Commit tx → ⊥)
    → old ≡ commits_of (take index records) → old ≡ commits_of (take (index + 1) records)
took-other records index old within not are = commits-same (take index records) (get_or records index (Start 0)) old not are ∙ next-item records index within

-- transactions that were moved about are those of the records yet
pub has-moved : (list : List MonitorRecord) (old new : List Transid) → old ≡ commits_of list → HaveSame old new → HasCommits list new
has-moved list old new are same = λ tx. same tx ∙ ap (list_any (is_same_transid tx)) are
