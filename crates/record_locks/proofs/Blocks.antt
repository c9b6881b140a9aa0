-- The part of the table that is of one file, and the keys of a block there that are held by writing.
use Rattle.std.specs.Prelude.{if◌then◌else◌, nat_lt}
use Rattle.std.proofs.Common.{◌≡◌, ℕ, ◌+◌, ◌==◌, ◌&&◌, ◌||◌, Bool, true, false, not, List, [], ◌∷◌, ◌++◌, Option, Some, None, cond, bytes_eq, refl, ap, sym, ◌∙◌, subst, arith, eqb-true, eq-eqb}
use Rattle.std.specs.BTreeMap.Range.{entries_between, range_contains}
use Rattle.std.specs.declared.ops.Bound.TheVariants.{Excluded, Unbounded}
use Rattle.std.specs.declared.cmp.Ordering.{Ordering}
use Rattle.std.specs.declared.cmp.Ordering.TheVariants.{Equal, Greater}
use Rattle.std.specs.Cmp.Lexicographic.{slice_cmp}
use Rattle.std.specs.List.{IsDistinct, AllByRecursion, list_any}
use Rattle.std.specs.Map.{keys_of, lookup}
use Rattle.std.specs.Option.{option_cmp}
use Rattle.std.specs.Ordering.{eq_by_cmp, is_eq, is_le, nat_cmp, ordering_then}
use Rattle.std.proofs.lemmas.Bool.{and_parts}
use Rattle.std.proofs.lemmas.Bool.Decides.{nat_tests}
use Rattle.std.proofs.lemmas.Cmp.{nat_eq_equiv, eq_by_cmp_equiv}
use Rattle.std.proofs.lemmas.Slice.Eq.{bytes_eq-Decides}
use Rattle.tmf_model.specs.Place.{block_of}
use Rattle.tmf_model.specs.declared.transid.Transid.{Transid}
use Rattle.record_locks.specs.declared.name.LockName.{LockName}
use Rattle.record_locks.specs.declared.table.Lock.{Lock}
use Rattle.record_locks.specs.Names.{Entry, file_bounds, is_same_transid, name_cmp}
use Rattle.record_locks.specs.Locks.{is_writing, kept_at, key_name}
use Rattle.record_locks.proofs.Names.{name_at, name_cmp_total}

pub nat_same : (n : ℕ) → nat_cmp n n ≡ Equal
nat_same n = grind (arith, nat_tests)

nat_above : (n : ℕ) → nat_cmp (n + 1) n ≡ Greater
nat_above n = grind (arith, nat_tests)

none_least : (k : Option (List ℕ)) → is_le (option_cmp (slice_cmp nat_cmp) None k) ≡ true
none_least None = refl
none_least (Some k) = refl

not_past : (file : ℕ) (k : Option (List ℕ)) (b : Bool) → range_contains name_cmp (file_bounds file).0 (if b then Excluded (record { file = file + 1; key = None }) else Unbounded) (record { file = file; key = k }) ≡ true
not_past file k true =
    ap (λ (o : Ordering). is_le (ordering_then o (option_cmp (slice_cmp nat_cmp) None k)) && not (is_le (ordering_then (nat_cmp (file + 1) file) (option_cmp (slice_cmp nat_cmp) None k)))) (nat_same file)
    ∙ ap (λ b. b && not (is_le (ordering_then (nat_cmp (file + 1) file) (option_cmp (slice_cmp nat_cmp) None k)))) (none_least k)
    ∙ ap (λ (o : Ordering). not (is_le (ordering_then o (option_cmp (slice_cmp nat_cmp) None k)))) (nat_above file)
not_past file k false =
    ap (λ (o : Ordering). is_le (ordering_then o (option_cmp (slice_cmp nat_cmp) None k)) && true) (nat_same file) ∙ ap (λ b. b && true) (none_least k)

-- the names of a file lie between its bounds
in_file : (file : ℕ) (name : LockName) → (name.file == file) ≡ true → range_contains name_cmp (file_bounds file).0 (file_bounds file).1 name ≡ true
in_file file name e =
    let P : ℕ → Type 0 = λ f. range_contains name_cmp (file_bounds file).0 (file_bounds file).1 (record { file = f; key = name.key }) ≡ true in
    subst P (sym (eqb-true name.file file e)) (not_past file name.key (nat_lt (file + 1) 256))

-- the entries of the table between the bounds of a file
abbrev pub of_file : ℕ → List Entry → List Entry
of_file file entries = entries_between name_cmp (file_bounds file).0 (file_bounds file).1 entries

-- the holder of the first lock of the file that is another's
abbrev pub file_blocker : ℕ → Transid → List Entry → Option Transid
file_blocker file t [] = None
file_blocker file t (entry ∷ locks) = if (entry.0.file == file) && not (is_same_transid entry.1.holder t) then Some entry.1.holder else file_blocker file t locks

blocker_step : (file : ℕ) (t : Transid) (e : Entry) (p : Bool) (rest all : List Entry) → ((e.0.file == file) ≡ true → p ≡ true) → file_blocker file t rest ≡ file_blocker file t all
    → file_blocker file t (cond p (e ∷ rest) rest) ≡ file_blocker file t (e ∷ all)
blocker_step file t e true rest all has same = ap (λ o. if (e.0.file == file) && not (is_same_transid e.1.holder t) then Some e.1.holder else o) same
blocker_step file t e false rest all has same = same ∙ skip (e.0.file == file) has
  where
    skip : (b : Bool) → (b ≡ true → false ≡ true) → file_blocker file t all ≡ (if b && not (is_same_transid e.1.holder t) then Some e.1.holder else file_blocker file t all)
    skip true h = absurd (cc (h refl))
    skip false h = refl

-- who stands against a lock of a file is found among its own entries
pub blocker_of_file : (file : ℕ) (t : Transid) (entries : List Entry) → file_blocker file t (of_file file entries) ≡ file_blocker file t entries
blocker_of_file file t [] = refl
blocker_of_file file t (e ∷ entries) =
    blocker_step file t e (range_contains name_cmp (file_bounds file).0 (file_bounds file).1 e.0) (of_file file entries) entries (in_file file e.0) (blocker_of_file file t entries)

pub found_first : (file : ℕ) (t : Transid) (e : Entry) (rest : List Entry) → e.0.file ≡ file → not (is_same_transid e.1.holder t) ≡ true → file_blocker file t (e ∷ rest) ≡ Some e.1.holder
found_first file t e rest here other =
    ap (λ b. if b && not (is_same_transid e.1.holder t) then Some e.1.holder else file_blocker file t rest) (eq-eqb e.0.file file here)
    ∙ ap (λ b. if b then Some e.1.holder else file_blocker file t rest) other

abbrev with_first : Option (List ℕ) → List (List ℕ) → List (List ℕ)
with_first None keys = keys
with_first (Some key) keys = key ∷ keys

-- the keys of the block that are held by writing, in the order of the table
abbrev pub kept_in : ℕ → ℕ → ℕ → List Entry → List (List ℕ)
kept_in file block blocks [] = []
kept_in file block blocks (e ∷ entries) = with_first (kept_at e.0.key (e.0.file == file && e.1.writing) block blocks) (kept_in file block blocks entries)

kept_elsewhere : (k : Option (List ℕ)) (writing : Bool) (block blocks : ℕ) → kept_at k (false && writing) block blocks ≡ None
kept_elsewhere None writing block blocks = refl
kept_elsewhere (Some k) writing block blocks = refl

kept_step : (file block blocks : ℕ) (e : Entry) (p : Bool) (rest all : List Entry) → ((e.0.file == file) ≡ true → p ≡ true) → kept_in file block blocks rest ≡ kept_in file block blocks all
    → kept_in file block blocks (cond p (e ∷ rest) rest) ≡ kept_in file block blocks (e ∷ all)
kept_step file block blocks e true rest all has same = ap (with_first (kept_at e.0.key (e.0.file == file && e.1.writing) block blocks)) same
kept_step file block blocks e false rest all has same = same ∙ skip (e.0.file == file) has
  where
    skip : (b : Bool) → (b ≡ true → false ≡ true) → kept_in file block blocks all ≡ with_first (kept_at e.0.key (b && e.1.writing) block blocks) (kept_in file block blocks all)
    skip true h = absurd (cc (h refl))
    skip false h = ap (λ o. with_first o (kept_in file block blocks all)) (sym (kept_elsewhere e.0.key e.1.writing block blocks))

-- they are found among the entries of the file
pub kept_of_file : (file block blocks : ℕ) (entries : List Entry) → kept_in file block blocks (of_file file entries) ≡ kept_in file block blocks entries
kept_of_file file block blocks [] = refl
kept_of_file file block blocks (e ∷ entries) =
    kept_step file block blocks e (range_contains name_cmp (file_bounds file).0 (file_bounds file).1 e.0) (of_file file entries) entries (in_file file e.0) (kept_of_file file block blocks entries)

pub none_at : (n : LockName) (es : List Entry) → AllByRecursion (λ q. is_eq (name_cmp n q) ≡ false) (keys_of es) → lookup (λ q. is_eq (name_cmp n q)) es ≡ None
none_at n [] h = refl
none_at n (e ∷ es) h = ap (λ b. cond b (Some e.1) (lookup (λ q. is_eq (name_cmp n q)) es)) h.0 ∙ none_at n es h.1

pub apart_from : (n q : LockName) (es : List Entry) → is_eq (name_cmp n q) ≡ true → AllByRecursion (λ y. is_eq (name_cmp q y) ≡ false) (keys_of es) → AllByRecursion (λ y. is_eq (name_cmp n y) ≡ false) (keys_of es)
apart_from n q [] same h = tt
apart_from n q (e ∷ es) same h = ((eq_by_cmp_equiv name_cmp_total).congr n q e.0 same ∙ h.0, apart_from n q es same h.1)

yes_or_not : (w h : Bool) → cond ((true && w) && h) (true || false) false ≡ (w && h)
yes_or_not true true = refl
yes_or_not true false = refl
yes_or_not false h = refl

at_yes : (w h g k r p : Bool) → g ≡ true → k ≡ true → r ≡ false → p ≡ h → cond ((g && w) && p) (k || r) r ≡ (w && h)
at_yes w h g k r p a b c d = cc (yes_or_not w h)

at_other : (g w h k r : Bool) → (g && k) ≡ false → cond ((g && w) && h) (k || r) r ≡ r
at_other true true true true r e = absurd (cc (e))
at_other true true true false r e = refl
at_other true true false k r e = refl
at_other true false h k r e = refl
at_other false w h k r e = refl

push_if : (test : List ℕ → Bool) (b : Bool) (x : List ℕ) (xs : List (List ℕ)) → list_any test (with_first (if b then Some x else None) xs) ≡ cond b (test x || list_any test xs) (list_any test xs)
push_if test true x xs = refl
push_if test false x xs = refl

same_bytes : (xs ys : List ℕ) → bytes_eq xs ys ≡ true → xs ≡ ys
same_bytes xs ys e = (bytes_eq-Decides xs ys).0 e

abbrev FindsKept : ℕ → ℕ → ℕ → List ℕ → List Entry → Type 0
FindsKept file block blocks key es = list_any (bytes_eq key) (kept_in file block blocks es) ≡ (is_writing (lookup (λ q. is_eq (name_cmp (key_name file key) q)) es) && (block_of key blocks == block))

finds_step : (file block blocks : ℕ) (key : List ℕ) (f : ℕ) (k : Option (List ℕ)) (lock : Lock) (es : List Entry) (t : Bool)
    → is_eq (name_cmp (key_name file key) (record { file = f; key = k })) ≡ t
    → AllByRecursion (λ q. is_eq (name_cmp (record { file = f; key = k }) q) ≡ false) (keys_of es) → FindsKept file block blocks key es
    → list_any (bytes_eq key) (with_first (kept_at k (f == file && lock.writing) block blocks) (kept_in file block blocks es))
    ≡ (is_writing (cond t (Some lock) (lookup (λ q. is_eq (name_cmp (key_name file key) q)) es)) && (block_of key blocks == block))
finds_step file block blocks key f None lock es true is apart rest =
    absurd (cc ((and_parts (file == f) false (sym (name_at (key_name file key) (record { file = f; key = None })) ∙ is)).1))
finds_step file block blocks key f None lock es false is apart rest = rest
finds_step file block blocks key f (Some k) lock es true is apart rest =
    let n : LockName = record { file = f; key = Some k } in
    let both = and_parts (file == f) (bytes_eq key k) (sym (name_at (key_name file key) n) ∙ is) in
    let none = none_at (key_name file key) es (apart_from (key_name file key) n es is apart) in
    let empty : list_any (bytes_eq key) (kept_in file block blocks es) ≡ false = rest ∙ ap (λ (o : Option Lock). is_writing o && (block_of key blocks == block)) none in
    push_if (bytes_eq key) ((f == file && lock.writing) && (block_of k blocks == block)) k (kept_in file block blocks es)
    ∙ at_yes lock.writing (block_of key blocks == block) (f == file) (bytes_eq key k) (list_any (bytes_eq key) (kept_in file block blocks es)) (block_of k blocks == block)
    (nat_eq_equiv.symm f file ∙ both.0) both.1 empty (ap (λ (j : List ℕ). block_of j blocks == block) (sym (same_bytes key k both.1)))
finds_step file block blocks key f (Some k) lock es false is apart rest =
    push_if (bytes_eq key) ((f == file && lock.writing) && (block_of k blocks == block)) k (kept_in file block blocks es)
    ∙ at_other (f == file) lock.writing (block_of k blocks == block) (bytes_eq key k) (list_any (bytes_eq key) (kept_in file block blocks es))
    (ap (λ b. b && bytes_eq key k) (nat_eq_equiv.symm f file) ∙ sym (name_at (key_name file key) (record { file = f; key = Some k })) ∙ is) ∙ rest

pub finds_kept : (file block blocks : ℕ) (key : List ℕ) (es : List Entry) → IsDistinct (eq_by_cmp name_cmp) (keys_of es) → FindsKept file block blocks key es
unfolding IsDistinct
finds_kept file block blocks key [] h = refl
finds_kept file block blocks key (e ∷ es) h =
    finds_step file block blocks key e.0.file e.0.key e.1 es (is_eq (name_cmp (key_name file key) e.0)) refl h.0 (finds_kept file block blocks key es h.1)

any_false : (x : List ℕ) (xs : List (List ℕ)) → list_any (bytes_eq x) xs ≡ false → AllByRecursion (λ y. bytes_eq x y ≡ false) xs
any_false x [] h = tt
any_false x (y ∷ ys) h = (let both = or_false (bytes_eq x y) (list_any (bytes_eq x) ys) h in (both.0, any_false x ys both.1))
  where
    or_false : (a b : Bool) → (a || b) ≡ false → (a ≡ false) × (b ≡ false)
    or_false true b e = absurd (cc (e))
    or_false false b e = (refl, e)

distinct_if : (b : Bool) (x : List ℕ) (xs : List (List ℕ)) → IsDistinct bytes_eq xs → (b ≡ true → AllByRecursion (λ y. bytes_eq x y ≡ false) xs) → IsDistinct bytes_eq (with_first (if b then Some x else None) xs)
unfolding IsDistinct
distinct_if true x xs h apart = (apart refl, h)
distinct_if false x xs h apart = h

distinct_step : (file block blocks f : ℕ) (k : Option (List ℕ)) (lock : Lock) (es : List Entry) → IsDistinct (eq_by_cmp name_cmp) (keys_of es)
    → AllByRecursion (λ q. is_eq (name_cmp (record { file = f; key = k }) q) ≡ false) (keys_of es) → IsDistinct bytes_eq (kept_in file block blocks es)
    → IsDistinct bytes_eq (with_first (kept_at k (f == file && lock.writing) block blocks) (kept_in file block blocks es))
distinct_step file block blocks f None lock es h apart rest = rest
distinct_step file block blocks f (Some k) lock es h apart rest =
    distinct_if ((f == file && lock.writing) && (block_of k blocks == block)) k (kept_in file block blocks es) rest
    (λ kept.
    let there = (and_parts (f == file) lock.writing (and_parts (f == file && lock.writing) (block_of k blocks == block) kept).0).0 in
    let same : file ≡ f = sym (eqb-true f file there) in
    let none = none_at (key_name file k) es (subst (λ (g : ℕ). AllByRecursion (λ q. is_eq (name_cmp (key_name g k) q) ≡ false) (keys_of es)) (sym same) apart) in
    any_false k (kept_in file block blocks es) (finds_kept file block blocks k es h ∙ ap (λ (o : Option Lock). is_writing o && (block_of k blocks == block)) none))

pub distinct_kept : (file block blocks : ℕ) (es : List Entry) → IsDistinct (eq_by_cmp name_cmp) (keys_of es) → IsDistinct bytes_eq (kept_in file block blocks es)
unfolding IsDistinct
distinct_kept file block blocks [] h = tt
distinct_kept file block blocks (e ∷ es) h = distinct_step file block blocks e.0.file e.0.key e.1 es h.1 h.0 (distinct_kept file block blocks es h.1)

nothing_behind : {A : Type 0} (xs : List A) → xs ++ [] ≡ xs
nothing_behind [] = refl
nothing_behind (x ∷ xs) = ap (λ ys. x ∷ ys) (nothing_behind xs)

pub whole_kept : (file block blocks : ℕ) (kept : List (List ℕ)) (rest all : List Entry) → rest ≡ [] → kept ++ kept_in file block blocks rest ≡ kept_in file block blocks (of_file file all) → kept ≡ kept_in file block blocks all
whole_kept file block blocks kept rest all none is = sym (nothing_behind kept) ∙ ap (λ es. kept ++ kept_in file block blocks es) (sym none) ∙ is ∙ kept_of_file file block blocks all
