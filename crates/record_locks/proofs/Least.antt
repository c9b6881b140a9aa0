-- That the first lock of a file that is another's is the file's own, or else that of the least key.
use Rattle.std.specs.Prelude.{if◌then◌else◌}
use Rattle.std.proofs.Common.{◌≡◌, ℕ, ◌==◌, ◌&&◌, Bool, true, false, not, List, [], ◌∷◌, Option, Some, None, cond, bytes_eq, refl, ap, sym, ◌∙◌, inl, inr, eqb-true, eq-eqb}
use Rattle.std.specs.Cmp.Lexicographic.{slice_cmp}
use Rattle.std.specs.List.{AllByRecursion}
use Rattle.std.specs.List.Sorted.{IsStrictlySortedBy}
use Rattle.std.specs.Map.{keys_of, lookup}
use Rattle.std.specs.Option.{option_cmp, option_eq, option_map}
use Rattle.std.specs.Ordering.{is_eq, nat_cmp, ordering_then}
use Rattle.std.specs.declared.cmp.Ordering.{Ordering}
use Rattle.std.specs.declared.cmp.Ordering.TheVariants.{Less}
use Rattle.std.proofs.lemmas.Bool.{and_parts}
use Rattle.std.proofs.lemmas.Cmp.{nat_eq_equiv, eq_by_cmp_equiv}
use Rattle.std.proofs.lemmas.Map.Keys.{sorted_head, sorted_tail}
use Rattle.tmf_model.specs.declared.transid.Transid.{Transid}
use Rattle.record_locks.specs.declared.name.LockName.{LockName}
use Rattle.record_locks.specs.declared.table.Lock.{Lock}
use Rattle.record_locks.specs.Names.{Entry, is_same_transid, name_cmp}
use Rattle.record_locks.specs.Locks.{IsFileBlocker, file_name, key_name, other_holder, other_than, own_holder}
use Rattle.record_locks.proofs.Alone.{one}
use Rattle.record_locks.proofs.Blocks.{apart_from, file_blocker, nat_same, none_at}
use Rattle.record_locks.proofs.Names.{name_at, name_cmp_total, name_is, transid_at, transid_cmp_total, transid_is}

found_its : (file : ℕ) (t : Transid) (e : Entry) (table : List Entry) (k : Option (List ℕ)) (u : Transid) (b : Bool) → is_eq (name_cmp (record { file = file; key = k }) e.0) ≡ b
    → file_blocker file t (e ∷ table) ≡ None → (file_blocker file t table ≡ None → option_map (λ lock. lock.holder) (lookup (λ q. is_eq (name_cmp (record { file = file; key = k }) q)) table) ≡ Some u → u ≡ t)
    → option_map (λ lock. lock.holder) (cond b (Some e.1) (lookup (λ q. is_eq (name_cmp (record { file = file; key = k }) q)) table)) ≡ Some u → u ≡ t
found_its file t e table k u true here none rest found = by (is_same_transid e.1.holder t) refl (ap (λ b. if b && not (is_same_transid e.1.holder t) then Some e.1.holder else file_blocker file t table) (sym there) ∙ none)
  where
    there : (e.0.file == file) ≡ true
    there = nat_eq_equiv.symm e.0.file file ∙ (and_parts (file == e.0.file) (option_eq bytes_eq k e.0.key) (sym (name_at (record { file = file; key = k }) e.0) ∙ here)).0

    by : (b : Bool) → is_same_transid e.1.holder t ≡ b → (if not b then Some e.1.holder else file_blocker file t table) ≡ None → u ≡ t
    by true same h = sym (one e.1.holder u found) ∙ transid_is e.1.holder t same
    by false same h = absurd (cc (h))
found_its file t e table k u false here none rest found = rest (by ((e.0.file == file) && not (is_same_transid e.1.holder t)) none) found
  where
    by : (b : Bool) → (if b then Some e.1.holder else file_blocker file t table) ≡ None → file_blocker file t table ≡ None
    by true h = absurd (cc (h))
    by false h = h

-- where nobody stands against a lock of the file, all that is held there is the transaction's
its_own : (file : ℕ) (t : Transid) (table : List Entry) (k : Option (List ℕ)) (u : Transid) → file_blocker file t table ≡ None → own_holder table (record { file = file; key = k }) ≡ Some u → u ≡ t
its_own file t [] k u none found = absurd (cc (found))
its_own file t (e ∷ table) k u none found = found_its file t e table k u (is_eq (name_cmp (record { file = file; key = k }) e.0)) refl none (its_own file t table k u) found

transid_self : (t : Transid) → is_same_transid t t ≡ true
transid_self t = sym (transid_at t t) ∙ (eq_by_cmp_equiv transid_cmp_total).refl t

-- what is the transaction's alone has no other holder
not_other : (t : Transid) (o : Option Transid) → ((u : Transid) → o ≡ Some u → u ≡ t) → other_than t o ≡ None
not_other t None its = refl
not_other t (Some u) its = ap (λ b. if b then None else Some u) (ap (λ h. is_same_transid h t) (its u refl) ∙ transid_self t)

none_of_file : (file : ℕ) (t : Transid) (es : List Entry) → file_blocker file t es ≡ None → IsFileBlocker es file t None
none_of_file file t es none = (
  not_other t (own_holder es (file_name file)) (λ u e. its_own file t es None u none e),
  λ key. not_other t (own_holder es (key_name file key)) (λ u e. its_own file t es (Some key) u none e),
)

-- the least name of the file that another holds
record IsLeast (es : List Entry) (file : ℕ) (t h : Transid) : Type 0 where
  name : LockName
  here : name.file ≡ file
  holds : other_holder es name t ≡ Some h
  before : (q : LockName) → q.file ≡ file → name_cmp q name ≡ Less → other_holder es q t ≡ None

-- a name before the first of these is none of them
past : (q n : LockName) (es : List Entry) → name_cmp q n ≡ Less → AllByRecursion (λ y. name_cmp n y ≡ Less) (keys_of es) → AllByRecursion (λ y. is_eq (name_cmp q y) ≡ false) (keys_of es)
past q n [] less all = tt
past q n (e ∷ es) less all = (ap is_eq (name_cmp_total.trans q n e.0 less all.0), past q n es less all.1)

apart : (n : LockName) (es : List Entry) → AllByRecursion (λ y. name_cmp n y ≡ Less) (keys_of es) → AllByRecursion (λ y. is_eq (name_cmp n y) ≡ false) (keys_of es)
apart n [] all = tt
apart n (e ∷ es) all = (ap is_eq all.0, apart n es all.1)

-- the first entry's own name, and each other
at_first : (t : Transid) (q : LockName) (e : Entry) (es : List Entry) (b : Bool) → is_eq (name_cmp q e.0) ≡ b
    → other_holder (e ∷ es) q t ≡ cond b (other_than t (Some e.1.holder)) (other_holder es q t)
at_first t q e es true same = ap (λ c. other_than t (option_map (λ (lock : Lock). lock.holder) (cond c (Some e.1) (lookup (λ y. is_eq (name_cmp q y)) es)))) same
at_first t q e es false same = ap (λ c. other_than t (option_map (λ (lock : Lock). lock.holder) (cond c (Some e.1) (lookup (λ y. is_eq (name_cmp q y)) es)))) same

none_held : (t : Transid) (q : LockName) (es : List Entry) → AllByRecursion (λ y. is_eq (name_cmp q y) ≡ false) (keys_of es) → other_holder es q t ≡ None
none_held t q es all = ap (λ (o : Option Lock). other_than t (option_map (λ (lock : Lock). lock.holder) o)) (none_at q es all)

least_here : (file : ℕ) (t h : Transid) (e : Entry) (es : List Entry) → IsStrictlySortedBy name_cmp (keys_of (e ∷ es)) → ((e.0.file == file) && not (is_same_transid e.1.holder t)) ≡ true → e.1.holder ≡ h
    → IsLeast (e ∷ es) file t h
least_here file t h e es sorted test is =
    let both = and_parts (e.0.file == file) (not (is_same_transid e.1.holder t)) test in
    let head = sorted_head name_cmp e.0 (keys_of es) sorted in record {
      name = e.0;
      here = eqb-true e.0.file file both.0;
      holds = at_first t e.0 e es true ((eq_by_cmp_equiv name_cmp_total).refl e.0) ∙ not_its (is_same_transid e.1.holder t) both.1 ∙ ap (λ x. Some x) is;
      before = λ q _ less. at_first t q e es false (ap is_eq less) ∙ none_held t q es (past q e.0 es less head);
    }
  where
    not_its : (b : Bool) → not b ≡ true → (if b then None else Some e.1.holder) ≡ Some e.1.holder
    not_its true e = absurd (cc (e))
    not_its false e = refl

its_test : (f s : Bool) → f ≡ true → (f && not s) ≡ false → s ≡ true
its_test true true e h = refl
its_test true false e h = absurd (cc (h))
its_test false s e h = absurd (cc (e))

least_later : (file : ℕ) (t h : Transid) (e : Entry) (es : List Entry) → IsStrictlySortedBy name_cmp (keys_of (e ∷ es)) → ((e.0.file == file) && not (is_same_transid e.1.holder t)) ≡ false
    → IsLeast es file t h → IsLeast (e ∷ es) file t h
least_later file t h e es sorted test later = record {
  name = later.name;
  here = later.here;
  holds = holds (is_eq (name_cmp later.name e.0)) refl;
  before = λ q here less. before q here less (is_eq (name_cmp q e.0)) refl;
}
  where
    head : AllByRecursion (λ y. name_cmp e.0 y ≡ Less) (keys_of es)
    head = sorted_head name_cmp e.0 (keys_of es) sorted

    holds : (b : Bool) → is_eq (name_cmp later.name e.0) ≡ b → other_holder (e ∷ es) later.name t ≡ Some h
    holds true same =
        let none = none_held t later.name es (apart_from later.name e.0 es same (apart e.0 es head)) in
        absurd (cc (sym none ∙ later.holds))
    holds false same = at_first t later.name e es false same ∙ later.holds

    before : (q : LockName) → q.file ≡ file → name_cmp q later.name ≡ Less → (b : Bool) → is_eq (name_cmp q e.0) ≡ b → other_holder (e ∷ es) q t ≡ None
    before q here less true same =
        let is = name_is q e.0 (sym (name_at q e.0) ∙ same) in
        let there = eq-eqb e.0.file file (ap (λ (n : LockName). n.file) (sym is) ∙ here) in
        at_first t q e es true same ∙ ap (λ b. if b then None else Some e.1.holder) (its_test (e.0.file == file) (is_same_transid e.1.holder t) there test)
    before q here less false same = at_first t q e es false same ∙ later.before q here less

least_of : (file : ℕ) (t h : Transid) (es : List Entry) → IsStrictlySortedBy name_cmp (keys_of es) → file_blocker file t es ≡ Some h → IsLeast es file t h
least_of file t h [] sorted found = absurd (cc (found))
least_of file t h (e ∷ es) sorted found = by (least_of file t h es (sorted_tail name_cmp e.0 (keys_of es) sorted)) ((e.0.file == file) && not (is_same_transid e.1.holder t)) refl found
  where
    by : (file_blocker file t es ≡ Some h → IsLeast es file t h) → (b : Bool) → ((e.0.file == file) && not (is_same_transid e.1.holder t)) ≡ b → (if b then Some e.1.holder else file_blocker file t es) ≡ Some h
        → IsLeast (e ∷ es) file t h
    by later true test is = least_here file t h e es sorted test (one e.1.holder h is)
    by later false test is = least_later file t h e es sorted test (later is)

less_by_keys : (file : ℕ) (j k : Option (List ℕ)) → option_cmp (slice_cmp nat_cmp) j k ≡ Less → name_cmp (record { file = file; key = j }) (record { file = file; key = k }) ≡ Less
less_by_keys file j k less = ap (λ (o : Ordering). ordering_then o (option_cmp (slice_cmp nat_cmp) j k)) (nat_same file) ∙ less

by_key : (file : ℕ) (t h : Transid) (es : List Entry) (k : Option (List ℕ)) → other_holder es (record { file = file; key = k }) t ≡ Some h
    → ((q : LockName) → q.file ≡ file → name_cmp q (record { file = file; key = k }) ≡ Less → other_holder es q t ≡ None) → IsFileBlocker es file t (Some h)
by_key file t h es None holds before = inl holds
by_key file t h es (Some key) holds before =
    inr
    (before (file_name file) refl (less_by_keys file None (Some key) refl), record { key = key; holds = holds; least = λ k less. before (key_name file k) refl (less_by_keys file (Some k) (Some key) less) })

first_blocks : (file : ℕ) (t h : Transid) (es : List Entry) → IsLeast es file t h → IsFileBlocker es file t (Some h)
first_blocks file t h es first =
    let is : first.name ≡ record { file = file; key = first.name.key } = λ i. record { file = first.here i; key = first.name.key } in
    by_key file t h es first.name.key (ap (λ (n : LockName). other_holder es n t) (sym is) ∙ first.holds) (λ q here less. first.before q here (ap (name_cmp q) is ∙ less))

-- the first lock of the file that is another's tells who stands against it
pub blocker_is : (file : ℕ) (t : Transid) (es : List Entry) → IsStrictlySortedBy name_cmp (keys_of es) → IsFileBlocker es file t (file_blocker file t es)
blocker_is file t es sorted = by (file_blocker file t es) refl
  where
    by : (o : Option Transid) → file_blocker file t es ≡ o → IsFileBlocker es file t o
    by None none = none_of_file file t es none
    by (Some h) found = first_blocks file t h es (least_of file t h es sorted found)
