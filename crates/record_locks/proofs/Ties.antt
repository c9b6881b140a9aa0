-- Lists of names by holders, and the table: what each change of both keeps.
use Rattle.std.specs.Prelude.{if◌then◌else◌}
use Rattle.std.proofs.Common.{OnErr, OnOk, is_err, Ok, Err, Result, ◌≡◌, ◌||◌, Bool, true, false, List, [], ◌∷◌, ◌++◌, Option, Some, None, cond, refl, ap, sym, ◌∙◌}
use Rattle.std.specs.List.{list_any}
use Rattle.std.specs.Option.{option_map}
use Rattle.std.proofs.lemmas.List.Folds.{list_any-append}
use Rattle.tmf_model.specs.declared.transid.Transid.{Transid}
use Rattle.record_locks.specs.declared.name.LockName.{LockName}
use Rattle.record_locks.specs.declared.table.Lock.{Lock}
use Rattle.record_locks.specs.Names.{is_same_name, is_same_transid}
use Rattle.record_locks.specs.Locks.{freed, is_its, marked}
use Rattle.record_locks.specs.Tied.{names_in}
use Rattle.record_locks.specs.declared.held.NameList.{NameList}
use Rattle.record_locks.proofs.Names.{name_is, transid_is, transid_symm}

-- each name is listed where its lock is the transaction's
abbrev Tie : (Transid → List LockName) → (LockName → Option Lock) → Type 0
Tie names locks = (t : Transid) (q : LockName) → list_any (is_same_name q) (names t) ≡ is_its t (locks q)

or_true : (a b : Bool) → b ≡ true → (a || (b || false)) ≡ true
or_true true b e = refl
or_true false b e = ap (λ c. c || false) e

or_false : (a b : Bool) → b ≡ false → (a || (b || false)) ≡ a
or_false true b e = refl
or_false false b e = ap (λ c. c || false) e

not_its : (t u : Transid) (o : Option Lock) → is_its t o ≡ true → is_same_transid u t ≡ false → is_its u o ≡ false
not_its t u None e f = refl
not_its t u (Some lock) e f = ap (λ h. is_same_transid h u) (transid_is lock.holder t e) ∙ transid_symm t u ∙ f

pub marked_its : (u : Transid) (o : Option Lock) → is_its u (marked o) ≡ is_its u o
marked_its u None = refl
marked_its u (Some lock) = refl

module _ (names after : Transid → List LockName) (locks then_ : LockName → Option Lock) (t : Transid) (tie : Tie names locks) where
  module _ (name : LockName) (lock : Lock) (is_ts : lock.holder ≡ t) (free : locks name ≡ None) where
    added_at : (u : Transid) (q : LockName) (b c : Bool) → is_same_transid u t ≡ b → is_same_name q name ≡ c
        → list_any (is_same_name q) (if b then names t ++ name ∷ [] else names u) ≡ is_its u (if c then Some lock else locks q)
    added_at u q true true e f =
        list_any-append (is_same_name q) (names t) (name ∷ []) ∙ or_true (list_any (is_same_name q) (names t)) (is_same_name q name) f
        ∙ sym (ap (λ h. is_same_transid h u) is_ts ∙ transid_symm t u ∙ e)
    added_at u q true false e f =
        list_any-append (is_same_name q) (names t) (name ∷ []) ∙ or_false (list_any (is_same_name q) (names t)) (is_same_name q name) f
        ∙ tie t q ∙ ap (λ v. is_its v (locks q)) (sym (transid_is u t e))
    added_at u q false true e f =
        tie u q ∙ ap (is_its u) (ap locks (name_is q name f) ∙ free) ∙ sym (ap (λ h. is_same_transid h u) is_ts ∙ transid_symm t u ∙ e)
    added_at u q false false e f = tie u q

    pub tie_added : ((u : Transid) → after u ≡ (if is_same_transid u t then names t ++ name ∷ [] else names u))
        → ((q : LockName) → then_ q ≡ (if is_same_name q name then Some lock else locks q)) → Tie after then_
    tie_added listed taken u q = ap (list_any (is_same_name q)) (listed u) ∙ added_at u q (is_same_transid u t) (is_same_name q name) refl refl ∙ sym (ap (is_its u) (taken q))

  left_at : (u : Transid) (q : LockName) (b c : Bool) → is_same_transid u t ≡ b → list_any (is_same_name q) (names t) ≡ c
      → list_any (is_same_name q) (if b then [] else names u) ≡ is_its u (cond c None (locks q))
  left_at u q true true e f = refl
  left_at u q true false e f = sym f ∙ tie t q ∙ ap (λ v. is_its v (locks q)) (sym (transid_is u t e))
  left_at u q false true e f = tie u q ∙ not_its t u (locks q) (sym (tie t q) ∙ f) e
  left_at u q false false e f = tie u q

  pub tie_left : ((u : Transid) → after u ≡ (if is_same_transid u t then [] else names u))
      → ((q : LockName) → then_ q ≡ cond (list_any (is_same_name q) (names t)) None (locks q)) → Tie after then_
  tie_left left freed_ u q = ap (list_any (is_same_name q)) (left u) ∙ left_at u q (is_same_transid u t) (list_any (is_same_name q) (names t)) refl refl ∙ sym (ap (is_its u) (freed_ q))

  pub freed_is : ((q : LockName) → then_ q ≡ cond (list_any (is_same_name q) (names t)) None (locks q)) → (q : LockName) → then_ q ≡ freed t (locks q)
  freed_is freed_ q = freed_ q ∙ ap (λ b. cond b None (locks q)) (tie t q)

-- one name is off the table, and then the others
pub free_step : {A : Type 0} (b c : Bool) (o : Option A) → cond c None (cond b None o) ≡ cond (b || c) None o
free_step true true o = refl
free_step true false o = refl
free_step false c o = refl

pub on_err : {A E P Q : Type 0} (r : Result A E) → (P → Q) → OnErr r P → OnErr r Q
on_err (Ok x) f h = h
on_err (Err e) f h = f h

-- a list put at one holder's place
pub listed_same : (b : Bool) (list : NameList) (o : Option NameList) → (b ≡ true → names_in (Some list) ≡ names_in o) → names_in (cond b (Some list) o) ≡ names_in o
listed_same true list o same = same refl
listed_same false list o same = refl

pub listed_more : (b : Bool) (list : NameList) (o : Option NameList) (names : List LockName) → names_in (Some list) ≡ names → names_in (cond b (Some list) o) ≡ (if b then names else names_in o)
listed_more true list o names is = is
listed_more false list o names is = refl

pub of_err : {A E P : Type 0} (r : Result A E) → is_err r ≡ true → OnErr r P → P
of_err (Ok x) e h = absurd (cc (e))
of_err (Err x) e h = h

pub of_ok : {A E P : Type 0} (r : Result A E) → is_err r ≡ false → OnOk r P → P
of_ok (Ok x) e h = h
of_ok (Err x) e h = absurd (cc (e))

-- what is put where nothing was and taken off again leaves all as it was
pub put_back : {A : Type 0} (b : Bool) (x : A) (o : Option A) → (b ≡ true → o ≡ None) → cond b None (cond b (Some x) o) ≡ o
put_back true x o none = sym (none refl)
put_back false x o none = refl

pub tie_same : (names after : Transid → List LockName) (locks then_ : LockName → Option Lock) → Tie names locks
    → ((u : Transid) → after u ≡ names u) → ((q : LockName) → then_ q ≡ locks q) → Tie after then_
tie_same names after locks then_ tie listed taken u q = ap (list_any (is_same_name q)) (listed u) ∙ tie u q ∙ sym (ap (is_its u) (taken q))

-- a lock that is marked where it was found
pub marked_at : (b : Bool) (lock : Lock) (o : Option Lock) → (b ≡ true → Some lock ≡ o) → cond b (Some (record { holder = lock.holder; writing = true })) o ≡ (if b then marked o else o)
marked_at true lock o was = ap marked (was refl)
marked_at false lock o was = refl

its_marked : (u : Transid) (b : Bool) (o : Option Lock) → is_its u (if b then marked o else o) ≡ is_its u o
its_marked u true o = marked_its u o
its_marked u false o = refl

pub holder_marked : (b : Bool) (o : Option Lock) → option_map (λ lock. lock.holder) (if b then marked o else o) ≡ option_map (λ lock. lock.holder) o
holder_marked true None = refl
holder_marked true (Some lock) = refl
holder_marked false o = refl

pub tie_marked : (names : Transid → List LockName) (locks then_ : LockName → Option Lock) (name : LockName) → Tie names locks
    → ((q : LockName) → then_ q ≡ (if is_same_name q name then marked (locks q) else locks q)) → Tie names then_
tie_marked names locks then_ name tie is u q = tie u q ∙ sym (its_marked u (is_same_name q name) (locks q)) ∙ sym (ap (is_its u) (is q))
