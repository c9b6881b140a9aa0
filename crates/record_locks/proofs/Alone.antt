-- That the records of a file that is locked whole have no other holder, and what keeps it.
use Rattle.std.specs.Prelude.{if◌then◌else◌}
use Rattle.std.proofs.Common.{◌≡◌, ℕ, Bool, true, false, List, Option, Some, None, refl, ap, sym, ◌∙◌}
use Rattle.std.specs.Option.{is_some, option_map, option_or}
use Rattle.tmf_model.specs.declared.transid.Transid.{Transid}
use Rattle.record_locks.specs.declared.name.LockName.{LockName}
use Rattle.record_locks.specs.declared.table.Lock.{Lock}
use Rattle.record_locks.specs.Names.{Entry, is_same_name, is_same_transid}
use Rattle.record_locks.specs.Locks.{IsBlocker, IsBlockerAt, IsFileBlocker, IsHeldNow, file_name, freed, holder, is_writing, key_blocker, key_name, lock_at, other_than, own_holder}
use Rattle.record_locks.specs.Tied.{AreAlone, MayHold}
use Rattle.record_locks.proofs.Names.{name_is, transid_is}

or_else : {A : Type 0} → A → Option A → A
or_else x None = x
or_else x (Some z) = z

pub one : {A : Type 0} (x y : A) → Some x ≡ Some y → x ≡ y
unfolding or_else
one x y e = ap (or_else x) e

-- what has no other holder is the transaction's
pub no_other : (t : Transid) (o : Option Transid) (h : Transid) → other_than t o ≡ None → o ≡ Some h → h ≡ t
no_other t None h e f = absurd (cc (f))
no_other t (Some k) h e f = by (is_same_transid k t) refl e
  where
    by : (b : Bool) → is_same_transid k t ≡ b → (if b then None else Some k) ≡ None → h ≡ t
    by true same e = sym (one k h f) ∙ transid_is k t same
    by false same e = absurd (cc (e))

or_first : (a b : Option Transid) (h : Transid) → a ≡ Some h → option_or a b ≡ Some h
or_first None b h e = absurd (cc (e))
or_first (Some x) b h e = e

or_either : (a b : Option Transid) (u : Transid) → b ≡ Some u → (h : Transid) × (option_or a b ≡ Some h) × (a ≡ None → u ≡ h)
or_either None b u e = (u, e, λ _. refl)
or_either (Some x) b u e = (x, refl, λ none. absurd (cc (none)))

own_or : (t : Transid) (a b : Option Transid) → ((h u : Transid) → a ≡ Some h → b ≡ Some u → u ≡ h) → other_than t (option_or a b) ≡ None → (u : Transid) → b ≡ Some u → u ≡ t
own_or t None b alone free u e = no_other t b u free e
own_or t (Some x) b alone free u e = alone x u refl e ∙ no_other t (Some x) x free refl

-- nobody stands against a lock of the record
pub may_key : (table : List Entry) (file : ℕ) (key : List ℕ) (t : Transid) → AreAlone table → key_blocker table file key t ≡ None → MayHold table (key_name file key) t
may_key table file key t alone free = record {
  own = own_or t (own_holder table (file_name file)) (own_holder table (key_name file key)) (alone file key) free;
  round = λ h e. no_other t (holder table file key) h free (or_first (own_holder table (file_name file)) (own_holder table (key_name file key)) h e);
  inside = λ none. absurd (cc (none));
}

pub may_file : (table : List Entry) (file : ℕ) (t : Transid) → IsFileBlocker table file t None → MayHold table (file_name file) t
may_file table file t none = record {
  own = λ u e. no_other t (own_holder table (file_name file)) u none.0 e;
  round = λ u e. no_other t (own_holder table (file_name file)) u none.0 e;
  inside = λ _ key u e. no_other t (own_holder table (key_name file key)) u (none.1 key) e;
}

-- a table with fewer locks of the same holders
pub alone_fewer : (table after : List Entry) → ((q : LockName) (h : Transid) → own_holder after q ≡ Some h → own_holder table q ≡ Some h) → AreAlone table → AreAlone after
alone_fewer table after fewer alone file key h u e f = alone file key h u (fewer (file_name file) h e) (fewer (key_name file key) u f)

freed_had : (t : Transid) (o : Option Lock) (h : Transid) → option_map (λ lock. lock.holder) (freed t o) ≡ Some h → option_map (λ lock. lock.holder) o ≡ Some h
freed_had t None h e = e
freed_had t (Some lock) h e = by (is_same_transid lock.holder t) e
  where
    by : (b : Bool) → option_map (λ lock. lock.holder) (if b then None else Some lock) ≡ Some h → Some lock.holder ≡ Some h
    by true e = absurd (cc (e))
    by false e = e

pub alone_freed : (table after : List Entry) (t : Transid) → ((q : LockName) → lock_at after q ≡ freed t (lock_at table q)) → AreAlone table → AreAlone after
alone_freed table after t is = alone_fewer table after (λ q h e. freed_had t (lock_at table q) h (ap (option_map (λ lock. lock.holder)) (sym (is q)) ∙ e))

pub alone_same : (table after : List Entry) → ((q : LockName) → own_holder after q ≡ own_holder table q) → AreAlone table → AreAlone after
alone_same table after same = alone_fewer table after (λ q h e. sym (same q) ∙ e)

held_at : (b : Bool) (t : Transid) (w : Bool) (o : Option Lock) → option_map (λ lock. lock.holder) (if b then Some (record { holder = t; writing = w }) else o) ≡ (if b then Some t else option_map (λ lock. lock.holder) o)
held_at true t w o = refl
held_at false t w o = refl

module _ (table after : List Entry) (name : LockName) (t : Transid) (held : IsHeldNow table after name t) (may : MayHold table name t) (alone : AreAlone table) where
  holder_now : (q : LockName) → own_holder after q ≡ (if is_same_name q name then Some t else own_holder table q)
  holder_now q = ap (option_map (λ lock. lock.holder)) (held q) ∙ held_at (is_same_name q name) t (is_writing (lock_at table q)) (lock_at table q)

  by : (file : ℕ) (key : List ℕ) (h u : Transid) (b c : Bool) → is_same_name (file_name file) name ≡ b → is_same_name (key_name file key) name ≡ c
      → (if b then Some t else own_holder table (file_name file)) ≡ Some h → (if c then Some t else own_holder table (key_name file key)) ≡ Some u → u ≡ h
  by file key h u true true e f x y = sym (one t u y) ∙ one t h x
  by file key h u true false e f x y =
      let is = name_is (file_name file) name e in
      may.inside (ap (λ (n : LockName). n.key) (sym is)) key u (ap (λ (n : LockName). own_holder table (key_name n.file key)) (sym is) ∙ y) ∙ one t h x
  by file key h u false true e f x y =
      let is = name_is (key_name file key) name f in
      sym (one t u y) ∙ sym (may.round h (ap (λ (n : LockName). own_holder table (file_name n.file)) (sym is) ∙ x))
  by file key h u false false e f x y = alone file key h u x y

  pub alone_held : AreAlone after
  alone_held file key h u e f =
      by file key h u (is_same_name (file_name file) name) (is_same_name (key_name file key) name) refl refl (sym (holder_now (file_name file)) ∙ e) (sym (holder_now (key_name file key)) ∙ f)

-- what the transaction holds already
pub held_already : (table : List Entry) (name : LockName) (t : Transid) (lock : Lock) → lock_at table name ≡ Some lock → MayHold table name t → IsHeldNow table table name t
held_already table name t lock at may q = by (is_same_name q name) refl
  where
    is_ts : lock.holder ≡ t
    is_ts = may.own lock.holder (ap (option_map (λ l. l.holder)) at)

    by : (b : Bool) → is_same_name q name ≡ b → lock_at table q ≡ (if b then Some (record { holder = t; writing = is_writing (lock_at table q) }) else lock_at table q)
    by true e =
        let here : lock_at table q ≡ Some lock = ap (lock_at table) (name_is q name e) ∙ at in
        let back = sym here in
        here ∙ (λ i. Some (record { holder = is_ts i; writing = is_writing (back i) }))
    by false e = refl

-- what is added is not held by writing
pub added_held : (table after : List Entry) (name : LockName) (t : Transid) → lock_at table name ≡ None
    → ((q : LockName) → lock_at after q ≡ (if is_same_name q name then Some (record { holder = t; writing = false }) else lock_at table q)) → IsHeldNow table after name t
added_held table after name t none added q = added q ∙ by (is_same_name q name) refl
  where
    by : (b : Bool) → is_same_name q name ≡ b → (if b then Some (record { holder = t; writing = false }) else lock_at table q) ≡ (if b then Some (record { holder = t; writing = is_writing (lock_at table q) }) else lock_at table q)
    by true e = ap (λ o. Some (record { holder = t; writing = is_writing o })) (sym (ap (lock_at table) (name_is q name e) ∙ none))
    by false e = refl

held_found : (table : List Entry) (name : LockName) (t : Transid) (o : Option Lock) → lock_at table name ≡ o → is_some o ≡ true → MayHold table name t → IsHeldNow table table name t
held_found table name t None at found may = absurd (cc (found))
held_found table name t (Some lock) at found may = held_already table name t lock at may

pub held_where_found : (table : List Entry) (name : LockName) (t : Transid) → is_some (lock_at table name) ≡ true → MayHold table name t → IsHeldNow table table name t
held_where_found table name t = held_found table name t (lock_at table name) refl

may_at : (table : List Entry) (file : ℕ) (key : Option (List ℕ)) (t : Transid) → AreAlone table → IsBlockerAt key table file t None → MayHold table (record { file = file; key = key }) t
may_at table file None t alone free = may_file table file t free
may_at table file (Some key) t alone free = may_key table file key t alone free

-- nobody stands against a lock of the name
pub may_hold : (table : List Entry) (name : LockName) (t : Transid) → AreAlone table → IsBlocker table name t None → MayHold table name t
may_hold table name t = may_at table name.file name.key t
