-- The steps of making a block anew.
use Rattle.std.proofs.Common.{◌≡◌, ◌⊎◌, inl, inr, ℕ, suc, ◌+◌, ◌<◌, Bool, true, false, cond, List, ◌∷◌, length, drop, get_or, Option, Some, None, refl, sym, ap, subst, ◌∙◌, arith}
use Rattle.std.specs.Prelude.{IsSome, is_some, Result, Ok, Err, IfOk, OnErr, OnOk, is_err, bytes_eq, slice_get}
use Rattle.std.specs.Map.{lookup}
use Rattle.std.proofs.Math.Seq.{drop-cons}
use Rattle.std.proofs.lemmas.Option.{slice_get-get_or}
use Rattle.std.proofs.lemmas.Slice.Eq.{bytes_eq-Decides}
use Rattle.tmf_model.specs.Place.{block_of}
use Rattle.keyed_file.specs.declared.home.Home.{Home}
use Rattle.keyed_file.specs.Block.{KeyedBlock, value_at}
use Rattle.volume_restore.specs.Changed.{Changes, IsPart, change_of, changed_value, changed_values}

pub on_err : {T E P : Type 0} (r : Result T E) → P → OnErr r P
on_err (Ok x) p = tt
on_err (Err e) p = p

pub if_ok : {T E P : Type 0} (r : Result T E) → P → IfOk r (λ _. P)
if_ok (Ok x) p = p
if_ok (Err e) p = tt

-- a key without a change has none
pub not_both : {X : Type 0} (o : Option X) (x : X) → o ≡ None → o ≡ Some x → ⊥
not_both {X} o x none some = let e : None ≡ Some x = sym none ∙ some in cc

pub if_left : {A B S : Type 0} → (A → B) → A ⊎ S → B ⊎ S
if_left f (inl a) = inl (f a)
if_left f (inr s) = inr s

-- One entry is taken of those that are left: what is said of a key holds where the entry is the key's, and else stays.
pub step_left : {X : Type 0} (key : List ℕ) (e : List ℕ × X) (rest more : List (List ℕ × X)) (A B : Type 0) → rest ≡ e ∷ more → (bytes_eq key e.0 ≡ true → B) → (bytes_eq key e.0 ≡ false → A → B)
    → A ⊎ IsSome (lookup (bytes_eq key) rest) → B ⊎ IsSome (lookup (bytes_eq key) more)
step_left key e rest more A B is here away left = (elim (bytes_eq key e.0) as (λ b. bytes_eq key e.0 ≡ b → A ⊎ IsSome (cond b (Some e.1) (lookup (bytes_eq key) more)) → B ⊎ IsSome (lookup (bytes_eq key) more)) [
  | true ↦ λ same _. inl (here same)
  | false ↦ λ apart so_far. if_left (away apart) so_far
]) refl (subst (λ es. A ⊎ IsSome (lookup (bytes_eq key) es)) is left)

-- a key is given the value of its change
module _ (changes : Changes) (block old new : KeyedBlock) (key : List ℕ) (value : Option (List ℕ)) (found : change_of changes key ≡ Some value)
    (given : (at : List ℕ) → value_at new at ≡ cond (bytes_eq at key) value (value_at old at)) where
  pub is_value : value ≡ changed_values changes block key
  is_value = sym (ap (λ change. changed_value change (value_at block key)) found)

  pub made_here : (k : List ℕ) → bytes_eq k key ≡ true → value_at new k ≡ changed_values changes block k
  made_here k same =
      let is : k ≡ key = (bytes_eq-Decides k key).0 same in
      given k ∙ ap (λ (b : Bool). cond b value (value_at old k)) same ∙ is_value ∙ ap (changed_values changes block) (sym is)

  pub made_away : (k : List ℕ) → bytes_eq k key ≡ false → value_at new k ≡ value_at old k
  made_away k apart = given k ∙ ap (λ (b : Bool). cond b value (value_at old k)) apart

  pub stays_made : (k : List ℕ) → change_of changes k ≡ None → value_at new k ≡ value_at old k
  stays_made k none = (elim (bytes_eq k key) as (λ b. bytes_eq k key ≡ b → value_at new k ≡ value_at old k) [
    | true ↦ λ same. absurd (differs (ap (change_of changes) ((bytes_eq-Decides k key).0 same)))
    | false ↦ λ apart. made_away k apart
  ]) refl
    where
      differs : change_of changes k ≡ change_of changes key → ⊥
      differs e = cc

-- a record of whose key no change was found is taken over
module _ (changes : Changes) (block old new : KeyedBlock) (e : List ℕ × List ℕ) (none : change_of changes e.0 ≡ None) (own : value_at block e.0 ≡ Some e.1)
    (given : (at : List ℕ) → value_at new at ≡ cond (bytes_eq at e.0) (Some e.1) (value_at old at)) where
  pub is_kept : Some e.1 ≡ changed_values changes block e.0
  is_kept = sym own ∙ sym (ap (λ change. changed_value change (value_at block e.0)) none)

  pub kept_here : (k : List ℕ) → bytes_eq k e.0 ≡ true → value_at new k ≡ value_at block k
  kept_here k same = given k ∙ ap (λ (b : Bool). cond b (Some e.1) (value_at old k)) same ∙ sym own ∙ ap (value_at block) (sym ((bytes_eq-Decides k e.0).0 same))

  pub kept_away : (k : List ℕ) → bytes_eq k e.0 ≡ false → value_at new k ≡ value_at old k
  kept_away k apart = given k ∙ ap (λ (b : Bool). cond b (Some e.1) (value_at old k)) apart

-- the item at an index is the first of those that are left
pub next_item : {X : Type 0} (items : List X) (i : ℕ) (e : X) → i < length items → e ≡ get_or items i e → (drop i items ≡ e ∷ drop (i + 1) items) × (slice_get items i ≡ Some e)
next_item items i e lt is =
    let next : suc i ≡ i + 1 = omega arith in (
      subst (λ n. drop i items ≡ e ∷ drop n items) next (drop-cons items i e lt ∙ ap (λ x. x ∷ drop (suc i) items) (sym is)),
      slice_get-get_or items i e lt ∙ ap Some (sym is),
    )

pub is_none : {X : Type 0} (o : Option X) → is_some o ≡ false → o ≡ None
is_none None e = refl
is_none (Some x) e = absurd (cc)

pub ok_of : {T E P : Type 0} (r : Result T E) → is_err r ≡ false → OnOk r P → P
ok_of (Ok x) fine p = p
ok_of (Err e) fine p = absurd (cc)

-- what was taken over, and then what was made, is all that the block has
pub content_of : (home : Home) (changes : Changes) (block kept made : KeyedBlock) → IsPart home (changed_values changes block) made
    → ((key : List ℕ) → change_of changes key ≡ None → IsSome (value_at block key) → value_at kept key ≡ value_at block key)
    → ((key : List ℕ) → change_of changes key ≡ None → value_at made key ≡ value_at kept key)
    → ((key : List ℕ) → block_of key home.blocks ≡ home.number → IsSome (change_of changes key) → value_at made key ≡ changed_values changes block key)
    → (key : List ℕ) → block_of key home.blocks ≡ home.number → value_at made key ≡ changed_values changes block key
content_of home changes block kept made part takes stays makes key lives = (elim (change_of changes key) as (λ o. change_of changes key ≡ o → value_at made key ≡ changed_values changes block key) [
  | None ↦ unchanged
  | Some new ↦ λ is. makes key lives (subst IsSome (sym is) refl)
]) refl
  where
    old_value : change_of changes key ≡ None → value_at block key ≡ changed_values changes block key
    old_value is = sym (ap (λ change. changed_value change (value_at block key)) is)

    no_value : change_of changes key ≡ None → value_at block key ≡ None → value_at made key ≡ changed_values changes block key
    no_value is had = (elim (value_at made key) as (λ o. value_at made key ≡ o → value_at made key ≡ changed_values changes block key) [
      | None ↦ λ has. has ∙ sym had ∙ old_value is
      | Some value ↦ λ has. (part.right key (subst IsSome (sym has) refl)).1
    ]) refl

    unchanged : change_of changes key ≡ None → value_at made key ≡ changed_values changes block key
    unchanged is = (elim (value_at block key) as (λ o. value_at block key ≡ o → value_at made key ≡ changed_values changes block key) [
      | None ↦ no_value is
      | Some value ↦ λ had. stays key is ∙ takes key is (subst IsSome (sym had) refl) ∙ old_value is
    ]) refl
