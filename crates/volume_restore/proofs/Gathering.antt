-- Changes that are gathered block by block.
use Rattle.std.proofs.Common.{◌≡◌, ◌≢◌, ◌⊎◌, inl, inr, ℕ, ◌<◌, Bool, true, false, cond, List, ◌∷◌, length, get_or, Option, Some, None, refl, sym, ap, subst, ◌∙◌, arith}
use Rattle.std.specs.Prelude.{IsSome, bytes_eq, slice_get, slice_set}
use Rattle.std.specs.Cmp.Lexicographic.{slice_cmp}
use Rattle.std.specs.Ordering.{is_eq, nat_cmp}
use Rattle.std.proofs.lemmas.Bool.{cases_eq, cases_lt}
use Rattle.std.proofs.lemmas.List.{get_or-set_other, get_or-set_same, length-set}
use Rattle.std.proofs.lemmas.Map.Text.{is_eq-slice_cmp}
use Rattle.std.proofs.lemmas.Option.{slice_get-get_or, slice_get_past}
use Rattle.std.proofs.lemmas.Slice.Eq.{bytes_eq-Decides}
use Rattle.tmf_model.specs.Place.{block_of}
use Rattle.keyed_file.specs.Block.{KeyedBlock, value_at}
use Rattle.volume_restore.specs.Changed.{ArePartsBut, AreValued, Changes, HasRoomIn, HaveOwnKeys, IsFoundIn, IsOverfull, change_of, changed_value, changed_values}
use Rattle.volume_restore.proofs.Making.{step_left}

-- the changes of a block's keys make of it what all of its file make
pub values_as : (blocks number : ℕ) (found part : Changes) (block : KeyedBlock) → IsFoundIn found blocks number part → (key : List ℕ) → block_of key blocks ≡ number → changed_values part block key ≡ changed_values found block key
values_as blocks number found part block is key lives = ap (λ change. changed_value change (value_at block key)) (is key lives)

-- two ways to give values that agree on a block's keys give values to the same ones of them
valued_as : (blocks number : ℕ) (v w : List ℕ → Option (List ℕ)) → ((key : List ℕ) → block_of key blocks ≡ number → v key ≡ w key) → (keys : List (List ℕ)) → AreValued blocks number v keys → AreValued blocks number w keys
valued_as blocks number v w same keys are = record {
  distinct = are.distinct;
  valued = λ k d lt.
      let one = are.valued k d lt in
      (one.0, subst IsSome (same (get_or keys k d) one.0) one.1);
}

pub room_as : (blocks number : ℕ) (v w : List ℕ → Option (List ℕ)) → ((key : List ℕ) → block_of key blocks ≡ number → v key ≡ w key) → HasRoomIn blocks number v → HasRoomIn blocks number w
room_as blocks number v w same room = λ keys valued. room keys (valued_as blocks number w v (λ key lives. sym (same key lives)) keys valued)

pub overfull_as : (blocks number : ℕ) (v w : List ℕ → Option (List ℕ)) → ((key : List ℕ) → block_of key blocks ≡ number → v key ≡ w key) → IsOverfull blocks number v → IsOverfull blocks number w
overfull_as blocks number v w same over = (over.0, valued_as blocks number v w same over.0 over.1, over.2)

set_here : {X : Type 0} (xs : List X) (i : ℕ) (v : X) → i < length xs → slice_get (slice_set xs i v) i ≡ Some v
set_here xs i v lt = slice_get-get_or (slice_set xs i v) i v (omega (arith, lt, length-set xs i v)) ∙ ap Some (get_or-set_same xs i v v lt)

set_there : {X : Type 0} (xs : List X) (i : ℕ) (v : X) (j : ℕ) → j ≢ i → slice_get (slice_set xs i v) j ≡ slice_get xs j
set_there xs i v j other = elim (cases_lt j (length xs)) [
  | inl lt ↦ slice_get-get_or (slice_set xs i v) j v (omega (arith, lt, length-set xs i v)) ∙ ap Some (get_or-set_other xs i j v v other) ∙ sym (slice_get-get_or xs j v lt)
  | inr le ↦ slice_get_past (slice_set xs i v) j (omega (arith, le, length-set xs i v)) ∙ sym (slice_get_past xs j le)
]

eq-sym : (a b : List ℕ) → bytes_eq a b ≡ true → bytes_eq b a ≡ true
eq-sym a b same = let is : a ≡ b = (bytes_eq-Decides a b).0 same in (bytes_eq-Decides b a).1 (sym is)

-- one change more is taken in at its block
module _ (blocks place : ℕ) (e : List ℕ × Option (List ℕ)) (parts : List Changes) (old new : Changes) (lives : block_of e.0 blocks ≡ place) (within : place < length parts) (here : old ≡ get_or parts place old)
    (updates : (key : List ℕ) → change_of new key ≡ cond (is_eq (slice_cmp nat_cmp e.0 key)) (Some e.1) (change_of old key)) where
  away : (key : List ℕ) → bytes_eq key e.0 ≡ false → bytes_eq e.0 key ≡ false
  away key apart = (elim (bytes_eq e.0 key) as (λ b. bytes_eq e.0 key ≡ b → b ≡ false) [
    | true ↦ λ same. absurd (differs (sym (eq-sym e.0 key same) ∙ apart))
    | false ↦ λ _. refl
  ]) refl
    where
      differs : true ≡ false → ⊥
      differs is = cc

  stays_away : (key : List ℕ) → bytes_eq key e.0 ≡ false → change_of new key ≡ change_of old key
  stays_away key apart = updates key ∙ ap (λ (b : Bool). cond b (Some e.1) (change_of old key)) (is_eq-slice_cmp e.0 key ∙ away key apart)

  some_is : {X : Type 0} (a b : X) → ◌≡◌ {A = Option X} (Some a) (Some b) → a ≡ b
  some_is a b is = cc

  pub own_taken : HaveOwnKeys blocks parts → HaveOwnKeys blocks (slice_set parts place new)
  own_taken was number part at key elsewhere = elim (cases_eq number place) [
    | inl same ↦
        let part_new : part ≡ new = some_is part new (sym at ∙ ap (slice_get (slice_set parts place new)) same ∙ set_here parts place new within) in
        let had : slice_get parts number ≡ Some old = ap (slice_get parts) same ∙ slice_get-get_or parts place old within ∙ ap Some (sym here) in
        ap (λ (p : Changes). change_of p key) part_new
        ∙ (elim (bytes_eq key e.0) as (λ b. bytes_eq key e.0 ≡ b → change_of new key ≡ None) [
          | true ↦ λ eq. absurd (elsewhere (ap (λ (q : List ℕ). block_of q blocks) ((bytes_eq-Decides key e.0).0 eq) ∙ lives ∙ sym same))
          | false ↦ λ apart. stays_away key apart ∙ was number old had key elsewhere
        ]) refl
    | inr other ↦ was number part (sym (set_there parts place new number other) ∙ at) key elsewhere
  ]

  module _ (found : Changes) (left : List (List ℕ × Option (List ℕ))) (own : change_of found e.0 ≡ Some e.1) where
    taken_here : (key : List ℕ) → bytes_eq key e.0 ≡ true → change_of new key ≡ change_of found key
    taken_here key same =
        let is : key ≡ e.0 = (bytes_eq-Decides key e.0).0 same in
        updates key ∙ ap (λ (b : Bool). cond b (Some e.1) (change_of old key)) (is_eq-slice_cmp e.0 key ∙ eq-sym key e.0 same) ∙ sym own ∙ ap (change_of found) (sym is)

    pub one_taken : ArePartsBut found blocks (e ∷ left) parts → ArePartsBut found blocks left (slice_set parts place new)
    one_taken was = λ number part at key there. elim (cases_eq number place) [
      | inl same ↦
          let part_new : part ≡ new = some_is part new (sym at ∙ ap (slice_get (slice_set parts place new)) same ∙ set_here parts place new within) in
          let had : slice_get parts number ≡ Some old = ap (slice_get parts) same ∙ slice_get-get_or parts place old within ∙ ap Some (sym here) in
          step_left key e (e ∷ left) left (change_of old key ≡ change_of found key) (change_of part key ≡ change_of found key) refl
          (λ eq. ap (λ (p : Changes). change_of p key) part_new ∙ taken_here key eq)
          (λ apart so_far. ap (λ (p : Changes). change_of p key) part_new ∙ stays_away key apart ∙ so_far)
          (was number old had key there)
      | inr other ↦
          step_left key e (e ∷ left) left (change_of part key ≡ change_of found key) (change_of part key ≡ change_of found key) refl
          (λ eq. absurd (other (sym there ∙ ap (λ (q : List ℕ). block_of q blocks) ((bytes_eq-Decides key e.0).0 eq) ∙ lives)))
          (λ _ so_far. so_far)
          (was number part (sym (set_there parts place new number other) ∙ at) key there)
    ]

-- nothing was taken in yet
pub all_left : {S : Type 0} (found part : Changes) (key : List ℕ) → change_of part key ≡ None → (IsSome (change_of found key) → S) → (change_of part key ≡ change_of found key) ⊎ S
all_left {S} found part key none left = (elim (change_of found key) as (λ o. change_of found key ≡ o → (change_of part key ≡ change_of found key) ⊎ S) [
  | None ↦ λ is. inl (none ∙ sym is)
  | Some change ↦ λ is. inr (left (subst IsSome (sym is) refl))
]) refl
