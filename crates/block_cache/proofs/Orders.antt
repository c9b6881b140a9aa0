-- The order of use keeps its frames.
use Rattle.std.proofs.Common.{◌≡◌, ℕ, zero, suc, ◌-◌, ◌<◌, Bool, true, false, cond, List, [], ◌∷◌, length, get_or, Option, Some, None, refl, sym, ap, ◌∙◌, arith, eqb-true}
use mathlib.Core.List.{reverse_aux}
use Rattle.std.specs.Prelude.{nat_eq, reverse, slice_get, ◌||◌}
use Rattle.std.specs.List.{list_any, find}
use Rattle.std.specs.Option.{option_map, option_map_or}
use Rattle.std.specs.Map.{keys_of, lookup_entry, remove_entry}
use Rattle.std.proofs.lemmas.List.{get_or-reverse, length-reverse, reverse-reverse}
use Rattle.std.proofs.lemmas.Map.Entries.{length-keys_of}
use Rattle.std.proofs.lemmas.Option.{get_or_from_slice_get, slice_get-get_or, slice_get_within}
use Rattle.lru.specs.LruCache.{promoted}
use Rattle.block_cache.specs.Cache.{remove_first, used_last}

swap_or : (a b c : Bool) → a || (b || c) ≡ b || (a || c)
swap_or true true c = refl
swap_or true false c = refl
swap_or false true c = refl
swap_or false false c = refl

module _ {V : Type 0} (n : ℕ) (test : ℕ → Bool) where
  -- the entry that was found, and what is left without it, are all that there was
  pub split_entry : (es : List (ℕ × V)) (e : ℕ × V) → lookup_entry test es ≡ Some e → nat_eq n e.0 || list_any (nat_eq n) (keys_of (remove_entry test es)) ≡ list_any (nat_eq n) (keys_of es)
  split_entry [] e found = cc
  split_entry (f ∷ es) e found = (elim (test f.0) as (λ y. test f.0 ≡ y → nat_eq n e.0 || list_any (nat_eq n) (keys_of (remove_entry test (f ∷ es))) ≡ list_any (nat_eq n) (keys_of (f ∷ es))) [
    | true ↦ λ t. let there = rw t at found in let same : f ≡ e = cc in rw t (ap (λ (g : ℕ × V). nat_eq n g.0 || list_any (nat_eq n) (keys_of es)) (sym same))
    | false ↦ λ t. rw t (swap_or (nat_eq n e.0) (nat_eq n f.0) (list_any (nat_eq n) (keys_of (remove_entry test es))) ∙ ap (λ (b : Bool). nat_eq n f.0 || b) (split_entry es e (rw t at found)))
  ]) refl

  among : (es : List (ℕ × V)) (o : Option (ℕ × V)) → lookup_entry test es ≡ o → list_any (nat_eq n) (keys_of (option_map_or (λ e. e ∷ remove_entry test es) o es)) ≡ list_any (nat_eq n) (keys_of es)
  among es None found = refl
  among es (Some e) found = split_entry es e found

  pub any_promoted : (es : List (ℕ × V)) → list_any (nat_eq n) (keys_of (promoted test es)) ≡ list_any (nat_eq n) (keys_of es)
  any_promoted es = among es (lookup_entry test es) refl

or_swap : (a b c : Bool) → a || (b || c) ≡ (b || a) || c
or_swap true true c = refl
or_swap true false c = refl
or_swap false true c = refl
or_swap false false c = refl

reversed_onto : {V : Type 0} (n : ℕ) (es acc : List (ℕ × V)) → list_any (nat_eq n) (keys_of (reverse_aux es acc)) ≡ list_any (nat_eq n) (keys_of es) || list_any (nat_eq n) (keys_of acc)
reversed_onto n [] acc = refl
reversed_onto n (e ∷ es) acc = reversed_onto n es (e ∷ acc) ∙ or_swap (list_any (nat_eq n) (keys_of es)) (nat_eq n e.0) (list_any (nat_eq n) (keys_of acc))

or_false : (a : Bool) → a || false ≡ a
or_false true = refl
or_false false = refl

-- the other way round they are the same
pub any_reversed : {V : Type 0} (n : ℕ) (es : List (ℕ × V)) → list_any (nat_eq n) (keys_of (reverse es)) ≡ list_any (nat_eq n) (keys_of es)
any_reversed n es = reversed_onto n es [] ∙ or_false (list_any (nat_eq n) (keys_of es))

-- the first key that passes is the key of the first entry whose key passes
pub found_key : {V : Type 0} (test : ℕ → Bool) (es : List (ℕ × V)) → option_map (λ e. e.0) (find (λ e. test e.0) es) ≡ find test (keys_of es)
found_key test [] = refl
found_key test (e ∷ es) = elim (test e.0) as (λ b. option_map (λ e. e.0) (cond b (Some e) (find (λ e. test e.0) es)) ≡ cond b (Some e.0) (find test (keys_of es))) [
  | true ↦ refl
  | false ↦ found_key test es
]

keys_onto : {V : Type 0} (es acc : List (ℕ × V)) → keys_of (reverse_aux es acc) ≡ reverse_aux (keys_of es) (keys_of acc)
keys_onto [] acc = refl
keys_onto (e ∷ es) acc = keys_onto es (e ∷ acc)

pub keys-reverse : {V : Type 0} (es : List (ℕ × V)) → keys_of (reverse es) ≡ reverse (keys_of es)
keys-reverse es = keys_onto es []

module _ {V : Type 0} (k : ℕ) where
  keys_removed : (es : List (ℕ × V)) → keys_of (remove_entry (nat_eq k) es) ≡ remove_first k (keys_of es)
  keys_removed [] = refl
  keys_removed (e ∷ es) = (elim (nat_eq k e.0) as (λ b. nat_eq k e.0 ≡ b → keys_of (remove_entry (nat_eq k) (e ∷ es)) ≡ remove_first k (keys_of (e ∷ es))) [
    | true ↦ λ t. rw t refl
    | false ↦ λ t. rw t (ap (λ (l : List ℕ). e.0 ∷ l) (keys_removed es))
  ]) refl

  found_first : (es : List (ℕ × V)) → list_any (nat_eq k) (keys_of es) ≡ true → (e : ℕ × V) × (lookup_entry (nat_eq k) es ≡ Some e) × (e.0 ≡ k)
  found_first [] any = absurd (false_true any)
    where
      false_true : false ≡ true → ⊥
      false_true e = cc
  found_first (e ∷ es) any = (elim (nat_eq k e.0) as (λ b. nat_eq k e.0 ≡ b → (x : ℕ × V) × (lookup_entry (nat_eq k) (e ∷ es) ≡ Some x) × (x.0 ≡ k)) [
    | true ↦ λ t. rw t (e, refl, sym (eqb-true k e.0 t))
    | false ↦ λ t. rw t (found_first es (rw t at any))
  ]) refl

  pub keys_promoted : (es : List (ℕ × V)) → list_any (nat_eq k) (keys_of es) ≡ true → keys_of (promoted (nat_eq k) es) ≡ k ∷ remove_first k (keys_of es)
  keys_promoted es any =
      let found = found_first es any in
      ap (λ (o : Option (ℕ × V)). keys_of (option_map_or (λ e. e ∷ remove_entry (nat_eq k) es) o es)) found.1 ∙ (λ i. found.2 i ∷ keys_removed es i)

  -- what was promoted goes last in the order of use
  pub promoted_last : (es : List (ℕ × V)) → list_any (nat_eq k) (keys_of es) ≡ true → keys_of (reverse (promoted (nat_eq k) es)) ≡ used_last k (keys_of (reverse es))
  promoted_last es any =
      keys-reverse (promoted (nat_eq k) es) ∙ ap reverse (keys_promoted es any)
      ∙ ap (λ (l : List ℕ). reverse (k ∷ remove_first k l)) (sym (reverse-reverse (keys_of es)) ∙ ap reverse (sym (keys-reverse es)))

keys_get : {V : Type 0} (es : List (ℕ × V)) (i : ℕ) (d : ℕ × V) → get_or (keys_of es) i d.0 ≡ (get_or es i d).0
keys_get [] i d = refl
keys_get (e ∷ es) zero d = refl
keys_get (e ∷ es) (suc i) d = keys_get es i d

-- the last entry's key is the first one in the order of use
pub oldest_first : {V : Type 0} (es : List (ℕ × V)) (e : ℕ × V) → slice_get es (length es - 1) ≡ Some e → slice_get (keys_of (reverse es)) 0 ≡ Some e.0
oldest_first {V} es e last =
    let some : length es - 1 < length es = slice_get_within es (length es - 1) e last in
    let long : length (keys_of es) ≡ length es = length-keys_of es in
    let long_back : length (reverse (keys_of es)) ≡ length (keys_of es) = length-reverse (keys_of es) in
    let place : length (keys_of es) - 1 - 0 ≡ length es - 1 = omega (arith, long) in
    ap (λ (l : List ℕ). slice_get l 0) (keys-reverse es)
    ∙ slice_get-get_or (reverse (keys_of es)) 0 e.0 (omega (arith, long_back, long, some))
    ∙ ap Some (get_or-reverse (keys_of es) 0 e.0 (omega (arith, long, some)) ∙ ap (λ (n : ℕ). get_or (keys_of es) n e.0) place ∙ keys_get es (length es - 1) e ∙ ap (λ (x : ℕ × V). x.0) (get_or_from_slice_get es (length es - 1) e e last))
