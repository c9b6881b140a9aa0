-- Which keys can be set in a block.
use Rattle.std.proofs.Common.{◌≡◌, ℕ, ◌<◌, ◌≤◌, Bool, true, false, cond, not, ◌||◌, ◌⊎◌, List, [], ◌∷◌, length, Some, refl, sym, ap, subst, inl, inr, arith, length-append}
use Rattle.std.specs.Prelude.{is_some, bytes_eq, nat_lt}
use Rattle.std.specs.List.{list_any}
use Rattle.std.specs.Map.{lookup, keys_of}
use Rattle.std.proofs.lemmas.Bool.{ltb-true}
use Rattle.std.proofs.lemmas.List.{append-nil}
use Rattle.std.proofs.lemmas.Map.Entries.{length-keys_of}
use Rattle.std.proofs.lemmas.Slice.Eq.{bytes_eq-Decides}
use Rattle.keyed_file.specs.Block.{KeyedBlock, IsBlock, CanTake, has_key, has_room, new_keys, taken_keys}

-- a key that has no record is one of the new ones
new_key : (records : List (List ℕ × List ℕ)) (keys : List (List ℕ)) (key : List ℕ) → list_any (bytes_eq key) keys ≡ true → is_some (lookup (bytes_eq key) records) ≡ false → 1 ≤ length (new_keys records keys)
new_key records [] key among absent = absurd cc
new_key records (k ∷ ks) key among absent =
    elim (bytes_eq key k) as (λ b. bytes_eq key k ≡ b → (b || list_any (bytes_eq key) ks) ≡ true → 1 ≤ length (new_keys records (k ∷ ks))) [
      | true ↦ λ same _.
          let is : key ≡ k = (bytes_eq-Decides key k).0 same in
          let fresh : is_some (lookup (bytes_eq k) records) ≡ false = subst (λ (x : List ℕ). is_some (lookup (bytes_eq x) records) ≡ false) is absent in
          subst (λ (b : Bool). 1 ≤ length (cond (not b) (k ∷ new_keys records ks) (new_keys records ks))) (sym fresh) (omega arith)
      | false ↦ λ _ rest.
          let more = new_key records ks key rest absent in
          elim (not (is_some (lookup (bytes_eq k) records))) as (λ b. 1 ≤ length (cond b (k ∷ new_keys records ks) (new_keys records ks))) [ true ↦ omega arith | false ↦ more ]
    ] refl among

-- where at most 62 keys are present or kept, a key that has room can be set
pub can_take : (block : KeyedBlock) (kept : List (List ℕ)) (key value : List ℕ) → length (taken_keys block kept) ≤ 62 → has_room block kept key ≡ true → CanTake block.records key (Some value)
can_take block kept key value few room =
    let records = block.records in
    let long = length-append (keys_of records) (new_keys records kept) in
    elim (has_key block key) as (λ b. has_key block key ≡ b → (b || (list_any (bytes_eq key) kept || nat_lt (length (taken_keys block kept)) 62)) ≡ true → (has_key block key ≡ true) ⊎ (length records < 62)) [
      | true ↦ λ there _. inl there
      | false ↦ λ absent rest.
          elim (list_any (bytes_eq key) kept) as (λ b. list_any (bytes_eq key) kept ≡ b → (b || nat_lt (length (taken_keys block kept)) 62) ≡ true → (has_key block key ≡ true) ⊎ (length records < 62)) [
            | true ↦ λ among _. inr (omega (arith, few, new_key records kept key among absent, long, length-keys_of records))
            | false ↦ λ _ less. inr (omega (arith, ltb-true (length (taken_keys block kept)) 62 less, long, length-keys_of records))
          ] refl rest
    ] refl room

-- where none is kept
pub can_take_alone : (block : KeyedBlock) (key value : List ℕ) → IsBlock block → has_room block [] key ≡ true → CanTake block.records key (Some value)
can_take_alone block key value is room =
    can_take block [] key value (omega (arith, is.few, ap length (append-nil (keys_of block.records)), length-keys_of block.records)) room
