-- A block that is made anew, record by record.
use Rattle.std.proofs.Common.{◌≡◌, ℕ, ◌+◌, ◌≤◌, Bool, true, false, cond, List, [], ◌∷◌, ◌++◌, length, Option, Some, refl, sym, ap, subst, ◌∙◌, arith, length-append}
use Rattle.std.specs.Prelude.{◌&&◌, ◌||◌, IsSome, is_some, bytes_eq, nat_lt, slice_get}
use Rattle.std.specs.Cmp.Lexicographic.{slice_cmp}
use Rattle.std.specs.List.{AllByRecursion, IsDistinct, list_all}
use Rattle.std.specs.List.Sorted.{IsStrictlySortedBy}
use Rattle.std.specs.Map.{lookup, keys_of}
use Rattle.std.specs.Ordering.{nat_cmp, eq_by_cmp}
use Rattle.std.proofs.lemmas.Bool.{and_parts, and_from, eq-eqb, eqb-true}
use Rattle.std.proofs.lemmas.Bool.Decides.{nat_tests}
use Rattle.std.proofs.lemmas.Cmp.{nat_list_eq_equiv}
use Rattle.std.proofs.lemmas.List.Elements.{All-cons, All-contains}
use Rattle.std.proofs.lemmas.Map.Entries.{length-keys_of, lookup_from_place}
use Rattle.std.proofs.lemmas.Map.Keys.{IsDistinct-cons, IsDistinct-from_sorted}
use Rattle.std.proofs.lemmas.Map.Steps.{length-le_from_keys}
use Rattle.std.proofs.lemmas.Map.Text.{is_eq-slice_cmp}
use Rattle.std.proofs.lemmas.Map.Views.{All-keys_from_lookup, Contains-from_any}
use Rattle.std.proofs.lemmas.Slice.Eq.{bytes_eq-Decides}
use Rattle.tmf_model.specs.Place.{block_of}
use Rattle.keyed_file.specs.declared.home.Home.{Home}
use Rattle.keyed_file.specs.Block.{IsBlock, KeyedBlock, has_room, value_at}
use Rattle.keyed_file.specs.BlockFormat.{is_at_home, is_home_file, is_home_key, is_home_number}
use Rattle.volume_restore.specs.Changed.{Changes, HasRoomIn, IsOverfull, IsPart, change_of}

-- keys that are in order as texts are distinct as bytes
pub distinct : {X : Type 0} (es : List (List ℕ × X)) → IsStrictlySortedBy (slice_cmp nat_cmp) (keys_of es) → IsDistinct bytes_eq (keys_of es)
distinct es rising =
    let same : eq_by_cmp (slice_cmp nat_cmp) ≡ bytes_eq = λ i x y. is_eq-slice_cmp x y i in
    subst (λ (e : List ℕ → List ℕ → Bool). IsDistinct e (keys_of es)) same (IsDistinct-from_sorted (slice_cmp nat_cmp) (keys_of es) rising)

-- each record has its key's value
pub own_values : (block : KeyedBlock) → IsBlock block → (n : ℕ) (e : List ℕ × List ℕ) → slice_get block.records n ≡ Some e → value_at block e.0 ≡ Some e.1
own_values block is n e at = lookup_from_place nat_list_eq_equiv block.records n e.0 e.1 (distinct block.records is.rising) at

-- the change of a key, with keys told apart as bytes
pub change_lookup : (changes : Changes) (key : List ℕ) → change_of changes key ≡ lookup (bytes_eq key) changes.entries
change_lookup changes key = λ i. lookup (λ q. is_eq-slice_cmp key q i) changes.entries

pub own_changes : (changes : Changes) → IsStrictlySortedBy (slice_cmp nat_cmp) (keys_of changes.entries) → (n : ℕ) (e : List ℕ × Option (List ℕ)) → slice_get changes.entries n ≡ Some e → change_of changes e.0 ≡ Some e.1
own_changes changes rising n e at = change_lookup changes e.0 ∙ lookup_from_place nat_list_eq_equiv changes.entries n e.0 e.1 (distinct changes.entries rising) at

absent : {X : Type 0} (key : List ℕ) (es : List (List ℕ × X)) → is_some (lookup (bytes_eq key) es) ≡ false → AllByRecursion (λ y. bytes_eq key y ≡ false) (keys_of es)
absent key [] none = tt
absent key (e ∷ es) none = (elim (bytes_eq key e.0) as (λ b. bytes_eq key e.0 ≡ b → is_some (cond b (Some e.1) (lookup (bytes_eq key) es)) ≡ false → AllByRecursion (λ y. bytes_eq key y ≡ false) (keys_of (e ∷ es))) [
  | true ↦ λ _ is. absurd (cc)
  | false ↦ λ apart rest. (apart, absent key es rest)
]) refl none

or_false : (a b : Bool) → (a || b) ≡ false → (a ≡ false) × (b ≡ false)
or_false true b e = absurd (cc)
or_false false b e = (refl, e)

-- a key that has no room has none beside 62 others
no_room : (block : KeyedBlock) (key : List ℕ) → has_room block [] key ≡ false → (is_some (value_at block key) ≡ false) × (62 ≤ length block.records)
no_room block key none =
    let parts = or_false (is_some (value_at block key)) (nat_lt (length (keys_of block.records ++ [])) 62) none in
    (parts.0, enough (length (keys_of block.records ++ [])) parts.1 (length-append (keys_of block.records) [] ∙ ap (λ (n : ℕ). n + 0) (length-keys_of block.records)))
  where
    enough : (n : ℕ) → nat_lt n 62 ≡ false → n ≡ length block.records + 0 → 62 ≤ length block.records
    enough n not_less is = grind (arith, nat_tests)

pub is_overfull : (home : Home) (values : List ℕ → Option (List ℕ)) (block : KeyedBlock) (key : List ℕ) → IsBlock block → IsPart home values block
    → has_room block [] key ≡ false → block_of key home.blocks ≡ home.number → IsSome (values key) → IsOverfull home.blocks home.number values
is_overfull home values block key is part none lives some =
    let full = no_room block key none in
    let Fits : List ℕ → Type 0 = λ k. (block_of k home.blocks ≡ home.number) × IsSome (values k) in (
      key ∷ keys_of block.records,
      record {
        distinct = IsDistinct-cons bytes_eq key (keys_of block.records) (absent key block.records full.0) (distinct block.records is.rising);
        valued = All-cons Fits key (keys_of block.records) (lives, some)
            (All-keys_from_lookup nat_list_eq_equiv Fits block.records (λ k there. ((part.right k there).0, subst IsSome (part.right k there).1 there)));
      },
      omega (arith, full.1, length-keys_of block.records),
    )

-- a key that is given its value leaves a part
pub part_given : (home : Home) (values : List ℕ → Option (List ℕ)) (old new : KeyedBlock) (key : List ℕ) (value : Option (List ℕ)) → IsPart home values old
    → ((at : List ℕ) → value_at new at ≡ cond (bytes_eq at key) value (value_at old at)) → new.file ≡ old.file → new.number ≡ old.number
    → block_of key home.blocks ≡ home.number → value ≡ values key → IsPart home values new
part_given home values old new key value part given file number lives is = record {
  file = file ∙ part.file;
  number = number ∙ part.number;
  right = λ at some. (elim (bytes_eq at key) as (λ b. bytes_eq at key ≡ b → value_at new at ≡ cond b value (value_at old at) → (block_of at home.blocks ≡ home.number) × (value_at new at ≡ values at)) [
    | true ↦ λ same e.
        let at_key : at ≡ key = (bytes_eq-Decides at key).0 same in
        (ap (λ (k : List ℕ). block_of k home.blocks) at_key ∙ lives, e ∙ is ∙ ap values (sym at_key))
    | false ↦ λ _ e.
        let there = part.right at (subst IsSome e some) in
        (there.0, e ∙ there.1)
  ]) refl (given at);
}

-- keys that live in the block make its records be at home
homes : (home : Home) (es : List (List ℕ × List ℕ)) → ((key : List ℕ) → IsSome (lookup (bytes_eq key) es) → block_of key home.blocks ≡ home.number) → list_all (λ e. is_home_key (Some home) e.0) es ≡ true
homes home [] lives = refl
homes home (e ∷ es) lives =
    and_from (is_home_key (Some home) e.0) (list_all (λ x. is_home_key (Some home) x.0) es)
    (eq-eqb (block_of e.0 home.blocks) home.number (lives e.0 (subst (λ b. IsSome (cond b (Some e.1) (lookup (bytes_eq e.0) es))) (sym (nat_list_eq_equiv.refl e.0)) refl)))
    (homes home es (λ key some. lives key (later key (bytes_eq key e.0) some)))
  where
    later : (key : List ℕ) (b : Bool) → IsSome (lookup (bytes_eq key) es) → IsSome (cond b (Some e.1) (lookup (bytes_eq key) es))
    later key true some = refl
    later key false some = some

pub part_home : (home : Home) (values : List ℕ → Option (List ℕ)) (block : KeyedBlock) → IsPart home values block → is_at_home (Some home) block ≡ true
part_home home values block part =
    and_from (is_home_file (Some home) block.file) (is_home_number (Some home) block.number && list_all (λ e. is_home_key (Some home) e.0) block.records) (eq-eqb block.file home.file part.file)
    (and_from (is_home_number (Some home) block.number) (list_all (λ e. is_home_key (Some home) e.0) block.records) (eq-eqb block.number home.number part.number)
    (homes home block.records (λ key some. (part.right key some).0)))

-- a block at home has only keys that live in it
in_home : (home : Home) (key : List ℕ) (es : List (List ℕ × List ℕ)) → list_all (λ e. is_home_key (Some home) e.0) es ≡ true → IsSome (lookup (bytes_eq key) es) → block_of key home.blocks ≡ home.number
in_home home key [] all some = absurd (cc)
in_home home key (e ∷ es) all some =
    let parts = and_parts (is_home_key (Some home) e.0) (list_all (λ x. is_home_key (Some home) x.0) es) all in
    (elim (bytes_eq key e.0) as (λ b. bytes_eq key e.0 ≡ b → IsSome (cond b (Some e.1) (lookup (bytes_eq key) es)) → block_of key home.blocks ≡ home.number) [
      | true ↦ λ same _. ap (λ (k : List ℕ). block_of k home.blocks) ((bytes_eq-Decides key e.0).0 same) ∙ eqb-true (block_of e.0 home.blocks) home.number parts.0
      | false ↦ λ _ rest. in_home home key es parts.1 rest
    ]) refl some

pub lives_home : (home : Home) (block : KeyedBlock) (key : List ℕ) → is_at_home (Some home) block ≡ true → IsSome (value_at block key) → block_of key home.blocks ≡ home.number
lives_home home block key at some =
    let file = and_parts (is_home_file (Some home) block.file) (is_home_number (Some home) block.number && list_all (λ e. is_home_key (Some home) e.0) block.records) at in
    let number = and_parts (is_home_number (Some home) block.number) (list_all (λ e. is_home_key (Some home) e.0) block.records) file.1 in
    in_home home key block.records number.1 some

-- a block that has each value of its keys has room for them
pub room_of : (home : Home) (values : List ℕ → Option (List ℕ)) (block : KeyedBlock) → IsBlock block → ((key : List ℕ) → block_of key home.blocks ≡ home.number → value_at block key ≡ values key) → HasRoomIn home.blocks home.number values
room_of home values block is content keys valued =
    let Fits : List ℕ → Type 0 = λ k. (block_of k home.blocks ≡ home.number) × IsSome (values k) in
    let few : length keys ≤ length block.records =
    length-le_from_keys nat_list_eq_equiv keys block.records valued.distinct (λ q any.
    let fits = All-contains Fits keys q valued.valued (Contains-from_any (λ x y e. (bytes_eq-Decides x y).0 e) q keys any) in
    subst IsSome (sym (content q fits.0)) fits.1) in
    omega (arith, few, is.few)
