-- A block that is filled record by record.
use Rattle.std.proofs.Common.{◌≡◌, ◌⊎◌, inl, inr, ℕ, ◌≤◌, Bool, true, false, cond, List, [], ◌∷◌, length, Option, Some, None, refl, sym, ap, subst, ◌∙◌, arith}
use Rattle.std.specs.Prelude.{◌==◌, ◌&&◌, IsSome, is_some, bytes_eq}
use Rattle.std.specs.List.{AllByRecursion}
use Rattle.std.specs.Map.{keys_of, lookup}
use Rattle.std.specs.Option.{option_or}
use Rattle.std.proofs.lemmas.Bool.{eq-eqb}
use Rattle.std.proofs.lemmas.Bool.Decides.{nat_tests}
use Rattle.std.proofs.lemmas.Cmp.{nat_list_eq_equiv}
use Rattle.std.proofs.lemmas.List.Elements.{All-cons}
use Rattle.std.proofs.lemmas.Map.Entries.{length-keys_of}
use Rattle.std.proofs.lemmas.Map.Keys.{IsDistinct-cons}
use Rattle.std.proofs.lemmas.Map.Views.{All-keys_from_lookup}
use Rattle.std.proofs.lemmas.Slice.Eq.{bytes_eq-Decides}
use Rattle.tmf_model.specs.Place.{block_of}
use Rattle.keyed_file.specs.declared.home.Home.{Home}
use Rattle.keyed_file.specs.Block.{CanTake, IsBlock, KeyedBlock, value_at}
use Rattle.keyed_file.specs.BlockFormat.{is_at_home}
use Rattle.volume_restore.specs.Changed.{HasRoomIn}
use Rattle.volume_restore.proofs.Parts.{distinct, part_home}
use Rattle.rollforward.specs.Filled.{Records, value_of, values_of}

-- the first that is there of two is that of the second, where the first is none
pub or_step : (a b c : Option (List ℕ)) → option_or (option_or a b) c ≡ option_or a (option_or b c)
or_step None b c = refl
or_step (Some x) b c = refl

pub or_none : (a : Option (List ℕ)) → option_or a None ≡ a
or_none None = refl
or_none (Some x) = refl

some_or : (a b : Option (List ℕ)) → IsSome a → IsSome (option_or a b)
some_or None b some = absurd (cc)
some_or (Some x) b some = refl

or_some : (a b : Option (List ℕ)) → IsSome b → IsSome (option_or a b)
or_some None b some = some
or_some (Some x) b some = refl

-- what a record gives to its own key, and to others
value_own : (entry : ℕ × List ℕ × List ℕ) (file : ℕ) (key : List ℕ) → entry.0 ≡ file → bytes_eq key entry.1 ≡ true → value_of entry file key ≡ Some entry.2
value_own entry file key is same = let own : entry.0 == file ≡ true = eq-eqb entry.0 file is in rw (own, same) refl

value_away : (entry : ℕ × List ℕ × List ℕ) (file : ℕ) (key : List ℕ) → bytes_eq key entry.1 ≡ false → value_of entry file key ≡ None
value_away entry file key apart = ap (λ (b : Bool). cond b (Some entry.2) None) (and_false (entry.0 == file) (bytes_eq key entry.1) apart)
  where
    and_false : (a b : Bool) → b ≡ false → a && b ≡ false
    and_false true b e = e
    and_false false b e = refl

value_other : (entry : ℕ × List ℕ × List ℕ) (file : ℕ) (key : List ℕ) → (entry.0 == file ≡ false) → value_of entry file key ≡ None
value_other entry file key other = ap (λ (b : Bool). cond (b && bytes_eq key entry.1) (Some entry.2) None) other

-- A block under way: each of its keys lives in it; and with the values of the records that are left its keys have those of all of them.
pub record IsFillingFrom (home : Home) (all rest : Records) (block : KeyedBlock) : Type 0 where
  pub valid : IsBlock block
  pub file : block.file ≡ home.file
  pub number : block.number ≡ home.number
  pub lives : (key : List ℕ) → IsSome (value_at block key) → block_of key home.blocks ≡ home.number
  pub values : (key : List ℕ) → block_of key home.blocks ≡ home.number → option_or (values_of rest home.file key) (value_at block key) ≡ values_of all home.file key

pub filling-none : (home : Home) (all : Records) (block : KeyedBlock) → IsBlock block → block ≡ record { file = home.file; number = home.number; position = 0; records = [] } → IsFillingFrom home all all block
filling-none home all block valid is = record {
  valid = valid;
  file = ap (λ (b : KeyedBlock). b.file) is;
  number = ap (λ (b : KeyedBlock). b.number) is;
  lives = λ key some. absurd (no_key key (subst (λ (b : KeyedBlock). IsSome (value_at b key)) is some));
  values = λ key lives. ap (λ (b : KeyedBlock). option_or (values_of all home.file key) (value_at b key)) is ∙ or_none (values_of all home.file key);
}
  where
    no_key : (key : List ℕ) → IsSome (value_at (record { file = home.file; number = home.number; position = 0; records = [] }) key) → ⊥
    no_key key some = cc

-- a record that does not live in the block is passed over
pub filling-pass : (home : Home) (all rest : Records) (entry : ℕ × List ℕ × List ℕ) (block : KeyedBlock) → ((entry.0 == home.file ≡ false) ⊎ (block_of entry.1 home.blocks ≡ home.number → ⊥))
    → IsFillingFrom home all (entry ∷ rest) block → IsFillingFrom home all rest block
filling-pass home all rest entry block away is = record {
  valid = is.valid;
  file = is.file;
  number = is.number;
  lives = is.lives;
  values = λ key lives.
      sym (ap (λ (o : Option (List ℕ)). option_or o (value_at block key)) (or_none_at (values_of rest home.file key) (value_of entry home.file key) (none key lives away))) ∙ is.values key lives;
}
  where
    or_none_at : (a b : Option (List ℕ)) → b ≡ None → option_or a b ≡ a
    or_none_at a b e = ap (option_or a) e ∙ or_none a

    none : (key : List ℕ) → block_of key home.blocks ≡ home.number → ((entry.0 == home.file ≡ false) ⊎ (block_of entry.1 home.blocks ≡ home.number → ⊥)) → value_of entry home.file key ≡ None
    none key lives (inl other) = value_other entry home.file key other
    none key lives (inr elsewhere) = (elim (bytes_eq key entry.1) as (λ b. bytes_eq key entry.1 ≡ b → value_of entry home.file key ≡ None) [
      | true ↦ λ same. absurd (elsewhere (ap (λ (k : List ℕ). block_of k home.blocks) (sym ((bytes_eq-Decides key entry.1).0 same)) ∙ lives))
      | false ↦ λ apart. value_away entry home.file key apart
    ]) refl

-- one that lives in it is set
pub filling-set : (home : Home) (all rest : Records) (entry : ℕ × List ℕ × List ℕ) (old new : KeyedBlock) → entry.0 ≡ home.file → block_of entry.1 home.blocks ≡ home.number
    → IsBlock new → new.file ≡ old.file → new.number ≡ old.number → ((at : List ℕ) → value_at new at ≡ cond (bytes_eq at entry.1) (Some entry.2) (value_at old at))
    → IsFillingFrom home all (entry ∷ rest) old → IsFillingFrom home all rest new
filling-set home all rest entry old new own lives valid file number content is = record {
  valid = valid;
  file = file ∙ is.file;
  number = number ∙ is.number;
  lives = λ key some. (elim (bytes_eq key entry.1) as (λ b. bytes_eq key entry.1 ≡ b → value_at new key ≡ cond b (Some entry.2) (value_at old key) → block_of key home.blocks ≡ home.number) [
    | true ↦ λ same _. ap (λ (k : List ℕ). block_of k home.blocks) ((bytes_eq-Decides key entry.1).0 same) ∙ lives
    | false ↦ λ _ e. is.lives key (subst IsSome e some)
  ]) refl (content key);
  values = λ key here.
      ap (option_or (values_of rest home.file key)) (given key) ∙ sym (or_step (values_of rest home.file key) (value_of entry home.file key) (value_at old key)) ∙ is.values key here;
}
  where
    given : (key : List ℕ) → value_at new key ≡ option_or (value_of entry home.file key) (value_at old key)
    given key = (elim (bytes_eq key entry.1) as (λ b. bytes_eq key entry.1 ≡ b → value_at new key ≡ cond b (Some entry.2) (value_at old key) → value_at new key ≡ option_or (value_of entry home.file key) (value_at old key)) [
      | true ↦ λ same e. e ∙ sym (ap (λ (o : Option (List ℕ)). option_or o (value_at old key)) (value_own entry home.file key own same))
      | false ↦ λ apart e. e ∙ sym (ap (λ (o : Option (List ℕ)). option_or o (value_at old key)) (value_away entry home.file key apart))
    ]) refl (content key)

pub not-own : (a b : ℕ) → (a ≡ b → ⊥) → a == b ≡ false
not-own a b apart = grind (arith, nat_tests)

absent : (key : List ℕ) (es : List (List ℕ × List ℕ)) → is_some (lookup (bytes_eq key) es) ≡ false → AllByRecursion (λ y. bytes_eq key y ≡ false) (keys_of es)
absent key [] none = tt
absent key (e ∷ es) none = (elim (bytes_eq key e.0) as (λ b. bytes_eq key e.0 ≡ b → is_some (cond b (Some e.1) (lookup (bytes_eq key) es)) ≡ false → AllByRecursion (λ y. bytes_eq key y ≡ false) (keys_of (e ∷ es))) [
  | true ↦ λ _ is. absurd (cc)
  | false ↦ λ apart rest. (apart, absent key es rest)
]) refl none

-- a block whose keys have room has room for one more of them
pub can-take : (home : Home) (all rest : Records) (entry : ℕ × List ℕ × List ℕ) (block : KeyedBlock) → entry.0 ≡ home.file → block_of entry.1 home.blocks ≡ home.number
    → HasRoomIn home.blocks home.number (values_of all home.file) → IsFillingFrom home all (entry ∷ rest) block → CanTake block.records entry.1 (Some entry.2)
can-take home all rest entry block own lives room is = (elim (is_some (value_at block entry.1)) as (λ b. is_some (value_at block entry.1) ≡ b → CanTake block.records entry.1 (Some entry.2)) [
  | true ↦ λ there. inl there
  | false ↦ λ none.
      let Fits : List ℕ → Type 0 = λ k. (block_of k home.blocks ≡ home.number) × IsSome (values_of all home.file k) in
      let few : length (entry.1 ∷ keys_of block.records) ≤ 62 = room (entry.1 ∷ keys_of block.records) (record {
        distinct = IsDistinct-cons bytes_eq entry.1 (keys_of block.records) (absent entry.1 block.records none) (distinct block.records is.valid.rising);
        valued = All-cons Fits entry.1 (keys_of block.records) (lives, own_value)
            (All-keys_from_lookup nat_list_eq_equiv Fits block.records (λ k there. (is.lives k there, subst IsSome (is.values k (is.lives k there)) (or_some (values_of (entry ∷ rest) home.file k) (value_at block k) there))));
      }) in
      inr (omega (arith, few, length-keys_of block.records))
]) refl
  where
    own_value : IsSome (values_of all home.file entry.1)
    own_value =
        let given : IsSome (value_of entry home.file entry.1) = subst IsSome (sym (value_own entry home.file entry.1 own (nat_list_eq_equiv.refl entry.1))) refl in
        subst IsSome (is.values entry.1 lives) (some_or (values_of (entry ∷ rest) home.file entry.1) (value_at block entry.1) (or_some (values_of rest home.file entry.1) (value_of entry home.file entry.1) given))

-- a block that every record was looked at for
pub filled-block : (home : Home) (all : Records) (block : KeyedBlock) → IsFillingFrom home all [] block → (is_at_home (Some home) block ≡ true) × ((key : List ℕ) → block_of key home.blocks ≡ home.number → value_at block key ≡ values_of all home.file key)
filled-block home all block is = (part_home home (value_at block) block (record { file = is.file; number = is.number; right = λ key some. (is.lives key some, refl) }), is.values)
