-- The records that are made of a dump's blocks, block by block.
use Rattle.std.specs.Prelude.{slice_get, IsSome, ◌==◌, ◌&&◌, bytes_eq}
use Rattle.std.specs.List.{AllByRecursion, IsDistinct}
use Rattle.std.specs.Map.{lookup, keys_of}
use Rattle.std.specs.Option.{option_or}
use Rattle.std.proofs.Common.{◌≡◌, ◌≢◌, inl, inr, ℕ, ◌+◌, ◌<◌, ◌≤◌, Bool, true, false, cond, List, [], ◌∷◌, ◌++◌, length, Option, None, Some, refl, sym, ap, subst, ◌∙◌, arith, eqb-true, eq-eqb}
use Rattle.std.proofs.lemmas.Bool.{false_from_ne_true}
use Rattle.std.proofs.lemmas.Map.Keys.{IsDistinct-head, IsDistinct-tail}
use Rattle.std.proofs.lemmas.Option.{slice_get_within}
use Rattle.std.proofs.lemmas.Slice.Eq.{bytes_eq-Decides}
use Rattle.tmf_model.specs.Place.{block_of}
use Rattle.keyed_file.specs.declared.home.Home.{Home}
use Rattle.keyed_file.specs.Block.{IsBlock, KeyedBlock, value_at}
use Rattle.keyed_file.specs.BlockFormat.{is_at_home}
use Rattle.trail_replay.specs.declared.replay.FoundFiles.{FoundFiles}
use Rattle.volume_restore.specs.Changed.{Changes, changed_values}
use Rattle.volume_restore.specs.Restored.{HasRoomFor, WereFound}
use Rattle.volume_restore.proofs.Parts.{distinct, lives_home}
use Rattle.block_cache.proofs.Caches.{same_or_other}
use Rattle.rollforward.specs.Filled.{Records, value_of, values_of}
use Rattle.rollforward.specs.Rolled.{AreApart, AreRolled, IsRolledBlock, TellsFullBlock, TellsFullOf, entries_of}
use Rattle.volume_restore.specs.declared.fault.VolumeFault.{VolumeFault}
use Rattle.volume_restore.specs.declared.fault.VolumeFault.TheVariants.{Failed, Damaged, NoMemory}
use Rattle.rollforward.proofs.Blocks.{or_none, or_step}

-- the values of records that stand behind others
pub values-append : (xs ys : Records) (file : ℕ) (key : List ℕ) → values_of (xs ++ ys) file key ≡ option_or (values_of ys file key) (values_of xs file key)
values-append [] ys file key = sym (or_none (values_of ys file key))
values-append (x ∷ xs) ys file key =
    ap (λ (o : Option (List ℕ)). option_or o (value_of x file key)) (values-append xs ys file key) ∙ or_step (values_of ys file key) (values_of xs file key) (value_of x file key)

none_or : (a b : Option (List ℕ)) → a ≡ None → option_or a b ≡ b
none_or a b is = ap (λ (o : Option (List ℕ)). option_or o b) is

or_two : (a b : Option (List ℕ)) → b ≡ None → option_or a b ≡ a
or_two a b is = ap (option_or a) is ∙ or_none a

-- what one of the records of a file gives to a key
own_value : (file : ℕ) (e : List ℕ × List ℕ) (key : List ℕ) → value_of (file, e.0, e.1) file key ≡ cond (bytes_eq key e.0) (Some e.1) None
own_value file e key = rw (eq-eqb file file refl) refl

absent : {X : Type 0} (key : List ℕ) (es : List (List ℕ × X)) → AllByRecursion (λ y. bytes_eq key y ≡ false) (keys_of es) → lookup (bytes_eq key) es ≡ None
absent key [] all = refl
absent key (e ∷ es) all = rw all.0 (absent key es all.1)

-- the values of the records of a block of a file: no two have one key
pub values-entries : (file : ℕ) (records : List (List ℕ × List ℕ)) (key : List ℕ) → IsDistinct bytes_eq (keys_of records) → values_of (entries_of file records) file key ≡ lookup (bytes_eq key) records
values-entries file [] key apart = refl
values-entries file (e ∷ rest) key apart =
    ap (λ (o : Option (List ℕ)). option_or o (value_of (file, e.0, e.1) file key)) (values-entries file rest key (IsDistinct-tail bytes_eq e.0 (keys_of rest) apart)) ∙ ap (option_or (lookup (bytes_eq key) rest)) (own_value file e key)
    ∙ (elim (bytes_eq key e.0) as (λ b. bytes_eq key e.0 ≡ b → option_or (lookup (bytes_eq key) rest) (cond b (Some e.1) None) ≡ cond b (Some e.1) (lookup (bytes_eq key) rest)) [
      | true ↦ λ same. none_or (lookup (bytes_eq key) rest) (Some e.1) (ap (λ (k : List ℕ). lookup (bytes_eq k) rest) ((bytes_eq-Decides key e.0).0 same) ∙ absent e.0 rest (IsDistinct-head bytes_eq e.0 (keys_of rest) apart))
      | false ↦ λ other. or_none (lookup (bytes_eq key) rest)
    ]) refl

-- they give nothing to a key of another file
entries-other : (f file : ℕ) (records : List (List ℕ × List ℕ)) (key : List ℕ) → f == file ≡ false → values_of (entries_of f records) file key ≡ None
entries-other f file [] key other = refl
entries-other f file (e ∷ rest) key other = none_or (values_of (entries_of f rest) file key) (value_of (f, e.0, e.1) file key) (entries-other f file rest key other) ∙ ap (λ (b : Bool). cond (b && bytes_eq key e.0) (Some e.1) None) other

-- The records so far: of the first places each key has its value, and of the others none has one.
pub record AreRolledTo (homes : List Home) (blocks : List KeyedBlock) (files : FoundFiles) (index : ℕ) (records : Records) : Type 0 where
  pub values : (n : ℕ) (home : Home) (block : KeyedBlock) (found : Changes) (key : List ℕ) → n < index → slice_get homes n ≡ Some home → slice_get blocks n ≡ Some block
      → WereFound files home.file found → block_of key home.blocks ≡ home.number → values_of records home.file key ≡ changed_values found block key
  pub none : (n : ℕ) (home : Home) (key : List ℕ) → index ≤ n → slice_get homes n ≡ Some home → block_of key home.blocks ≡ home.number → values_of records home.file key ≡ None
  pub room : (n : ℕ) (home : Home) (block : KeyedBlock) → n < index → slice_get homes n ≡ Some home → slice_get blocks n ≡ Some block → HasRoomFor files home block

pub rolled_none : (homes : List Home) (blocks : List KeyedBlock) (files : FoundFiles) → AreRolledTo homes blocks files 0 []
rolled_none homes blocks files = record {
  values = λ n home block found key below at is was lives. absurd (omega (arith, below));
  none = λ n home key above at lives. refl;
  room = λ n home block below at is. absurd (omega (arith, below));
}

some_is : {X : Type 0} (a b : X) → Some a ≡ Some b → a ≡ b
some_is a b e = cc

no_some : (o : Option (List ℕ)) → (IsSome o → ⊥) → o ≡ None
no_some None empty = refl
no_some (Some x) empty = absurd (empty refl)

module _ (homes : List Home) (blocks : List KeyedBlock) (files : FoundFiles) (index : ℕ) (records : Records) (home : Home) (block made : KeyedBlock) (apart : AreApart homes) (at : slice_get homes index ≡ Some home)
    (is : slice_get blocks index ≡ Some block) (valid : IsBlock made) (own : is_at_home (Some home) made ≡ true) where
  -- the records of a block give a key of another place nothing
  away : (n : ℕ) (other : Home) (key : List ℕ) → n ≢ index → slice_get homes n ≡ Some other → block_of key other.blocks ≡ other.number → values_of (entries_of home.file made.records) other.file key ≡ None
  away n other key elsewhere there lives = elim (same_or_other home.file other.file) [
    | inl same ↦
        let pair = apart index n home other at there same in
        subst (λ (f : ℕ). values_of (entries_of home.file made.records) f key ≡ None) same
        (values-entries home.file made.records key (distinct made.records valid.rising)
        ∙ no_some (value_at made key) (λ some. elsewhere (sym (pair.1 (sym (lives_home home made key own some) ∙ ap (block_of key) pair.0 ∙ lives)))))
    | inr differs ↦ entries-other home.file other.file made.records key (false_from_ne_true (home.file == other.file) (λ e. differs (eqb-true home.file other.file e)))
  ]

  -- the records of one block more
  pub rolled_more : IsRolledBlock files home block made → HasRoomFor files home block → AreRolledTo homes blocks files index records → AreRolledTo homes blocks files (index + 1) (records ++ entries_of home.file made.records)
  rolled_more rolled room was = record {
    values = λ n other held found key below there stands found_is lives. elim (same_or_other n index) [
      | inl e ↦
          let same : home ≡ other = some_is home other (sym at ∙ ap (slice_get homes) (sym e) ∙ there) in
          let same_block : block ≡ held = some_is block held (sym is ∙ ap (slice_get blocks) (sym e) ∙ stands) in
          subst (λ (h : Home). WereFound files h.file found → block_of key h.blocks ≡ h.number → values_of (records ++ entries_of home.file made.records) h.file key ≡ changed_values found held key) same
          (subst (λ (b : KeyedBlock). WereFound files home.file found → block_of key home.blocks ≡ home.number → values_of (records ++ entries_of home.file made.records) home.file key ≡ changed_values found b key) same_block
          (λ found_here here. values-append records (entries_of home.file made.records) home.file key
          ∙ or_two (values_of (entries_of home.file made.records) home.file key) (values_of records home.file key) (was.none index home key (omega arith) at here)
          ∙ values-entries home.file made.records key (distinct made.records valid.rising) ∙ rolled found key found_here here))
          found_is lives
      | inr elsewhere ↦ values-append records (entries_of home.file made.records) other.file key
          ∙ none_or (values_of (entries_of home.file made.records) other.file key) (values_of records other.file key) (away n other key elsewhere there lives)
          ∙ was.values n other held found key (omega (arith, below, elsewhere)) there stands found_is lives
    ];
    none = λ n other key above there lives.
        values-append records (entries_of home.file made.records) other.file key
        ∙ none_or (values_of (entries_of home.file made.records) other.file key) (values_of records other.file key) (away n other key (λ e. omega (arith, e, above)) there lives)
        ∙ was.none n other key (omega (arith, above)) there lives;
    room = λ n other held below there stands. elim (same_or_other n index) [
      | inl e ↦
          let same : home ≡ other = some_is home other (sym at ∙ ap (slice_get homes) (sym e) ∙ there) in
          let same_block : block ≡ held = some_is block held (sym is ∙ ap (slice_get blocks) (sym e) ∙ stands) in
          subst (λ (h : Home). HasRoomFor files h held) same (subst (λ (b : KeyedBlock). HasRoomFor files home b) same_block room)
      | inr elsewhere ↦ was.room n other held (omega (arith, below, elsewhere)) there stands
    ];
  }

pub rolled_all : (homes : List Home) (blocks : List KeyedBlock) (files : FoundFiles) (index : ℕ) (records : Records) → length homes ≤ index → AreRolledTo homes blocks files index records → AreRolled homes blocks files records
rolled_all homes blocks files index records all was = record {
  values = λ n home block found key at is. was.values n home block found key (omega (arith, slice_get_within homes n home at, all)) at is;
  room = λ n home block at is. was.room n home block (omega (arith, slice_get_within homes n home at, all)) at is;
}

-- the first block that would hold too much, where those before have room
pub full-first : (homes : List Home) (blocks : List KeyedBlock) (files : FoundFiles) (index : ℕ) (records : Records) (home : Home) (block : KeyedBlock) (e : VolumeFault) → slice_get homes index ≡ Some home → slice_get blocks index ≡ Some block
    → AreRolledTo homes blocks files index records → TellsFullBlock files home block e → TellsFullOf homes blocks files e
full-first homes blocks files index records home block Failed at is was tells = absurd tells
full-first homes blocks files index records home block (Damaged damage) at is was tells = record { index = index; home = home; block = block; place = at; is = is; here = tells; before = was.room }
full-first homes blocks files index records home block NoMemory at is was tells = tt
