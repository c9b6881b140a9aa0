-- Records that are gathered by the blocks that they live in, and where the blocks of a row of files stand.
use Rattle.std.specs.Prelude.{slice_get, IfNone, ◌==◌, ◌&&◌, bytes_eq}
use Rattle.std.specs.Option.{option_or}
use Rattle.std.proofs.Common.{zero, suc, ◌≡◌, ◌≢◌, inl, inr, ℕ, ◌+◌, ◌<◌, ◌≤◌, true, false, cond, List, [], ◌∷◌, ◌++◌, length, get_or, drop, Option, None, Some, refl, sym, ap, subst, ◌∙◌, arith, drop-cons, eqb-true, eq-eqb, length-append}
use Rattle.std.proofs.lemmas.Bool.{false_from_ne_true}
use Rattle.std.proofs.lemmas.Option.{get_or_from_slice_get, slice_get-get_or, slice_get_within}
use Rattle.std.proofs.lemmas.Slice.Eq.{bytes_eq-Decides}
use Rattle.tmf_model.specs.Place.{block_of}
use Rattle.keyed_file.specs.Dump.{blocks_before, blocks_in_all}
use Rattle.keyed_file.specs.LabelFormat.{file_row}
use Rattle.keyed_file.specs.Row.{IsRow}
use Rattle.keyed_file.specs.Volume.{blocks_of}
use Rattle.block_cache.proofs.Caches.{same_or_other}
use Rattle.rollforward.specs.Filled.{Records, value_of, values_of}
use Rattle.rollforward.specs.Gathered.{group_at, values_gathered}
use Rattle.rollforward.proofs.Blocks.{or_none, or_step}
use Rattle.rollforward.proofs.Volumes.{row_file}

-- of a file that is the first of a row, and of another one
pub of_here : (e : ℕ × ℕ) (files : List (ℕ × ℕ)) (file : ℕ) → file ≡ e.0 → blocks_of (e ∷ files) file ≡ e.1
of_here e files file is = rw (eq-eqb file e.0 is) refl

not_eqb : (a b : ℕ) → a ≢ b → a == b ≡ false
not_eqb a b other = false_from_ne_true (a == b) (λ e. other (eqb-true a b e))

pub of_there : (e : ℕ × ℕ) (files : List (ℕ × ℕ)) (file : ℕ) → file ≢ e.0 → blocks_of (e ∷ files) file ≡ blocks_of files file
of_there e files file other = rw (not_eqb file e.0 other) refl

pub before_here : (e : ℕ × ℕ) (files : List (ℕ × ℕ)) (file : ℕ) → file ≡ e.0 → blocks_before (e ∷ files) file ≡ 0
before_here e files file is = rw (eq-eqb e.0 file (sym is)) refl

pub before_there : (e : ℕ × ℕ) (files : List (ℕ × ℕ)) (file : ℕ) → file ≢ e.0 → blocks_before (e ∷ files) file ≡ e.1 + blocks_before files file
before_there e files file other = rw (not_eqb e.0 file (λ is. other (sym is))) refl

-- the blocks of a file stand among those of all
pub blocks_within : (files : List (ℕ × ℕ)) (file : ℕ) → 0 < blocks_of files file → blocks_before files file + blocks_of files file ≤ blocks_in_all files
blocks_within [] file some = absurd (omega (arith, some))
blocks_within (e ∷ files) file some = elim (same_or_other file e.0) [
  | inl is ↦ omega (arith, before_here e files file is, of_here e files file is)
  | inr other ↦
      let more = blocks_within files file (omega (arith, some, of_there e files file other)) in
      omega (arith, more, before_there e files file other, of_there e files file other)
]

-- the search of a file in a row, behind those that were passed
pub record IsPassed (files rest : List (ℕ × ℕ)) (file before : ℕ) : Type 0 where
  pub before_is : blocks_before files file ≡ before + blocks_before rest file
  pub blocks_is : blocks_of files file ≡ blocks_of rest file
  pub all_is : blocks_in_all files ≡ before + blocks_in_all rest

pub passed_none : (files : List (ℕ × ℕ)) (file : ℕ) → IsPassed files files file 0
passed_none files file = record { before_is = omega arith; blocks_is = refl; all_is = omega arith }

pub passed_more : (files rest : List (ℕ × ℕ)) (e : ℕ × ℕ) (file before : ℕ) → file ≢ e.0 → IsPassed files (e ∷ rest) file before → IsPassed files rest file (before + e.1)
passed_more files rest e file before other was = record {
  before_is = omega (arith, was.before_is, before_there e rest file other);
  blocks_is = was.blocks_is ∙ of_there e rest file other;
  all_is = omega (arith, was.all_is);
}

-- the file is found, and a block of it stands among all
pub passed_here : (files rest : List (ℕ × ℕ)) (e : ℕ × ℕ) (file before place : ℕ) → file ≡ e.0 → place < e.1 → IsPassed files (e ∷ rest) file before
    → (0 < blocks_of files file) × (blocks_of files file ≡ e.1) × (before ≡ blocks_before files file) × (before + place < blocks_in_all files)
passed_here files rest e file before place is below was =
    let blocks : blocks_of files file ≡ e.1 = was.blocks_is ∙ of_here e rest file is in
    let at = before_here e rest file is in
    (omega (arith, blocks, below), blocks, omega (arith, was.before_is, at), omega (arith, was.all_is, below))

pub passed_all : (files : List (ℕ × ℕ)) (file before : ℕ) → IsPassed files [] file before → blocks_of files file ≡ 0
passed_all files file before was = was.blocks_is

-- one record more stands behind the others
pub values-snoc : (xs : Records) (e : ℕ × List ℕ × List ℕ) (file : ℕ) (key : List ℕ) → values_of (xs ++ e ∷ []) file key ≡ option_or (value_of e file key) (values_of xs file key)
values-snoc [] e file key = sym (or_none (value_of e file key))
values-snoc (x ∷ xs) e file key =
    ap (λ (o : Option (List ℕ)). option_or o (value_of x file key)) (values-snoc xs e file key) ∙ or_step (value_of e file key) (values_of xs file key) (value_of x file key)

-- a record gives nothing to a key that it is not of
pub value-apart : (e : ℕ × List ℕ × List ℕ) (file : ℕ) (key : List ℕ) → ((file ≡ e.0) → (key ≡ e.1) → ⊥) → value_of e file key ≡ None
value-apart e file key apart = (elim (e.0 == file) as (λ b. e.0 == file ≡ b → cond (b && bytes_eq key e.1) (Some e.2) None ≡ None) [
  | true ↦ λ same. (elim (bytes_eq key e.1) as (λ b. bytes_eq key e.1 ≡ b → cond (true && b) (Some e.2) None ≡ None) [
    | true ↦ λ own. absurd (apart (sym (eqb-true e.0 file same)) ((bytes_eq-Decides key e.1).0 own))
    | false ↦ λ other. refl
  ]) refl
  | false ↦ λ other. refl
]) refl

-- the values of the groups are those of the records so far
abbrev pub AreGathered : List (ℕ × ℕ) → List Records → Records → Type 0
AreGathered files groups records = (file : ℕ) (key : List ℕ) → 0 < blocks_of files file → values_gathered files groups file key ≡ values_of records file key

-- one more record is put behind those of its block
pub gathered_more : (files : List (ℕ × ℕ)) (old new : List Records) (records : Records) (e : ℕ × List ℕ × List ℕ) (slot : ℕ) → slot ≡ blocks_before files e.0 + block_of e.1 (blocks_of files e.0)
    → group_at new slot ≡ group_at old slot ++ e ∷ [] → ((n : ℕ) → n ≢ slot → group_at new n ≡ group_at old n) → AreGathered files old records → AreGathered files new (records ++ e ∷ [])
gathered_more files old new records e slot at here others was file key some =
    let own : ℕ = blocks_before files file + block_of key (blocks_of files file) in
    elim (same_or_other own slot) [
      | inl is ↦
          ap (λ (n : ℕ). values_of (group_at new n) file key) is ∙ ap (λ (g : Records). values_of g file key) here ∙ values-snoc (group_at old slot) e file key
          ∙ ap (option_or (value_of e file key)) (ap (λ (n : ℕ). values_of (group_at old n) file key) (sym is) ∙ was file key some) ∙ sym (values-snoc records e file key)
      | inr apart ↦
          let none : value_of e file key ≡ None = value-apart e file key (λ same_file same_key. apart (ap (λ (f : ℕ). blocks_before files f + block_of key (blocks_of files f)) same_file
          ∙ ap (λ (k : List ℕ). blocks_before files e.0 + block_of k (blocks_of files e.0)) same_key ∙ sym at)) in
          ap (λ (g : Records). values_of g file key) (others own apart) ∙ was file key some ∙ sym (ap (λ (o : Option (List ℕ)). option_or o (values_of records file key)) none) ∙ sym (values-snoc records e file key)
    ]

-- a record of another volume is passed over
pub gathered_pass : (files : List (ℕ × ℕ)) (groups : List Records) (records : Records) (e : ℕ × List ℕ × List ℕ) → blocks_of files e.0 ≡ 0 → AreGathered files groups records → AreGathered files groups (records ++ e ∷ [])
gathered_pass files groups records e off was file key some =
    let none : value_of e file key ≡ None = value-apart e file key (λ same_file same_key. zero_some (blocks_of files file) some (ap (blocks_of files) same_file ∙ off)) in
    was file key some ∙ sym (ap (λ (o : Option (List ℕ)). option_or o (values_of records file key)) none) ∙ sym (values-snoc records e file key)
  where
    zero_some : (n : ℕ) → 0 < n → n ≡ 0 → ⊥
    zero_some n some none = omega (arith, some, none)

pub gathered_none : (files : List (ℕ × ℕ)) (groups : List Records) → ((n : ℕ) → group_at groups n ≡ []) → AreGathered files groups []
gathered_none files groups none file key some = ap (λ (g : Records). values_of g file key) (none (blocks_before files file + block_of key (blocks_of files file)))

-- in a row the blocks before a file are those of the files before it
pub before_index : (previous : ℕ) (files : List (ℕ × ℕ)) (n : ℕ) (f : ℕ × ℕ) → IsRow file_row previous files → slice_get files n ≡ Some f → blocks_before files f.0 + blocks_in_all (drop n files) ≡ blocks_in_all files
before_index previous [] n f row at = absurd (cc)
before_index previous (e ∷ files) zero f row at =
    let is : e ≡ f = some_is e f at in
    omega (arith, before_here e files f.0 (sym (ap (λ (x : ℕ × ℕ). x.0) is)))
  where
    some_is : {X : Type 0} (a b : X) → Some a ≡ Some b → a ≡ b
    some_is a b e = cc
before_index previous (e ∷ files) (suc n) f row at =
    let behind = row_file e.0 files n f row.1 at in
    let more = before_index e.0 files n f row.1 at in
    let other : f.0 ≢ e.0 = λ is. omega (arith, behind.0, is) in
    omega (arith, more, before_there e files f.0 other)

-- the file at an index of a row
pub next_file : (files : List (ℕ × ℕ)) (i : ℕ) → i < length files → (drop i files ≡ get_or files i (0, 0) ∷ drop (i + 1) files) × (slice_get files i ≡ Some (get_or files i (0, 0)))
next_file files i lt =
    let next : suc i ≡ i + 1 = omega arith in (
      subst (λ (n : ℕ). drop i files ≡ get_or files i (0, 0) ∷ drop n files) next (drop-cons files i (0, 0) lt),
      slice_get-get_or files i (0, 0) lt,
    )

-- one group more, without records
pub group-push : (groups : List Records) → ((n : ℕ) → group_at groups n ≡ []) → (n : ℕ) → group_at (groups ++ [] ∷ []) n ≡ []
group-push [] none zero = refl
group-push [] none (suc n) = refl
group-push (g ∷ groups) none zero = none 0
group-push (g ∷ groups) none (suc n) = group-push groups (λ m. none (suc m)) n

-- what is said of no value, where there is none
pub none_files : (o : Option ℕ) (P : Type 0) → ((n : ℕ) → o ≡ Some n → ⊥) → IfNone o P → P
none_files None P none holds = holds
none_files (Some n) P none holds = absurd (none n refl)

-- a group of two rows, one behind the other
group-left : (xs ys : List Records) (n : ℕ) → n < length xs → group_at (xs ++ ys) n ≡ group_at xs n
group-left [] ys n below = absurd (omega (arith, below))
group-left (x ∷ xs) ys zero below = refl
group-left (x ∷ xs) ys (suc n) below = group-left xs ys n (omega (arith, below))

group-right : (xs ys : List Records) (n m : ℕ) → n ≡ length xs + m → group_at (xs ++ ys) n ≡ group_at ys m
group-right [] ys n m is = ap (group_at ys) (omega (arith, is))
group-right (x ∷ xs) ys zero m is = absurd (omega (arith, is))
group-right (x ∷ xs) ys (suc n) m is = group-right xs ys n m (omega (arith, is))

-- the groups that are left behind those that were passed
pub record IsRest (groups rest : List Records) (passed : ℕ) : Type 0 where
  pub at : (n : ℕ) → group_at rest n ≡ group_at groups (passed + n)
  pub long : passed + length rest ≡ length groups

pub rest_none : (groups : List Records) → IsRest groups groups 0
rest_none groups = record { at = λ n. ap (group_at groups) (omega arith); long = omega arith }

pub rest_more : (groups rest own more : List Records) (passed blocks : ℕ) → rest ≡ own ++ more → length own ≡ blocks → IsRest groups rest passed → IsRest groups more (passed + blocks)
rest_more groups rest own more passed blocks is count was = record {
  at = λ n. sym (group-right own more (blocks + n) n (omega (arith, count))) ∙ ap (λ (l : List Records). group_at l (blocks + n)) (sym is) ∙ was.at (blocks + n) ∙ ap (group_at groups) (omega arith);
  long = omega (arith, was.long, ap length is, length-append own more, count);
}

pub rest_own : (groups rest own more : List Records) (passed blocks n : ℕ) → rest ≡ own ++ more → length own ≡ blocks → IsRest groups rest passed → n < blocks → group_at own n ≡ group_at groups (passed + n)
rest_own groups rest own more passed blocks n is count was below = sym (group-left own more n (omega (arith, below, count))) ∙ ap (λ (l : List Records). group_at l n) (sym is) ∙ was.at n

-- the blocks from a file on are its own and those behind it
pub drop_blocks : (files : List (ℕ × ℕ)) (i : ℕ) (f : ℕ × ℕ) → slice_get files i ≡ Some f → blocks_in_all (drop i files) ≡ f.1 + blocks_in_all (drop (i + 1) files)
drop_blocks files i f at =
    let within = slice_get_within files i f at in
    let next : suc i ≡ i + 1 = omega arith in
    ap blocks_in_all (subst (λ (n : ℕ). drop i files ≡ get_or files i f ∷ drop n files) next (drop-cons files i f within))
    ∙ ap (λ (x : ℕ × ℕ). x.1 + blocks_in_all (drop (i + 1) files)) (get_or_from_slice_get files i f f at)
