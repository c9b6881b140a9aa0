-- The places of the blocks of a row of files.
use Rattle.std.specs.Prelude.{slice_get, ◌==◌}
use Rattle.std.proofs.Common.{zero, suc, ◌≡◌, ◌≢◌, ◌⊎◌, inl, inr, ℕ, ◌+◌, ◌-◌, ◌*◌, ◌<◌, ◌≤◌, true, false, cond, List, [], ◌∷◌, ◌++◌, length, get_or, Some, refl, sym, ap, subst, ◌∙◌, arith, length-append, append_assoc}
use Rattle.std.proofs.lemmas.Bool.{cases_lt}
use Rattle.std.proofs.lemmas.List.{append-nil}
use Rattle.std.proofs.lemmas.Option.{slice_get_within, slice_get-get_or}
use Rattle.tmf_model.specs.Config.{IsWithin}
use Rattle.tmf_model.specs.declared.config.FileLine.{FileLine}
use Rattle.keyed_file.specs.declared.home.Home.{Home}
use Rattle.keyed_file.specs.Dump.{blocks_before, blocks_in_all}
use Rattle.keyed_file.specs.LabelFormat.{file_row}
use Rattle.keyed_file.specs.Row.{IsRow}
use Rattle.keyed_file.specs.Volume.{blocks_of, files_on}
use Rattle.block_cache.proofs.Caches.{same_or_other}
use Rattle.rollforward.specs.Body.{AreHomes, homes_below, homes_in}
use Rattle.rollforward.specs.Rolled.{AreApart, AreInRow}
use Rattle.rollforward.proofs.Gathers.{before_here, before_there, of_here, of_there}
use Rattle.rollforward.proofs.Volumes.{row_file, row_has}

-- an item of two rows, one behind the other
pub get_left : {X : Type 0} (xs ys : List X) (n : ℕ) (x : X) → slice_get xs n ≡ Some x → slice_get (xs ++ ys) n ≡ Some x
get_left [] ys n x at = absurd (cc)
get_left (y ∷ xs) ys zero x at = at
get_left (y ∷ xs) ys (suc n) x at = get_left xs ys n x at

pub get_right : {X : Type 0} (xs ys : List X) (n m : ℕ) → n ≡ length xs + m → slice_get (xs ++ ys) n ≡ slice_get ys m
get_right [] ys n m is = ap (slice_get ys) (omega (arith, is))
get_right (y ∷ xs) ys zero m is = absurd (omega (arith, is))
get_right (y ∷ xs) ys (suc n) m is = get_right xs ys n m (omega (arith, is))

pub get_split : {X : Type 0} (xs ys : List X) (n : ℕ) (x : X) → slice_get (xs ++ ys) n ≡ Some x → (slice_get xs n ≡ Some x) ⊎ ((m : ℕ) × (n ≡ length xs + m) × (slice_get ys m ≡ Some x))
get_split [] ys n x at = inr (n, omega arith, at)
get_split (y ∷ xs) ys zero x at = inl at
get_split (y ∷ xs) ys (suc n) x at = elim (get_split xs ys n x at) [
  | inl here ↦ inl here
  | inr there ↦ inr (there.0, omega (arith, there.1), there.2)
]

pub length-homes_below : (file blocks count : ℕ) → length (homes_below file blocks count) ≡ count
length-homes_below file blocks zero = refl
length-homes_below file blocks (suc count) =
    let more = length-append (homes_below file blocks count) (record { file = file; number = count; blocks = blocks } ∷ []) in
    omega (arith, more, length-homes_below file blocks count)

pub below_at : (file blocks count number : ℕ) → number < count → slice_get (homes_below file blocks count) number ≡ Some (record { file = file; number = number; blocks = blocks })
below_at file blocks zero number below = absurd (omega (arith, below))
below_at file blocks (suc count) number below = elim (cases_lt number count) [
  | inl lt ↦ get_left (homes_below file blocks count) (record { file = file; number = count; blocks = blocks } ∷ []) number (record { file = file; number = number; blocks = blocks }) (below_at file blocks count number lt)
  | inr le ↦
      let is : number ≡ count = omega (arith, below, le) in
      get_right (homes_below file blocks count) (record { file = file; number = count; blocks = blocks } ∷ []) number 0 (omega (arith, is, length-homes_below file blocks count))
      ∙ ap (λ (n : ℕ). Some (record { file = file; number = n; blocks = blocks })) (sym is)
]

-- each of them is where its number says
pub below_is : (file blocks count n : ℕ) (home : Home) → slice_get (homes_below file blocks count) n ≡ Some home → (n < count) × (home ≡ record { file = file; number = n; blocks = blocks })
below_is file blocks count n home at =
    let within = slice_get_within (homes_below file blocks count) n home at in
    let below : n < count = omega (arith, within, length-homes_below file blocks count) in
    (below, some_is home (record { file = file; number = n; blocks = blocks }) (sym at ∙ below_at file blocks count n below))
  where
    some_is : {X : Type 0} (a b : X) → Some a ≡ Some b → a ≡ b
    some_is a b e = cc

pub length-homes_in : (files : List (ℕ × ℕ)) → length (homes_in files) ≡ blocks_in_all files
length-homes_in [] = refl
length-homes_in (f ∷ files) =
    let more = length-append (homes_below f.0 f.1 f.1) (homes_in files) in
    omega (arith, more, length-homes_below f.0 f.1 f.1, length-homes_in files)

-- a block of a file has its place behind those of the files before it
pub home_at : (files : List (ℕ × ℕ)) (file number : ℕ) → number < blocks_of files file → slice_get (homes_in files) (blocks_before files file + number) ≡ Some (record { file = file; number = number; blocks = blocks_of files file })
home_at [] file number below = absurd (omega (arith, below))
home_at (f ∷ files) file number below = elim (same_or_other file f.0) [
  | inl is ↦
      let blocks : blocks_of (f ∷ files) file ≡ f.1 = of_here f files file is in
      let under : number < f.1 = omega (arith, below, blocks) in
      ap (slice_get (homes_in (f ∷ files))) (omega (arith, before_here f files file is))
      ∙ get_left (homes_below f.0 f.1 f.1) (homes_in files) number (record { file = f.0; number = number; blocks = f.1 }) (below_at f.0 f.1 f.1 number under)
      ∙ ap (λ (x : ℕ). Some (record { file = x; number = number; blocks = f.1 })) (sym is) ∙ ap (λ (b : ℕ). Some (record { file = file; number = number; blocks = b })) (sym blocks)
  | inr other ↦
      let blocks : blocks_of (f ∷ files) file ≡ blocks_of files file = of_there f files file other in
      get_right (homes_below f.0 f.1 f.1) (homes_in files) (blocks_before (f ∷ files) file + number) (blocks_before files file + number) (omega (arith, before_there f files file other, length-homes_below f.0 f.1 f.1))
      ∙ home_at files file number (omega (arith, below, blocks)) ∙ ap (λ (b : ℕ). Some (record { file = file; number = number; blocks = b })) (sym blocks)
]

-- A place in a row is that of a block of a file, and stands there.
pub record IsHomeIn (files : List (ℕ × ℕ)) (n : ℕ) (home : Home) : Type 0 where
  pub within : home.number < blocks_of files home.file
  pub blocks : home.blocks ≡ blocks_of files home.file
  pub at : n ≡ blocks_before files home.file + home.number

pub home_is : (previous : ℕ) (files : List (ℕ × ℕ)) (n : ℕ) (home : Home) → IsRow file_row previous files → slice_get (homes_in files) n ≡ Some home → (previous < home.file) × IsHomeIn files n home
home_is previous [] n home row at = absurd (cc)
home_is previous (f ∷ files) n home row at = elim (get_split (homes_below f.0 f.1 f.1) (homes_in files) n home at) [
  | inl here ↦
      let one = below_is f.0 f.1 f.1 n home here in
      let first = row_file previous (f ∷ files) 0 f row refl in
      subst (λ (h : Home). (previous < h.file) × IsHomeIn (f ∷ files) n h) (sym one.1) (
        first.0,
        record {
          within = omega (arith, one.0, of_here f files f.0 refl);
          blocks = sym (of_here f files f.0 refl);
          at = omega (arith, before_here f files f.0 refl);
        },
      )
  | inr there ↦
      let more = home_is f.0 files there.0 home row.1 there.2 in
      let first = row_file previous (f ∷ files) 0 f row refl in
      let other : home.file ≢ f.0 = λ is. omega (arith, is, more.0) in (
        omega (arith, first.0, more.0),
        record {
          within = omega (arith, more.1.within, of_there f files home.file other);
          blocks = more.1.blocks ∙ sym (of_there f files home.file other);
          at = omega (arith, there.1, more.1.at, before_there f files home.file other, length-homes_below f.0 f.1 f.1);
        },
      )
]

pub some_blocks : (files : List (ℕ × ℕ)) (file : ℕ) → IsRow file_row 0 files → 0 < blocks_of files file → IsWithin 1 256 (blocks_of files file)
some_blocks files file row some =
    let there = row_has files file some in
    let one = row_file 0 files there.0 there.1 row there.2 in
    let is : blocks_of files file ≡ there.1.1 = ap (blocks_of files) (sym there.3) ∙ one.1 in
    record { above = omega (arith, some); below = omega (arith, is, one.3) }

pub are-homes : (files : List (ℕ × ℕ)) → IsRow file_row 0 files → AreHomes (homes_in files)
are-homes files row n home at =
    let one = (home_is 0 files n home row at).1 in
    subst (IsWithin 1 256) (sym one.blocks) (some_blocks files home.file row (omega (arith, one.within)))

pub are-apart : (files : List (ℕ × ℕ)) → IsRow file_row 0 files → AreApart (homes_in files)
are-apart files row n m a b at there same =
    let one = (home_is 0 files n a row at).1 in
    let two = (home_is 0 files m b row there).1 in
    (one.blocks ∙ ap (blocks_of files) same ∙ sym two.blocks, λ number. omega (arith, one.at, two.at, number, ap (blocks_before files) same))

-- behind a file's first block they stand one behind the other
pub in-row : (files : List (ℕ × ℕ)) → IsRow file_row 0 files → AreInRow (homes_in files)
in-row files row n home at =
    let one = (home_is 0 files n home row at).1 in
    record {
      within = omega (arith, one.within, one.blocks);
      behind = λ some.
          let before : ℕ = home.number - 1 in
          let below : before < blocks_of files home.file = omega (arith, one.within) in
          let place : n - 1 ≡ blocks_before files home.file + before = omega (arith, one.at, some) in (
            record { file = home.file; number = before; blocks = blocks_of files home.file },
            omega (arith, one.at, some),
            ap (slice_get (homes_in files)) place ∙ home_at files home.file before below,
            refl,
            sym one.blocks,
          );
    }

-- at most 16 files have at most 4,096 blocks
pub few-blocks : (previous : ℕ) (files : List (ℕ × ℕ)) → IsRow file_row previous files → blocks_in_all files ≤ 256 * length files
few-blocks previous [] row = omega arith
few-blocks previous (f ∷ files) row =
    let first = row_file previous (f ∷ files) 0 f row refl in
    omega (arith, first.3, few-blocks f.0 files row.1)

-- the files of a volume are among the configuration's
pub files-on : (volume number : ℕ) (lines : List FileLine) (file : ℕ) → 0 < blocks_of (files_on volume number lines) file → (number ≤ file) × (file < number + length lines)
files-on volume number [] file some = absurd (omega (arith, some))
files-on volume number (line ∷ lines) file some = (elim (line.volume == volume) as (λ b. line.volume == volume ≡ b → 0 < blocks_of (cond b ((number, line.blocks) ∷ files_on volume (number + 1) lines) (files_on volume (number + 1) lines)) file → (number ≤ file) × (file < number + length (line ∷ lines))) [
  | true ↦ λ _ more. elim (same_or_other file number) [
    | inl is ↦ (omega (arith, is), omega (arith, is))
    | inr other ↦ let behind = files-on volume (number + 1) lines file (omega (arith, more, of_there (number, line.blocks) (files_on volume (number + 1) lines) file other)) in (omega (arith, behind.0), omega (arith, behind.1))
  ]
  | false ↦ λ _ more. let behind = files-on volume (number + 1) lines file more in (omega (arith, behind.0), omega (arith, behind.1))
]) refl some

-- the places of one file more
pub homes_snoc : (files : List (ℕ × ℕ)) (f : ℕ × ℕ) → homes_in (files ++ f ∷ []) ≡ homes_in files ++ homes_below f.0 f.1 f.1
homes_snoc [] f = append-nil (homes_below f.0 f.1 f.1)
homes_snoc (e ∷ files) f = ap (λ (hs : List Home). homes_below e.0 e.1 e.1 ++ hs) (homes_snoc files f) ∙ sym (append_assoc (homes_below e.0 e.1 e.1) (homes_in files) (homes_below f.0 f.1 f.1))

-- the place at an index
abbrev pub home_in : List Home → ℕ → Home
home_in homes index = get_or homes index (record { file = 0; number = 0; blocks = 0 })

pub home_there : (homes : List Home) (index : ℕ) → index < length homes → slice_get homes index ≡ Some (home_in homes index)
home_there homes index below = slice_get-get_or homes index (record { file = 0; number = 0; blocks = 0 }) below
