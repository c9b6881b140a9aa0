-- How records stand in the files of a trail: in batches, each behind an open gate, and then a roll batch or a closed gate.
use Rattle.std.specs.Prelude.{◌≡◌, ◌≢◌, ℕ, ◌+◌, ◌<◌, ◌≤◌, ◌^◌, true, List, [], ◌∷◌, ◌++◌, length, replicate, Some}
use Rattle.std.specs.List.{AllByRecursion, flat_map}
use Rattle.std.specs.Int.{w32, to_be_bytes}
use Rattle.disk_model.specs.Held.{Held, File, IsThere, IsLeast}
use Rattle.trail_files.specs.Format.{Format, text, AllValid}

-- records whose first has this place
abbrev pub records_text : {R : Type 0} → (R → ℕ → List ℕ) → ℕ → List R → List ℕ
records_text text place [] = []
records_text text place (r ∷ rs) = text r place ++ records_text text (place + 1) rs

-- a batch's head behind its gate: the version 1, two zeros, the count in four bytes, eight zeros
abbrev pub head : ℕ → List ℕ
head count = 1 ∷ 0 ∷ 0 ∷ to_be_bytes w32 count ++ replicate 8 0

-- a batch behind its gate
unfoldable pub body : {R : Type 0} → (R → ℕ → List ℕ) → ℕ → List R → List ℕ
body text place rs = head (length rs) ++ records_text text place rs

-- batches behind open gates, of whose records the first has this place
abbrev pub batches_text : {R : Type 0} → (R → ℕ → List ℕ) → ℕ → List (List R) → List ℕ
batches_text text place [] = []
batches_text text place (batch ∷ batches) = (1 ∷ body text place batch) ++ batches_text text (place + length batch) batches

-- records that may stand in one batch
pub record IsBatchOf {R : Type 0} (format : Format R) (batch : List R) : Type 0 where
  pub some : 0 < length batch
  pub few : length batch ≤ format.most
  pub each : AllValid format batch

-- the records of the batches in a row
abbrev pub all_of : {R : Type 0} → List (List R) → List R
all_of batches = flat_map (λ b. b) batches

-- the records of files in a row, of each its batches
abbrev pub records_of : {R : Type 0} → List (List (List R)) → List R
records_of files = flat_map all_of files

-- the place of the first record behind these files
abbrev pub place_behind : {R : Type 0} → List (List (List R)) → ℕ
place_behind files = 1 + length (records_of files)

-- batches, and a batch without records behind them: with it the trail goes on in the next file
abbrev pub rolled : {R : Type 0} → List (List R) → List (List R)
rolled batches = batches ++ [] ∷ []

-- the bytes are these batches, a closed gate, which is any byte but 1, and anything
pub record IsText {R : Type 0} (format : Format R) (place : ℕ) (batches : List (List R)) (bytes : List ℕ) : Type 0 where
  pub each : AllByRecursion (IsBatchOf format) batches
  pub gate : ℕ
  pub rest : List ℕ
  pub closed : gate ≢ 1
  pub parts : bytes ≡ batches_text (text format) place batches ++ gate ∷ rest

-- the bytes are these batches, a roll batch, one more gate, and anything
pub record IsRolledText {R : Type 0} (format : Format R) (place : ℕ) (batches : List (List R)) (bytes : List ℕ) : Type 0 where
  pub each : AllByRecursion (IsBatchOf format) batches
  pub gate : ℕ
  pub rest : List ℕ
  pub parts : bytes ≡ batches_text (text format) place (rolled batches) ++ gate ∷ rest

-- From a number on a file is there for each of these, in order, and of it this is said, with its first record's place and its batches.
abbrev pub AreFiles : {R : Type 0} → (ℕ → List (List R) → File → Type 0) → Held → ℕ → ℕ → List (List (List R)) → Type 0
AreFiles P held file place [] = Unit {0}
AreFiles P held file place (batches ∷ files) = IsThere held file (P place batches) × AreFiles P held (file + 1) (place + length (all_of batches)) files

-- From its least file on the trail's text is that of these files, each of which was rolled, and of a last one with these batches.
pub record IsTrailText {R : Type 0} (format : Format R) (held : Held) (least : ℕ) (files : List (List (List R))) (batches : List (List R)) : Type 0 where
  pub numbers : least + length files < 2 ^ 32
  pub rolled : AreFiles (λ place batches f. IsRolledText format place batches f.bytes) held least 1 files
  pub last : IsThere held (least + length files) (λ f. IsText format (place_behind files) batches f.bytes)

-- The device spells these records: from its least file on they are the text of a trail, and they break no rule between records.
pub record Spells {R : Type 0} (format : Format R) (held : Held) (records : List R) : Type 0 where
  pub least : ℕ
  pub files : List (List (List R))
  pub batches : List (List R)
  pub is_least : IsLeast held (Some least)
  pub begins : format.may_begin least ≡ true
  pub text : IsTrailText format held least files batches
  pub all : records ≡ records_of files ++ all_of batches
  pub in_order : format.in_order records ≡ true
  pub may_end : format.may_end records ≡ true
