-- What a trail stands for, where its device tells what it holds.
use Rattle.std.specs.Prelude.{◌≡◌, ◌≢◌, ◌⊎◌, ℕ, ◌+◌, ◌-◌, ◌*◌, ◌<◌, ◌≤◌, ◌^◌, ◌==◌, ◌||◌, nat_le, Bool, true, List, [], ◌++◌, length, drop, Some, None, IsTrue}
use Rattle.std.specs.List.{AllByRecursion}
use Rattle.disk_model.specs.Held.{Held, IsThere, IfThere, IsLeast, created}
use Rattle.trail_files.specs.declared.rules.Rules.{Rules}
use Rattle.trail_files.specs.declared.trail.TrailPhase.{TrailPhase}
use Rattle.trail_files.specs.declared.trail.TrailPhase.TheVariants.{Ready, RollOffered}
use Rattle.trail_files.specs.declared.cursor.Cursor.{Cursor}
use Rattle.trail_files.specs.Format.{Format, text, IgnoresPlace}
use Rattle.trail_files.specs.Text.{body, batches_text, IsBatchOf, all_of, records_of, place_behind, AreFiles, IsTrailText, Spells}
use Rattle.trail_files.specs.Landed.{IsSettled, next_place, IsRolledFile, IsLandedFile, IsOfferedFile}
use Rattle.trail_files.specs.Removed.{IsStart}
use Rattle.trail_files.specs.Cursor.{Leads}
use Rattle.trail_files.specs.Content.{Placed}

-- what callers see of a trail
pub record View (D : Type 0) : Type 0 where
  pub device : D
  pub rules : Rules
  pub phase : TrailPhase
  -- the numbers of its least file and of its present one
  pub least : ℕ
  pub file : ℕ
  -- where in the present file the gate behind the landed batches stands, and how many records have landed
  pub gate : ℕ
  pub places : ℕ
  -- of a loaded batch: how many bytes it has behind its gate, with the next gate, and how many records
  pub size : ℕ
  pub count : ℕ

-- The device spells the records, and of the files that do nothing is at risk: each image of it spells them too.
pub record Rests {R : Type 0} (format : Format R) (held : Held) (records : List R) : Type 0 where
  pub spells : Spells format held records
  pub settled : (n : ℕ) → spells.least ≤ n → n ≤ spells.least + length spells.files → IfThere held n IsSettled

-- So many records have landed, as the trail has counted. Where no record's bytes tell its place, it may count removed ones too.
abbrev pub IsCount : {R : Type 0} → Format R → ℕ → ℕ → Type 0
IsCount format places count = (places ≡ count) ⊎ (IgnoresPlace format × (count ≤ places))

-- the trail has counted these files, and these batches in the present one
pub record Counts {R : Type 0} (format : Format R) (least file gate places : ℕ) (files : List (List (List R))) (landed : List (List R)) : Type 0 where
  pub each : AllByRecursion (IsBatchOf format) landed
  pub file_is : file ≡ least + length files
  pub offset : gate ≡ length (batches_text (text format) (place_behind files) landed)
  pub next : IsCount format places (length (records_of files) + length (all_of landed))

-- The files in front of the present one hold these batches, in every image. Of a file whose removal was refused it is not known
-- whether it is there: the least file that is there may be the one behind it.
pub record HasFiles {R : Type 0} (format : Format R) (held : Held) (least file gate places : ℕ) (files : List (List (List R))) (landed : List (List R)) : Type 0 where
  pub start : ℕ
  pub start_is : IsStart least start
  pub counts : Counts format start file gate places files landed
  pub numbers : file < 2 ^ 32
  pub is_least : IsLeast held (Some start)
  pub begins : format.may_begin start ≡ true
  pub rolled : AreFiles (IsRolledFile format) held start 1 files

-- these batches have landed
pub record IsReady {D R : Type 0} (held : D → Held) (format : Format R) (trail : View D) (files : List (List (List R))) (landed : List (List R)) : Type 0 where
  pub front : HasFiles format (held trail.device) trail.least trail.file trail.gate trail.places files landed
  pub file : IsThere (held trail.device) trail.file (IsLandedFile (text format) (place_behind files) landed)

-- these batches have landed, and one more is offered
pub record IsOffered {D R : Type 0} (held : D → Held) (format : Format R) (trail : View D) (files : List (List (List R))) (landed : List (List R)) (batch : List R) : Type 0 where
  pub front : HasFiles format (held trail.device) trail.least trail.file trail.gate trail.places files landed
  pub size : trail.size ≡ length (body (text format) (next_place (place_behind files) landed) batch) + 1
  pub count : trail.count ≡ length batch
  pub is_batch : IsBatchOf format batch
  pub file : IsThere (held trail.device) trail.file (IsOfferedFile (text format) (place_behind files) landed batch)

-- these batches have landed, and a roll batch is offered: the next file is there, and has none
pub record IsRolling {D R : Type 0} (held : D → Held) (format : Format R) (trail : View D) (files : List (List (List R))) (landed : List (List R)) : Type 0 where
  pub front : HasFiles format (held trail.device) trail.least trail.file trail.gate trail.places files landed
  pub phase : trail.phase ≡ RollOffered
  pub file : IsThere (held trail.device) trail.file (IsOfferedFile (text format) (place_behind files) landed [])
  pub more : trail.file + 1 < 2 ^ 32
  pub next : held trail.device (trail.file + 1) ≡ Some created

-- A read of the trail gives these records.
pub record Reads {D R : Type 0} (held : D → Held) (format : Rules → Format R) (trail : View D) (records : List R) : Type 0 where
  pub files : List (List (List R))
  pub batches : List (List R)
  pub is_least : IsLeast (held trail.device) (Some trail.least)
  pub counts : Counts (format trail.rules) trail.least trail.file trail.gate trail.places files batches
  pub text : IsTrailText (format trail.rules) (held trail.device) trail.least files batches
  pub all : records ≡ records_of files ++ all_of batches

-- the files from a number on, of those in front of the present one
abbrev pub files_from : {A : Type 0} → ℕ → ℕ → List A → List A
files_from present file files = drop (length files + file - present) files

-- The cursor is this one; or it stands at the front of the trail's least file, that is not there, and this one at the front of the next.
abbrev pub StartsAt : Held → ℕ → Cursor → Cursor → Type 0
StartsAt held least cursor next = (next ≡ cursor) ⊎ ((cursor.file ≡ least) × (cursor.at ≡ 0) × (cursor.left ≡ 0) × (held cursor.file ≡ None) × (next ≡ record cursor { file = cursor.file + 1 }))

-- In front of the cursor lie these records of the trail, each with its file.
pub record Ahead {D R : Type 0} (held : D → Held) (format : Rules → Format R) (trail : View D) (cursor : Cursor) (rest : List (Placed R)) : Type 0 where
  pub from : Cursor
  pub from_is : StartsAt (held trail.device) trail.least cursor from
  pub leads : Leads (format trail.rules) (held trail.device) trail.file trail.gate from rest
  pub count : IsCount (format trail.rules) (trail.places + 1) (cursor.place + length rest)

-- at most so many records are still in front of the cursor, whatever the device holds
abbrev pub records_left : {D : Type 0} → View D → Cursor → ℕ
records_left trail cursor = trail.places + 1 - cursor.place

-- the trail on another state of its device
abbrev pub with_device : {D : Type 0} → View D → D → View D
with_device trail device = record trail { device = device }

-- Whether a batch of so many records, each this long, need not be kept for the next file: it stands at offset 0, or ends within the
-- length at which the trail rolls, its next gate not counted, or the present file is the last that can be.
abbrev pub fits_in : {D : Type 0} → ℕ → View D → ℕ → Bool
fits_in size trail count = trail.gate == 0 || (nat_le (trail.gate + (16 + count * size)) trail.rules.roll || trail.file == 4294967295)

-- what holds of the numbers of each trail
pub record IsTrail {D : Type 0} (trail : View D) : Type 0 where
  pub short : trail.gate + trail.size < 2 ^ 63
  pub places_short : trail.places ≤ trail.file * 2 ^ 63 + trail.gate
  pub count_short : trail.count ≤ trail.size

-- Where the device tells what it holds, the trail's calls write within its files: the present file reaches past the gate and past
-- what a loaded batch has behind it, and where a roll is offered, the next file is there.
pub record IsWritable {D : Type 0} (tells : D → Bool) (held : D → Held) (trail : View D) : Type 0 where
  pub gate : IsTrue (tells trail.device) → IsThere (held trail.device) trail.file (λ f. trail.gate < length f.bytes)
  pub batch : IsTrue (tells trail.device) → trail.phase ≢ Ready → trail.phase ≢ RollOffered → IsThere (held trail.device) trail.file (λ f. trail.gate + trail.size < length f.bytes)
  pub next : IsTrue (tells trail.device) → trail.phase ≡ RollOffered → IsThere (held trail.device) (trail.file + 1) (λ f. 0 < length f.bytes)
