-- What is left to read of a trail.
use Rattle.std.specs.Prelude.{◌≡◌, ℕ, ◌+◌, ◌<◌, ◌^◌, List, [], ◌∷◌, ◌++◌, length, drop}
use Rattle.std.specs.List.{AllByRecursion}
use Rattle.disk_model.specs.Held.{Held, IsThere}
use Rattle.trail_files.specs.Format.{Format, text, AllValid}
use Rattle.trail_files.specs.Content.{Placed, in_file, placed_in}
use Rattle.trail_files.specs.Text.{head, records_text, batches_text, IsBatchOf, all_of}

-- At an offset, behind the batches of a file, stands the last gate; or a roll batch, and then the next files have these batches, of
-- which the first record has this place, up to the last gate.
abbrev pub GoesOn : {R : Type 0} → Format R → Held → ℕ → ℕ → ℕ → ℕ → ℕ → List (List (List R)) → List ℕ → Type 0
GoesOn format held last end file at place [] tail = (gate : ℕ) × (rest : List ℕ) × (tail ≡ gate ∷ rest) × (file ≡ last) × (at ≡ end)
GoesOn format held last end file at place (batches ∷ files) tail =
    (gate : ℕ) × (rest : List ℕ) × (tail ≡ (1 ∷ head 0) ++ gate ∷ rest) × (file + 1 < 2 ^ 32)
    × IsThere held (file + 1) (λ f. (more : List ℕ) × (f.bytes ≡ batches_text (text format) place batches ++ more) × AllByRecursion (IsBatchOf format) batches
    × GoesOn format held last end (file + 1) (length (batches_text (text format) place batches)) (place + length (all_of batches)) files more)

-- From an offset on, the bytes of a file spell so many records, then open batches, and then the trail goes on, up to a gate of the
-- last file. These are the records, each with its file.
pub record Remains {R : Type 0} (format : Format R) (held : Held) (last end file : ℕ) (bytes : List ℕ) (at left place : ℕ) (records : List (Placed R)) : Type 0 where
  pub here : List R
  pub others : List (List R)
  pub files : List (List (List R))
  pub tail : List ℕ
  pub left_is : left ≡ length here
  pub parts : drop at bytes ≡ records_text (text format) place here ++ (batches_text (text format) (place + length here) others ++ tail)
  pub goes_on : GoesOn format held last end file (at + length (records_text (text format) place here) + length (batches_text (text format) (place + length here) others)) (place + length here + length (all_of others)) files tail
  pub each : AllValid format here
  pub each_other : AllByRecursion (IsBatchOf format) others
  pub records_are : records ≡ in_file file here ++ (in_file file (all_of others) ++ placed_in (file + 1) files [])
