-- What the files of a trail hold between calls, in every image.
use Rattle.std.specs.Prelude.{◌≡◌, ◌≢◌, ℕ, ◌+◌, ◌<◌, ◌≤◌, false, List, ◌∷◌, ◌++◌, length, sum_by}
use Rattle.disk_model.specs.Held.{File}
use Rattle.trail_files.specs.Format.{Format}
use Rattle.trail_files.specs.Text.{body, batches_text, IsRolledText}

-- the byte at this offset is the same in every image
pub record IsPinned (file : File) (i : ℕ) : Type 0 where
  pub synced : i < file.synced
  pub safe : file.risk i ≡ false

-- nothing of the file is at risk, and it is synced to its length
pub record IsSettled (file : File) : Type 0 where
  pub safe : (i : ℕ) → i < length file.bytes → file.risk i ≡ false
  pub synced : file.synced ≡ length file.bytes

-- the place behind batches whose first record has this place
abbrev pub next_place : {R : Type 0} → ℕ → List (List R) → ℕ
next_place place landed = place + sum_by length landed

-- a file that was rolled, of which nothing is at risk
pub record IsRolledFile {R : Type 0} (format : Format R) (place : ℕ) (batches : List (List R)) (file : File) : Type 0 where
  pub text : IsRolledText format place batches file.bytes
  pub settled : IsSettled file

-- behind the landed batches stands a closed gate, in every image
pub record IsLandedFile {R : Type 0} (text : R → ℕ → List ℕ) (place : ℕ) (landed : List (List R)) (file : File) : Type 0 where
  pub gate : ℕ
  pub rest : List ℕ
  pub closed : gate ≢ 1
  pub parts : file.bytes ≡ batches_text text place landed ++ gate ∷ rest
  pub pinned : (i : ℕ) → i ≤ length (batches_text text place landed) → IsPinned file i

-- behind the landed batches stand a gate, the body of one more batch and a closed gate: all of it but the first gate in every image
pub record IsOfferedFile {R : Type 0} (text : R → ℕ → List ℕ) (place : ℕ) (landed : List (List R)) (batch : List R) (file : File) : Type 0 where
  pub gate : ℕ
  pub next : ℕ
  pub rest : List ℕ
  pub closed : next ≢ 1
  pub parts : file.bytes ≡ batches_text text place landed ++ gate ∷ body text (next_place place landed) batch ++ next ∷ rest
  pub pinned : (i : ℕ) → i ≤ length (batches_text text place landed) + 1 + length (body text (next_place place landed) batch) → i ≢ length (batches_text text place landed) → IsPinned file i

-- both: the gate in front of the loaded batch is still closed, in every image
pub record IsLoadedFile {R : Type 0} (text : R → ℕ → List ℕ) (place : ℕ) (landed : List (List R)) (batch : List R) (file : File) : Type 0 where
  pub ready : IsLandedFile text place landed file
  pub offered : IsOfferedFile text place landed batch file
