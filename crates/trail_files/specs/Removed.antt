-- What a removal of files leaves of a device.
use Rattle.std.specs.Prelude.{◌≡◌, ◌≢◌, ◌⊎◌, ℕ, ◌+◌, ◌<◌, ◌≤◌, Some, None, IsSome, max}
use Rattle.disk_model.specs.Held.{Held, IsLeast, created}

-- the least file that is there is the one that a trail counts as its least, or the one behind it
abbrev pub IsStart : ℕ → ℕ → Type 0
IsStart least start = (start ≡ least) ⊎ (start ≡ least + 1)

-- Files from the least one on are gone, up to the first that is left; those from there on are as they were.
pub record IsCut (old new : Held) (least start left file : ℕ) : Type 0 where
  pub begins : IsStart least left
  pub is_least : IsLeast new (Some left)
  pub rises : start ≤ left
  pub within : left ≤ max start file
  pub kept : (n : ℕ) → left ≤ n → new n ≡ old n

-- from a number on up to another each file is there
abbrev pub AreThere : Held → ℕ → ℕ → Type 0
AreThere held start file = (n : ℕ) → start ≤ n → n ≤ file → IsSome (held n)

-- The files below a number are gone, and the others are as they were.
pub record IsGoneBelow (old new : Held) (from : ℕ) : Type 0 where
  pub gone : (n : ℕ) → n < from → new n ≡ None
  pub kept : (n : ℕ) → from ≤ n → new n ≡ old n

-- What a format that has failed may leave: files from the least one on are gone, and the others are as they were; or each is gone,
-- and file 1 is new or not there yet.
abbrev pub IsHalfFormatted : Held → Held → Type 0
IsHalfFormatted old new = ((from : ℕ) × IsGoneBelow old new from) ⊎ (((n : ℕ) → n ≢ 1 → new n ≡ None) × ((new 1 ≡ None) ⊎ (new 1 ≡ Some created)))
