-- What a kind of record is to a trail: which records are valid, how one is spelled, and which rows of them a trail may hold.
use Rattle.std.specs.Prelude.{◌≡◌, ℕ, Bool, true, List}
use Rattle.std.specs.List.{AllByRecursion}

pub record Format (R : Type 0) : Type 0 where
  -- each field is in its range, and the record is of this trail
  pub valid : R → Bool
  -- the greatest number of records of a batch
  pub most : ℕ
  -- the number that a record is written with, at its place in the trail
  pub number : R → ℕ → ℕ
  -- the bytes of a record with its number
  pub spelling : R → ℕ → List ℕ
  -- the first records of a trail may be these: no rule between records is broken
  pub in_order : List R → Bool
  -- a trail may end behind these records
  pub may_end : List R → Bool
  -- the least file of a trail may have this number
  pub may_begin : ℕ → Bool

-- the bytes of a record at its place
abbrev pub text : {R : Type 0} → Format R → R → ℕ → List ℕ
text format r place = format.spelling r (format.number r place)

-- each of the records is valid
abbrev pub AllValid : {R : Type 0} → Format R → List R → Type 0
AllValid format records = AllByRecursion (λ r. format.valid r ≡ true) records

-- the bytes of a record do not tell its place
abbrev pub IgnoresPlace : {R : Type 0} → Format R → Type 0
IgnoresPlace {R = R} format = (item : R) (place other : ℕ) → text format item place ≡ text format item other
