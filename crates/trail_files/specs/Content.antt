-- What a trail holds, as its callers see it, and what its calls make of that.
use Rattle.std.specs.Prelude.{◌≡◌, ◌⊎◌, ℕ, ◌+◌, ◌<◌, length, nat_le, cond, Bool, true, false, List, [], ◌∷◌, ◌++◌}
use Rattle.trail_files.specs.Text.{all_of}
use Rattle.trail_files.specs.declared.trail.TrailPhase.{TrailPhase}
use Rattle.trail_files.specs.declared.trail.TrailPhase.TheVariants as phase

-- a record, and the number of the file that it stands in
abbrev pub Placed : Type 0 → Type 0
Placed R = ℕ × R

-- the records by themselves
abbrev pub records_in : {R : Type 0} → List (Placed R) → List R
records_in [] = []
records_in (x ∷ xs) = x.1 ∷ records_in xs

-- records, all of which stand in one file
abbrev pub in_file : {R : Type 0} → ℕ → List R → List (Placed R)
in_file file [] = []
in_file file (r ∷ rs) = (file, r) ∷ in_file file rs

-- those that stand in the files from a number on
abbrev pub from_file : {R : Type 0} → ℕ → List (Placed R) → List (Placed R)
from_file file [] = []
from_file file (x ∷ xs) = cond (nat_le file x.0) (x ∷ from_file file xs) (from_file file xs)

-- those that stand in the files below a number
abbrev pub below_file : {R : Type 0} → ℕ → List (Placed R) → List (Placed R)
below_file file [] = []
below_file file (x ∷ xs) = cond (nat_le file x.0) (below_file file xs) (x ∷ below_file file xs)

-- the records of files from a number on, and of the batches of the one behind them
abbrev pub placed_in : {R : Type 0} → ℕ → List (List (List R)) → List (List R) → List (Placed R)
placed_in file [] batches = in_file file (all_of batches)
placed_in file (first ∷ files) batches = in_file file (all_of first) ++ placed_in (file + 1) files batches

-- What stands behind the landed records.
pub data Pending (R : Type 0) : Type 0 where
  Nothing : Pending R
  -- a batch behind a closed gate, which no image has
  Loaded : List R → Pending R
  -- a batch that an image has or has not
  Offered : List R → Pending R
  -- a roll batch, with which the trail goes on in the next file
  Rolling : Pending R

-- the batch that is loaded or offered
abbrev pub batch_of : {R : Type 0} → Pending R → List R
batch_of Nothing = []
batch_of (Loaded batch) = batch
batch_of (Offered batch) = batch
batch_of Rolling = []

-- the records that an image may have behind those that have landed
abbrev pub offered_of : {R : Type 0} → Pending R → List R
offered_of Nothing = []
offered_of (Loaded batch) = []
offered_of (Offered batch) = batch
offered_of Rolling = []

-- a batch has a record
abbrev pub HasBatch : {R : Type 0} → Pending R → Type 0
HasBatch Nothing = Unit {0}
HasBatch (Loaded batch) = 0 < length batch
HasBatch (Offered batch) = 0 < length batch
HasBatch Rolling = Unit {0}

abbrev pub phase_of : {R : Type 0} → Pending R → TrailPhase
phase_of Nothing = phase.Ready
phase_of (Loaded batch) = phase.Loaded
phase_of (Offered batch) = phase.Offered
phase_of Rolling = phase.RollOffered

-- What is in a trail: its landed records, each with its file, and what is pending behind them.
pub record Content (R : Type 0) : Type 0 where
  -- the numbers of the least file and of the present one
  pub least : ℕ
  pub file : ℕ
  -- the records that have landed, each with its file
  pub placed : List (Placed R)
  pub pending : Pending R
  -- nothing of the present file is at risk
  pub settled : Bool

module _ {R : Type 0} where
  abbrev pub landed_in : Content R → List R
  landed_in c = records_in c.placed

  -- a batch is loaded behind what has landed
  abbrev pub with_loaded : List R → Content R → Content R
  with_loaded batch c = record c { pending = Loaded batch; settled = true }

  -- the batch has landed, in the present file
  abbrev pub with_landed : Content R → Content R
  with_landed c = record c { placed = c.placed ++ in_file c.file (batch_of c.pending); pending = Nothing; settled = true }

  -- the batch may have landed
  abbrev pub with_offered : Content R → Content R
  with_offered c = record c { pending = Offered (batch_of c.pending); settled = false }

  -- the trail goes on in the next file
  abbrev pub with_next_file : Content R → Content R
  with_next_file c = record c { file = c.file + 1; pending = Nothing; settled = true }

  -- the same, of which something may be at risk
  abbrev pub at_risk : Content R → Content R
  at_risk c = record c { settled = false }

  -- the trail may go on in the next file
  abbrev pub with_roll : Content R → Content R
  with_roll c = record c { pending = Rolling; settled = false }

  -- the files below a number are gone, and the least one is this
  abbrev pub without_below : ℕ → ℕ → Content R → Content R
  without_below least from c = record c { least = least; placed = from_file from c.placed }

  -- nothing is pending behind these records, and nothing is at risk
  pub record IsAtRest (c : Content R) (records : List R) : Type 0 where
    pub landed : landed_in c ≡ records
    pub pending : c.pending ≡ Nothing
    pub settled : c.settled ≡ true

  -- a new trail
  abbrev pub no_content : Content R
  no_content = record { least = 1; file = 1; placed = []; pending = Nothing; settled = true }

  -- a batch has landed in a file, the present one or the next, and nothing is at risk
  abbrev pub with_batch : ℕ → List R → Content R → Content R
  with_batch file batch c = record c { file = file; placed = c.placed ++ in_file file batch; pending = Nothing; settled = true }

  -- A batch was to land, and a call has failed: an image may have it or not.
  pub record IsUnlanded (batch : List R) (old new : Content R) : Type 0 where
    pub least : new.least ≡ old.least
    pub placed : new.placed ≡ old.placed
    pub pending : (new.pending ≡ Nothing) ⊎ ((new.pending ≡ Rolling) ⊎ (new.pending ≡ Offered batch))
