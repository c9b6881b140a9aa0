-- What it means that images of a node's devices stand for a map.
use Rattle.std.specs.Prelude.{◌≡◌, ◌≢◌, ℕ, ◌+◌, ◌<◌, ◌≤◌, max, Option, Some, None, List, [], ◌∷◌, length}
use Rattle.any_node.specs.Layout.{Layout}
use Rattle.any_node.specs.Value.{AuditRecord, Entry, Among, Each, closes, last_start, on, kept, value, AreDistinct}

-- what a volume, or a dump of it, says: its records, and the position of the first audit record that is not in them
pub record Base (N : Layout) : Type 0 where
  pub values : N.Key → Option N.Val
  pub position : ℕ

-- what images of all devices say: the monitor's list, each disc's audit, its volume where it is not lost, and its dump where there is one
pub record Image (N : Layout) : Type 0 where
  pub list : List (Entry N)
  pub audit : ℕ → List (AuditRecord N)
  pub volume : ℕ → Option (Base N)
  pub dump : ℕ → Option (Base N)

-- no block holds more keys than it has room for
abbrev pub FitsRoom : (N : Layout) → (N.Key → Option N.Val) → Type 0
FitsRoom N m = (b : N.Block) (ks : List N.Key) → AreDistinct ks → Each (λ k. (N.block_of k ≡ b) × (m k ≢ None)) ks → length ks ≤ N.room

module _ {N : Layout} where
  abbrev pub or_one : Option (Base N) → ℕ
  or_one None = 1
  or_one (Some b) = b.position

  abbrev pub last_position : ℕ → List (AuditRecord N) → ℕ
  last_position n [] = n
  last_position n (r ∷ rs) = last_position r.position rs

  -- the position behind the last record, or, where there is none, the greatest of the positions of the volume and its dump, or 1
  abbrev pub next_position : List (AuditRecord N) → Option (Base N) → Option (Base N) → ℕ
  next_position [] volume dump = max (or_one volume) (or_one dump)
  next_position (r ∷ rs) volume dump = last_position r.position rs + 1

  -- a base or a dump, where there is one, and the audit from its position on give the map
  abbrev pub GivesValues : ℕ → List (AuditRecord N) → List (Entry N) → (N.Key → Option N.Val) → Option (Base N) → Type 0
  GivesValues d audit list m None = Unit {0}
  GivesValues d audit list m (Some b) = (k : N.Key) → N.disc_of k ≡ d → value (b.values k) (on k (kept b.position audit)) (closes list) ≡ m k

  -- its position is one that the disc has reached, and every position from it on is kept
  abbrev pub IsKept : List (AuditRecord N) → ℕ → Option (Base N) → Type 0
  IsKept audit next None = Unit {0}
  IsKept audit next (Some b) = (b.position ≤ next) × ((n : ℕ) → b.position ≤ n → n < next → (r : AuditRecord N) × Among audit r × (r.position ≡ n))

  -- a disc's audit, volume and dump
  pub record VolumeStandsFor (d : ℕ) (audit : List (AuditRecord N)) (volume dump : Option (Base N)) (list : List (Entry N)) (m : N.Key → Option N.Val) : Type 0 where
    pub values : GivesValues d audit list m volume
    pub dump_values : GivesValues d audit list m dump
    pub kept_from : IsKept audit (next_position audit volume dump) volume
    pub dump_kept : IsKept audit (next_position audit volume dump) dump

  -- The images stand for the map, by the monitor's list: no block has too many keys, no audit record is of a later epoch than the
  -- list's last Start, and each volume and each dump, with the audit that is kept, gives the map.
  pub record StandsFor (i : Image N) (m : N.Key → Option N.Val) : Type 0 where
    pub room : FitsRoom N m
    pub epochs : (d : ℕ) → Among N.discs d → Each (λ r. N.epoch_of r.tx ≤ last_start 0 i.list) (i.audit d)
    pub volumes : (d : ℕ) → Among N.discs d → VolumeStandsFor d (i.audit d) (i.volume d) (i.dump d) i.list m
