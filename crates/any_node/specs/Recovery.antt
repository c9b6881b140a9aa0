-- What a recovery or a rollforward may make of images, at each of its moments.
use Rattle.std.specs.Prelude.{◌≡◌, ◌⊎◌, ℕ, ◌≤◌, [], ◌∷◌, ◌++◌, Option, Some, None}
use Rattle.any_node.specs.Layout.{Layout}
use Rattle.any_node.specs.Value.{Among, last_start}
use Rattle.any_node.specs.Value.Entry.{start}
use Rattle.any_node.specs.Stands.{Base, Image, StandsFor, next_position}
use Rattle.any_node.specs.Opening.{AreFrom}

module _ {N : Layout} where
  -- from where it was, with the map's values at some keys
  abbrev pub IsWritten : ℕ → (N.Key → Option N.Val) → Option (Base N) → Base N → Type 0
  IsWritten d m None y = ⊥
  IsWritten d m (Some x) y = (y.position ≡ x.position) × ((k : N.Key) → N.disc_of k ≡ d → (y.values k ≡ x.values k) ⊎ (y.values k ≡ m k))

  -- with the map's values, at the next position
  abbrev pub IsFounded : ℕ → (N.Key → Option N.Val) → ℕ → Base N → Type 0
  IsFounded d m next y = (y.position ≡ next) × ((k : N.Key) → N.disc_of k ≡ d → y.values k ≡ m k)

  -- a volume as it was, with some values written, or founded anew
  abbrev pub IsRecovered : ℕ → (N.Key → Option N.Val) → ℕ → Option (Base N) → Option (Base N) → Type 0
  IsRecovered d m next before after = (after ≡ before) ⊎ ((y : Base N) × (after ≡ Some y) × (IsWritten d m before y ⊎ IsFounded d m next y))

  -- the second images are those that a recovery of the first leaves, whole or stopped: perhaps with a new Start, and each volume recovered or not
  pub record IsRecovering (i j : Image N) (m : N.Key → Option N.Val) : Type 0 where
    pub epoch : ℕ
    pub rises : last_start 0 i.list ≤ epoch
    pub list : (j.list ≡ i.list) ⊎ (j.list ≡ i.list ++ start epoch ∷ [])
    pub audit : (d : ℕ) → j.audit d ≡ i.audit d
    pub dump : (d : ℕ) → j.dump d ≡ i.dump d
    pub volumes : (d : ℕ) → Among N.discs d → IsRecovered d m (next_position (i.audit d) (i.volume d) (i.dump d)) (i.volume d) (j.volume d)

-- Whatever is recovered or rolled forward so far, the images stand for the same map.
abbrev pub RecoveryLaw : Layout → Type 0
RecoveryLaw N = (i j : Image N) (m : N.Key → Option N.Val) → StandsFor i m → ((d : ℕ) → Among N.discs d → (n : ℕ) × AreFrom n (i.audit d)) → IsRecovering i j m → StandsFor j m
