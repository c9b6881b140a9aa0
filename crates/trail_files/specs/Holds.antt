-- One relation of a trail and its content: it says all that holds of the trail between its calls.
use Rattle.std.specs.Prelude.{◌≡◌, ◌⊎◌, ℕ, ◌+◌, ◌<◌, true, List, ◌++◌, length, IsTrue}
use Rattle.disk_model.specs.Held.{Held, IsThere}
use Rattle.disk_model.specs.Frame.{IsLater}
use Rattle.disk_model.specs.declared.disk.Disk as disk
use Rattle.trail_files.specs.declared.rules.Rules.{Rules}
use Rattle.trail_files.specs.Content.{Content, Pending, placed_in, HasBatch, batch_of, offered_of, phase_of, landed_in}
use Rattle.trail_files.specs.Content.Pending.{Nothing, Loaded, Offered, Rolling}
use Rattle.trail_files.specs.declared.trail.TrailPhase.TheVariants.{RollOffered}
use Rattle.trail_files.specs.Format.{Format}
use Rattle.trail_files.specs.Landed.{IsSettled}
use Rattle.trail_files.specs.Trail.{View, Rests, IsReady, IsOffered, IsRolling, IsWritable}

-- these batches have landed, and this is pending behind them
abbrev pub IsPending : {D R : Type 0} → (D → Held) → Format R → View D → List (List (List R)) → List (List R) → Pending R → Type 0
IsPending held format trail files batches Nothing = IsReady held format trail files batches
IsPending held format trail files batches (Loaded batch) = IsReady held format trail files batches × IsOffered held format trail files batches batch
IsPending held format trail files batches (Offered batch) = IsOffered held format trail files batches batch
IsPending held format trail files batches Rolling = IsRolling held format trail files batches

-- the trail's device has the content, in every image
pub record Stands {D R : Type 0} (held : D → Held) (format : Format R) (trail : View D) (content : Content R) : Type 0 where
  pub files : List (List (List R))
  pub batches : List (List R)
  -- the least file that is there
  pub start : ℕ
  pub file_is : trail.file ≡ start + length files
  pub stands : IsPending held format trail files batches content.pending
  pub placed_is : content.placed ≡ placed_in start files batches
  pub in_order : format.in_order (landed_in content ++ batch_of content.pending) ≡ true
  pub settled : IsTrue content.settled → IsThere (held trail.device) trail.file IsSettled

-- The trail holds this content. Of a device that does not tell what it holds, this is the trail's phase and its files, and
-- that a batch has a record, and that there may be a next file where the trail rolls.
pub record Holds {D R : Type 0} (kind : disk.Ghosts D) (format : Rules → Format R) (trail : View D) (content : Content R) : Type 0 where
  pub phase : trail.phase ≡ phase_of content.pending
  pub least : trail.least ≡ content.least
  pub file : trail.file ≡ content.file
  pub some : HasBatch content.pending
  pub more : trail.phase ≡ RollOffered → trail.file < 4294967295
  pub told : IsTrue (kind.tells trail.device) → Stands kind.held (format trail.rules) trail content

-- an image of a device with this content spells what has landed, with or without the offered batch, and nothing of it is at risk
abbrev pub MaySpell : {R : Type 0} → Format R → Content R → Held → Type 0
MaySpell format content image = Rests format image (landed_in content) ⊎ Rests format image (landed_in content ++ offered_of content.pending)

-- A call has worked on a trail: it keeps its rules, its device is the same one, and it may be written on if it could before.
pub record Keeps {D : Type 0} (kind : disk.Ghosts D) (old new : View D) : Type 0 where
  pub rules : new.rules ≡ old.rules
  pub device : IsLater kind old.device new.device
  pub writable : IsWritable kind.tells kind.held old → IsWritable kind.tells kind.held new
