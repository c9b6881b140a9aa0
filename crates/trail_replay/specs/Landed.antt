-- What has landed on a trail, and what a pass over it reads.
use Rattle.std.specs.Prelude.{◌≡◌, ◌⊎◌, List, [], IsTrue}
use Rattle.disk_model.specs.declared.disk.Disk as disk
use Rattle.trail_files.specs.declared.rules.Rules.{Rules}
use Rattle.trail_files.specs.Content.{Content, batch_of, landed_in}
use Rattle.trail_files.specs.Format.{Format}
use Rattle.trail_files.specs.Holds.{Holds}
use Rattle.trail_files.specs.Trail.{View, Reads}

-- The trail's device tells its state, and these records have landed. Behind them at most this batch is pending: an image has it or not.
pub record MayHaveBehind {D R : Type 0} (kind : disk.Ghosts D) (format : Rules → Format R) (trail : View D) (records batch : List R) : Type 0 where
  pub content : Content R
  pub landed : landed_in content ≡ records
  pub behind : (batch_of content.pending ≡ []) ⊎ (batch_of content.pending ≡ batch)
  pub tells : IsTrue (kind.tells trail.device)
  pub holds : Holds kind format trail content

-- each image of the trail has these records, and no more
abbrev pub HasLanded : {D R : Type 0} → disk.Ghosts D → (Rules → Format R) → View D → List R → Type 0
HasLanded kind format trail records = MayHaveBehind kind format trail records []

-- A pass over the trail reads these records, whether it rests or not: its device tells its state, and they have landed, or its text is whole with them.
abbrev pub IsReadAs : {D R : Type 0} → disk.Ghosts D → (Rules → Format R) → View D → List R → Type 0
IsReadAs kind format trail records = IsTrue (kind.tells trail.device) × (HasLanded kind format trail records ⊎ Reads kind.held format trail records)
