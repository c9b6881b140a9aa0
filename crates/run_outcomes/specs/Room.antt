-- The room that a run's outcomes need.
use Rattle.std.specs.Prelude.{◌≡◌, ℕ, ◌≤◌, List, [], length, slice_get, Option, Some, vec_capacity}
use Rattle.std.specs.List.{filter, sum_by}
use Rattle.std.proofs.Common.{Global, Vec}
use Rattle.tmf_model.specs.declared.script.Item.{Item}
use Rattle.tmf_model.specs.declared.script.Item.TheVariants.{Transaction as TransactionItem, Control, Dump}
use Rattle.run_outcomes.specs.Outcomes.{most_attempts}
use Rattle.run_outcomes.specs.Told.{is_read}
use Rattle.run_outcomes.specs.declared.room.Room.{Room}

-- how many outcomes a worker's items may come to
abbrev pub most_outcomes : List Item → ℕ
most_outcomes items = sum_by most_attempts items

-- how many reads an item may have to tell
abbrev pub reads_in : Item → ℕ
reads_in (TransactionItem transaction) = length (filter (λ step. is_read step.op) transaction.steps)
reads_in (Control volume) = 0
reads_in (Dump volume) = 0

-- nothing is there, and there is room for the reads of this item
pub record IsRoomForReads (item : Item) (reads : Vec (ℕ × Option (List ℕ)) Global) : Type 0 where
  pub empty : reads.items ≡ []
  pub enough : reads_in item ≤ vec_capacity reads

-- for each item there is room for its reads
pub record AreRoomsForReads (items : List Item) (rows : List (Vec (ℕ × Option (List ℕ)) Global)) : Type 0 where
  pub count : length rows ≡ length items
  pub each : (n : ℕ) (item : Item) (reads : Vec (ℕ × Option (List ℕ)) Global) → slice_get items n ≡ Some item → slice_get rows n ≡ Some reads → IsRoomForReads item reads

-- Nothing is in the room, and there is enough for all outcomes of these items, and for the reads of each.
pub record IsRoomFor (items : List Item) (room : Room) : Type 0 where
  pub empty : room.outcomes.items ≡ []
  pub enough : most_outcomes items ≤ vec_capacity room.outcomes
  pub reads : AreRoomsForReads items room.reads

-- for each worker there is room
pub record AreRooms (workers : List (List Item)) (rooms : List Room) : Type 0 where
  pub count : length rooms ≡ length workers
  pub each : (worker : ℕ) (items : List Item) (room : Room) → slice_get workers worker ≡ Some items → slice_get rooms worker ≡ Some room → IsRoomFor items room
