use Rattle.std.proofs.Common.{◌≡◌, ◌≤◌, ℕ, Global, Vec, vec_len, length}
use Rattle.std.specs.Prelude.{List, Option, Some, slice_get, vec_capacity}
use Rattle.tmf_model.specs.declared.script.Item.{Item}
use Rattle.run_outcomes.specs.Room.{IsRoomForReads}
use Rattle.run_outcomes.proofs.room.reads_of.Given as goal

abbrev pub invariant-loop-item : goal.invariant-loop-item
invariant-loop-item l = record {
  many : vec_len l.rows ≡ l.item-index;
  space : length l.items ≤ vec_capacity l.rows;
  each : (n : ℕ) (item : Item) (reads : Vec (ℕ × Option (List ℕ)) Global) → slice_get l.items n ≡ Some item → slice_get l.rows.items n ≡ Some reads → IsRoomForReads item reads;
}
