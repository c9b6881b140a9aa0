use Rattle.std.proofs.Common.{◌≡◌, ◌≤◌, ℕ, vec_len, length}
use Rattle.std.specs.Prelude.{List, Some, slice_get, vec_capacity}
use Rattle.tmf_model.specs.declared.script.Item.{Item}
use Rattle.run_outcomes.specs.Room.{IsRoomFor}
use Rattle.run_outcomes.specs.declared.room.Room.{Room}
use Rattle.run_outcomes.proofs.room.rooms_of.Given as goal

abbrev pub invariant-loop-items : goal.invariant-loop-items
invariant-loop-items l = record {
  many : vec_len l.rooms ≡ l.items-index;
  space : length l.phase.workers ≤ vec_capacity l.rooms;
  each : (worker : ℕ) (items : List Item) (room : Room) → slice_get l.phase.workers worker ≡ Some items → slice_get l.rooms.items worker ≡ Some room → IsRoomFor items room;
}
