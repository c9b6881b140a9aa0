-- What a worker has for the items that are left: tokens for their acts and moves, and room for their outcomes and for what their reads find.
use Rattle.std.specs.Prelude.{ℕ, ◌≤◌, ◌<◌, ◌+◌, ◌*◌, List, length, Option, vec_capacity}
use Rattle.std.proofs.Common.{Global, Vec}
use Rattle.std.specs.declared.sync.ledger.Share.{Share}
use Rattle.tmf_model.specs.declared.script.Item.{Item}
use Rattle.run_outcomes.specs.Knowing.{most_tokens}
use Rattle.run_outcomes.specs.Room.{AreRoomsForReads, most_outcomes}
use Rattle.run_outcomes.specs.declared.outcome.Outcome.{Outcome}

pub record HasRoomFor {L : Type 0} (items : List Item) (share : Share L) (outcomes : Vec Outcome Global) (reads : List (Vec (ℕ × Option (List ℕ)) Global)) : Type 0 where
  pub parts : 0 < share.parts
  pub tokens : most_tokens * most_outcomes items ≤ share.amount
  pub outcomes_room : length outcomes.items + most_outcomes items ≤ vec_capacity outcomes
  pub reads_room : AreRoomsForReads items reads
