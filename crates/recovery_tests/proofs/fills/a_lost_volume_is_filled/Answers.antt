use Rattle.std.proofs.Common.{[], ◌∷◌, arith}
use Rattle.rollforward.proofs.Rooms.{few-room}
use Rattle.recovery_tests.proofs.fills.a_lost_volume_is_filled.Goals as goal

pub fill-requires-clause-room : goal.fill-requires-clause-room
fill-requires-clause-room g c = few-room c.in_ok-config.config 1 (c.in_ok-entry.field-0 ∷ c.in_ok-entry-2.field-0 ∷ c.in_ok-entry-3.field-0 ∷ []) (omega arith)
