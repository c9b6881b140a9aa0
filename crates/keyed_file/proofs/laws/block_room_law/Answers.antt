use Rattle.keyed_file.proofs.Rooms.{can_take}
use Rattle.keyed_file.proofs.laws.block_room_law.Goals as goal

pub returns : goal.returns
returns c = can_take
