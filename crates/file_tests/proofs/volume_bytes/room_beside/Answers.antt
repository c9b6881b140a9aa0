use Rattle.std.specs.List.{IsDistinct}
use Rattle.file_tests.proofs.volume_bytes.room_beside.Goals as goal

pub room-requires : goal.room-requires
unfolding IsDistinct
room-requires c = (tt, tt)
