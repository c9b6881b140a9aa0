use Rattle.std.proofs.Common.{sym}
use Rattle.std.specs.List.{IsDistinct}
use Rattle.keyed_file.proofs.Rooms.{can_take_alone}
use Rattle.file_tests.proofs.volume_bytes.put.Goals as goal

pub room-requires : goal.room-requires
unfolding IsDistinct
room-requires c = tt

pub set-requires : goal.set-requires
set-requires c = can_take_alone c.args.block.now c.in_ok-key.key c.in_ok-value.value c.in-Ok.ensures.valid (sym c.in-Ok.ensures.exact)
