use Rattle.std.specs.List.{IsDistinct}
use Rattle.volume_restore.proofs.block.can_take.Goals as goal

pub room-requires : goal.room-requires
unfolding IsDistinct
room-requires c = tt
