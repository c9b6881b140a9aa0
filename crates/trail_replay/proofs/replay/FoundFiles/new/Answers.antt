use Rattle.std.proofs.Common.{◌-◌, ◌<◌, length, arith}
use Rattle.trail_replay.proofs.Founds.{found-none}
use Rattle.trail_replay.proofs.Replays.{found-empty}
use Rattle.trail_replay.proofs.replay.FoundFiles.new.Goals as goal

pub returns-clause-none : goal.returns-clause-none
returns-clause-none c = λ file disc list some few.
    let count = c.loop.invariant.count in
    let below : file - 1 < length c.loop.files.items = omega (arith, some, few, count, c.loop-test, c.loop.auto) in
    let at = found-empty c.loop.files.items (file - 1) below c.loop.invariant.none in
    record { found = at.0; is_there = at.1; is_found = found-none disc 1 file list at.0 at.2 }
