use Rattle.std.proofs.Common.{subst, sym}
use Rattle.run_outcomes.specs.Room.{AreRooms}
use Rattle.run_threads.specs.Room.{IsRoomForAll}
use Rattle.node_run.specs.declared.room.PhaseRoom.{PhaseRoom}
use Rattle.node_run.proofs.Begins.{under_name}
use Rattle.node_run.proofs.under.run_parts.Goals as goal

pub build-requires-clause-may : goal.build-requires-clause-may
build-requires-clause-may g c = (c.args.run.epoch, c.requires.may)

pub run_built-requires-clause-name : goal.run_built-requires-clause-name
run_built-requires-clause-name g c κs within = under_name c.requires.may c.begun_law.ensures.name

pub run_built-requires-clause-room : goal.run_built-requires-clause-room
run_built-requires-clause-room g c κs within =
    let same = sym c.in-Ok.ensures.phase in (
      subst (λ (p : PhaseRoom). AreRooms c.args.run.phase.now.workers p.workers.items) same c.requires.room.0,
      subst (λ (p : PhaseRoom). IsRoomForAll c.args.run.phase.now p.outcomes) same c.requires.room.1,
      c.in-Ok.ensures.hands,
      c.in-Ok.ensures.seats,
    )
