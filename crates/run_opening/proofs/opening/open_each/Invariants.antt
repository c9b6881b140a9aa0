use Rattle.std.proofs.Common.{◌≡◌, length, drop}
use Rattle.std.specs.Prelude.{vec_capacity}
use Rattle.run_outcomes.specs.Run.{volumes_named}
use Rattle.run_opening.specs.Opening.{AreOpenedSoFar, HasSeen}
use Rattle.run_opening.proofs.opening.open_each.Given as goal

abbrev pub invariant-loop-number : goal.invariant-loop-number
invariant-loop-number g l = record {
  so_far : AreOpenedSoFar g.D.Disk l.run.config.now l.run.epoch (volumes_named l.run.config.now l.run.phase.now) l.initial.row.devices l.kept.items;
  count : length l.kept.items ≡ l.number;
  rest : l.row.devices ≡ drop l.number l.initial.row.devices;
  seen : HasSeen g.D.Disk l.run.config.now l.initial.row.devices l.number l.lasts;
  room : l.row.room ≡ l.initial.row.room;
  capacity : vec_capacity l.kept ≡ vec_capacity l.initial.kept;
}
