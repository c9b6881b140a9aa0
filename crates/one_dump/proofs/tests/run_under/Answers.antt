use Rattle.std.proofs.Common.{sym, subst}
use Rattle.disc_process.specs.Disc.{AreTrails}
use Rattle.one_dump.specs.OneDump.{one_config}
use Rattle.one_dump.proofs.OneDump.{one_writer}
use Rattle.one_dump.proofs.tests.run_under.Goals as goal

pub dump_all-state-requires-clause-trails : goal.dump_all-state-requires-clause-trails
dump_all-state-requires-clause-trails g c = subst (AreTrails one_config) (sym c.one-trails.ensures) (one_writer c.in_ok-writer.writer c.in_ok-writer.ensures)
