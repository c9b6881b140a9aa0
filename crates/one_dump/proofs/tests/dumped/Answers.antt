use Rattle.std.proofs.Common.{ap, sym, ◌∙◌, subst, arith}
use Rattle.tmf_model.specs.declared.config.Config.{Config}
use Rattle.disc_process.specs.Disc.{AreTrails}
use Rattle.disc_lock.specs.Locks.{number_of}
use Rattle.one_dump.proofs.OneDump.{dump_gives}
use Rattle.one_dump.proofs.tests.dumped.Goals as goal

pub dump-requires-clause-number : goal.dump-requires-clause-number
dump-requires-clause-number g c = c.requires.run.1 ∙ sym c.requires.run.2

pub dump-requires-clause-trails : goal.dump-requires-clause-trails
dump-requires-clause-trails g c = subst (λ (k : Config). AreTrails k c.args.trails.now) (sym (ap (λ f. f.config) c.requires.run.0)) c.requires.trails

pub returns : goal.returns
returns g c =
    dump_gives g.D.Disk g.J.DeviceRun.devices g.J.Run.opening g.J.NodeRun.found (number_of c.args.disc.now) c.first_of-item.result c.args.hand.now.seat c.dump.new.seat c.args.hand.now.share c.dump.new.share c.dump.result c.dump.ensures.dumped c.dump.ensures.refused
