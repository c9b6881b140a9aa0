use Rattle.std.proofs.Common.{sym, subst, ◌∙◌}
use Rattle.node_machine.specs.Opening.{Found}
use Rattle.disc_process.specs.Disc.{AreTrails}
use Rattle.one_disc.proofs.tests.settled.Goals as goal

pub land-requires : goal.land-requires
land-requires g c = subst (λ (f : Found). AreTrails f.config c.args.trails.now) (sym c.requires.found) c.requires.trails

pub settle-requires : goal.settle-requires
settle-requires g c = c.land.ensures.same.1 ∙ c.requires.handed ∙ sym c.requires.disc.number
