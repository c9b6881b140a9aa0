use Rattle.phase_one.proofs.Found.{has_disc, is_disc}
use Rattle.phase_one.proofs.phase.disc_at.Goals as goal

pub unreachable-requires : goal.unreachable-requires
unreachable-requires g c = has_disc c.args.discs.now c.args.number c.disc_of.result c.requires c.disc_of.ensures c.in-None.is

pub returns : goal.returns
returns g c = is_disc c.args.discs.now c.args.number c.disc_of.result c.in-Some.disc c.disc_of.ensures c.in-Some.is
