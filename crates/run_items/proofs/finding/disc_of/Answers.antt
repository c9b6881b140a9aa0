use Rattle.run_items.proofs.Found.{has_disc, is_disc}
use Rattle.run_items.proofs.finding.disc_of.Goals as goal

pub unreachable-requires : goal.unreachable-requires
unreachable-requires g c = has_disc c.args.discs.now c.args.number c.found.result c.requires c.found.ensures c.in-None.is

pub returns : goal.returns
returns g c = is_disc c.args.discs.now c.args.number c.found.result c.in-Some.disc c.found.ensures c.in-Some.is
