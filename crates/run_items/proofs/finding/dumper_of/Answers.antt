use Rattle.run_items.proofs.Found.{has_dumper, is_dumper}
use Rattle.run_items.proofs.finding.dumper_of.Goals as goal

pub unreachable-requires : goal.unreachable-requires
unreachable-requires g c = has_dumper c.args.dumpers.now c.args.number c.found_dumper.result c.requires c.found_dumper.ensures c.in-None.is

pub returns : goal.returns
returns g c = is_dumper c.args.dumpers.now c.args.number c.found_dumper.result c.in-Some.dumper c.found_dumper.ensures c.in-Some.is
