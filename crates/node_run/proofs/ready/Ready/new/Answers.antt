use Rattle.run_outcomes.specs.Devices.{told_in}
use Rattle.run_states.specs.Begun.{device_in}
use Rattle.node_run.proofs.Listings.{only_listed}
use Rattle.node_run.proofs.ready.Ready.new.Goals as goal

pub returns-clause-list : goal.returns-clause-list
returns-clause-list g c = only_listed (told_in g.D.Disk (device_in c.args.opened.kept.items)) _
