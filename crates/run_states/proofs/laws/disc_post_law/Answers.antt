use Rattle.run_states.proofs.Discs.{disc_post_law}
use Rattle.run_states.proofs.laws.disc_post_law.Goals as goal

pub returns : goal.returns
returns g c = disc_post_law g.D.Disk
