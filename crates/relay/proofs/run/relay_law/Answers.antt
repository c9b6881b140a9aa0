use Rattle.std.proofs.Common.{arith}
use Rattle.relay.proofs.NoMoreTaken.{no_more_taken}
use Rattle.relay.proofs.run.relay_law.Goals as goal

pub returns : goal.returns
returns c log h = let all = no_more_taken 0 0 log (omega arith) h in omega (arith, all)
