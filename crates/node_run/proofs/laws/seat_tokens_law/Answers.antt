use Rattle.node_run.proofs.SeatTokens.{seat_tokens_law}
use Rattle.node_run.proofs.laws.seat_tokens_law.Goals as goal

pub returns : goal.returns
returns c = seat_tokens_law
