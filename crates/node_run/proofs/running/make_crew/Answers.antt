use Rattle.std.proofs.Common.{arith, length}
use Rattle.node_run.proofs.Tokens.{home_dealt, may_deal}
use Rattle.node_run.proofs.running.make_crew.Goals as goal

pub make_hands-requires-clause-home : goal.make_hands-requires-clause-home
make_hands-requires-clause-home g c =
    may_deal c.args.discs (length c.args.phase.now.workers) c.args.tokens.now.book c.args.tokens.now.home c.requires.few c.requires.workers c.requires.tokens

pub make_hands-requires-clause-crew : goal.make_hands-requires-clause-crew
make_hands-requires-clause-crew g c = record {
  empty = c.requires.crew.0.empty;
  room = omega (arith, c.requires.crew.0.enough, c.requires.few, c.requires.workers);
  seats_are = c.requires.crew.1;
}

pub returns-clause-tokens : goal.returns-clause-tokens
returns-clause-tokens g c =
    home_dealt c.args.discs (length c.args.phase.now.workers) c.args.tokens.now.book c.args.tokens.now.home _ c.requires.tokens c.make_hands.ensures.dealt
