-- Reach: how far a worker has come, and which acts and moves it knows.
use Rattle.std.specs.Prelude.{◌≡◌, ℕ, ◌+◌, ◌^◌, ◌++◌, length}
use Rattle.std.specs.declared.sync.ledger.Share.{Share}
use Rattle.chronicle.specs.Seats.{Sight}
use Rattle.node_machine.specs.Acts.{StandIn, acts_of}
use Rattle.node_machine.specs.Deeds.{Log}
use Rattle.node_machine.specs.Moves.{moves_of}
use Rattle.node_machine.specs.declared.event.Event.{Event}

-- how many tokens a worker begins with: more than the acts and the moves that its items may come to
abbrev pub first_tokens : ℕ
first_tokens = 2 ^ 40

-- how far a worker has come: what its seat has seen, and how many tokens it has left
pub record Reach : Type 0 where
  pub seat : Sight Event
  pub tokens : ℕ

-- the same by its seat and its share of the tokens
abbrev pub reach_at : {L : Type 0} → Sight Event → Share L → Reach
reach_at seat share = record { seat = seat; tokens = share.amount }

-- The worker knows these acts of its attempts and items, and these moves for its items: they stand in what its seat has seen, and are together as many as the tokens that it has given.
pub record KnowsActsAndMoves (worker : ℕ) (at : Reach) (acts moves : Log) : Type 0 where
  pub own : acts_of worker acts ≡ acts
  pub stand : StandIn acts at.seat.seen
  pub own_moves : moves_of worker moves ≡ moves
  pub moves_stand : StandIn moves at.seat.seen
  pub counted : (length acts + length moves) + at.tokens ≡ first_tokens

-- whatever acts and moves it knew, it knows these more acts
abbrev pub HasActed : ℕ → Reach → Reach → Log → Type 0
HasActed worker old new more = (acts moves : Log) → KnowsActsAndMoves worker old acts moves → KnowsActsAndMoves worker new (acts ++ more) moves

-- and the same of moves
abbrev pub HasMoved : ℕ → Reach → Reach → Log → Type 0
HasMoved worker old new more = (acts moves : Log) → KnowsActsAndMoves worker old acts moves → KnowsActsAndMoves worker new acts (moves ++ more)
