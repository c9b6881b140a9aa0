-- How a worker comes to know its acts and the moves for its items, and that it has tokens enough for both.
use Rattle.std.specs.Prelude.{◌≡◌, ℕ, ◌+◌, ◌*◌, ◌<◌, true, List, [], ◌∷◌, ◌++◌}
use mathlib.Core.List.{IsPrefix}
use Rattle.chronicle.specs.Seats.{new_seat}
use Rattle.node_machine.specs.Acts.{is_act_of}
use Rattle.run_outcomes.specs.Reach.{HasActed, HasMoved, KnowsActsAndMoves, Reach, first_tokens}
use Rattle.node_machine.specs.Deeds.{Log}
use Rattle.node_machine.specs.Same.{Among}
use Rattle.node_machine.specs.declared.event.Event.{Event}
use Rattle.tmf_model.specs.Script.{IsValidWorker}
use Rattle.tmf_model.specs.declared.config.Config.{Config}
use Rattle.tmf_model.specs.declared.script.Item.{Item}
use Rattle.node_machine.specs.Moves.{is_move_of}
use Rattle.run_outcomes.specs.Room.{most_outcomes}

-- How many tokens an attempt or an item may give: a step of a transaction is an act, of which there are 64 at most, and so is a turn; for a control point or a dump there is one act or one move at most.
abbrev pub most_tokens : ℕ
most_tokens = 65

-- A worker that begins, with all its tokens, knows no act and no move.
abbrev pub FirstLaw : Type 0
FirstLaw = (worker part : ℕ) → KnowsActsAndMoves worker (record { seat = new_seat part; tokens = first_tokens }) [] []

-- The worker's seat has seen more, an act of the worker's among it, and one token was given for that.
pub record HasActedOnce (worker : ℕ) (old new : Reach) (act : ℕ × Event) : Type 0 where
  pub own : is_act_of worker act.1 ≡ true
  pub more : Log
  pub seen : new.seat.seen ≡ old.seat.seen ++ more
  pub among : Among more act
  pub given : new.tokens + 1 ≡ old.tokens

-- Whatever acts it knew, it knows that one too.
abbrev pub OnceLaw : Type 0
OnceLaw = (worker : ℕ) (old new : Reach) (act : ℕ × Event) → HasActedOnce worker old new act → HasActed worker old new (act ∷ [])

-- Where its seat has seen more, and no token was given, it knows no other act, and no other move.
abbrev pub StillLaw : Type 0
StillLaw = (worker : ℕ) (old new : Reach) → IsPrefix old.seat.seen new.seat.seen → new.tokens ≡ old.tokens → HasActed worker old new []

-- It knows the acts of one step, and those of the next.
abbrev pub ThenLaw : Type 0
ThenLaw = (worker : ℕ) (first second third : Reach) (acts more : Log) → HasActed worker first second acts → HasActed worker second third more → HasActed worker first third (acts ++ more)

-- The worker's seat has seen more, a move for an item of the worker's among it, and one token was given for that.
pub record HasMovedOnce (worker : ℕ) (old new : Reach) (move : ℕ × Event) : Type 0 where
  pub own : is_move_of worker move.1 ≡ true
  pub more : Log
  pub seen : new.seat.seen ≡ old.seat.seen ++ more
  pub among : Among more move
  pub given : new.tokens + 1 ≡ old.tokens

-- What a worker comes to know of moves for its items: that one too; none where no token was given; and those of one step, with those of the next.
pub record MovesAreKnown (worker : ℕ) : Type 0 where
  pub once : (old new : Reach) (move : ℕ × Event) → HasMovedOnce worker old new move → HasMoved worker old new (move ∷ [])
  pub still : (old new : Reach) → IsPrefix old.seat.seen new.seat.seen → new.tokens ≡ old.tokens → HasMoved worker old new []
  pub next : (first second third : Reach) (moves more : Log) → HasMoved worker first second moves → HasMoved worker second third more → HasMoved worker first third (moves ++ more)

abbrev pub MovesKnownLaw : Type 0
MovesKnownLaw = (worker : ℕ) → MovesAreKnown worker

-- A worker begins with more tokens than its items may come to acts and moves.
abbrev pub EnoughLaw : Type 0
EnoughLaw = (config : Config) (items : List Item) → IsValidWorker config items → most_tokens * most_outcomes items < first_tokens
