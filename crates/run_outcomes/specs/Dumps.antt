-- How the dumps of a worker's items lie in what its seat has seen: each is ended between two of its items, and none was under way where one of them was turned away from a dump.
use Rattle.std.specs.Prelude.{◌≡◌, ◌⊎◌, ℕ, List, [], ◌∷◌, ◌++◌}
use Rattle.node_machine.specs.Deeds.{Log}
use Rattle.node_machine.specs.Same.{Among}
use Rattle.tmf_model.specs.declared.transid.Transid.{Transid}
use Rattle.run_outcomes.specs.Moves.{HasRaised, dump_turn, start_move}
use Rattle.run_outcomes.specs.declared.outcome.Outcome.{Outcome}
use Rattle.run_outcomes.specs.declared.outcome.Told.TheVariants.{Dumping}

-- each dump that was begun by one of these moves is ended
abbrev pub AreDumpsEnded : Log → Log → Type 0
AreDumpsEnded seen moves = (volume : ℕ) (t : Transid) (number start : ℕ) → Among moves (start_move volume t number start) → HasRaised seen volume number

-- The item was turned away from a dump of the volume, and of the dumps that were begun there by these moves each was ended in front of that, or was begun behind it.
pub record IsTurnedByNoneOf (seen moves : Log) (volume : ℕ) (t : Transid) : Type 0 where
  pub front : Log
  pub rest : Log
  pub stands : seen ≡ front ++ dump_turn volume t ∷ rest
  pub each : (u : Transid) (number start : ℕ) → Among moves (start_move volume u number start) → HasRaised front volume number ⊎ Among rest (start_move volume u number start)

-- Each dump that was begun by these moves of a worker's is ended, and none was under way where one of its items was turned away.
pub record HasEndedItsDumps (seen moves : Log) (outcomes : List Outcome) : Type 0 where
  pub ended : AreDumpsEnded seen moves
  pub apart : (outcome : Outcome) (volume : ℕ) → Among outcomes outcome → outcome.told ≡ Dumping volume → IsTurnedByNoneOf seen moves volume outcome.tx

-- An attempt or item has come to this outcome by these moves. Each dump that was begun by them was begun since, and is ended; where the item was turned away from a dump, that was since too, and there was no move.
pub record EndsItsDumps (old new moves : Log) (outcome : Outcome) : Type 0 where
  pub more : Log
  pub seen : new ≡ old ++ more
  pub begun : (volume : ℕ) (t : Transid) (number start : ℕ) → Among moves (start_move volume t number start) → Among more (start_move volume t number start)
  pub ended : AreDumpsEnded new moves
  pub turned : (volume : ℕ) → outcome.told ≡ Dumping volume → (moves ≡ []) × Among more (dump_turn volume outcome.tx)
