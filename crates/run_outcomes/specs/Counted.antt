-- That the acts which a worker knows, and the moves for its items, are all that there are.
use Rattle.std.specs.Prelude.{◌≡◌, ℕ, ◌+◌, ◌*◌, length, sum, Some}
use mathlib.Core.List.{IsPrefix}
use Rattle.chronicle.specs.Histories.{IsHistory, events_of}
use Rattle.node_machine.specs.Acts.{StandIn, act_count, actor, acts_of}
use Rattle.run_outcomes.specs.Reach.{KnowsActsAndMoves, Reach, first_tokens}
use Rattle.node_machine.specs.Deeds.{Log}
use Rattle.node_machine.specs.Node.{node}
use Rattle.node_machine.specs.Opening.{Found, disc_part, each_from, opening_parts}
use Rattle.node_machine.specs.Same.{Among}
use Rattle.node_machine.specs.declared.event.Event.{Event}
use Rattle.tmf_model.specs.Config.{IsWithin}
use Rattle.tmf_model.specs.declared.transid.Transid.{Transid}
use Rattle.run_outcomes.specs.Devices.{discs, workers}
use Rattle.node_machine.specs.Moves.{move_count, mover, moves_of, token_count}

-- how many acts the discs have had together
abbrev pub all_acts : Log → ℕ
all_acts log = sum (each_from (λ volume. act_count (events_of (disc_part volume) log)) 1 discs)

-- The acts are of the worker, and stand in first entries of the history.
pub record AreSeenActs (worker : ℕ) (log seen acts : Log) : Type 0 where
  pub begins : IsPrefix seen log
  pub own : acts_of worker acts ≡ acts
  pub stand : StandIn acts seen

-- Where each worker knows acts of its own, and the discs together have had as many acts as the workers know, a worker's acts in the history are those that it knows.
abbrev pub CountedLaw : Type 0
CountedLaw =
    (found : Found) (log : Log) (seen acts : ℕ → Log)
    → IsHistory node (opening_parts found) log
    → ((worker : ℕ) → IsWithin 1 workers worker → AreSeenActs worker log (seen worker) (acts worker))
    → all_acts log ≡ sum (each_from (λ worker. length (acts worker)) 1 workers)
    → (worker : ℕ) → IsWithin 1 workers worker → acts_of worker log ≡ acts worker

-- Then nobody else has had an act.
abbrev pub OthersLaw : Type 0
OthersLaw =
    (found : Found) (log : Log) (seen acts : ℕ → Log)
    → IsHistory node (opening_parts found) log
    → ((worker : ℕ) → IsWithin 1 workers worker → AreSeenActs worker log (seen worker) (acts worker))
    → all_acts log ≡ sum (each_from (λ worker. length (acts worker)) 1 workers)
    → (part : ℕ) (e : Event) (t : Transid) → Among log (part, e) → actor e ≡ Some t → IsWithin 1 workers t.worker

-- how many moves the discs have had together
abbrev pub all_moves : Log → ℕ
all_moves log = sum (each_from (λ volume. move_count (events_of (disc_part volume) log)) 1 discs)

-- The moves are for items of the worker, and stand in first entries of the history.
pub record AreSeenMoves (worker : ℕ) (log seen moves : Log) : Type 0 where
  pub begins : IsPrefix seen log
  pub own : moves_of worker moves ≡ moves
  pub stand : StandIn moves seen

-- the moves of the history are these: for each worker those for its items, and none for an item of anybody else
pub record AreAllMoves (log : Log) (moves : ℕ → Log) : Type 0 where
  pub each : (worker : ℕ) → IsWithin 1 workers worker → moves_of worker log ≡ moves worker
  pub others : (part : ℕ) (e : Event) (t : Transid) → Among log (part, e) → mover e ≡ Some t → IsWithin 1 workers t.worker

-- The same of moves, where the discs together have had as many as the workers know.
abbrev pub MovesLaw : Type 0
MovesLaw =
    (found : Found) (log : Log) (seen moves : ℕ → Log)
    → IsHistory node (opening_parts found) log
    → ((worker : ℕ) → IsWithin 1 workers worker → AreSeenMoves worker log (seen worker) (moves worker))
    → all_moves log ≡ sum (each_from (λ worker. length (moves worker)) 1 workers)
    → AreAllMoves log moves

-- how many tokens the discs have: one for each act and each move that they have had
abbrev pub all_tokens : Log → ℕ
all_tokens log = sum (each_from (λ volume. token_count (events_of (disc_part volume) log)) 1 discs)

-- the acts of the history are these, and the moves these: each worker's own, and none of anybody else
pub record AreAllActsAndMoves (log : Log) (acts moves : ℕ → Log) : Type 0 where
  pub acted : (worker : ℕ) → IsWithin 1 workers worker → acts_of worker log ≡ acts worker
  pub no_other : (part : ℕ) (e : Event) (t : Transid) → Among log (part, e) → actor e ≡ Some t → IsWithin 1 workers t.worker
  pub moved : AreAllMoves log moves

-- Both are those that the workers know, where all tokens that the workers began with are theirs still, or the discs', and the seat of each worker has seen first entries of the history.
abbrev pub TokensLaw : Type 0
TokensLaw =
    (found : Found) (log : Log) (reach : ℕ → Reach) (acts moves : ℕ → Log)
    → IsHistory node (opening_parts found) log
    → ((worker : ℕ) → IsWithin 1 workers worker → IsPrefix (reach worker).seat.seen log × KnowsActsAndMoves worker (reach worker) (acts worker) (moves worker))
    → all_tokens log + sum (each_from (λ worker. (reach worker).tokens) 1 workers) ≡ workers * first_tokens
    → AreAllActsAndMoves log acts moves
