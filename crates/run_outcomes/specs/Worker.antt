-- A worker between two of its items: what its outcomes tell stands in each history that goes on from what its seat has seen.
use Rattle.std.specs.Prelude.{◌≡◌, ℕ, ◌≤◌, ◌+◌, ◌*◌, List, length, Some}
use mathlib.Core.List.{IsPrefix}
use Rattle.chronicle.specs.Histories.{IsHistory}
use Rattle.chronicle.specs.Seats.{Sight, part_state}
use Rattle.node_machine.specs.Acts.{actor, acts_by}
use Rattle.run_outcomes.specs.Reach.{KnowsActsAndMoves, Reach}
use Rattle.node_machine.specs.Deeds.{HasBegun, HasQuit, HasWorkerEvent, Log}
use Rattle.node_machine.specs.Node.{node}
use Rattle.node_machine.specs.Opening.{Found, worker_part}
use Rattle.node_machine.specs.Parts.{PartState, WorkerPart}
use Rattle.node_machine.specs.Parts.PartState.{Worker}
use Rattle.node_machine.specs.Same.{Among, IsBefore}
use Rattle.node_machine.specs.declared.event.Event.{Event}
use Rattle.node_machine.specs.declared.event.WorkerEvent.{WorkerEvent}
use Rattle.node_machine.specs.declared.event.WorkerEvent.TheVariants.{End}
use Rattle.tmf_model.specs.declared.transid.Transid.{Transid}
use Rattle.run_outcomes.specs.Between.{IsEventOf, MayBeNext}
use Rattle.run_outcomes.specs.Dumps.{HasEndedItsDumps}
use Rattle.run_outcomes.specs.Knowing.{most_tokens}
use Rattle.node_machine.specs.Moves.{mover, moves_by}
use Rattle.run_outcomes.specs.Told.{Account, IsCommitted, IsOutcomeTold, MayBeCommitted}
use Rattle.run_outcomes.specs.Within.{KeepsLimit}
use Rattle.run_outcomes.specs.declared.outcome.Outcome.{Outcome}

-- The history goes on from what the seat has seen, has these acts of the attempt and these moves for it alone, and no event more of its worker for it.
pub record GoesOn (opening : List PartState) (seat : Sight Event) (t : Transid) (acts moves log : Log) : Type 0 where
  pub history : IsHistory node opening log
  pub begins : IsPrefix seat.seen log
  pub own : (e : WorkerEvent) → IsEventOf t e → HasWorkerEvent log t e → HasWorkerEvent seat.seen t e
  pub only : acts_by t log ≡ acts
  pub moved : moves_by t log ≡ moves

-- The attempt that the outcome is of has had these acts, or there were these moves for its item, and each history that goes on so has what it tells; where it has the decision to
-- commit, the outcome tells of a commit or is in doubt, and where it has the other decision, it tells of none.
pub record IsToldBehind (opening : List PartState) (found : Found) (account : Log → Account) (seat : Sight Event) (outcome : Outcome) (acts moves : Log) : Type 0 where
  pub told : (log : Log) → GoesOn opening seat outcome.tx acts moves log → IsOutcomeTold (account log) outcome
  pub committed : (log : Log) → GoesOn opening seat outcome.tx acts moves log → HasWorkerEvent log outcome.tx (End outcome.tx) → MayBeCommitted outcome.told
  pub backed_out : (log : Log) → GoesOn opening seat outcome.tx acts moves log → HasQuit log outcome.tx → IsCommitted outcome.told → ⊥
  pub within : (log : Log) → GoesOn opening seat outcome.tx acts moves log → KeepsLimit found outcome.tx log

-- A worker at a moment, at which it knows these acts and these moves: its events, its acts and its moves are those of its outcomes' attempts, and each outcome is told by them.
pub record IsWorker (opening : List PartState) (found : Found) (account : Log → Account) (worker : ℕ) (at : Reach) (acts moves : Log) (outcomes : List Outcome) : Type 0 where
  pub part : at.seat.part ≡ Some (worker_part worker)
  pub own : (outcome : Outcome) → Among outcomes outcome → outcome.tx.worker ≡ worker
  pub begun : (t : Transid) → HasBegun at.seat.seen t → t.worker ≡ worker → (outcome : Outcome) × Among outcomes outcome × (outcome.tx ≡ t)
  -- all that it has begun is decided: each attempt that is later than its outcomes' may be the next
  pub state : WorkerPart
  pub at_state : part_state node opening at.seat ≡ Some (Worker state)
  pub next : (t : Transid) → ((outcome : Outcome) → Among outcomes outcome → IsBefore outcome.tx t) → MayBeNext state.events t
  pub knows : KnowsActsAndMoves worker at acts moves
  pub few : length acts + length moves ≤ most_tokens * length outcomes
  pub theirs : (part : ℕ) (e : Event) (t : Transid) → Among acts (part, e) → actor e ≡ Some t → (outcome : Outcome) × Among outcomes outcome × (outcome.tx ≡ t)
  pub moved : (part : ℕ) (e : Event) (t : Transid) → Among moves (part, e) → mover e ≡ Some t → (outcome : Outcome) × Among outcomes outcome × (outcome.tx ≡ t)
  pub told : (outcome : Outcome) → Among outcomes outcome → IsToldBehind opening found account at.seat outcome (acts_by outcome.tx acts) (moves_by outcome.tx moves)
  pub dumps : HasEndedItsDumps at.seat.seen moves outcomes
