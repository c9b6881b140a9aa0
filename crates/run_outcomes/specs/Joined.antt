-- A worker that goes on by one outcome more.
use Rattle.std.specs.Prelude.{◌≡◌, ◌≢◌, ℕ, ◌≤◌, ◌+◌, List, [], ◌∷◌, ◌++◌, length, Option, Some}
use mathlib.Core.List.{IsPrefix}
use Rattle.chronicle.specs.Histories.{IsHistory}
use Rattle.chronicle.specs.Seats.{part_state}
use Rattle.disk_model.specs.declared.disk.Disk as disk
use Rattle.tmf_model.specs.declared.config.Config.{Config}
use Rattle.tmf_model.specs.declared.script.Phase.{Phase}
use Rattle.node_machine.specs.Acts.{acts_by}
use Rattle.node_machine.specs.Deeds.{HasWorkerEvent, Log}
use Rattle.node_machine.specs.Moves.{moves_by}
use Rattle.node_machine.specs.Node.{node}
use Rattle.node_machine.specs.Opening.{Found, opening_parts}
use Rattle.node_machine.specs.Parts.{PartState, WorkerPart}
use Rattle.node_machine.specs.Parts.PartState.{Worker}
use Rattle.node_machine.specs.Same.{Among, IsBefore}
use Rattle.node_machine.specs.declared.event.WorkerEvent.{WorkerEvent}
use Rattle.tmf_model.specs.declared.transid.Transid.{Transid}
use Rattle.run_outcomes.specs.Between.{HasNone, IsEventOf, MayBeNext}
use Rattle.run_outcomes.specs.Dumps.{EndsItsDumps}
use Rattle.run_outcomes.specs.Knowing.{most_tokens}
use Rattle.run_outcomes.specs.Reach.{KnowsActsAndMoves, Reach}
use Rattle.run_outcomes.specs.Run.{account_of}
use Rattle.run_outcomes.specs.Told.{Account}
use Rattle.run_outcomes.specs.Worker.{IsToldBehind, IsWorker}
use Rattle.run_outcomes.specs.declared.outcome.Outcome.{Outcome}

-- the attempt or item is of this worker, and later than those of its outcomes
pub record IsNext (worker : ℕ) (outcomes : List Outcome) (t : Transid) : Type 0 where
  pub own : t.worker ≡ worker
  pub later : (outcome : Outcome) → Among outcomes outcome → IsBefore outcome.tx t

-- whatever acts and moves the worker knew, it knows these more of each
abbrev pub KnowsMore : ℕ → Reach → Reach → Log → Log → Type 0
KnowsMore worker old new more_acts more_moves =
    (acts moves : Log) → KnowsActsAndMoves worker old acts moves → KnowsActsAndMoves worker new (acts ++ more_acts) (moves ++ more_moves)

-- The worker's part has a state behind it in which an attempt that is later may be the next, if it might before.
pub record GoesOnBehind (opening : List PartState) (t : Transid) (old new : Reach) : Type 0 where
  pub before : WorkerPart
  pub was : part_state node opening old.seat ≡ Some (Worker before)
  pub after : WorkerPart
  pub is : part_state node opening new.seat ≡ Some (Worker after)
  pub next : (u : Transid) → IsBefore t u → MayBeNext before.events u → MayBeNext after.events u

-- A worker has come from one reach to another by an attempt or an item, which has come to this outcome. Of its own events those are new alone that are of that; it knows these acts of it and these
-- moves for it; and what is told of it stands in each history that goes on from here.
pub record HasComeTo (opening : List PartState) (found : Found) (account : Log → Account) (outcome : Outcome) (old new : Reach) (acts moves : Log) : Type 0 where
  pub part : new.seat.part ≡ old.seat.part
  pub begins : IsPrefix old.seat.seen new.seat.seen
  pub others : (u : Transid) (e : WorkerEvent) → u.worker ≡ outcome.tx.worker → u ≢ outcome.tx → IsEventOf u e → HasWorkerEvent new.seat.seen u e → HasWorkerEvent old.seat.seen u e
  pub behind : GoesOnBehind opening outcome.tx old new
  pub known : KnowsMore outcome.tx.worker old new acts moves
  pub few : length acts + length moves ≤ most_tokens
  pub acts_of_it : acts_by outcome.tx acts ≡ acts
  pub moves_of_it : moves_by outcome.tx moves ≡ moves
  pub told : IsToldBehind opening found account new.seat outcome acts moves
  pub dumps : EndsItsDumps old.seat.seen new.seat.seen moves outcome

-- Then it is a worker with that outcome more.
abbrev pub JoinedLaw : {D : Type 0} → disk.Ghosts D → Type 0
JoinedLaw {D} kind =
    (config : Config) (phase : Phase) (epoch : ℕ) (handed_in : ℕ → Option D) (found : Found) (opening : List PartState) (worker : ℕ) (old new : Reach) (acts moves : Log) (outcomes : List Outcome)
    (outcome : Outcome) (more_acts more_moves : Log)
    → IsWorker opening found (account_of kind config phase epoch handed_in found) worker old acts moves outcomes → IsNext worker outcomes outcome.tx
    → HasComeTo opening found (account_of kind config phase epoch handed_in found) outcome old new more_acts more_moves
    → IsWorker opening found (account_of kind config phase epoch handed_in found) worker new (acts ++ more_acts) (moves ++ more_moves) (outcomes ++ outcome ∷ [])

-- A worker has had no event for an attempt or item that is later than those of its outcomes.
abbrev pub NoneLaw : {D : Type 0} → disk.Ghosts D → Type 0
NoneLaw {D} kind =
    (config : Config) (phase : Phase) (epoch : ℕ) (handed_in : ℕ → Option D) (found : Found) (worker : ℕ) (at : Reach) (acts moves : Log) (outcomes : List Outcome) (t : Transid)
    → IsHistory node (opening_parts found) at.seat.seen → IsWorker (opening_parts found) found (account_of kind config phase epoch handed_in found) worker at acts moves outcomes → IsNext worker outcomes t
    → HasNone at.seat.seen t
