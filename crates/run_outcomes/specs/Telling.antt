-- What all workers know of their outcomes is what the history says of them.
use Rattle.std.specs.Prelude.{◌≡◌, ◌⊎◌, ℕ, ◌+◌, ◌*◌, ◌++◌, List, Option, Some, sum}
use Rattle.chronicle.specs.Histories.{IsHistory, states_after}
use Rattle.chronicle.specs.Seats.{IsWholeOf}
use Rattle.disk_model.specs.declared.disk.Disk as disk
use Rattle.node_machine.specs.Acts.{actor}
use Rattle.run_outcomes.specs.Reach.{Reach, first_tokens}
use Rattle.node_machine.specs.Deeds.{Log}
use Rattle.node_machine.specs.Monitor.{offered_car, recorded}
use Rattle.node_machine.specs.Node.{node}
use Rattle.node_machine.specs.Opening.{Found, each_from, opening_parts, worker_part}
use Rattle.node_machine.specs.Same.{Among}
use Rattle.node_machine.specs.declared.event.Event.{Event}
use Rattle.node_machine.specs.declared.event.Event.TheVariants.{OfWorker}
use Rattle.node_machine.specs.declared.event.WorkerEvent.TheVariants.{Begin}
use Rattle.tmf_model.specs.Config.{IsWithin}
use Rattle.tmf_model.specs.declared.config.Config.{Config}
use Rattle.tmf_model.specs.declared.script.Phase.{Phase}
use Rattle.tmf_model.specs.declared.transid.Transid.{Transid}
use Rattle.trail_files.specs.declared.monitor_record.MonitorRecord.{MonitorRecord}
use Rattle.run_outcomes.specs.Counted.{all_tokens}
use Rattle.run_outcomes.specs.Devices.{workers}
use Rattle.run_outcomes.specs.Ends.{monitor_events}
use Rattle.node_machine.specs.Moves.{mover}
use Rattle.run_outcomes.specs.Run.{account_of}
use Rattle.run_outcomes.specs.Told.{Account, AreTold, IsOutcomeTold, IsRecordOf}
use Rattle.run_outcomes.specs.Within.{AreWithin}
use Rattle.run_outcomes.specs.Worker.{IsWorker}
use Rattle.run_outcomes.specs.declared.outcome.Outcome.{Outcome}

-- The workers at the end of a history: the seat of each has seen a front of it, with all its events; all tokens are theirs still, or those of the discs' acts and moves; and these
-- are all outcomes.
pub record AreWorkers (account : Log → Account) (found : Found) (log : Log) (reach : ℕ → Reach) (acts moves : ℕ → Log) (of : ℕ → List Outcome) (outcomes : List Outcome) : Type 0 where
  pub history : IsHistory node (opening_parts found) log
  pub whole : (worker : ℕ) → IsWithin 1 workers worker → IsWholeOf log (reach worker).seat
  pub is : (worker : ℕ) → IsWithin 1 workers worker → IsWorker (opening_parts found) found account worker (reach worker) (acts worker) (moves worker) (of worker)
  pub tokens : all_tokens log + sum (each_from (λ worker. (reach worker).tokens) 1 workers) ≡ workers * first_tokens
  pub each : (outcome : Outcome) → Among outcomes outcome → IsWithin 1 workers outcome.tx.worker × Among (of outcome.tx.worker) outcome
  pub all : (worker : ℕ) (outcome : Outcome) → IsWithin 1 workers worker → Among (of worker) outcome → Among outcomes outcome

-- Then the history has, for each outcome, what it tells,
abbrev pub EachLaw : {D : Type 0} → disk.Ghosts D → Type 0
EachLaw {D} kind =
    (config : Config) (phase : Phase) (epoch : ℕ) (handed_in : ℕ → Option D) (found : Found) (log : Log) (reach : ℕ → Reach) (acts moves : ℕ → Log) (of : ℕ → List Outcome) (outcomes : List Outcome)
    → AreWorkers (account_of kind config phase epoch handed_in found) found log reach acts moves of outcomes
    → (outcome : Outcome) → Among outcomes outcome → IsOutcomeTold (account_of kind config phase epoch handed_in found log) outcome

-- the entry is the attempt's begin, an act of it, or a move for it
abbrev pub IsOf : Transid → ℕ → Event → Type 0
IsOf t part e = ((part ≡ worker_part t.worker) × (e ≡ OfWorker (Begin t))) ⊎ (actor e ≡ Some t) ⊎ (mover e ≡ Some t)

-- it has no begin and no act of any other attempt, and no move for any other item,
abbrev pub NoOtherLaw : {D : Type 0} → disk.Ghosts D → Type 0
NoOtherLaw {D} kind =
    (config : Config) (phase : Phase) (epoch : ℕ) (handed_in : ℕ → Option D) (found : Found) (log : Log) (reach : ℕ → Reach) (acts moves : ℕ → Log) (of : ℕ → List Outcome) (outcomes : List Outcome)
    → AreWorkers (account_of kind config phase epoch handed_in found) found log reach acts moves of outcomes
    → (part : ℕ) (e : Event) (t : Transid) → Among log (part, e) → IsOf t part e → (outcome : Outcome) × Among outcomes outcome × (outcome.tx ≡ t)

-- whoever is told to have held a key or a file is another worker's attempt that asks for it: all outcomes are told,
abbrev pub ToldLaw : {D : Type 0} → disk.Ghosts D → Type 0
ToldLaw {D} kind =
    (config : Config) (phase : Phase) (epoch : ℕ) (handed_in : ℕ → Option D) (found : Found) (log : Log) (reach : ℕ → Reach) (acts moves : ℕ → Log) (of : ℕ → List Outcome) (outcomes : List Outcome)
    → AreWorkers (account_of kind config phase epoch handed_in found) found log reach acts moves of outcomes
    → AreTold (account_of kind config phase epoch handed_in found log) outcomes

-- each record of the monitor trail is of one of them,
abbrev pub RecordsLaw : {D : Type 0} → disk.Ghosts D → Type 0
RecordsLaw {D} kind =
    (config : Config) (phase : Phase) (epoch : ℕ) (handed_in : ℕ → Option D) (found : Found) (log : Log) (reach : ℕ → Reach) (acts moves : ℕ → Log) (of : ℕ → List Outcome) (outcomes : List Outcome)
    → AreWorkers (account_of kind config phase epoch handed_in found) found log reach acts moves of outcomes
    → (item : MonitorRecord)
    → Among (recorded (monitor_events (states_after node (opening_parts found) log)) ++ offered_car (monitor_events (states_after node (opening_parts found) log))) item
    → IsRecordOf outcomes item

-- and what has begun was begun within the limit of events.
abbrev pub WithinLaw : {D : Type 0} → disk.Ghosts D → Type 0
WithinLaw {D} kind =
    (config : Config) (phase : Phase) (epoch : ℕ) (handed_in : ℕ → Option D) (found : Found) (log : Log) (reach : ℕ → Reach) (acts moves : ℕ → Log) (of : ℕ → List Outcome) (outcomes : List Outcome)
    → AreWorkers (account_of kind config phase epoch handed_in found) found log reach acts moves of outcomes
    → AreWithin found log
