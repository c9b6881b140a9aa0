-- All workers of a run, when they have ended.
use Rattle.std.specs.Prelude.{◌≡◌, ℕ, ◌+◌, ◌*◌, List, Option, sum}
use Rattle.std.specs.List.{Contains}
use Rattle.chronicle.specs.Histories.{IsHistory}
use Rattle.chronicle.specs.Seats.{IsWholeOf, Sight}
use Rattle.disk_model.specs.declared.disk.Disk as disk
use Rattle.tmf_model.specs.Config.{IsWithin}
use Rattle.tmf_model.specs.declared.script.Phase.{Phase}
use Rattle.node_machine.specs.Deeds.{Log}
use Rattle.node_machine.specs.Node.{node}
use Rattle.node_machine.specs.Opening.{Found, each_from, opening_parts}
use Rattle.node_machine.specs.Same.{Among}
use Rattle.node_machine.specs.declared.event.Event.{Event}
use Rattle.run_outcomes.specs.Counted.{all_tokens}
use Rattle.run_outcomes.specs.Devices.{workers}
use Rattle.run_outcomes.specs.Outcomes.{AreOutcomesOf}
use Rattle.run_outcomes.specs.Reach.{Reach, first_tokens}
use Rattle.run_outcomes.specs.Run.{account_of}
use Rattle.run_outcomes.specs.Telling.{AreWorkers}
use Rattle.run_outcomes.specs.Worker.{IsWorker}
use Rattle.run_outcomes.specs.declared.outcome.Outcome.{Outcome}

-- Each of the 16 workers has come so far, whether it had items or not, and its seat is among these. The outcomes are those of all, in the order that the phase asks for. So many tokens are those that the workers have left.
pub record HaveEnded {D : Type 0} (kind : disk.Ghosts D) (found : Found) (phase : Phase) (devices : ℕ → Option D) (seats : List (Sight Event)) (amount : ℕ) (outcomes : List Outcome) : Type 0 where
  pub reach : ℕ → Reach
  pub acts : ℕ → Log
  pub moves : ℕ → Log
  pub of : ℕ → List Outcome
  pub is : (worker : ℕ) → IsWithin 1 workers worker
      → IsWorker (opening_parts found) found (account_of kind found.config phase found.epoch devices found) worker (reach worker) (acts worker) (moves worker) (of worker)
  pub has : (worker : ℕ) → IsWithin 1 workers worker → Contains seats (reach worker).seat
  pub each : (outcome : Outcome) → Among outcomes outcome → IsWithin 1 workers outcome.tx.worker × Among (of outcome.tx.worker) outcome
  pub all : (worker : ℕ) (outcome : Outcome) → IsWithin 1 workers worker → Among (of worker) outcome → Among outcomes outcome
  pub in_order : AreOutcomesOf phase found.epoch outcomes
  pub tokens : amount ≡ sum (each_from (λ worker. (reach worker).tokens) 1 workers)

-- Where each of the seats has seen a front of a history with all events of its part, and the tokens of the discs in it and those are all that the workers began with, these are the workers at its end.
abbrev pub EndedLaw : {D : Type 0} → disk.Ghosts D → Type 0
EndedLaw {D} kind =
    (found : Found) (phase : Phase) (devices : ℕ → Option D) (seats : List (Sight Event)) (amount : ℕ) (outcomes : List Outcome) (log : Log)
    → (ended : HaveEnded kind found phase devices seats amount outcomes)
    → IsHistory node (opening_parts found) log
    → ((seat : Sight Event) → Contains seats seat → IsWholeOf log seat)
    → all_tokens log + amount ≡ workers * first_tokens
    → AreWorkers (account_of kind found.config phase found.epoch devices found) found log ended.reach ended.acts ended.moves ended.of outcomes
