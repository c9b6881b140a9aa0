-- What a run leaves behind the turns of its threads, and how that is a run of one history.
use Rattle.std.specs.Prelude.{◌≡◌, ℕ, ◌+◌, ◌*◌, ◌++◌, ◌<◌, List, length, Option}
use Rattle.std.specs.List.{Contains}
use Rattle.chronicle.specs.Histories.{states_after}
use Rattle.chronicle.specs.Seats.{IsWholeOf, Sight}
use Rattle.disk_model.specs.declared.disk.Disk as disk
use Rattle.node_machine.specs.Deeds.{Log}
use Rattle.node_machine.specs.Monitor.{offered_car, recorded}
use Rattle.node_machine.specs.Node.{node}
use Rattle.node_machine.specs.Opening.{Found, opening_parts}
use Rattle.node_machine.specs.Same.{Among}
use Rattle.node_machine.specs.declared.event.Event.{Event}
use Rattle.run_outcomes.specs.Counted.{all_tokens}
use Rattle.run_outcomes.specs.Devices.{devices, workers}
use Rattle.run_outcomes.specs.Ends.{monitor_events}
use Rattle.run_outcomes.specs.Left.{AreLeft}
use Rattle.run_outcomes.specs.Outcomes.{AreOutcomesOf}
use Rattle.run_outcomes.specs.Reach.{first_tokens}
use Rattle.run_outcomes.specs.Run.{account_of}
use Rattle.run_outcomes.specs.Told.{AreTold, IsRecordOf}
use Rattle.run_outcomes.specs.Within.{AreWithin}
use Rattle.run_outcomes.specs.declared.outcome.Outcome.{Outcome}
use Rattle.run_states.specs.Post.{HasSeat, IsDone, tokens_in}
use Rattle.run_threads.specs.Ended.{HaveEnded}
use Rattle.tmf_model.specs.declared.script.Phase.{Phase}
use Rattle.trail_files.specs.declared.monitor_record.MonitorRecord.{MonitorRecord}

-- how many parts a node has
abbrev pub parts : ℕ
parts = 37

-- Each part has its seat among these, which are as many as the parts.
pub record AreAllSeats (seats : List (Sight Event)) : Type 0 where
  pub many : length seats ≡ parts
  pub has : (part : ℕ) → part < parts → HasSeat seats part

-- The tokens that the discs' acts and moves have taken are as many as their seats have seen.
abbrev pub SeatTokensLaw : Type 0
SeatTokensLaw = (log : Log) (seats : List (Sight Event)) → AreAllSeats seats → ((seat : Sight Event) → Contains seats seat → IsWholeOf log seat) → tokens_in seats ≡ all_tokens log

module _ {D : Type 0} (kind : disk.Ghosts D) (found : Found) (phase : Phase) (faults : ℕ → ℕ) (handed_in : ℕ → Option D) where
  -- The states of a run were taken apart behind its turns: all workers have ended with these outcomes, each device is at its place, the seats are those of all parts, and all tokens are there.
  pub record AreTakenDown (outcomes : List Outcome) (seats : List (Sight Event)) (left : List D) : Type 0 where
    pub amount : ℕ
    pub ended : HaveEnded kind found phase handed_in seats amount outcomes
    pub tokens : tokens_in seats + amount ≡ workers * first_tokens
    pub seats_are : AreAllSeats seats
    pub done : (number : ℕ) → number < devices → IsDone kind (opening_parts found) found faults handed_in left seats number
    pub count : length left ≡ devices

  -- One history of the run has what its outcomes tell, and allows what is left of its devices.
  pub record IsRunOver (outcomes : List Outcome) (left : List D) : Type 0 where
    pub log : Log
    pub left_is : AreLeft kind (opening_parts found) found faults handed_in log left
    pub attempts : AreOutcomesOf phase found.epoch outcomes
    pub told : AreTold (account_of kind found.config phase found.epoch handed_in found log) outcomes
    pub within : AreWithin found log
    pub records : (item : MonitorRecord)
        → Among (recorded (monitor_events (states_after node (opening_parts found) log)) ++ offered_car (monitor_events (states_after node (opening_parts found) log))) item → IsRecordOf outcomes item

-- What was taken down is a run that is over, in a history of which each of its seats has seen a front with all events of its part.
abbrev pub ClosingLaw : {D : Type 0} → disk.Ghosts D → Type 0
ClosingLaw {D} kind =
    (found : Found) (phase : Phase) (faults : ℕ → ℕ) (handed_in : ℕ → Option D) (outcomes : List Outcome) (seats : List (Sight Event)) (left : List D) (log : Log)
    → AreTakenDown kind found phase faults handed_in outcomes seats left
    → AreLeft kind (opening_parts found) found faults handed_in log left
    → ((seat : Sight Event) → Contains seats seat → IsWholeOf log seat)
    → IsRunOver kind found phase faults handed_in outcomes left
