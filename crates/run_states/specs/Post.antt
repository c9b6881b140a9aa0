-- A device and its part's seat, when a run is over.
use Rattle.std.specs.Prelude.{◌≡◌, ℕ, suc, ◌<◌, ◌≤◌, ◌++◌, ◌&&◌, nat_le, Bool, false, List, length, map, sum_by, take, drop, Option, Some, None, slice_get, if◌then◌else◌}
use Rattle.std.specs.List.{Contains}
use Rattle.audit_writer.specs.Writer.{IsHandedIn}
use Rattle.chronicle.specs.Histories.{IsHistory, states_after}
use Rattle.chronicle.specs.Seats.{IsWholeOf, Sight, own_events, part_state}
use Rattle.disk_model.specs.Held.{Held, Leaves}
use Rattle.disk_model.specs.declared.disk.Disk as disk
use Rattle.node_machine.specs.Deeds.{Log}
use Rattle.node_machine.specs.Moves.{token_count}
use Rattle.node_machine.specs.Node.{node}
use Rattle.node_machine.specs.Opening.{Found}
use Rattle.node_machine.specs.Parts.{PartState}
use Rattle.node_machine.specs.declared.event.Event.{Event}
use Rattle.trail_files.specs.declared.audit_record.AuditRecord.{AuditRecord}
use Rattle.trail_files.specs.declared.monitor_record.MonitorRecord.{MonitorRecord}
use Rattle.trail_files.specs.declared.rules.Rules.{Rules}
use Rattle.trail_replay.specs.Rules.{rules_of}
use Rattle.run_outcomes.specs.Devices.{IsUntouched, devices, part_of_device, told_in}
use Rattle.run_outcomes.specs.Ends.{failures_of}
use Rattle.run_outcomes.specs.Found.{ToldAudit, ToldList}
use Rattle.run_outcomes.specs.Run.{RoseBy}
use Rattle.run_outcomes.specs.Shows.{ShowsDevice}

-- The run's name carries what was found of the devices that were handed in: of the monitor trail its list, of each trail its rules, and that what is said under a premise
-- holds where the trail told its records and had nothing at risk. No trail was found that is not declared.
pub record IsNamed {D : Type 0} (kind : disk.Ghosts D) (found : Found) (before : List MonitorRecord) (rules : ℕ → Rules) (faults : ℕ → ℕ) (premise : ℕ → Type 0) (handed_in : ℕ → Option D) : Type 0 where
  pub list : (list : List MonitorRecord) → ToldList found.config (told_in kind handed_in) list → premise 0 × (before ≡ list)
  pub rules_are : (trail : ℕ) → 1 ≤ trail → trail ≤ length found.config.trails → rules trail ≡ rules_of found.config trail
  pub trails : (trail : ℕ) (audit : List AuditRecord) → 1 ≤ trail → trail ≤ length found.config.trails → ToldAudit found.config (told_in kind handed_in) trail audit → premise trail
  pub few_trails : length found.trails ≤ length found.config.trails
  pub faults_are : (number : ℕ) (device : D) → handed_in number ≡ Some device → faults number ≡ kind.faults device

-- The device is the one that was handed in with this number, and is as it was where the configuration leaves it out. Its count rose for each failed call that its part's seat has had. In each history that goes on
-- from what the seat has seen, without an event more of its part, the parts allow every image of it.
pub record IsPost {D : Type 0} (kind : disk.Ghosts D) (opening : List PartState) (found : Found) (faults : ℕ → ℕ) (handed_in : ℕ → Option D) (number : ℕ) (device : D) (seat : Sight Event) : Type 0 where
  pub few : number < devices
  pub part : seat.part ≡ Some (part_of_device number)
  pub state : PartState
  pub at : part_state node opening seat ≡ Some state
  pub later : IsHandedIn kind (handed_in number) device
  pub untouched : IsUntouched found.config number → handed_in number ≡ Some device
  pub rise : RoseBy (failures_of state) (faults number) (kind.faults device)
  pub shown : (log : Log) → IsHistory node opening log → IsWholeOf log seat → (image : Held) → Leaves (kind.held device) image
      → ShowsDevice found.config (told_in kind handed_in) (states_after node opening log) image number

-- The device is the one that was handed in with this number, as calls that did not fail leave it, and its part's seat has had no failed call.
pub record IsIdle {D : Type 0} (kind : disk.Ghosts D) (opening : List PartState) (faults : ℕ → ℕ) (handed_in : ℕ → Option D) (number : ℕ) (device : D) (seat : Sight Event) : Type 0 where
  pub part : seat.part ≡ Some (part_of_device number)
  pub state : PartState
  pub at : part_state node opening seat ≡ Some state
  pub none : failures_of state ≡ 0
  pub later : IsHandedIn kind (handed_in number) device
  pub rise : faults number ≤ kind.faults device

-- what callers see of a device and its part's seat: the device's number, and what the seat has seen
pub record PostView : Type 0 where
  pub number : ℕ
  pub seat : Sight Event

-- the device with this number is among these
abbrev pub HasPost : List PostView → ℕ → Type 0
HasPost posts number = Contains (map (λ p. p.number) posts) number

-- one was taken out of them, and these are left
pub record IsTakenOut (posts : List PostView) (post : PostView) (left : List PostView) : Type 0 where
  pub place : ℕ
  pub is : slice_get posts place ≡ Some post
  pub others : left ≡ take place posts ++ drop (suc place) posts

-- whether the part is a disc's
abbrev pub is_disc_part : Option ℕ → Bool
is_disc_part None = false
is_disc_part (Some part) = nat_le 16 part && nat_le part 23

-- how many acts and moves the seat's part has had, where it is a disc's
abbrev pub seat_tokens : Sight Event → ℕ
seat_tokens v = if is_disc_part v.part then token_count (own_events v) else 0

-- how many the discs of these seats have had together
abbrev pub tokens_in : List (Sight Event) → ℕ
tokens_in seats = sum_by (λ v. seat_tokens v) seats

abbrev pub tokens_of : List PostView → ℕ
tokens_of posts = sum_by (λ p. seat_tokens p.seat) posts

-- the device with this number is at its place, and its part's seat is among the seats
pub record IsDone {D : Type 0} (kind : disk.Ghosts D) (opening : List PartState) (found : Found) (faults : ℕ → ℕ) (handed_in : ℕ → Option D) (left : List D) (seats : List (Sight Event)) (number : ℕ) : Type 0 where
  pub device : D
  pub seat : Sight Event
  pub at : slice_get left number ≡ Some device
  pub has : Contains seats seat
  pub post : IsPost kind opening found faults handed_in number device seat

-- the seat of this part is among these
pub record HasSeat (seats : List (Sight Event)) (part : ℕ) : Type 0 where
  pub seat : Sight Event
  pub has : Contains seats seat
  pub is : seat.part ≡ Some part
