-- What the name of a run carries of the devices that are kept, and what follows: they may be joined with their parts' seats, and the run may end.
use Rattle.std.specs.Prelude.{◌≡◌, ℕ, ◌<◌, IsTrue, List, length, drop, Option, Some, slice_get, option_map}
use Rattle.std.specs.Option.{option_map_or}
use Rattle.chronicle.specs.Seats.{new_seat}
use Rattle.commit_boxcar.specs.Monitor.{IsOpened as IsMonitorOpened}
use Rattle.commit_boxcar.specs.Seat.{sight_of}
use Rattle.disk_model.specs.Held.{IfThere}
use Rattle.disk_model.specs.declared.disk.Disk as disk
use Rattle.node_machine.specs.Opening.{Found, monitor_part, opening_parts}
use Rattle.node_machine.specs.Parts.{PartState}
use Rattle.tmf_model.specs.Config.{IsValidConfig}
use Rattle.tmf_model.specs.declared.config.Config.{Config}
use Rattle.trail_files.specs.Landed.{IsSettled}
use Rattle.trail_files.specs.MonitorRecord.{monitor_format}
use Rattle.trail_files.specs.Trail.{Rests}
use Rattle.trail_files.specs.declared.monitor_record.MonitorRecord.{MonitorRecord}
use Rattle.trail_files.specs.declared.rules.Rules.{Rules}
use Rattle.trail_replay.specs.Rules.{rules_of}
use Rattle.run_opening.specs.Found.{IsOnlyList, found_of}
use Rattle.run_opening.specs.Kept.{device_kept}
use Rattle.run_opening.specs.Opening.{AreOpened}
use Rattle.run_opening.specs.Placed.{is_at_rest}
use Rattle.run_opening.specs.declared.kept.Kept.{Kept}
use Rattle.run_opening.specs.declared.kept.Kept.TheVariants.{Monitor, Audit, Dump as DumpKept}
use Rattle.run_opening.specs.declared.kept.MonitorKept.{MonitorKept}
use Rattle.run_opening.specs.declared.opening.Opened.{Opened}
use Rattle.run_outcomes.specs.Devices.{told_by, told_in}
use Rattle.run_outcomes.specs.Found.{AreFoundWithValues}
use Rattle.run_states.specs.Joined.{MayAllJoin}
use Rattle.run_states.specs.Post.{IsNamed}
use Rattle.run_states.specs.Volumes.{AreVolumesNamed}

-- the device with this number, of those that are kept
abbrev pub device_in : {D : Type 0} → List (Kept D) → ℕ → Option D
device_in kept number = option_map device_kept (slice_get kept number)

-- The premise under which a run says what a device holds: a trail tells what it holds, and is at rest, the monitor trail with this list; a device of dumps tells what it holds, and nothing is at risk of
-- its label's file, which has bytes. Of any other device it holds always.
abbrev pub Resting : {D : Type 0} → disk.Ghosts D → List MonitorRecord → Option (Kept D) → Type 0
Resting kind before (Some (Monitor kept)) = IsTrue (kind.tells kept.trail.device) × Rests monitor_format (kind.held kept.trail.device) before
Resting kind before (Some (Audit kept)) = IsTrue (is_at_rest kind kept.trail)
Resting kind before (Some (DumpKept file)) = IsTrue (kind.tells file.device) × IfThere (kind.held file.device) 1 (λ f. IsSettled f × (0 < length f.bytes))
Resting kind before _ = Unit {0}

-- The run's name carries what is kept: it has opened with what was found of it, and each device is the one that is kept, with its count of failed calls. Each trail has the rules of the configuration,
-- and the list of the monitor trail is the one that it told, with nothing at risk. The premise of each device is `Resting`.
pub record IsNameOf {D : Type 0} (kind : disk.Ghosts D) (config : Config) (epoch : ℕ) (kept : List (Kept D)) (opening : List PartState) (found : Found) (before : List MonitorRecord) (rules : ℕ → Rules) (faults : ℕ → ℕ) (premise : ℕ → Type 0) (handed_in : ℕ → Option D) : Type 0 where
  pub opens : opening ≡ opening_parts found
  pub found_is : found ≡ found_of kind config epoch kept
  pub devices_are : (number : ℕ) → handed_in number ≡ device_in kept number
  pub faults_are : (number : ℕ) (device : D) → handed_in number ≡ Some device → faults number ≡ kind.faults device
  pub rules_are : (trail : ℕ) → rules trail ≡ rules_of config trail
  pub list : IsOnlyList config (told_in kind handed_in) before
  pub rests : (number : ℕ) → premise number → Resting kind before (slice_get kept number)
  pub premises : (number : ℕ) → Resting kind before (slice_get kept number) → premise number

-- The devices were opened, and a run may begin whose name carries what is kept of them.
pub record MayBegin {D : Type 0} (kind : disk.Ghosts D) (config : Config) (epoch : ℕ) (named : List ℕ) (old : List D) (opened : Opened D) (opening : List PartState) (found : Found) (before : List MonitorRecord) (rules : ℕ → Rules) (faults : ℕ → ℕ) (premise : ℕ → Type 0) (handed_in : ℕ → Option D) : Type 0 where
  pub valid : IsValidConfig config
  pub count : length old ≡ 21
  pub are : AreOpened kind config epoch named old opened
  pub name : IsNameOf kind config epoch opened.kept.items opening found before rules faults premise handed_in

-- Of device 0 the monitor trail is kept, with as many records as were found; and it may be joined with the new seat of its part: under the premise it has the records of the list.
abbrev pub JoinsMonitor : {D : Type 0} → disk.Ghosts D → List (Kept D) → List MonitorRecord → (ℕ → ℕ) → (ℕ → Type 0) → (ℕ → Option D) → List PartState → Found → Type 0
JoinsMonitor {D} kind items before faults premise handed_in opening found =
    (kept : MonitorKept D) × (slice_get items 0 ≡ Some (Monitor kept)) × (kept.places ≡ found.places)
    × IsMonitorOpened kind opening found before faults premise handed_in (sight_of opening (new_seat monitor_part)) kept.trail

module _ {D : Type 0} (kind : disk.Ghosts D) (opening : List PartState) (found : Found) (before : List MonitorRecord) (rules : ℕ → Rules) (faults : ℕ → ℕ) (premise : ℕ → Type 0) (handed_in : ℕ → Option D) where
  -- Then each device behind the monitor trail's may be joined with its part's seat.
  abbrev pub JoinLaw : Type 0
  JoinLaw =
      (config : Config) (epoch : ℕ) (named : List ℕ) (old : List D) (opened : Opened D) → MayBegin kind config epoch named old opened opening found before rules faults premise handed_in
      → MayAllJoin kind opening found rules faults premise handed_in config 1 (drop 1 opened.kept.items)

  -- So may the monitor trail with its own.
  abbrev pub MonitorLaw : Type 0
  MonitorLaw =
      (config : Config) (epoch : ℕ) (named : List ℕ) (old : List D) (opened : Opened D) → MayBegin kind config epoch named old opened opening found before rules faults premise handed_in
      → JoinsMonitor kind opened.kept.items before faults premise handed_in opening found

  -- And the name is what the locks of the run, and its end, ask of it: each volume that was found, and told a base, was found with its values.
  abbrev pub NameLaw : Type 0
  NameLaw =
      (config : Config) (epoch : ℕ) (named : List ℕ) (old : List D) (opened : Opened D) → MayBegin kind config epoch named old opened opening found before rules faults premise handed_in
      → IsNamed kind found before rules faults premise handed_in × AreVolumesNamed kind opening found premise handed_in × AreFoundWithValues found.config (told_in kind handed_in) found

-- the count of failed calls of the device with this number; 0 where there is none
abbrev pub faults_in : {D : Type 0} → disk.Ghosts D → List (Kept D) → ℕ → ℕ
faults_in kind kept number = option_map_or kind.faults (device_in kept number) 0

-- Each opening has a name that carries what is kept: with the list that the monitor trail told, or any where it told none.
abbrev pub PickLaw : {D : Type 0} → disk.Ghosts D → Type 0
PickLaw {D} kind =
    (config : Config) (epoch : ℕ) (named : List ℕ) (old : List D) (opened : Opened D) (before : List MonitorRecord) → length old ≡ 21 → AreOpened kind config epoch named old opened → IsOnlyList config (told_by kind old) before
    → IsNameOf kind config epoch opened.kept.items (opening_parts (found_of kind config epoch opened.kept.items)) (found_of kind config epoch opened.kept.items) before
    (rules_of config) (faults_in kind opened.kept.items) (λ n. Resting kind before (slice_get opened.kept.items n)) (device_in opened.kept.items)
