-- A run for the tests: one trail, one volume with one file of one block, and a monitor trail with its first start alone.
use Rattle.std.specs.Prelude.{◌≡◌, ◌⊎◌, ℕ, ◌-◌, ◌==◌, List, [], ◌∷◌, Option, Some, None, if◌then◌else◌}
use Rattle.std.specs.declared.sync.ledger.Share.{Share}
use Rattle.chronicle.specs.Seats.{Sight, new_seat}
use Rattle.disk_model.specs.declared.disk.Disk as disk
use Rattle.tmf_model.specs.Config.{IsWithin}
use Rattle.tmf_model.specs.declared.config.Config.{Config}
use Rattle.tmf_model.specs.declared.transid.Transid.{Transid}
use Rattle.trail_files.specs.declared.monitor_record.MonitorRecord.{MonitorRecord}
use Rattle.trail_files.specs.declared.rules.Rules.{Rules}
use Rattle.trail_files.specs.Trail.{View as TrailView}
use Rattle.node_machine.specs.declared.event.Event.{Event}
use Rattle.node_machine.specs.Opening.{Found, opening_parts}
use Rattle.node_machine.specs.Parts.{DiscPart, MonitorPart, PartState, TrailPart}
use Rattle.audit_writer.specs.OneTrail.{IsFormatted, one_rules}
use Rattle.audit_writer.specs.Writer.{IsHandedIn}
use Rattle.block_cache.specs.Blocks.{View}
use Rattle.block_cache.specs.Opened.{IsOpened}
use Rattle.txn_states.specs.Txn.{Txn}
use Rattle.commit_boxcar.specs.FirstRun.{HasStart, first_records}
use Rattle.commit_boxcar.specs.Settled.{IsOfRun}
use Rattle.disc_process.specs.Damage.{HoldsAsGiven}

-- the trail A, the volume $D, and the file F of one block
abbrev pub one_config : Config
one_config = record { trails = (65 ∷ []) ∷ []; volumes = record { name = 36 ∷ 68 ∷ []; trail = 1 } ∷ []; files = record { name = 70 ∷ []; volume = 1; blocks = 1 } ∷ []; cache = 64; car_count = 64; car_holds = 0; roll = 1024; steps = 1000 }

-- the first run finds an empty trail, and says nothing of the volume's records
abbrev pub one_found : Found
one_found = record { config = one_config; epoch = 1; places = 1; trails = record { present = 1; old = Some [] } ∷ []; volumes = Some (record { low = 1; next = 1; rest = None; base = None }) ∷ [] }

-- the parts of the trail, of the disc and of the monitor at the opening
abbrev pub one_trail : TrailPart
one_trail = record { config = one_config; number = 1; old = Some []; present = 1; firsts = (1, 1) ∷ []; events = [] }

abbrev pub one_disc : DiscPart
one_disc = record { config = one_config; number = 1; base = None; first = 1; low = 1; rest = None; events = [] }

abbrev pub one_monitor : MonitorPart
one_monitor = record { epoch = 1; places = 1; events = [] }

-- a worker's first attempt
abbrev pub first_of : ℕ → Transid
first_of worker = record { epoch = 1; worker = worker; ordinal = 1; attempt = 1 }

-- the devices of the monitor trail, of the trail and of the volume
abbrev pub three_devices : {D : Type 0} → D → D → D → ℕ → Option D
three_devices monitor trail volume number = if number == 0 then Some monitor else if number == 5 then Some volume else Some trail

-- the run opens with what it has found
pub record IsOneRun (opening : List PartState) (found : Found) : Type 0 where
  pub opens : opening ≡ opening_parts one_found
  pub found_is : found ≡ one_found

-- The trail was formatted for this run. The run's name carries its rules, its premise, which holds, and its device, no call of which had failed.
pub record HasTrail {D : Type 0} (kind : disk.Ghosts D) (rules_of : ℕ → Rules) (faults_of : ℕ → ℕ) (premise_of : ℕ → Type 0) (devices : ℕ → Option D) (trail : TrailView D) : Type 0 where
  pub formatted : IsFormatted kind trail
  pub rules_are : rules_of 1 ≡ one_rules
  pub faults_are : faults_of 1 ≡ 0
  pub premise_holds : premise_of 1
  pub handed_in : IsHandedIn kind (devices 1) trail.device

-- the volume was opened, and its low position is the first
pub record IsAttached {D : Type 0} (kind : disk.Ghosts D) (blocks : View D) : Type 0 where
  pub opened : IsOpened kind.tells kind.held one_config 1 64 blocks
  pub low : blocks.label.low ≡ 1

-- It was, and the run's name carries its device, no call of which had failed. It holds what it held when it was handed in.
pub record HasVolume {D : Type 0} (kind : disk.Ghosts D) (faults_of : ℕ → ℕ) (devices : ℕ → Option D) (blocks : View D) : Type 0 where
  pub attached : IsAttached kind blocks
  pub faults_are : faults_of 5 ≡ 0
  pub handed_in : IsHandedIn kind (devices 5) blocks.device
  pub held : HoldsAsGiven kind (devices 5) blocks.device

-- The monitor trail has the first start alone. The run's name carries it, the premise, which holds, and the device, no call of which had failed.
pub record HasMonitor {D : Type 0} (kind : disk.Ghosts D) (before : List MonitorRecord) (faults_of : ℕ → ℕ) (premise_of : ℕ → Type 0) (devices : ℕ → Option D) (trail : TrailView D) : Type 0 where
  pub start : HasStart kind trail
  pub before_is : before ≡ first_records
  pub faults_are : faults_of 0 ≡ 0
  pub premise_holds : premise_of 0
  pub handed_in : IsHandedIn kind (devices 0) trail.device

-- a worker begins with its seat, which has seen nothing, one part of the ledger and 16 tokens
pub record IsFirstHand {L : Type 0} (worker : ℕ) (seat : Sight Event) (share : Share L) : Type 0 where
  pub seat_is : seat ≡ new_seat (worker - 1)
  pub part : share.parts ≡ 1
  pub amount : share.amount ≡ 16

-- one of the first three workers does
abbrev pub IsHand : {L : Type 0} → ℕ → Sight Event → Share L → Type 0
IsHand worker seat share = IsWithin 1 3 worker × IsFirstHand worker seat share

-- so do all three
pub record AreHands {L : Type 0} (one : ℕ) (one_seat : Sight Event) (first : Share L) (two : ℕ) (two_seat : Sight Event) (second : Share L) (three : ℕ) (three_seat : Sight Event) (third : Share L) : Type 0 where
  pub first_is : IsHand one one_seat first
  pub second_is : IsHand two two_seat second
  pub third_is : IsHand three three_seat third

-- the disc begins with its seat, which has seen nothing, one part of the ledger and no token; and so do the trail's seat and the monitor's
pub record AreParts {L : Type 0} (disc : Sight Event) (share : Share L) (trail monitor : Sight Event) : Type 0 where
  pub disc_is : disc ≡ new_seat 16
  pub part : share.parts ≡ 1
  pub amount : share.amount ≡ 0
  pub trail_is : trail ≡ new_seat 24
  pub monitor_is : monitor ≡ new_seat 28

-- the only disc, or none
abbrev pub AreOnly : List ℕ → Type 0
AreOnly discs = (discs ≡ []) ⊎ (discs ≡ 1 ∷ [])

-- the transaction is one of this run, and has enlisted no other disc
pub record IsUnderWay (t : Txn) : Type 0 where
  pub of_run : IsOfRun one_found t.tx
  pub discs : AreOnly t.discs
