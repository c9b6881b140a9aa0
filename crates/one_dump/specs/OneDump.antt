-- A run for the tests: one trail, one volume with one file of one block, and the dump device of the volume.
use Rattle.std.specs.Prelude.{◌≡◌, ◌≤◌, ℕ, ◌+◌, ◌-◌, List, [], ◌∷◌, Option, Some, None}
use Rattle.std.specs.declared.sync.ledger.Share.{Share}
use Rattle.chronicle.specs.Seats.{Sight, new_seat}
use Rattle.disk_model.specs.declared.disk.Disk as disk
use Rattle.tmf_model.specs.declared.config.Config.{Config}
use Rattle.tmf_model.specs.declared.transid.Transid.{Transid}
use Rattle.trail_files.specs.declared.rules.Rules.{Rules}
use Rattle.trail_files.specs.Trail.{View as TrailView}
use Rattle.node_machine.specs.declared.event.Event.{Event}
use Rattle.node_machine.specs.Opening.{Found, opening_parts}
use Rattle.node_machine.specs.Parts.{DiscPart, DumpPart, PartState, TrailPart}
use Rattle.audit_writer.specs.OneTrail.{IsFormatted, one_rules}
use Rattle.audit_writer.specs.Writer.{IsHandedIn}
use Rattle.block_cache.specs.Blocks.{View}
use Rattle.block_cache.specs.Opened.{IsOpened}
use Rattle.disc_process.specs.Damage.{HoldsAsGiven}
use Rattle.online_dump.specs.Dumper.{first_held}
use Rattle.online_dump.specs.Found.{DumpView, start_in}

-- the trail A, the volume $D, and the file F of one block
abbrev pub one_config : Config
one_config = record { trails = (65 ∷ []) ∷ []; volumes = record { name = 36 ∷ 68 ∷ []; trail = 1 } ∷ []; files = record { name = 70 ∷ []; volume = 1; blocks = 1 } ∷ []; cache = 64; car_count = 64; car_holds = 0; roll = 1024; steps = 1000 }

-- the first run finds an empty trail, and no dump, and says nothing of the volume's records
abbrev pub one_found : Found
one_found = record { config = one_config; epoch = 1; places = 1; trails = record { present = 1; old = Some [] } ∷ []; volumes = Some (record { low = 1; next = 1; rest = None; base = None }) ∷ [] }

-- the parts of the trail, of the disc and of the dump device at the opening
abbrev pub one_trail : TrailPart
one_trail = record { config = one_config; number = 1; old = Some []; present = 1; firsts = (1, 1) ∷ []; events = [] }

abbrev pub one_disc : DiscPart
one_disc = record { config = one_config; number = 1; base = None; first = 1; low = 1; rest = None; events = [] }

abbrev pub one_dump : DumpPart
one_dump = record { config = one_config; number = 1; rest = None; events = [] }

-- a worker's first attempt or item
abbrev pub first_of : ℕ → Transid
first_of worker = record { epoch = 1; worker = worker; ordinal = 1; attempt = 1 }

-- the run opens with what it has found
pub record IsOneRun (opening : List PartState) (found : Found) : Type 0 where
  pub opens : opening ≡ opening_parts one_found
  pub found_is : found ≡ one_found

-- The trail was formatted for this run. The run's name carries its rules, its premise, which holds, and its device, no call of which had failed.
pub record HasTrail {D : Type 0} (kind : disk.Ghosts D) (rules_of : ℕ → Rules) (faults_of : ℕ → ℕ) (premise_of : ℕ → Type 0) (devices : ℕ → Option D) (trail : TrailView D) : Type 0 where
  pub formatted : IsFormatted kind trail
  pub rules_are : rules_of 1 ≡ one_rules
  pub faults_are : faults_of 1 ≡ 0
  pub premise_holds : premise_of 1
  pub handed_in : IsHandedIn kind (devices 1) trail.device

-- the volume was opened, and its low position is the first
pub record IsAttached {D : Type 0} (kind : disk.Ghosts D) (blocks : View D) : Type 0 where
  pub opened : IsOpened kind.tells kind.held one_config 1 64 blocks
  pub low : blocks.label.low ≡ 1

-- It was, and the run's name carries its device, no call of which had failed. It holds what it held when it was handed in.
pub record HasVolume {D : Type 0} (kind : disk.Ghosts D) (faults_of : ℕ → ℕ) (devices : ℕ → Option D) (blocks : View D) : Type 0 where
  pub attached : IsAttached kind blocks
  pub faults_are : faults_of 5 ≡ 0
  pub handed_in : IsHandedIn kind (devices 5) blocks.device
  pub held : HoldsAsGiven kind (devices 5) blocks.device

-- the dump device was opened, and no dump stands there
pub record IsEmpty {D : Type 0} (file : DumpView D) : Type 0 where
  pub volume : file.volume ≡ 1
  pub none : start_in file.found ≡ None
  pub next : file.next ≡ None

-- It was, and the run's name carries its device, of whose content nothing is said. It holds what it held when it was handed in.
pub record HasDumps {D : Type 0} (kind : disk.Ghosts D) (faults_of : ℕ → ℕ) (premise_of : ℕ → Type 0) (devices : ℕ → Option D) (file : DumpView D) : Type 0 where
  pub empty : IsEmpty file
  pub faults_are : faults_of 13 ≡ 0
  pub untold : premise_of 13 → ⊥
  pub handed_in : IsHandedIn kind (devices 13) file.device
  pub held : kind.held file.device ≡ first_held kind devices 1

-- a worker begins with its seat, which has seen nothing, one part of the ledger and eight tokens
pub record IsFirstHand {L : Type 0} (worker : ℕ) (seat : Sight Event) (share : Share L) : Type 0 where
  pub seat_is : seat ≡ new_seat (worker - 1)
  pub part : share.parts ≡ 1
  pub amount : share.amount ≡ 8

-- a share has given one token at most
pub record HasGivenOne {L : Type 0} (old new : Share L) : Type 0 where
  pub parts : new.parts ≡ old.parts
  pub amount : old.amount ≤ new.amount + 1
