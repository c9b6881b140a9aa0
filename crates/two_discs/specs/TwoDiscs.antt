-- A run for the tests: one trail for the audit of two volumes, and on each volume a transaction that changes one key again and again.
use Rattle.std.specs.Prelude.{◌≡◌, ◌≢◌, ◌⊎◌, ◌≤◌, ℕ, List, [], ◌∷◌, Option, Some, None, true, IsTrue}
use Rattle.disk_model.specs.declared.disk.Disk as disk
use Rattle.chronicle.specs.Seats.{Sight, Knows, part_state}
use Rattle.tmf_model.specs.declared.config.Config.{Config}
use Rattle.tmf_model.specs.declared.transid.Transid.{Transid}
use Rattle.trail_files.specs.declared.audit_record.AuditKind.TheVariants.{Change}
use Rattle.trail_files.specs.declared.audit_record.AuditRecord.{AuditRecord}
use Rattle.trail_files.specs.declared.rules.Rules.{Rules}
use Rattle.trail_files.specs.declared.trail.TrailPhase.TheVariants.{Ready}
use Rattle.trail_files.specs.AuditFormat.{is_audit_record}
use Rattle.trail_files.specs.AuditRecord.{audit_format}
use Rattle.trail_files.specs.Content.{no_content}
use Rattle.trail_files.specs.Holds.{Holds}
use Rattle.trail_files.specs.Trail.{View, IsWritable}
use Rattle.node_machine.specs.declared.event.DiscEvent.{DiscEvent}
use Rattle.node_machine.specs.declared.event.DiscEvent.TheVariants.{Write}
use Rattle.node_machine.specs.declared.event.Event.{Event}
use Rattle.node_machine.specs.Made.{made}
use Rattle.node_machine.specs.Node.{node}
use Rattle.node_machine.specs.Opening.{Found, VolumeFound}
use Rattle.node_machine.specs.Parts.{DiscPart, PartState, TrailPart}
use Rattle.node_machine.specs.Parts.Fact.{Durable, Enlisted}
use Rattle.node_machine.specs.Parts.PartState.{Disc}
use Rattle.audit_writer.specs.Writer.{AreFrom, IsHandedIn}

-- one trail, two volumes, and a file on each
abbrev pub two_config : Config
two_config = record {
  trails = [] ∷ [];
  volumes = record { name = []; trail = 1 } ∷ record { name = []; trail = 1 } ∷ [];
  files = record { name = []; volume = 1; blocks = 1 } ∷ record { name = []; volume = 2; blocks = 1 } ∷ [];
  cache = 0;
  car_count = 0;
  car_holds = 0;
  roll = 0;
  steps = 0;
}

abbrev pub fresh_volume : VolumeFound
fresh_volume = record { low = 1; next = 1; rest = None; base = None }

-- the first run finds them empty
abbrev pub two_found : Found
two_found = record { config = two_config; epoch = 1; places = 1; trails = record { present = 1; old = Some [] } ∷ []; volumes = Some fresh_volume ∷ Some fresh_volume ∷ [] }

-- the trail's rules
abbrev pub two_rules : Rules
two_rules = record { roll = 65536; trail = 1; discs = 1 ∷ 2 ∷ []; files = (1, 1) ∷ (2, 2) ∷ [] }

-- the trail's part at the opening
abbrev pub two_part : TrailPart
two_part = record { config = two_config; number = 1; old = Some []; present = 1; firsts = (1, 1) ∷ (2, 1) ∷ []; events = [] }

-- the first attempt of a worker
abbrev pub attempt_of : ℕ → Transid
attempt_of worker = record { epoch = 1; worker = worker; ordinal = 1; attempt = 1 }

-- a change of the worker with the disc's number, at this position of the disc: it puts the value that its key has
pub record IsNextChange (disc position : ℕ) (value : List ℕ) (r : AuditRecord) : Type 0 where
  pub kind : r.kind ≡ Change
  pub disc_is : r.disc ≡ disc
  pub file : r.file ≡ disc
  pub tx : r.tx ≡ attempt_of disc
  pub position_is : r.position ≡ position
  pub before : r.before ≡ Some value
  pub after : r.after ≡ Some value
  pub valid : is_audit_record two_rules r ≡ true

-- the record gives its key the value, where it had none
pub record IsPutOf (value : List ℕ) (r : AuditRecord) : Type 0 where
  pub before : r.before ≡ None
  pub after : r.after ≡ Some value

-- each event is a change of that attempt
abbrev pub AreChanges : ℕ → List DiscEvent → Type 0
AreChanges disc [] = Unit {0}
AreChanges disc (Write r op ∷ events) = (r.tx ≡ attempt_of disc) × AreChanges disc events
AreChanges disc (_ ∷ events) = ⊥

-- each record may be written by the trail's rules
abbrev pub AreValid : List AuditRecord → Type 0
AreValid [] = Unit {0}
AreValid (r ∷ rs) = (is_audit_record two_rules r ≡ true) × AreValid rs

-- the seat is the disc's, which has made just these records, and whose worker has enlisted it
pub record IsWriting (opening : List PartState) (disc : ℕ) (records : List AuditRecord) (v : Sight Event) : Type 0 where
  pub part : DiscPart
  pub at : part_state node opening v ≡ Some (Disc part)
  pub config : part.config ≡ two_config
  pub number : part.number ≡ disc
  pub first : part.first ≡ 1
  pub base : part.base ≡ None
  pub changes : AreChanges disc part.events
  pub made_are : made part.events ≡ records
  pub from : AreFrom 1 disc records
  pub valid : AreValid records
  pub enlisted : Knows node opening v (Enlisted (attempt_of disc) disc)
  pub durable : Knows node opening v (Durable disc 0)

-- the trail was formatted for this run, on a device that tells what it holds
pub record IsFormattedForTwo {D : Type 0} (kind : disk.Ghosts D) (trail : View D) : Type 0 where
  pub tells : IsTrue (kind.tells trail.device)
  pub ready : trail.phase ≡ Ready
  pub file : trail.file ≡ 1
  pub rules : trail.rules ≡ two_rules
  pub writable : IsWritable kind.tells kind.held trail
  pub holds : Holds kind audit_format trail no_content

-- the run's name carries what was found, and for the only trail its rules, its premise, which holds, and its device, no call of which had failed
pub record IsNamedForTwo {D : Type 0} (kind : disk.Ghosts D) (found : Found) (rules_of : ℕ → Rules) (faults_of : ℕ → ℕ) (premise_of : ℕ → Type 0) (devices : ℕ → Option D) (device : D) : Type 0 where
  pub found_is : found ≡ two_found
  pub rules_are : rules_of 1 ≡ two_rules
  pub faults_are : faults_of 1 ≡ 0
  pub premise_holds : premise_of 1
  pub handed_in : IsHandedIn kind (devices 1) device

-- the disc is one of the two
abbrev pub IsOneOfTwo : ℕ → Type 0
IsOneOfTwo disc = (disc ≡ 1) ⊎ (disc ≡ 2)
