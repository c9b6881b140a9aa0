-- A run for the tests: one worker's first change, at the disc of the only volume, whose audit goes to the only trail.
use Rattle.std.specs.Prelude.{◌≡◌, ℕ, [], ◌∷◌, Option, Some, None, true, IsTrue}
use Rattle.disk_model.specs.declared.disk.Disk as disk
use Rattle.tmf_model.specs.declared.config.Config.{Config}
use Rattle.tmf_model.specs.declared.transid.Transid.{Transid}
use Rattle.trail_files.specs.declared.audit_record.AuditKind.TheVariants.{Change}
use Rattle.trail_files.specs.declared.audit_record.AuditRecord.{AuditRecord}
use Rattle.trail_files.specs.declared.rules.Rules.{Rules}
use Rattle.trail_files.specs.declared.trail.TrailPhase.TheVariants.{Ready}
use Rattle.trail_files.specs.AuditFormat.{is_audit_record}
use Rattle.trail_files.specs.AuditRecord.{audit_format}
use Rattle.trail_files.specs.Content.{no_content}
use Rattle.trail_files.specs.Holds.{Holds}
use Rattle.trail_files.specs.Trail.{View, IsWritable}
use Rattle.node_machine.specs.Opening.{Found}
use Rattle.node_machine.specs.Parts.{TrailPart}
use Rattle.audit_writer.specs.Writer.{IsHandedIn}

-- one trail, one volume and one file
abbrev pub one_config : Config
one_config = record { trails = [] ∷ []; volumes = record { name = []; trail = 1 } ∷ []; files = record { name = []; volume = 1; blocks = 1 } ∷ []; cache = 0; car_count = 0; car_holds = 0; roll = 0; steps = 0 }

-- the first run finds them empty
abbrev pub one_found : Found
one_found = record { config = one_config; epoch = 1; places = 1; trails = record { present = 1; old = Some [] } ∷ []; volumes = Some (record { low = 1; next = 1; rest = None; base = None }) ∷ [] }

-- the trail's rules
abbrev pub one_rules : Rules
one_rules = record { roll = 1024; trail = 1; discs = 1 ∷ []; files = (1, 1) ∷ [] }

-- the trail's part at the opening
abbrev pub one_part : TrailPart
one_part = record { config = one_config; number = 1; old = Some []; present = 1; firsts = (1, 1) ∷ []; events = [] }

-- the first attempt of the first worker
abbrev pub first_attempt : Transid
first_attempt = record { epoch = 1; worker = 1; ordinal = 1; attempt = 1 }

-- the first change at the disc
pub record IsFirst (r : AuditRecord) : Type 0 where
  pub kind : r.kind ≡ Change
  pub disc : r.disc ≡ 1
  pub file : r.file ≡ 1
  pub tx : r.tx ≡ first_attempt
  pub position : r.position ≡ 1
  pub valid : is_audit_record one_rules r ≡ true

-- the trail was formatted for this run, on a device that tells what it holds
pub record IsFormatted {D : Type 0} (kind : disk.Ghosts D) (trail : View D) : Type 0 where
  pub tells : IsTrue (kind.tells trail.device)
  pub ready : trail.phase ≡ Ready
  pub file : trail.file ≡ 1
  pub rules : trail.rules ≡ one_rules
  pub writable : IsWritable kind.tells kind.held trail
  pub holds : Holds kind audit_format trail no_content

-- the run's name carries what was found, and for the only trail its rules, its premise, which holds, and its device, no call of which had failed
pub record IsNamed {D : Type 0} (kind : disk.Ghosts D) (found : Found) (rules_of : ℕ → Rules) (faults_of : ℕ → ℕ) (premise_of : ℕ → Type 0) (devices : ℕ → Option D) (device : D) : Type 0 where
  pub found_is : found ≡ one_found
  pub rules_are : rules_of 1 ≡ one_rules
  pub faults_are : faults_of 1 ≡ 0
  pub premise_holds : premise_of 1
  pub handed_in : IsHandedIn kind (devices 1) device
