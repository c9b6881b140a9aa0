-- A run for the test of a purge: its trail has three records of the only disc, each in a file of its own, in front of an empty one.
use Rattle.std.specs.Prelude.{◌≡◌, ℕ, List, [], ◌∷◌, Option, Some, None, true, IsTrue}
use Rattle.disk_model.specs.declared.disk.Disk as disk
use Rattle.trail_files.specs.declared.audit_record.AuditRecord.{AuditRecord}
use Rattle.trail_files.specs.declared.rules.Rules.{Rules}
use Rattle.trail_files.specs.declared.trail.TrailPhase.TheVariants.{Ready}
use Rattle.trail_files.specs.AuditFormat.{is_audit_record}
use Rattle.trail_files.specs.AuditRecord.{audit_format}
use Rattle.trail_files.specs.Content.{Content}
use Rattle.trail_files.specs.Content.Pending.{Nothing}
use Rattle.trail_files.specs.Holds.{Holds}
use Rattle.trail_files.specs.Trail.{View, IsWritable}
use Rattle.node_machine.specs.Opening.{Found, opening_parts}
use Rattle.node_machine.specs.Parts.{PartState, Standing}
use Rattle.audit_writer.specs.OneTrail.{one_found, one_rules}
use Rattle.audit_writer.specs.Writer.{IsHandedIn}

-- the records in their files
abbrev pub four_standing : AuditRecord → AuditRecord → AuditRecord → List Standing
four_standing a b c = record { file = 1; item = a } ∷ record { file = 2; item = b } ∷ record { file = 3; item = c } ∷ []

-- the run finds them, and a volume whose low position is 3
abbrev pub four_found : List Standing → Found
four_found old = record one_found { trails = record { present = 4; old = Some old } ∷ []; volumes = Some (record { low = 3; next = 4; rest = None; base = None }) ∷ [] }

abbrev pub four_content : AuditRecord → AuditRecord → AuditRecord → Content AuditRecord
four_content a b c = record { least = 1; file = 4; placed = (1, a) ∷ (2, b) ∷ (3, c) ∷ []; pending = Nothing; settled = true }

-- a record of the disc at this position
pub record IsAt (position : ℕ) (r : AuditRecord) : Type 0 where
  pub disc : r.disc ≡ 1
  pub at : r.position ≡ position
  pub valid : is_audit_record one_rules r ≡ true

-- the trail has the three records, on a device that tells what it holds
pub record IsFilled {D : Type 0} (kind : disk.Ghosts D) (trail : View D) (a b c : AuditRecord) : Type 0 where
  pub tells : IsTrue (kind.tells trail.device)
  pub ready : trail.phase ≡ Ready
  pub rules : trail.rules ≡ one_rules
  pub writable : IsWritable kind.tells kind.held trail
  pub holds : Holds kind audit_format trail (four_content a b c)
  pub first : IsAt 1 a
  pub second : IsAt 2 b
  pub third : IsAt 3 c

-- the run opens with what such a trail has, and its name carries the trail's rules and device
pub record IsFourRun {D : Type 0} (kind : disk.Ghosts D) (opening : List PartState) (found : Found) (rules_of : ℕ → Rules) (faults_of : ℕ → ℕ) (premise_of : ℕ → Type 0) (devices : ℕ → Option D) (trail : View D) : Type 0 where
  pub a : AuditRecord
  pub b : AuditRecord
  pub c : AuditRecord
  pub filled : IsFilled kind trail a b c
  pub opens : opening ≡ opening_parts (four_found (four_standing a b c))
  pub found_is : found ≡ four_found (four_standing a b c)
  pub rules_are : rules_of 1 ≡ one_rules
  pub faults_are : faults_of 1 ≡ 0
  pub premise_holds : premise_of 1
  pub handed_in : IsHandedIn kind (devices 1) trail.device
