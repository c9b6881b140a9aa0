-- What a recovery may make of a volume's base, block by block, before it moves the low position.
use Rattle.std.specs.Prelude.{◌≡◌, ℕ, List, [], Option, Some}
use Rattle.tmf_model.specs.declared.config.Config.{Config}
use Rattle.tmf_model.specs.declared.config.FileLine.{FileLine}
use Rattle.tmf_model.specs.RecordMap.{RecordMap}
use Rattle.trail_files.specs.declared.audit_record.AuditRecord.{AuditRecord}
use Rattle.trail_files.specs.Recovered.{kept_records, records_on}
use Rattle.trail_files.specs.StandsFor.{Base, IsNumber, next_position, position_of}

-- at each key that has no record in the audit the records are those of the base; at another key they may be any
abbrev pub AgreesOff : List AuditRecord → RecordMap → RecordMap → Type 0
AgreesOff audit base other = (file : ℕ) (key : List ℕ) → records_on file key audit ≡ [] → other file key ≡ base file key

-- the base of a volume, where its audit from the low position on may already be in some of its blocks
pub record IsRewriting (disc : ℕ) (audit : List AuditRecord) (base other : Base) : Type 0 where
  pub position : other.position ≡ base.position
  pub agrees : AgreesOff (kept_records disc base.position audit) base.records other.records

-- the base of a volume that has the map, and whose low position is its disc's next one
pub record IsRewritten (config : Config) (disc : ℕ) (audit : List AuditRecord) (base : Base) (dump : Option Base) (map : RecordMap) (other : Base) : Type 0 where
  pub position : other.position ≡ next_position (kept_records disc 0 audit) (position_of (Some base)) (position_of dump)
  pub records : (number : ℕ) (file : FileLine) (key : List ℕ) → IsNumber config.files number file → file.volume ≡ disc → other.records number key ≡ map number key
