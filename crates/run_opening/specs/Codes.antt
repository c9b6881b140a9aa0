-- How an audit record is stored in a proof: as the tuple of its fields.
use Rattle.std.specs.Prelude.{◌≡◌, ℕ, Bool, true, false, List, Option, refl}
use Rattle.std.specs.Coded.{Coded, code_by, coded×, coded_ℕ, coded_bool, coded_list, coded_option}
use Rattle.tmf_model.specs.declared.transid.Transid.{Transid}
use Rattle.trail_files.specs.Content.{Placed}
use Rattle.trail_files.specs.declared.audit_record.AuditKind.{AuditKind}
use Rattle.trail_files.specs.declared.audit_record.AuditKind.TheVariants.{Change, Undo}
use Rattle.trail_files.specs.declared.audit_record.AuditRecord.{AuditRecord}

-- whether it is a change
abbrev pub is_change : AuditKind → Bool
is_change Change = true
is_change Undo = false

abbrev pub kind_of : Bool → AuditKind
kind_of true = Change
kind_of false = Undo

pub kind_back : (kind : AuditKind) → kind_of (is_change kind) ≡ kind
kind_back Change = refl
kind_back Undo = refl

abbrev pub kind_code : Coded AuditKind
kind_code = code_by Bool coded_bool is_change kind_of kind_back

abbrev pub transid_code : Coded Transid
transid_code =
    code_by (ℕ × (ℕ × (ℕ × ℕ))) (coded× coded_ℕ (coded× coded_ℕ (coded× coded_ℕ coded_ℕ)))
    (λ t. (t.epoch, (t.worker, (t.ordinal, t.attempt)))) (λ p. record { epoch = p.0; worker = p.1.0; ordinal = p.1.1.0; attempt = p.1.1.1 }) (λ _. refl)

abbrev pub word_code : Coded (List ℕ)
word_code = coded_list coded_ℕ

abbrev pub image_code : Coded (Option (List ℕ))
image_code = coded_option word_code

-- the place of a record, and its images
abbrev pub Fields : Type 0
Fields = (AuditKind × (ℕ × (ℕ × ℕ))) × (Transid × (List ℕ × (Option (List ℕ) × Option (List ℕ))))

abbrev pub fields_code : Coded Fields
fields_code = coded× (coded× kind_code (coded× coded_ℕ (coded× coded_ℕ coded_ℕ))) (coded× transid_code (coded× word_code (coded× image_code image_code)))

abbrev pub fields_of : AuditRecord → Fields
fields_of r = ((r.kind, (r.disc, (r.file, r.position))), (r.tx, (r.key, (r.before, r.after))))

abbrev pub record_of : Fields → AuditRecord
record_of f = record { kind = f.0.0; disc = f.0.1.0; file = f.0.1.1.0; tx = f.1.0; position = f.0.1.1.1; key = f.1.1.0; before = f.1.1.1.0; after = f.1.1.1.1 }

abbrev pub audit_code : Coded AuditRecord
audit_code = code_by Fields fields_code fields_of record_of (λ _. refl)

abbrev pub placed_code : Coded (List (Placed AuditRecord))
placed_code = coded_list (coded× coded_ℕ audit_code)
