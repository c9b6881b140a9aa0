-- How a record of an audit trail is spelled, in 128 bytes.
use Rattle.std.specs.Prelude.{ℕ, Bool, true, ◌&&◌, ◌||◌, not, ◌==◌, nat_le, if◌then◌else◌, List, [], ◌∷◌, ◌++◌, length, take, Option, Some, None, is_some, unwrap_or, slice_index, slice_range, replicate}
use Rattle.std.specs.List.{list_any}
use Rattle.std.specs.Int.{w16, w32, w64, to_be_bytes}
use Rattle.tmf_model.specs.Transid.{is_between, is_transid}
use Rattle.tmf_model.specs.Word.{is_key, is_value}
use Rattle.trail_files.specs.RecordTable.{are_zero, transid_at, number_at}
use Rattle.trail_files.specs.WordField.{word_field, holds_word}
use Rattle.trail_files.specs.declared.audit_record.AuditKind.{AuditKind}
use Rattle.trail_files.specs.declared.audit_record.AuditKind.TheVariants.{Change, Undo}
use Rattle.trail_files.specs.declared.audit_record.AuditRecord.{AuditRecord}
use Rattle.trail_files.specs.declared.rules.Rules.{Rules}

abbrev pub kind_code : AuditKind → ℕ
kind_code Change = 1
kind_code Undo = 2

abbrev pub kind_at : ℕ → AuditKind
kind_at code = if code == 1 then Change else Undo

-- an image's bytes; an absent one has none
abbrev pub image_bytes : Option (List ℕ) → List ℕ
image_bytes image = unwrap_or image []

-- the fields before the key, in the order of their offsets
abbrev pub audit_head : AuditRecord → ℕ → List ℕ
audit_head r number =
    kind_code r.kind ∷ r.disc ∷ r.file ∷ length r.key ∷ []
    ++ to_be_bytes w32 r.tx.epoch
    ++ to_be_bytes w16 r.tx.worker
    ++ to_be_bytes w16 r.tx.ordinal
    ++ r.tx.attempt ∷ length (image_bytes r.before) ∷ length (image_bytes r.after) ∷ 0 ∷ []
    ++ to_be_bytes w64 number

-- the key and the images
abbrev pub audit_words : AuditRecord → List ℕ
audit_words r = word_field 16 r.key ++ (word_field 40 (image_bytes r.before) ++ (word_field 40 (image_bytes r.after) ++ replicate 8 0))

-- the 128 bytes of an audit record
abbrev pub audit_spelling : AuditRecord → ℕ → List ℕ
audit_spelling r number = audit_head r number ++ audit_words r

-- whether the disc's audit is on this trail
abbrev pub is_disc_of : Rules → ℕ → Bool
is_disc_of rules disc = list_any (λ one. one == disc) rules.discs

-- whether the file stands on the disc
abbrev pub is_file_of : Rules → ℕ → ℕ → Bool
is_file_of rules file disc = list_any (λ pair. pair.0 == file && pair.1 == disc) rules.files

abbrev pub is_image : Option (List ℕ) → Bool
is_image None = true
is_image (Some value) = is_value value

-- each field is in its range, and the record is of this trail
abbrev pub is_audit_record : Rules → AuditRecord → Bool
is_audit_record rules r =
    is_disc_of rules r.disc
    && (is_file_of rules r.file r.disc
    && (is_transid r.tx
    && (is_between 1 4611686018427387903 r.position
    && (is_key r.key
    && (is_image r.before
    && (is_image r.after
    && (is_some r.before || is_some r.after)))))))

-- whether the images may have these lengths: one of them at least is there
abbrev pub are_image_lengths : ℕ → ℕ → Bool
are_image_lengths before after = nat_le after 40 && not (before == 0 && after == 0)

-- The table: each field's offset, and whether it is in its range; first the fields before the key.
abbrev pub audit_head_fields : Rules → List ℕ → List (ℕ × Bool)
audit_head_fields rules bytes =
    let tx = transid_at bytes in
    (0, is_between 1 2 (slice_index bytes 0))
    ∷ (1, is_disc_of rules (slice_index bytes 1))
    ∷ (2, is_file_of rules (slice_index bytes 2) (slice_index bytes 1))
    ∷ (3, is_between 1 16 (slice_index bytes 3))
    ∷ (4, nat_le 1 tx.epoch)
    ∷ (8, is_between 1 16 tx.worker)
    ∷ (10, is_between 1 4096 tx.ordinal)
    ∷ (12, is_between 1 8 tx.attempt)
    ∷ (13, nat_le (slice_index bytes 13) 40)
    ∷ (14, are_image_lengths (slice_index bytes 13) (slice_index bytes 14))
    ∷ (15, slice_index bytes 15 == 0)
    ∷ (16, is_between 1 4611686018427387903 (number_at bytes))
    ∷ []

-- then the key, the images and the padding behind them
abbrev pub audit_word_fields : List ℕ → List (ℕ × Bool)
audit_word_fields bytes =
    (24, holds_word (slice_index bytes 3) (slice_range bytes 24 40))
    ∷ (40, holds_word (slice_index bytes 13) (slice_range bytes 40 80))
    ∷ (80, holds_word (slice_index bytes 14) (slice_range bytes 80 120))
    ∷ (120, are_zero (slice_range bytes 120 128))
    ∷ []

-- the fields of an audit record's bytes by their offsets, each with whether it is in its range
abbrev pub audit_fields : Rules → List ℕ → List (ℕ × Bool)
audit_fields rules bytes = audit_head_fields rules bytes ++ audit_word_fields bytes

-- the image in a field, absent where its length is 0
abbrev pub image_in : ℕ → List ℕ → Option (List ℕ)
image_in len field = if len == 0 then None else Some (take len field)

-- the record that the fields hold, where they are in their ranges
abbrev pub audit_record_at : List ℕ → AuditRecord
audit_record_at bytes = record {
  kind = kind_at (slice_index bytes 0);
  disc = slice_index bytes 1;
  file = slice_index bytes 2;
  tx = transid_at bytes;
  position = number_at bytes;
  key = take (slice_index bytes 3) (slice_range bytes 24 40);
  before = image_in (slice_index bytes 13) (slice_range bytes 40 80);
  after = image_in (slice_index bytes 14) (slice_range bytes 80 120);
}
