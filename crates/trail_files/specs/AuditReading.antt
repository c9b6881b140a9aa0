-- What is read of an audit record's fields is what they spell.
use Rattle.std.proofs.Common.{◌≡◌, ℕ, suc, zero, ◌+◌, ◌≤◌, Bool, true, false, ◌&&◌, ◌||◌, not, List, [], ◌∷◌, length, take, Option, Some, None, refl, sym, ap, ◌∙◌, arith, eqb-true}
use Rattle.std.proofs.lemmas.Bool.{and_parts, and_from, leb-true, le-leb, ne_eqb}
use Rattle.std.specs.Prelude.{if◌then◌else◌, ◌==◌, nat_le, is_some, slice_index, slice_range}
use Rattle.std.specs.Option.{option_or}
use Rattle.std.specs.List.{list_all}
use Rattle.tmf_model.specs.Word.{is_word_byte}
use Rattle.tmf_model.specs.Transid.{is_between}
use Rattle.trail_files.specs.declared.audit_record.AuditKind.{AuditKind}
use Rattle.trail_files.specs.declared.audit_record.AuditKind.TheVariants.{Change, Undo}
use Rattle.trail_files.specs.declared.audit_record.AuditRecord.{AuditRecord}
use Rattle.trail_files.specs.declared.rules.Rules.{Rules}
use Rattle.trail_files.specs.AuditFormat.{kind_code, kind_at, image_bytes, audit_spelling, is_audit_record, audit_head_fields, audit_word_fields, audit_fields, image_in, is_image, audit_record_at}
use Rattle.trail_files.specs.AuditLaws.{valid_parts, word_parts, transid_at-head, number_at-head, holds_words}
use Rattle.trail_files.specs.MonitorLaws.{in_ranges}
use Rattle.trail_files.specs.RecordTable.{first_bad, are_zero, number_at}
use Rattle.trail_files.specs.WordField.{holds_word}
use Rattle.trail_files.specs.RecordFields.{AreBytes, each_fits, none_bad, first_bad-append, joined, length-field, below_32, field_16, field_32, field_64, field_zeros, field_byte, field_end}
use Rattle.trail_files.specs.WordReading.{holds_word-field, holds, is_word-held, holds_image}

-- where a field holds a value, its test is true and the value is the one
pub held : {X : Type 0} (holds : Bool) (x y : X) → Some y ≡ (if holds then Some x else None) → (holds ≡ true) × (y ≡ x)
held true x y e = (refl, cc)
held false x y e = absurd cc

-- where no field before the key is bad, the first bad one is among those from the key on
pub bad_word : (rules : Rules) (bytes : List ℕ) → first_bad (audit_head_fields rules bytes) ≡ None → first_bad (audit_fields rules bytes) ≡ first_bad (audit_word_fields bytes)
bad_word rules bytes none =
    first_bad-append (audit_head_fields rules bytes) (audit_word_fields bytes) ∙ ap (λ o. option_or o (first_bad (audit_word_fields bytes))) none

code_again : (code : ℕ) → is_between 1 2 code ≡ true → code ≡ kind_code (kind_at code)
code_again zero v = absurd cc
code_again (suc zero) v = refl
code_again (suc (suc zero)) v = refl
code_again (suc (suc (suc n))) v = absurd (omega (arith, leb-true (suc (suc (suc n))) 2 (and_parts _ _ v).1))

present : (none : Bool) (x : List ℕ) → is_some (if none then None else Some x) ≡ not none
present true x = refl
present false x = refl

one_present : (p q : Bool) → not (p && q) ≡ true → (not p || not q) ≡ true
one_present true true e = absurd cc
one_present true false e = refl
one_present false q e = refl

some_image : (before after : ℕ) (b a : List ℕ) → not (before == 0 && after == 0) ≡ true → (is_some (image_in before b) || is_some (image_in after a)) ≡ true
some_image before after b a e =
    (λ i. present (before == 0) (take before b) i || present (after == 0) (take after a) i) ∙ one_present (before == 0) (after == 0) e

-- what is read without a bad field is a valid record, spelled by these bytes
pub audit_read : (rules : Rules) (bytes : List ℕ) → length bytes ≡ 128 → AreBytes bytes → first_bad (audit_fields rules bytes) ≡ None
    → (is_audit_record rules (audit_record_at bytes) ≡ true) × (bytes ≡ audit_spelling (audit_record_at bytes) (number_at bytes))
audit_read rules bytes l h none =
    let fit = each_fits (audit_fields rules bytes) none in
    let at2 = fit.1.1 in
    let at4 = at2.1.1 in
    let at12 = at4.1.1.1 in
    let at14 = at12.1.1 in
    let at24 = at14.1.1.1 in
    let key_len = and_parts (nat_le 1 (slice_index bytes 3)) _ at2.1.0 in
    let some = leb-true 1 (slice_index bytes 3) key_len.0 in
    let key_fits = leb-true (slice_index bytes 3) 16 key_len.1 in
    let before_fits = leb-true (slice_index bytes 13) 40 at12.1.0 in
    let lengths = and_parts (nat_le (slice_index bytes 14) 40) _ at14.0 in
    let after_fits = leb-true (slice_index bytes 14) 40 lengths.0 in
    let key = holds 16 (slice_index bytes 3) (slice_range bytes 24 40) (length-field 24 16 bytes (omega arith)) key_fits at24.0 in
    let before = holds_image (slice_index bytes 13) (slice_range bytes 40 80) before_fits (holds 40 (slice_index bytes 13) (slice_range bytes 40 80) (length-field 40 40 bytes (omega arith)) before_fits at24.1.0) in
    let after = holds_image (slice_index bytes 14) (slice_range bytes 80 120) after_fits (holds 40 (slice_index bytes 14) (slice_range bytes 80 120) (length-field 80 40 bytes (omega arith)) after_fits at24.1.1.0) in
    let tx = and_from _ _ (and_from _ _ at4.0 (le-leb _ 4294967295 (below_32 4 bytes h))) (and_from _ _ at4.1.0 (and_from _ _ at4.1.1.0 at12.0)) in
    let valid =
    and_from _ _ fit.1.0 (and_from _ _ at2.0 (and_from _ _ tx (and_from _ _ at14.1.1.0
    (and_from _ _ (is_word-held 16 (slice_index bytes 3) (slice_range bytes 24 40) some key_fits key)
    (and_from _ _ before.valid (and_from _ _ after.valid (some_image (slice_index bytes 13) (slice_index bytes 14) (slice_range bytes 40 80) (slice_range bytes 80 120) lengths.1))))))) in
    let one = λ (n : ℕ) (m : ℕ) (inside : n + 1 ≤ length bytes) (e : slice_index bytes n ≡ m). field_byte n bytes inside ∙ ap (λ b. b ∷ []) e in
    let spelled : bytes ≡ audit_spelling (audit_record_at bytes) (number_at bytes) =
    joined 0 1 bytes _ _ (one 0 _ (omega arith) (code_again (slice_index bytes 0) fit.0))
    (joined 1 1 bytes _ _ (field_byte 1 bytes (omega arith))
    (joined 2 1 bytes _ _ (field_byte 2 bytes (omega arith))
    (joined 3 1 bytes _ _ (one 3 _ (omega arith) (sym key.long))
    (joined 4 4 bytes _ _ (field_32 4 bytes h (omega arith))
    (joined 8 2 bytes _ _ (field_16 8 bytes h (omega arith))
    (joined 10 2 bytes _ _ (field_16 10 bytes h (omega arith))
    (joined 12 1 bytes _ _ (field_byte 12 bytes (omega arith))
    (joined 13 1 bytes _ _ (one 13 _ (omega arith) (sym before.long))
    (joined 14 1 bytes _ _ (one 14 _ (omega arith) (sym after.long))
    (joined 15 1 bytes _ _ (one 15 0 (omega arith) (eqb-true _ 0 at14.1.0))
    (joined 16 8 bytes _ _ (field_64 16 bytes h (omega arith))
    (joined 24 16 bytes _ _ key.spelled
    (joined 40 40 bytes _ _ before.spelled
    (joined 80 40 bytes _ _ after.spelled
    (joined 120 8 bytes _ [] (field_zeros 120 8 bytes (omega arith) at24.1.1.1.0) (field_end 128 bytes l)))))))))))))))) in
    (valid, spelled)

part : (most a b : ℕ) → a ≡ b → is_between 1 most b ≡ true → is_between 1 most a ≡ true
part most a b same range = ap (λ n. is_between 1 most n) same ∙ range

code_in_range : (kind : AuditKind) → is_between 1 2 (kind_code kind) ≡ true
code_in_range Change = refl
code_in_range Undo = refl

-- an image's length, and what its field holds
image_fits : (image : Option (List ℕ)) → is_image image ≡ true → (length (image_bytes image) ≤ 40) × (list_all is_word_byte (image_bytes image) ≡ true)
image_fits None v = (omega arith, refl)
image_fits (Some word) v = let parts = word_parts 40 word v in (parts.fits, parts.bytes)

lengths_fit : (before after : Option (List ℕ)) → is_image before ≡ true → is_image after ≡ true → (is_some before || is_some after) ≡ true
    → not (length (image_bytes before) == 0 && length (image_bytes after) == 0) ≡ true
lengths_fit None None vb va some = absurd cc
lengths_fit (Some word) after vb va some =
    let there : (length word == 0) ≡ false = ne_eqb (length word) 0 (λ z. omega (arith, (word_parts 40 word vb).some)) in
    ap (λ none. not (none && length (image_bytes after) == 0)) there
lengths_fit None (Some word) vb va some =
    ap not (ne_eqb (length word) 0 (λ z. omega (arith, (word_parts 40 word va).some)))

-- no field of a valid record's spelling is bad
pub audit_fits : (rules : Rules) (r : AuditRecord) → is_audit_record rules r ≡ true → first_bad (audit_fields rules (audit_spelling r r.position)) ≡ None
audit_fits rules r v =
    let parts = valid_parts rules r v in
    let ranges = in_ranges r.tx parts.tx in
    let words = holds_words r r.position in
    let tx = transid_at-head r r.position ranges in
    let key = word_parts 16 r.key parts.key in
    let before = image_fits r.before parts.before in
    let after = image_fits r.after parts.after in
    none_bad (audit_fields rules (audit_spelling r r.position)) (
      code_in_range r.kind,
      (
        parts.disc,
        (
          parts.file,
          (
            and_from _ _ (le-leb 1 (length r.key) key.some) (le-leb (length r.key) 16 key.fits),
            (
              ap (λ t. nat_le 1 t.epoch) tx ∙ (and_parts (nat_le 1 r.tx.epoch) _ ranges.epoch).0,
              (
                part 16 _ _ (ap (λ t. t.worker) tx) ranges.worker,
                (
                  part 4096 _ _ (ap (λ t. t.ordinal) tx) ranges.ordinal,
                  (
                    part 8 _ _ (ap (λ t. t.attempt) tx) ranges.attempt,
                    (
                      le-leb (length (image_bytes r.before)) 40 before.0,
                      (
                        and_from _ _ (le-leb (length (image_bytes r.after)) 40 after.0) (lengths_fit r.before r.after parts.before parts.after parts.some),
                        (
                          refl,
                          (
                            part 4611686018427387903 _ _ (number_at-head r r.position parts.position) parts.position,
                            (
                              ap (holds_word (length r.key)) words.key ∙ holds_word-field 16 r.key key.fits key.bytes,
                              (
                                ap (holds_word (length (image_bytes r.before))) words.before ∙ holds_word-field 40 (image_bytes r.before) before.0 before.1,
                                (
                                  ap (holds_word (length (image_bytes r.after))) words.after ∙ holds_word-field 40 (image_bytes r.after) after.0 after.1,
                                  (ap are_zero words.end, tt),
                                ),
                              ),
                            ),
                          ),
                        ),
                      ),
                    ),
                  ),
                ),
              ),
            ),
          ),
        ),
      ),
    )
