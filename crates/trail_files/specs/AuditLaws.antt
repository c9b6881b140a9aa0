-- Laws of the spelling of audit records.
use Rattle.std.specs.Prelude.{◌≡◌, ℕ, ◌+◌, ◌≤◌, ◌^◌, true, false, ◌||◌, List, [], ◌∷◌, ◌++◌, length, take, drop, Option, Some, None, is_some, nat_le, ◌==◌, if◌then◌else◌, slice_range}
use Rattle.std.specs.List.{list_all}
use Rattle.std.proofs.Common.{refl, sym, ap, ◌∙◌, lit<, suc, length-append}
use Rattle.std.proofs.Math.Nat.{suc-ne-zero}
use Rattle.std.proofs.lemmas.Bool.{and_parts, leb-true, ne_eqb, false≢true}
use Rattle.std.proofs.lemmas.List.{drop-drop}
use Rattle.std.proofs.lemmas.Nat.{from_be_bytes-to_be_bytes_2, from_be_bytes-to_be_bytes_4, from_be_bytes-to_be_bytes_8}
use Rattle.tmf_model.specs.Transid.{is_between, is_transid}
use Rattle.tmf_model.specs.Word.{is_word_byte, is_word, is_key}
use Rattle.trail_files.specs.declared.audit_record.AuditKind.{AuditKind}
use Rattle.trail_files.specs.declared.audit_record.AuditKind.TheVariants.{Change, Undo}
use Rattle.trail_files.specs.declared.audit_record.AuditRecord.{AuditRecord}
use Rattle.trail_files.specs.declared.rules.Rules.{Rules}
use Rattle.trail_files.specs.AuditFormat.{kind_code, kind_at, image_bytes, audit_head, audit_words, audit_spelling, is_disc_of, is_file_of, is_image, is_audit_record, image_in, audit_record_at}
use Rattle.trail_files.specs.AuditOrder.{audit_follows, is_audit_order}
use Rattle.trail_files.specs.RecordOrder.{each_follows-front}
use Rattle.trail_files.specs.MonitorLaws.{IsInRanges, in_ranges, below_bound}
use Rattle.trail_files.specs.RecordTable.{transid_at, number_at}
use Rattle.trail_files.specs.WordField.{word_field}
use Rattle.trail_files.specs.WordLaws.{take-front, drop-front, length-word_field, take-word_field}

-- the parts of a valid record, each in its range
pub record HasValidParts (rules : Rules) (r : AuditRecord) : Type 0 where
  pub disc : is_disc_of rules r.disc ≡ true
  pub file : is_file_of rules r.file r.disc ≡ true
  pub tx : is_transid r.tx ≡ true
  pub position : is_between 1 4611686018427387903 r.position ≡ true
  pub key : is_key r.key ≡ true
  pub before : is_image r.before ≡ true
  pub after : is_image r.after ≡ true
  pub some : (is_some r.before || is_some r.after) ≡ true

pub valid_parts : (rules : Rules) (r : AuditRecord) → is_audit_record rules r ≡ true → HasValidParts rules r
valid_parts rules r v =
    let from_disc = and_parts (is_disc_of rules r.disc) _ v in
    let from_file = and_parts (is_file_of rules r.file r.disc) _ from_disc.1 in
    let from_tx = and_parts (is_transid r.tx) _ from_file.1 in
    let from_position = and_parts (is_between 1 4611686018427387903 r.position) _ from_tx.1 in
    let from_key = and_parts (is_key r.key) _ from_position.1 in
    let from_before = and_parts (is_image r.before) _ from_key.1 in
    let from_after = and_parts (is_image r.after) _ from_before.1 in
    record { disc = from_disc.0; file = from_file.0; tx = from_tx.0; position = from_position.0; key = from_key.0; before = from_before.0; after = from_after.0; some = from_after.1 }

-- a word's length and bytes
pub record IsWordOf (most : ℕ) (word : List ℕ) : Type 0 where
  pub some : 1 ≤ length word
  pub fits : length word ≤ most
  pub bytes : list_all is_word_byte word ≡ true

pub word_parts : (most : ℕ) (word : List ℕ) → is_word most word ≡ true → IsWordOf most word
word_parts most word v =
    let from_some = and_parts (nat_le 1 (length word)) _ v in
    let from_fits = and_parts (nat_le (length word) most) _ from_some.1 in
    record { some = leb-true 1 (length word) from_some.0; fits = leb-true (length word) most from_fits.0; bytes = from_fits.1 }

kind_at-code : (kind : AuditKind) → kind_at (kind_code kind) ≡ kind
kind_at-code Change = refl
kind_at-code Undo = refl

-- the identifier and the number that a record's head holds
pub transid_at-head : (r : AuditRecord) (n : ℕ) → IsInRanges r.tx → transid_at (audit_spelling r n) ≡ r.tx
transid_at-head r n parts =
    let epoch = from_be_bytes-to_be_bytes_4 r.tx.epoch (below_bound r.tx.epoch 4294967295 (2 ^ 32) parts.epoch (lit< tt)) in
    let worker = from_be_bytes-to_be_bytes_2 r.tx.worker (below_bound r.tx.worker 16 (2 ^ 16) parts.worker (lit< tt)) in
    let ordinal = from_be_bytes-to_be_bytes_2 r.tx.ordinal (below_bound r.tx.ordinal 4096 (2 ^ 16) parts.ordinal (lit< tt)) in
    λ i. record { epoch = epoch i; worker = worker i; ordinal = ordinal i; attempt = r.tx.attempt }

pub number_at-head : (r : AuditRecord) (n : ℕ) → is_between 1 4611686018427387903 n ≡ true → number_at (audit_spelling r n) ≡ n
number_at-head r n range = from_be_bytes-to_be_bytes_8 n (below_bound n 4611686018427387903 (2 ^ 64) range (lit< tt))

-- what stands in the fields of the key and of the images
pub record HoldsWords (r : AuditRecord) (bytes : List ℕ) : Type 0 where
  pub key : slice_range bytes 24 40 ≡ word_field 16 r.key
  pub before : slice_range bytes 40 80 ≡ word_field 40 (image_bytes r.before)
  pub after : slice_range bytes 80 120 ≡ word_field 40 (image_bytes r.after)
  pub end : slice_range bytes 120 128 ≡ 0 ∷ 0 ∷ 0 ∷ 0 ∷ 0 ∷ 0 ∷ 0 ∷ 0 ∷ []

pub holds_words : (r : AuditRecord) (n : ℕ) → HoldsWords r (audit_spelling r n)
holds_words r n =
    let key = word_field 16 r.key in
    let before = word_field 40 (image_bytes r.before) in
    let after = word_field 40 (image_bytes r.after) in
    let zeros = 0 ∷ 0 ∷ 0 ∷ 0 ∷ 0 ∷ 0 ∷ 0 ∷ 0 ∷ [] in
    let key_long = length-word_field 16 r.key in
    let before_long = length-word_field 40 (image_bytes r.before) in
    let after_long = length-word_field 40 (image_bytes r.after) in
    let all = key ++ (before ++ (after ++ zeros)) in
    let from_before = drop-front 16 key (before ++ (after ++ zeros)) key_long in
    let from_after = sym (drop-drop 40 16 all) ∙ ap (drop 40) from_before ∙ drop-front 40 before (after ++ zeros) before_long in
    let from_zeros = sym (drop-drop 40 56 all) ∙ ap (drop 40) from_after ∙ drop-front 40 after zeros after_long in
    record {
      key = take-front 16 key (before ++ (after ++ zeros)) key_long;
      before = ap (take 40) from_before ∙ take-front 40 before (after ++ zeros) before_long;
      after = ap (take 40) from_after ∙ take-front 40 after zeros after_long;
      end = ap (take 8) from_zeros;
    }

image_in-bytes : (image : Option (List ℕ)) → is_image image ≡ true → image_in (length (image_bytes image)) (word_field 40 (image_bytes image)) ≡ image
image_in-bytes None v = refl
image_in-bytes (Some []) v = absurd (false≢true v)
image_in-bytes (Some (x ∷ xs)) v =
    let some : (suc (length xs) == 0) ≡ false = ne_eqb (suc (length xs)) 0 (suc-ne-zero (length xs)) in
    ap (λ none. if none then None else Some (take (length (x ∷ xs)) (word_field 40 (x ∷ xs)))) some
    ∙ ap (λ word. Some word) (take-word_field 40 (x ∷ xs) (word_parts 40 (x ∷ xs) v).fits)

-- a valid record is read from its spelling
pub audit_record_at-spelling : (rules : Rules) (r : AuditRecord) → is_audit_record rules r ≡ true → audit_record_at (audit_spelling r r.position) ≡ r
audit_record_at-spelling rules r v =
    let parts = valid_parts rules r v in
    let words = holds_words r r.position in
    let kind = kind_at-code r.kind in
    let tx = transid_at-head r r.position (in_ranges r.tx parts.tx) in
    let position = number_at-head r r.position parts.position in
    let key = ap (take (length r.key)) words.key ∙ take-word_field 16 r.key (word_parts 16 r.key parts.key).fits in
    let before = ap (image_in (length (image_bytes r.before))) words.before ∙ image_in-bytes r.before parts.before in
    let after = ap (image_in (length (image_bytes r.after))) words.after ∙ image_in-bytes r.after parts.after in
    λ i. record { kind = kind i; disc = r.disc; file = r.file; tx = tx i; position = position i; key = key i; before = before i; after = after i }

-- no two valid records have one spelling
pub audit_one : (rules : Rules) (a b : AuditRecord) → is_audit_record rules a ≡ true → is_audit_record rules b ≡ true
    → audit_spelling a a.position ≡ audit_spelling b b.position → (a ≡ b) × (a.position ≡ b.position)
audit_one rules a b va vb e =
    let same = sym (audit_record_at-spelling rules a va) ∙ ap audit_record_at e ∙ audit_record_at-spelling rules b vb in
    (same, ap (λ r. r.position) same)

-- each spelling has 128 bytes
pub audit_length : (r : AuditRecord) (number : ℕ) → length (audit_spelling r number) ≡ 128
audit_length r number =
    let before = word_field 40 (image_bytes r.before) in
    let after = word_field 40 (image_bytes r.after) in
    let zeros = 0 ∷ 0 ∷ 0 ∷ 0 ∷ 0 ∷ 0 ∷ 0 ∷ 0 ∷ [] in
    let after_long = length-append after zeros ∙ ap (λ n. n + 8) (length-word_field 40 (image_bytes r.after)) in
    let before_long = length-append before (after ++ zeros) ∙ (λ i. length-word_field 40 (image_bytes r.before) i + after_long i) in
    let words_long = length-append (word_field 16 r.key) (before ++ (after ++ zeros)) ∙ (λ i. length-word_field 16 r.key i + before_long i) in
    length-append (audit_head r number) (audit_words r) ∙ ap (λ n. 24 + n) words_long

-- the first of records in order are in order
pub audit_begins : (xs ys : List AuditRecord) → is_audit_order (xs ++ ys) ≡ true → is_audit_order xs ≡ true
audit_begins = each_follows-front audit_follows
