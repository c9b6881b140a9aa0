-- What is read of a monitor record's fields is what they spell.
use Rattle.std.proofs.Common.{◌%◌, lit<, ◌≡◌, ℕ, suc, zero, ◌<◌, ◌^◌, Bool, true, false, List, [], length, None, refl, sym, ap, ◌∙◌, arith, eqb-true}
use Rattle.std.proofs.lemmas.Bool.{and_parts, and_from, leb-true, le-leb}
use Rattle.std.proofs.lemmas.Nat.{from_be_bytes-to_be_bytes_4, from_be_bytes-to_be_bytes_8, mod_below}
use Rattle.std.specs.Prelude.{slice_index, slice_range, ◌==◌, nat_le, if◌then◌else◌}
use Rattle.tmf_model.specs.declared.transid.Transid.{Transid}
use Rattle.trail_files.specs.declared.monitor_record.MonitorRecord.{MonitorRecord}
use Rattle.trail_files.specs.declared.monitor_record.MonitorRecord.TheVariants.{Start, Commit, Abort}
use Rattle.tmf_model.specs.Transid.{is_between}
use Rattle.trail_files.specs.RecordTable.{first_bad, are_zero, transid_at, number_at}
use Rattle.trail_files.specs.MonitorLaws.{IsInRanges, below, in_ranges, monitor_one, same_transid}
use Rattle.trail_files.specs.MonitorFormat.{epoch_alone, monitor_row, monitor_spelling, is_monitor_record, is_part, monitor_fields, monitor_record_at}
use Rattle.trail_files.specs.RecordFields.{AreBytes, each_fits, none_bad, joined, below_32, field_16, field_32, field_64, field_zeros, field_byte, field_end}

-- bytes whose paddings are zeros are the row of what they hold
row_again : (bytes : List ℕ) → length bytes ≡ 32 → AreBytes bytes
    → are_zero (slice_range bytes 1 4) ≡ true → are_zero (slice_range bytes 13 16) ≡ true → are_zero (slice_range bytes 24 32) ≡ true
    → bytes ≡ monitor_row (slice_index bytes 0) (transid_at bytes) (number_at bytes)
row_again bytes l h z1 z13 z24 =
    joined 0 1 bytes _ _ (field_byte 0 bytes (omega arith))
    (joined 1 3 bytes _ _ (field_zeros 1 3 bytes (omega arith) z1)
    (joined 4 4 bytes _ _ (field_32 4 bytes h (omega arith))
    (joined 8 2 bytes _ _ (field_16 8 bytes h (omega arith))
    (joined 10 2 bytes _ _ (field_16 10 bytes h (omega arith))
    (joined 12 1 bytes _ _ (field_byte 12 bytes (omega arith))
    (joined 13 3 bytes _ _ (field_zeros 13 3 bytes (omega arith) z13)
    (joined 16 8 bytes _ _ (field_64 16 bytes h (omega arith))
    (joined 24 8 bytes _ [] (field_zeros 24 8 bytes (omega arith) z24) (field_end 32 bytes l)))))))))

record_of : ℕ → Transid → MonitorRecord
record_of kind tx = if kind == 1 then Start tx.epoch else (if kind == 2 then Commit tx else Abort tx)

-- fields in their ranges are those of a valid record
of_parts : (kind : ℕ) (tx : Transid) (n : ℕ) → is_between 1 3 kind ≡ true → is_between 1 4294967295 tx.epoch ≡ true
    → is_part (kind == 1) 16 tx.worker ≡ true → is_part (kind == 1) 4096 tx.ordinal ≡ true → is_part (kind == 1) 8 tx.attempt ≡ true
    → (is_monitor_record (record_of kind tx) ≡ true) × (monitor_row kind tx n ≡ monitor_spelling (record_of kind tx) n)
unfolding record_of
of_parts zero tx n k e w o a = absurd cc
of_parts (suc zero) tx n k e w o a =
    let worker : tx.worker ≡ 0 = eqb-true tx.worker 0 w in
    let ordinal : tx.ordinal ≡ 0 = eqb-true tx.ordinal 0 o in
    let attempt : tx.attempt ≡ 0 = eqb-true tx.attempt 0 a in
    let alone : tx ≡ epoch_alone tx.epoch = λ i. record { epoch = tx.epoch; worker = worker i; ordinal = ordinal i; attempt = attempt i } in
    (e, ap (λ t. monitor_row 1 t n) alone)
of_parts (suc (suc zero)) tx n k e w o a = (and_from _ _ e (and_from _ _ w (and_from _ _ o a)), refl)
of_parts (suc (suc (suc zero))) tx n k e w o a = (and_from _ _ e (and_from _ _ w (and_from _ _ o a)), refl)
of_parts (suc (suc (suc (suc m)))) tx n k e w o a = absurd (omega (arith, leb-true (suc (suc (suc (suc m)))) 3 (and_parts _ _ k).1))

-- what is read without a bad field is a valid record, spelled by these bytes
pub monitor_read : (bytes : List ℕ) → length bytes ≡ 32 → AreBytes bytes → first_bad (monitor_fields false bytes) ≡ None
    → (is_monitor_record (monitor_record_at bytes) ≡ true) × (bytes ≡ monitor_spelling (monitor_record_at bytes) (number_at bytes))
unfolding record_of
monitor_read bytes l h none =
    let fit = each_fits (monitor_fields false bytes) none in
    let epoch = and_from _ _ (and_parts (nat_le 1 (transid_at bytes).epoch) true fit.1.1.0).0 (le-leb _ 4294967295 (below_32 4 bytes h)) in
    let parts = of_parts (slice_index bytes 0) (transid_at bytes) (number_at bytes) fit.0 epoch fit.1.1.1.0 fit.1.1.1.1.0 fit.1.1.1.1.1.0 in
    (parts.0, row_again bytes l h fit.1.0 fit.1.1.1.1.1.1.0 fit.1.1.1.1.1.1.1.0 ∙ parts.1)

part_again : (starts : Bool) (most a b : ℕ) → starts ≡ false → a ≡ b → is_between 1 most b ≡ true → is_part starts most a ≡ true
part_again false most a b other same fits = ap (λ k. is_between 1 most k) same ∙ fits
part_again true most a b other same fits = absurd cc

row_fits : (kind : ℕ) (tx : Transid) (n : ℕ) → is_between 1 3 kind ≡ true → (kind == 1) ≡ false → IsInRanges tx
    → first_bad (monitor_fields false (monitor_row kind tx n)) ≡ None
row_fits kind tx n known other parts =
    let same = same_transid kind tx n parts in
    let epoch = ap (λ t. nat_le 1 t.epoch) same ∙ (and_parts (nat_le 1 tx.epoch) _ parts.epoch).0 in
    let worker = part_again (kind == 1) 16 _ _ other (ap (λ t. t.worker) same) parts.worker in
    let ordinal = part_again (kind == 1) 4096 _ _ other (ap (λ t. t.ordinal) same) parts.ordinal in
    let attempt = part_again (kind == 1) 8 _ _ other (ap (λ t. t.attempt) same) parts.attempt in
    none_bad (monitor_fields false (monitor_row kind tx n)) (known, (refl, (and_from _ true epoch refl, (worker, (ordinal, (attempt, (refl, (refl, tt))))))))

pub number_at-spelling : (item : MonitorRecord) (n : ℕ) → n < 2 ^ 64 → number_at (monitor_spelling item n) ≡ n
number_at-spelling (Start e) n l = from_be_bytes-to_be_bytes_8 n l
number_at-spelling (Commit tx) n l = from_be_bytes-to_be_bytes_8 n l
number_at-spelling (Abort tx) n l = from_be_bytes-to_be_bytes_8 n l

-- no two valid records have one spelling, and it tells the number
pub monitor_one_number : (a b : MonitorRecord) (n m : ℕ) → is_monitor_record a ≡ true → is_monitor_record b ≡ true
    → monitor_spelling a (n % 2 ^ 64) ≡ monitor_spelling b (m % 2 ^ 64) → (a ≡ b) × (n % 2 ^ 64 ≡ m % 2 ^ 64)
monitor_one_number a b n m va vb e =
    (monitor_one a b (n % 2 ^ 64) (m % 2 ^ 64) va vb e, sym (number_at-spelling a (n % 2 ^ 64) (mod_below n (2 ^ 64) (lit< tt))) ∙ ap number_at e ∙ number_at-spelling b (m % 2 ^ 64) (mod_below m (2 ^ 64) (lit< tt)))

-- and no field of it is bad
pub monitor_fits : (item : MonitorRecord) (n : ℕ) → is_monitor_record item ≡ true → first_bad (monitor_fields false (monitor_spelling item n)) ≡ None
monitor_fits (Start e) n v =
    let same = from_be_bytes-to_be_bytes_4 e (omega (arith, below e 4294967295 v)) in
    let epoch = ap (λ k. nat_le 1 k) same ∙ (and_parts (nat_le 1 e) _ v).0 in
    none_bad (monitor_fields false (monitor_spelling (Start e) n)) (refl, (refl, (and_from _ true epoch refl, (refl, (refl, (refl, (refl, (refl, tt))))))))
monitor_fits (Commit tx) n v = row_fits 2 tx n refl refl (in_ranges tx v)
monitor_fits (Abort tx) n v = row_fits 3 tx n refl refl (in_ranges tx v)
