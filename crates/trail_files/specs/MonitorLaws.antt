-- Laws of the spelling of monitor records, and of their order.
use Rattle.std.specs.Prelude.{◌≡◌, ℕ, ◌<◌, ◌≤◌, ◌^◌, true, ◌&&◌, List, ◌++◌, length}
use Rattle.std.proofs.Common.{refl, sym, ap, ◌∙◌, lit<, arith, length-append}
use Rattle.std.proofs.Math.Nat.{lt_of_le_of_lt}
use Rattle.std.proofs.lemmas.Bool.{and_parts, and_from, leb-true, ltb-true, lt-ltb}
use Rattle.std.proofs.lemmas.Nat.{from_be_bytes-to_be_bytes_2, from_be_bytes-to_be_bytes_4}
use Rattle.tmf_model.specs.declared.transid.Transid.{Transid}
use Rattle.tmf_model.specs.Transid.{is_between, is_transid}
use Rattle.trail_files.specs.declared.monitor_record.MonitorRecord.{MonitorRecord}
use Rattle.trail_files.specs.declared.monitor_record.MonitorRecord.TheVariants.{Start, Commit, Abort}
use Rattle.trail_files.specs.MonitorFormat.{monitor_row, monitor_spelling, is_monitor_record, monitor_record_at}
use Rattle.trail_files.specs.MonitorOrder.{monitor_follows, is_monitor_order, are_placed}
use Rattle.trail_files.specs.RecordOrder.{each_follows-front}
use Rattle.trail_files.specs.RecordTable.{transid_at}

-- the identifier that a row holds
transid_at-row : (kind : ℕ) (tx : Transid) (n : ℕ) → tx.epoch < 2 ^ 32 → tx.worker < 2 ^ 16 → tx.ordinal < 2 ^ 16
    → transid_at (monitor_row kind tx n) ≡ tx
transid_at-row kind tx n e w o =
    let epoch = from_be_bytes-to_be_bytes_4 tx.epoch e in
    let worker = from_be_bytes-to_be_bytes_2 tx.worker w in
    let ordinal = from_be_bytes-to_be_bytes_2 tx.ordinal o in
    λ i. record { epoch = epoch i; worker = worker i; ordinal = ordinal i; attempt = tx.attempt }

pub below : (a most : ℕ) → is_between 1 most a ≡ true → a ≤ most
below a most e = leb-true a most (and_parts _ _ e).1

pub below_bound : (a most bound : ℕ) → is_between 1 most a ≡ true → most < bound → a < bound
below_bound a most bound e h = lt_of_le_of_lt (below a most e) h

-- the four parts of an identifier in their ranges
pub record IsInRanges (tx : Transid) : Type 0 where
  pub epoch : is_between 1 4294967295 tx.epoch ≡ true
  pub worker : is_between 1 16 tx.worker ≡ true
  pub ordinal : is_between 1 4096 tx.ordinal ≡ true
  pub attempt : is_between 1 8 tx.attempt ≡ true

pub in_ranges : (tx : Transid) → is_transid tx ≡ true → IsInRanges tx
in_ranges tx v =
    let one = and_parts (is_between 1 4294967295 tx.epoch) _ v in
    let two = and_parts (is_between 1 16 tx.worker) _ one.1 in
    let three = and_parts (is_between 1 4096 tx.ordinal) _ two.1 in
    record { epoch = one.0; worker = two.0; ordinal = three.0; attempt = three.1 }

pub same_transid : (kind : ℕ) (tx : Transid) (n : ℕ) → IsInRanges tx → transid_at (monitor_row kind tx n) ≡ tx
same_transid kind tx n parts =
    transid_at-row kind tx n
    (below_bound tx.epoch 4294967295 (2 ^ 32) parts.epoch (lit< tt))
    (below_bound tx.worker 16 (2 ^ 16) parts.worker (lit< tt))
    (below_bound tx.ordinal 4096 (2 ^ 16) parts.ordinal (lit< tt))

-- a valid record is read from its spelling
pub monitor_record_at-spelling : (item : MonitorRecord) (n : ℕ) → is_monitor_record item ≡ true → monitor_record_at (monitor_spelling item n) ≡ item
monitor_record_at-spelling (Start e) n v = ap (λ k. Start k) (from_be_bytes-to_be_bytes_4 e (below_bound e 4294967295 (2 ^ 32) v (lit< tt)))
monitor_record_at-spelling (Commit tx) n v = ap (λ t. Commit t) (same_transid 2 tx n (in_ranges tx v))
monitor_record_at-spelling (Abort tx) n v = ap (λ t. Abort t) (same_transid 3 tx n (in_ranges tx v))

-- no two valid records have one spelling
pub monitor_one : (a b : MonitorRecord) (n m : ℕ) → is_monitor_record a ≡ true → is_monitor_record b ≡ true → monitor_spelling a n ≡ monitor_spelling b m → a ≡ b
monitor_one a b n m va vb e = sym (monitor_record_at-spelling a n va) ∙ ap monitor_record_at e ∙ monitor_record_at-spelling b m vb

-- each spelling has 32 bytes
pub monitor_length : (item : MonitorRecord) (number : ℕ) → length (monitor_spelling item number) ≡ 32
monitor_length (Start e) n = refl
monitor_length (Commit tx) n = refl
monitor_length (Abort tx) n = refl

-- the first of records in order are in order
pub monitor_begins : (xs ys : List MonitorRecord) → is_monitor_order (xs ++ ys) ≡ true → is_monitor_order xs ≡ true
monitor_begins = each_follows-front monitor_follows

pub monitor_front : (xs ys : List MonitorRecord) → (is_monitor_order (xs ++ ys) && are_placed (xs ++ ys)) ≡ true → (is_monitor_order xs && are_placed xs) ≡ true
monitor_front xs ys e =
    let both = and_parts (is_monitor_order (xs ++ ys)) _ e in
    let fewer : length xs < 2 ^ 64 = omega (arith, length-append xs ys, ltb-true (length (xs ++ ys)) (2 ^ 64) both.1) in
    and_from _ _ (monitor_begins xs ys both.0) (lt-ltb (length xs) (2 ^ 64) fewer)
