-- How a record of the monitor trail is spelled, in 32 bytes.
use Rattle.std.specs.Prelude.{ℕ, Bool, ◌&&◌, not, ◌==◌, nat_le, if◌then◌else◌, List, [], ◌∷◌, ◌++◌, slice_index, slice_range, replicate}
use Rattle.std.specs.Int.{w16, w32, w64, to_be_bytes}
use Rattle.tmf_model.specs.declared.transid.Transid.{Transid}
use Rattle.tmf_model.specs.Transid.{is_between, is_transid}
use Rattle.trail_files.specs.RecordTable.{are_zero, transid_at}
use Rattle.trail_files.specs.declared.monitor_record.MonitorRecord.{MonitorRecord}
use Rattle.trail_files.specs.declared.monitor_record.MonitorRecord.TheVariants.{Start, Commit, Abort}

-- a Start's epoch, where the other records have an identifier
abbrev pub epoch_alone : ℕ → Transid
epoch_alone epoch = record { epoch = epoch; worker = 0; ordinal = 0; attempt = 0 }

-- the fields in the order of their offsets
abbrev pub monitor_row : ℕ → Transid → ℕ → List ℕ
monitor_row kind tx place =
    kind ∷ 0 ∷ 0 ∷ 0 ∷ []
    ++ to_be_bytes w32 tx.epoch
    ++ to_be_bytes w16 tx.worker
    ++ to_be_bytes w16 tx.ordinal
    ++ tx.attempt ∷ 0 ∷ 0 ∷ 0 ∷ []
    ++ to_be_bytes w64 place
    ++ replicate 8 0

-- the 32 bytes of a monitor record at its place
abbrev pub monitor_spelling : MonitorRecord → ℕ → List ℕ
monitor_spelling (Start epoch) place = monitor_row 1 (epoch_alone epoch) place
monitor_spelling (Commit tx) place = monitor_row 2 tx place
monitor_spelling (Abort tx) place = monitor_row 3 tx place

-- each field is in its range
abbrev pub is_monitor_record : MonitorRecord → Bool
is_monitor_record (Start epoch) = is_between 1 4294967295 epoch
is_monitor_record (Commit tx) = is_transid tx
is_monitor_record (Abort tx) = is_transid tx

-- a part of an identifier, which a Start leaves at 0
abbrev pub is_part : Bool → ℕ → ℕ → Bool
is_part starts most part = if starts then part == 0 else is_between 1 most part

-- The table: each field's offset, and whether it is in its range. An identifier that stands in an earlier
-- Commit or Abort is a fault of the epoch's field.
abbrev pub monitor_fields : Bool → List ℕ → List (ℕ × Bool)
monitor_fields doubled bytes =
    let starts = slice_index bytes 0 == 1 in
    let tx = transid_at bytes in
    (0, is_between 1 3 (slice_index bytes 0))
    ∷ (1, are_zero (slice_range bytes 1 4))
    ∷ (4, nat_le 1 tx.epoch && not doubled)
    ∷ (8, is_part starts 16 tx.worker)
    ∷ (10, is_part starts 4096 tx.ordinal)
    ∷ (12, is_part starts 8 tx.attempt)
    ∷ (13, are_zero (slice_range bytes 13 16))
    ∷ (24, are_zero (slice_range bytes 24 32))
    ∷ []

-- the record that the fields hold, where they are in their ranges
abbrev pub monitor_record_at : List ℕ → MonitorRecord
monitor_record_at bytes =
    if slice_index bytes 0 == 1 then Start (transid_at bytes).epoch
    else (if slice_index bytes 0 == 2 then Commit (transid_at bytes) else Abort (transid_at bytes))
