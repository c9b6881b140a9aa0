-- Where the text of a trail breaks a rule first, and which rule.
use Rattle.std.specs.Prelude.{◌≡◌, ◌≢◌, ◌⊎◌, ℕ, ◌+◌, ◌*◌, ◌<◌, ◌^◌, Bool, true, false, ◌==◌, ◌&&◌, ◌||◌, not, nat_le, nat_lt, if◌then◌else◌, find, List, [], ◌∷◌, ◌++◌, length, take, drop, slice_index, slice_range, Option, Some, None, option_map}
use Rattle.std.specs.List.{AllByRecursion}
use Rattle.std.specs.Int.{w32, from_be_bytes}
use Rattle.std.specs.Option.{option_or}
use Rattle.disk_model.specs.Held.{Held, IsThere, IsLeast}
use Rattle.trail_files.specs.declared.damage.Damage.{Damage}
use Rattle.trail_files.specs.declared.damage.DamageKind.{DamageKind}
use Rattle.trail_files.specs.declared.damage.DamageKind.TheVariants.{Missing, Short, Version, Zero, Count, NoStart, BadRecord, Order}
use Rattle.trail_files.specs.Format.{Format, text, AllValid}
use Rattle.trail_files.specs.Text.{records_text, batches_text, IsBatchOf, all_of, records_of, place_behind, AreFiles, IsRolledText}

-- the first of these checks that fails: its offset and its kind
abbrev pub first_failed : List ((ℕ × DamageKind) × Bool) → Option (ℕ × DamageKind)
first_failed checks = option_map (λ check. check.0) (find (λ check. not check.1) checks)

-- the count of a batch, from its gate and head
abbrev pub count_in : List ℕ → ℕ
count_in bytes = from_be_bytes w32 (slice_range bytes 4 8)

-- a batch has so many records at most; it may have none, which is a roll, but in the last file that can be
abbrev pub is_count : ℕ → ℕ → ℕ → Bool
is_count most file count = nat_le count most && not (count == 0 && file == 4294967295)

-- the checks of the head of a batch behind its gate, in order
abbrev pub head_checks : ℕ → ℕ → List ℕ → List ((ℕ × DamageKind) × Bool)
head_checks most file bytes =
    ((1, Version), slice_index bytes 1 == 1)
    ∷ ((2, Zero), slice_index bytes 2 == 0)
    ∷ ((3, Zero), slice_index bytes 3 == 0)
    ∷ ((4, Count), is_count most file (count_in bytes))
    ∷ ((8, Zero), slice_index bytes 8 == 0)
    ∷ ((9, Zero), slice_index bytes 9 == 0)
    ∷ ((10, Zero), slice_index bytes 10 == 0)
    ∷ ((11, Zero), slice_index bytes 11 == 0)
    ∷ ((12, Zero), slice_index bytes 12 == 0)
    ∷ ((13, Zero), slice_index bytes 13 == 0)
    ∷ ((14, Zero), slice_index bytes 14 == 0)
    ∷ ((15, Zero), slice_index bytes 15 == 0)
    ∷ []

-- What is wrong with an open batch but for its records: the bytes, from its gate on, end within its head; a field of the head is
-- wrong; or the bytes end within its records, each this long, or in front of the next gate.
abbrev pub batch_damage : ℕ → ℕ → ℕ → List ℕ → Option (ℕ × DamageKind)
batch_damage most size file bytes =
    if nat_lt (length bytes) 16 then Some (0, Short)
    else option_or (first_failed (head_checks most file (take 16 bytes))) (if nat_lt (16 + count_in bytes * size) (length bytes) then None else Some (0, Short))

-- what is wrong at a gate but for records: there is none; it is closed where the trail may not end; or it is open, and its batch is wrong
abbrev pub gate_damage : Bool → ℕ → ℕ → ℕ → List ℕ → Option (ℕ × DamageKind)
gate_damage may_end most size file [] = Some (0, Short)
gate_damage may_end most size file (gate ∷ rest) = if gate == 1 then batch_damage most size file (gate ∷ rest) else (if may_end then None else Some (0, NoStart))

-- the first records of an open batch are fine behind those before, and the next one has this damage, in the order of its fields
pub record IsRecordDamage {R : Type 0} (format : Format R) (damage : List R → List ℕ → Option (ℕ × DamageKind)) (size : ℕ) (before : List R) (bytes : List ℕ) (at : ℕ) (kind : DamageKind) : Type 0 where
  pub fine : List R
  pub rest : List ℕ
  pub offset : ℕ
  pub more : length fine < count_in bytes
  pub parts : drop 16 bytes ≡ records_text (text format) (1 + length before) fine ++ rest
  pub each : AllValid format fine
  pub in_order : format.in_order (before ++ fine) ≡ true
  pub told : damage (before ++ fine) (take size rest) ≡ Some (offset, kind)
  pub at_is : at ≡ 16 + length fine * size + offset

-- what breaks a rule at a gate, or in the batch behind it, after the records before
abbrev pub IsGateDamage : {R : Type 0} → Format R → (List R → List ℕ → Option (ℕ × DamageKind)) → ℕ → ℕ → List R → List ℕ → ℕ → DamageKind → Type 0
IsGateDamage format damage size file before bytes at kind =
    (gate_damage (format.may_end before) format.most size file bytes ≡ Some (at, kind))
    ⊎ ((gate_damage (format.may_end before) format.most size file bytes ≡ None) × (slice_index bytes 0 ≡ 1) × IsRecordDamage format damage size before bytes at kind)

-- Up to an offset of a file the text of the trail is fine: files that were rolled, and batches in front of `rest`.
pub record IsFine {R : Type 0} (format : Format R) (held : Held) (least : ℕ) (files : List (List (List R))) (batches : List (List R)) : Type 0 where
  pub is_least : IsLeast held (Some least)
  pub begins : format.may_begin least ≡ true
  pub numbers : least + length files < 2 ^ 32
  pub rolled : AreFiles (λ place batches f. IsRolledText format place batches f.bytes) held least 1 files
  pub each : AllByRecursion (IsBatchOf format) batches
  pub in_order : format.in_order (records_of files ++ all_of batches) ≡ true

-- behind what is fine the file is not there, or a rule is broken at its next gate
abbrev pub IsDamagedBehind : {R : Type 0} → Format R → (List R → List ℕ → Option (ℕ × DamageKind)) → ℕ → Held → List (List (List R)) → List (List R) → Damage → Type 0
IsDamagedBehind format damage size held files batches d =
    ((held d.file ≡ None) × (batches ≡ []) × (d.at ≡ 0) × (d.kind ≡ Missing))
    ⊎ IsThere held d.file (λ f. (rest : List ℕ) × (at : ℕ) × (f.bytes ≡ batches_text (text format) (place_behind files) batches ++ rest) × ((0 < length rest) ⊎ (batches ≡ []))
    × (d.at ≡ length (batches_text (text format) (place_behind files) batches) + at) × IsGateDamage format damage size d.file (records_of files ++ all_of batches) rest at d.kind)

-- The text of the device's trail breaks this rule first. It is missing where no file is there with which a trail may begin.
abbrev pub IsDamagedAt : {R : Type 0} → Format R → (List R → List ℕ → Option (ℕ × DamageKind)) → ℕ → Held → Damage → Type 0
IsDamagedAt {R = R} format damage size held d =
    (((n : ℕ) → IsLeast held (Some n) → format.may_begin n ≡ false) × (d ≡ record { file = 1; at = 0; kind = Missing }))
    ⊎ ((least : ℕ) × (files : List (List (List R))) × (batches : List (List R)) × IsFine format held least files batches × (d.file ≡ least + length files) × IsDamagedBehind format damage size held files batches d)

-- What is wrong with bytes that are read of a file as a batch's head behind its gate: they are too few, the gate is not open, or a
-- field is wrong.
abbrev pub head_damage : ℕ → ℕ → List ℕ → Option (ℕ × DamageKind)
head_damage most file bytes = if nat_lt (length bytes) 16 || not (slice_index bytes 0 == 1) then Some (0, Short) else first_failed (head_checks most file bytes)

-- The bytes that are read of a file as a record have this damage: they are too few, a field is out of its range, the first bad one,
-- or the number is not the one that the record has at its place.
abbrev pub IsReadDamage : {R : Type 0} → Format R → (List ℕ → Option ℕ) → ℕ → ℕ → List ℕ → ℕ → DamageKind → Type 0
IsReadDamage {R = R} format bad size place bytes offset kind =
    ((length bytes < size) × (offset ≡ 0) × (kind ≡ Short))
    ⊎ ((bad bytes ≡ Some offset) × (kind ≡ BadRecord))
    ⊎ ((item : R) × (number : ℕ) × (format.valid item ≡ true) × (bytes ≡ format.spelling item number) × (number ≢ format.number item place) × (offset ≡ 16) × (kind ≡ Order))
