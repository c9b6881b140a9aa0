-- What a reader has found of a trail.
use Rattle.std.specs.Prelude.{◌≡◌, ◌⊎◌, ℕ, ◌+◌, ◌*◌, ◌<◌, ◌≤◌, true, List, ◌∷◌, ◌++◌, length, take, drop, Option, Some}
use Rattle.disk_model.specs.Held.{Held, IsThere}
use Rattle.trail_files.specs.declared.damage.Damage.{Damage}
use Rattle.trail_files.specs.declared.damage.DamageKind.{DamageKind}
use Rattle.trail_files.specs.declared.damage.TrailFault.{TrailFault}
use Rattle.trail_files.specs.declared.damage.TrailFault.TheVariants as fault
use Rattle.trail_files.specs.Damaged.{first_failed, head_checks, batch_damage, IsFine}
use Rattle.trail_files.specs.Format.{Format, text, AllValid}
use Rattle.trail_files.specs.Text.{head, body, records_text, batches_text, IsBatchOf, all_of, records_of, place_behind, IsTrailText}
use Rattle.trail_files.specs.Trail.{Counts}

-- the bytes are so many records, which may stand behind those before
pub record AreRecords {R : Type 0} (format : Format R) (before : List R) (place count : ℕ) (bytes : List ℕ) (records : List R) : Type 0 where
  pub count_is : length records ≡ count
  pub parts : bytes ≡ records_text (text format) place records
  pub each : AllValid format records
  pub in_order : format.in_order (before ++ records) ≡ true

-- at an offset stands an open gate, this batch, which may stand behind the records before, and a further byte
pub record IsBatchAt {R : Type 0} (format : Format R) (before : List R) (place at : ℕ) (bytes : List ℕ) (batch : List R) : Type 0 where
  pub behind : List ℕ
  pub parts : drop at bytes ≡ (1 ∷ body (text format) place batch) ++ behind
  pub more : 0 < length behind
  pub is_batch : IsBatchOf format batch
  pub in_order : format.in_order (before ++ batch) ≡ true

-- at an offset stand an open gate and a batch's head with this count
pub record IsHeadAt (at count : ℕ) (bytes : List ℕ) : Type 0 where
  pub within : at + 16 ≤ length bytes
  pub parts : take 16 (drop at bytes) ≡ 1 ∷ head count

-- The text is fine up to a gate of a file of this length, and the order stands for its records.
pub record IsScanned {R O : Type 0} (format : Format R) (stands : O → List R → Type 0) (order : O) (held : Held) (least file len gate places : ℕ) : Type 0 where
  pub files : List (List (List R))
  pub batches : List (List R)
  pub fine : IsFine format held least files batches
  pub file_is : file ≡ least + length files
  pub here : IsThere held file (λ f. (len ≡ length f.bytes) × (gate ≤ length f.bytes) × (take gate f.bytes ≡ batches_text (text format) (place_behind files) batches))
  pub more : (gate < len) ⊎ (gate ≡ 0)
  pub next : places ≡ length (records_of files ++ all_of batches)
  pub kept : stands order (records_of files ++ all_of batches)

-- the whole text has been counted
pub record IsCounted {R : Type 0} (format : Format R) (held : Held) (least file gate places : ℕ) : Type 0 where
  pub files : List (List (List R))
  pub batches : List (List R)
  pub counts : Counts format least file gate places files batches
  pub fine : IsFine format held least files batches
  pub text : IsTrailText format held least files batches
  pub may_end : format.may_end (records_of files ++ all_of batches) ≡ true

-- the fault tells no damage but one of which this is said
abbrev pub TellsOnly : (Damage → Type 0) → TrailFault → Type 0
TellsOnly P it = (d : Damage) → it ≡ fault.Damaged d → P d

-- the damage is that of the head at an offset of a file
pub record IsHeadDamage (most file at : ℕ) (bytes : List ℕ) (d : Damage) : Type 0 where
  pub offset : ℕ
  pub file_is : d.file ≡ file
  pub at_is : d.at ≡ at + offset
  pub failed : first_failed (head_checks most file (take 16 (drop at bytes))) ≡ Some (offset, d.kind)

-- the damage is that of the batch at an offset of a file, but for its records
pub record IsBatchDamage (most size file at : ℕ) (bytes : List ℕ) (d : Damage) : Type 0 where
  pub offset : ℕ
  pub file_is : d.file ≡ file
  pub at_is : d.at ≡ at + offset
  pub told : batch_damage most size file (drop at bytes) ≡ Some (offset, d.kind)

-- at an offset stand a roll batch and a further byte
pub record IsRollAt (at : ℕ) (bytes : List ℕ) : Type 0 where
  pub behind : List ℕ
  pub parts : drop at bytes ≡ (1 ∷ head 0) ++ behind
  pub more : 0 < length behind

-- the first records in the bytes are fine, and the next one has this damage, where the bytes stand at an offset of a file
pub record IsDamageAmong {R : Type 0} (format : Format R) (damage : List R → List ℕ → Option (ℕ × DamageKind)) (size file at count : ℕ) (before : List R) (bytes : List ℕ) (d : Damage) : Type 0 where
  pub fine : List R
  pub rest : List ℕ
  pub offset : ℕ
  pub more : length fine < count
  pub parts : bytes ≡ records_text (text format) (1 + length before) fine ++ rest
  pub each : AllValid format fine
  pub in_order : format.in_order (before ++ fine) ≡ true
  pub told : damage (before ++ fine) (take size rest) ≡ Some (offset, d.kind)
  pub file_is : d.file ≡ file
  pub at_is : d.at ≡ at + length fine * size + offset
