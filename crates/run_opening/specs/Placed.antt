-- What an audit trail was found to hold, where it tells that: its records, each in its file.
use Rattle.std.specs.Prelude.{◌≡◌, ℕ, zero, suc, ◌+◌, ◌-◌, ◌==◌, ◌&&◌, not, Bool, true, false, IsTrue, refl, List, length, Option, Some, None}
use Rattle.std.specs.Option.{option_map_or}
use Rattle.disk_model.specs.Held.{File, Held}
use Rattle.disk_model.specs.declared.disk.Disk as disk
use Rattle.trail_files.specs.AuditRecord.{audit_format}
use Rattle.trail_files.specs.Content.{Content, Placed}
use Rattle.trail_files.specs.Content.Pending.{Nothing}
use Rattle.trail_files.specs.Holds.{Holds}
use Rattle.trail_files.specs.Trail.{View}
use Rattle.trail_files.specs.declared.audit_record.AuditRecord.{AuditRecord}
use Rattle.run_opening.specs.Codes.{placed_code}
use Rattle.node_machine.specs.Only.{TheOnly, only_prop}

-- whether none of the first so many bytes is at risk
abbrev pub none_at_risk : ℕ → (ℕ → Bool) → Bool
none_at_risk zero risk = true
none_at_risk (suc n) risk = not (risk n) && none_at_risk n risk

-- whether nothing of a file is at risk, and it is synced to its length
abbrev pub is_file_settled : File → Bool
is_file_settled file = (file.synced == length file.bytes) && none_at_risk (length file.bytes) file.risk

-- whether so many files from this one on are settled, where they are there
abbrev pub are_settled : Held → ℕ → ℕ → Bool
are_settled held file zero = true
are_settled held file (suc n) = option_map_or is_file_settled (held file) true && are_settled held (file + 1) n

-- whether the trail's device tells what it holds, and nothing of the trail's files is at risk
abbrev pub is_at_rest : {D : Type 0} → disk.Ghosts D → View D → Bool
is_at_rest kind trail = kind.tells trail.device && are_settled (kind.held trail.device) trail.least (trail.file + 1 - trail.least)

-- these records have landed, each in its file, and nothing is pending behind them
pub record HasPlaced {D : Type 0} (kind : disk.Ghosts D) (trail : View D) (placed : List (Placed AuditRecord)) : Type 0 where
  pub content : Content AuditRecord
  pub holds : Holds kind audit_format trail content
  pub pending : content.pending ≡ Nothing
  pub placed_is : content.placed ≡ placed

-- these have, and no others
abbrev pub HasPlacedAlone : {D : Type 0} → disk.Ghosts D → View D → List (Placed AuditRecord) → Type 0
HasPlacedAlone kind trail placed = HasPlaced kind trail placed × ((others : List (Placed AuditRecord)) → HasPlaced kind trail others → placed ≡ others)

-- where the device tells what it holds, and the trail is at rest, the trail has these records, each in its file, and no others
abbrev pub Placing : {D : Type 0} → disk.Ghosts D → View D → Type 0
Placing kind trail = IsTrue (is_at_rest kind trail) → TheOnly (HasPlacedAlone kind trail)

-- what callers see of an audit trail that was kept
pub record AuditView (D : Type 0) : Type 0 where
  pub trail : View D
  pub placed : Option (List (Placed AuditRecord))

abbrev pub told_by_case : {A : Type 0} {P : A → Type 0} → (b : Bool) → (IsTrue b → TheOnly P) → Option A
told_by_case true only = Some (only refl).0
told_by_case false only = None

abbrev pub found_placed : {D : Type 0} (kind : disk.Ghosts D) (trail : View D) → Placing kind trail → Option (List (Placed AuditRecord))
found_placed kind trail placing = told_by_case (is_at_rest kind trail) placing

-- where the trail is at rest, these are its records, and no others
pub record IsPlaced {D : Type 0} (kind : disk.Ghosts D) (kept : AuditView D) : Type 0 where
  pub told : (placed : List (Placed AuditRecord)) → kept.placed ≡ Some placed → IsTrue (is_at_rest kind kept.trail) × ∥ HasPlacedAlone kind kept.trail placed ∥₁
  pub there : IsTrue (is_at_rest kind kept.trail) → (placed : List (Placed AuditRecord)) × (kept.placed ≡ Some placed)

pub placed_prop : {D : Type 0} (kind : disk.Ghosts D) (trail : View D) → IsProp (Placing kind trail)
placed_prop kind trail f g = λ i x. only_prop placed_code (HasPlacedAlone kind trail) (λ one other is are. is.1 other are.0) (f x) (g x) i
