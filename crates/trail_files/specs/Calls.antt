-- What the calls of a trail keep, give and tell: one record for each part of a call.
use Rattle.std.specs.Prelude.{◌≡◌, ◌≢◌, ◌⊎◌, ◌+◌, ◌<◌, ◌≤◌, ◌∷◌, [], ℕ, List, Option, Result, IsTrue, IfOk, IfErr, IfSome, IfNone, MatchOption, MatchResult}
use Rattle.disk_model.specs.Held.{Rose}
use Rattle.disk_model.specs.declared.disk.Disk as disk
use Rattle.trail_files.specs.declared.cursor.Cursor.{Cursor}
use Rattle.trail_files.specs.declared.damage.Damage.{Damage}
use Rattle.trail_files.specs.declared.damage.DamageKind.{DamageKind}
use Rattle.trail_files.specs.declared.damage.TrailFault.{TrailFault}
use Rattle.trail_files.specs.declared.damage.TrailFault.TheVariants as fault
use Rattle.trail_files.specs.declared.rules.Rules.{Rules}
use Rattle.trail_files.specs.declared.trail.TrailPhase.TheVariants.{Ready, Offered, RollOffered}
use Rattle.trail_files.specs.Content.{Content, Placed}
use Rattle.trail_files.specs.Damaged.{IsDamagedAt}
use Rattle.trail_files.specs.Fault.{IsUndamaged}
use Rattle.trail_files.specs.Format.{Format}
use Rattle.trail_files.specs.Holds.{Holds, Keeps}
use Rattle.trail_files.specs.Next.{IsNextDamage}
use Rattle.trail_files.specs.Scanned.{TellsOnly}
use Rattle.trail_files.specs.Text.{Spells}
use Rattle.trail_files.specs.Trail.{View, Ahead, StartsAt, records_left, with_device}

-- what an opening tells of damage: a trail that is opened is spelled, a spelled one is not told as damaged, and the damage that is told is the first that there is
pub record TellsDamage {D R T : Type 0} (kind : disk.Ghosts D) (format : Format R) (bad : List R → List ℕ → Option (ℕ × DamageKind)) (size : ℕ) (device : D) (result : Result T (D × TrailFault)) : Type 0 where
  pub spelled : IsTrue (kind.tells device) → IfOk result (λ _. (records : List R) × Spells format (kind.held device) records)
  pub undamaged : (records : List R) → IsTrue (kind.tells device) → Spells format (kind.held device) records → IfErr result (λ e. IsUndamaged e.1)
  pub damaged : IsTrue (kind.tells device) → IfErr result (λ e. TellsOnly (IsDamagedAt format bad size (kind.held device)) e.1)
  pub exact : (damage : Damage) → IsTrue (kind.tells device) → IsDamagedAt format bad size (kind.held device) damage
      → MatchResult result (λ _. ⊥) (λ e. TellsOnly (λ told. told ≡ damage) e.1)

-- what a call keeps that reads of a trail: its content, what its device holds, and all else of it but the device's count
pub record KeepsContent {D R : Type 0} (kind : disk.Ghosts D) (format : Rules → Format R) (old new : View D) : Type 0 where
  pub keeps : Keeps kind old new
  pub holds : (content : Content R) → Holds kind format old content → Holds kind format new content
  pub same : kind.held new.device ≡ kind.held old.device
  pub view : new ≡ with_device old new.device

-- what a read at a cursor gives: the record behind it, from where the cursor then stands, and none exactly where none is left; a record leaves fewer
pub record Passes {D R E : Type 0} (kind : disk.Ghosts D) (format : Rules → Format R) (old new : View D) (before after : Cursor) (result : Result (Option R) E) : Type 0 where
  pub next : (rest : List (Placed R)) → IsTrue (kind.tells old.device) → Ahead kind.held format old before rest
      → IfOk result (λ next. MatchOption next (rest ≡ []) (λ item. (more : List (Placed R)) × (rest ≡ (after.file, item) ∷ more) × Ahead kind.held format new after more))
  pub rises : (before.file ≤ after.file) × (before.file ≤ old.file → after.file ≤ old.file)
  pub stays : MatchResult result (λ next. IfNone next (after ≡ before)) (λ _. after ≡ before)
  pub ends : IfOk result (λ next. IfSome next (λ _. records_left new after < records_left old before))

-- what a read at a cursor tells of damage: that of what the cursor reads next, and none where records that are spelled lie ahead of it
pub record TellsNextDamage {D R T : Type 0} (kind : disk.Ghosts D) (format : Rules → Format R) (bad : Rules → List ℕ → Option ℕ) (size : ℕ) (trail : View D) (cursor : Cursor) (result : Result T TrailFault) : Type 0 where
  pub damaged : IsTrue (kind.tells trail.device)
      → IfErr result (TellsOnly (λ d. (start : Cursor) × StartsAt (kind.held trail.device) trail.least cursor start × IsNextDamage (format trail.rules) (bad trail.rules) size (kind.held trail.device) start d))
  pub undamaged : (rest : List (Placed R)) → IsTrue (kind.tells trail.device) → Ahead kind.held format trail cursor rest → IfErr result IsUndamaged

-- why a read is refused, but for damage: the device failed, and its count rose; it takes no memory
pub record HasReadCause {T : Type 0} (before now : ℕ) (result : Result T TrailFault) : Type 0 where
  pub failed : IfErr result (λ e. e ≡ fault.Failed → Rose before now)
  pub no_memory : IfErr result (λ e. e ≢ fault.NoMemory)

-- where a trail stands behind the opening of a batch's gate: no batch is loaded, or the gate may be open; in its files as before
pub record StandsLanded {D T E : Type 0} (old new : View D) (result : Result T E) : Type 0 where
  pub phase : MatchResult result (λ _. new.phase ≡ Ready) (λ _. new.phase ≡ Offered)
  pub files : (new.least ≡ old.least) × (new.file ≡ old.file)

-- where a trail stands behind a roll: in the next file, or in the present one, where a roll batch may have been offered
pub record StandsRolled {D T E : Type 0} (old new : View D) (result : Result T E) : Type 0 where
  pub phase : MatchResult result (λ _. new.phase ≡ Ready) (λ _. (new.phase ≡ Ready) ⊎ (new.phase ≡ RollOffered))
  pub least : new.least ≡ old.least
  pub file : MatchResult result (λ _. new.file ≡ old.file + 1) (λ _. new.file ≡ old.file)

-- why no trail was made: the device failed, and its count rose, or memory ran out before the device was touched; no damage is told
pub record HasFormatCause {D : Type 0} (kind : disk.Ghosts D) (device left : D) (it : TrailFault) : Type 0 where
  pub failed : it ≡ fault.Failed → Rose (kind.faults device) (kind.faults left)
  pub no_memory : it ≡ fault.NoMemory → left ≡ device
  pub undamaged : IsUndamaged it
