-- What the faults of single devices are to a rollforward.
use Rattle.std.specs.Prelude.{Result, Ok, Err, IfErr, IfOk, MatchResult}
use Rattle.std.proofs.Common.{◌≡◌, inl, inr, ℕ, List, refl}
use Rattle.disk_model.specs.Devices.{RoseAt}
use Rattle.disk_model.specs.Held.{Held}
use Rattle.disk_model.specs.declared.fuse.Fuse.{Fuse}
use Rattle.tmf_model.specs.declared.config.Config.{Config}
use Rattle.keyed_file.specs.declared.home.Home.{Home}
use Rattle.keyed_file.specs.Block.{KeyedBlock}
use Rattle.trail_files.specs.declared.damage.TrailFault.{TrailFault}
use Rattle.trail_files.specs.declared.damage.TrailFault.TheVariants as of_trail
use Rattle.trail_files.specs.declared.monitor_record.MonitorRecord.{MonitorRecord}
use Rattle.trail_files.specs.MonitorRecord.{monitor_format}
use Rattle.trail_files.specs.Scanned.{TellsOnly}
use Rattle.trail_files.specs.Text.{Spells}
use Rattle.trail_replay.specs.declared.replay.FoundFiles.{FoundFiles}
use Rattle.trail_replay.specs.Texts.{IsAuditDamage, IsMonitorDamage}
use Rattle.volume_restore.specs.declared.fault.VolumeFault.{VolumeFault}
use Rattle.volume_restore.specs.declared.fault.VolumeFault.TheVariants as of_volume
use Rattle.volume_recovery.specs.VolumeNode.{dump_device, volume_device}
use Rattle.rollforward.specs.Body.{TellsRow}
use Rattle.rollforward.specs.Newest.{HasFailedOn}
use Rattle.rollforward.specs.Reading.{TellsBody, TellsMonitor, TellsOwnTrail, roll_error, trail_error}
use Rattle.rollforward.specs.Rolled.{TellsFullOf, TellsRolled}
use Rattle.rollforward.specs.Rolls.{TellsTrail, trail_on}
use Rattle.rollforward.specs.declared.errors.RollError.{RollError}
use Rattle.rollforward.specs.declared.errors.RollError.TheVariants.{NotLost, NoDump, Failed, Damaged, NoMemory}

pub if-ok : {A E : Type 0} (result : Result A E) (P Q : A → Type 0) → ((a : A) → P a → Q a) → IfOk result P → IfOk result Q
if-ok (Ok a) P Q next holds = next a holds
if-ok (Err e) P Q next holds = tt

pub if-err : {A E : Type 0} (result : Result A E) (P Q : E → Type 0) → ((e : E) → P e → Q e) → IfErr result P → IfErr result Q
if-err (Ok a) P Q next holds = tt
if-err (Err e) P Q next holds = next e holds

pub match-as : {A E : Type 0} (result : Result A E) (P Q : A → Type 0) (R S : E → Type 0) → ((a : A) → P a → Q a) → ((e : E) → R e → S e) → MatchResult result P R → MatchResult result Q S
match-as (Ok a) P Q R S ok err holds = ok a holds
match-as (Err e) P Q R S ok err holds = err e holds

pub body-error : (volume body : ℕ) (homes : List Home) (image : Held) (e : VolumeFault) → TellsRow body homes (image body) e → TellsBody volume body homes image (roll_error (dump_device volume) e)
body-error volume body homes image of_volume.Failed tells = tt
body-error volume body homes image (of_volume.Damaged damage) tells = (refl, tells)
body-error volume body homes image of_volume.NoMemory tells = tt

pub full-error : (volume : ℕ) (homes : List Home) (blocks : List KeyedBlock) (files : FoundFiles) (e : VolumeFault) → TellsFullOf homes blocks files e → TellsRolled volume homes blocks files (roll_error (volume_device volume) e)
full-error volume homes blocks files of_volume.Failed tells = absurd tells
full-error volume homes blocks files (of_volume.Damaged damage) tells = (refl, tells)
full-error volume homes blocks files of_volume.NoMemory tells = tt

pub error-failed : {D : Type 0} (faults : D → ℕ) (Is : ℕ → Type 0) (xs ys : List (Fuse D)) (n : ℕ) (e : VolumeFault) → Is n → (e ≡ of_volume.Failed → RoseAt faults xs ys n) → HasFailedOn faults Is xs ys (roll_error n e)
error-failed faults Is xs ys n of_volume.Failed own rose = (own, rose refl)
error-failed faults Is xs ys n (of_volume.Damaged damage) own rose = tt
error-failed faults Is xs ys n of_volume.NoMemory own rose = tt

pub trail-failed : {D : Type 0} (faults : D → ℕ) (Is : ℕ → Type 0) (xs ys : List (Fuse D)) (n : ℕ) (e : TrailFault) → Is n → (e ≡ of_trail.Failed → RoseAt faults xs ys n) → HasFailedOn faults Is xs ys (trail_error n e)
trail-failed faults Is xs ys n of_trail.Failed own rose = (own, rose refl)
trail-failed faults Is xs ys n (of_trail.Damaged damage) own rose = tt
trail-failed faults Is xs ys n of_trail.NoMemory own rose = tt

pub monitor-error : (image : Held) (e : TrailFault) → TellsOnly (IsMonitorDamage image) e → TellsMonitor image (trail_error 0 e)
monitor-error image of_trail.Failed tells = tt
monitor-error image (of_trail.Damaged damage) tells = (refl, tells damage refl)
monitor-error image of_trail.NoMemory tells = tt

pub own-error : (config : Config) (volume : ℕ) (image : Held) (e : TrailFault) → TellsOnly (IsAuditDamage config (trail_on config volume) image) e → TellsOwnTrail config volume image (trail_error (trail_on config volume) e)
own-error config volume image of_trail.Failed tells = tt
own-error config volume image (of_trail.Damaged damage) tells = (refl, tells damage refl)
own-error config volume image of_trail.NoMemory tells = tt

pub monitor-trail : (config : Config) (volume : ℕ) (images : ℕ → Held) (e : RollError) → TellsMonitor (images 0) e → TellsTrail config volume images e
monitor-trail config volume images NotLost tells = absurd tells
monitor-trail config volume images NoDump tells = absurd tells
monitor-trail config volume images (Failed device) tells = tt
monitor-trail config volume images (Damaged device damage) tells = inl tells
monitor-trail config volume images NoMemory tells = tt

pub own-trail : (config : Config) (volume : ℕ) (images : ℕ → Held) (list : List MonitorRecord) (e : RollError) → Spells monitor_format (images 0) list → TellsOwnTrail config volume (images (trail_on config volume)) e → TellsTrail config volume images e
own-trail config volume images list NotLost spells tells = absurd tells
own-trail config volume images list NoDump spells tells = absurd tells
own-trail config volume images list (Failed device) spells tells = tt
own-trail config volume images list (Damaged device damage) spells tells = inr (tells.0, (list, spells), tells.1)
own-trail config volume images list NoMemory spells tells = tt
