-- What a recovery has left, by what it made of the monitor trail and of each volume.
use Rattle.std.specs.Prelude.{Some, Result, Err, slice_get}
use Rattle.std.proofs.Common.{◌≡◌, ◌⊎◌, inl, inr, ◌+◌, ◌<◌, ◌≤◌, ◌∷◌, ◌++◌, [], ℕ, List, length, refl, sym, ap, subst, ◌∙◌, arith, ⊎_elim}
use Rattle.disk_model.specs.Devices.{AreHeld, AreImages, AreLater}
use Rattle.disk_model.specs.Fuse.{device_of}
use Rattle.disk_model.specs.Held.{Held, Leaves}
use Rattle.disk_model.specs.declared.disk.Disk as disk
use Rattle.disk_model.specs.declared.fuse.Fuse.{Fuse}
use Rattle.tmf_model.specs.declared.config.Config.{Config}
use Rattle.tmf_model.specs.declared.config.Volume.{Volume}
use Rattle.tmf_model.specs.Config.{IsValidConfig}
use Rattle.tmf_model.specs.RecordMap.{RecordMap}
use Rattle.trail_files.specs.declared.audit_record.AuditRecord.{AuditRecord}
use Rattle.trail_files.specs.declared.damage.Damage.{Damage}
use Rattle.trail_files.specs.declared.monitor_record.MonitorRecord.{MonitorRecord}
use Rattle.trail_files.specs.declared.monitor_record.MonitorRecord.TheVariants.{Start}
use Rattle.trail_files.specs.declared.rules.Rules.{Rules}
use Rattle.trail_files.specs.AuditRecord.{audit_format}
use Rattle.trail_files.specs.MonitorRecord.{monitor_format}
use Rattle.trail_files.specs.StandsFor.{IsNumber}
use Rattle.trail_files.specs.Text.{Spells}
use Rattle.trail_replay.specs.Rules.{rules_of}
use Rattle.volume_recovery.specs.declared.errors.RecoverError.{RecoverError}
use Rattle.volume_recovery.specs.declared.errors.RecoverError.TheVariants.{Failed, Damaged, EpochsSpent, NoMemory}
use Rattle.volume_recovery.specs.declared.recovery.Recovered.{Recovered}
use Rattle.volume_recovery.specs.Node.{AreAtRest, next_epoch}
use Rattle.volume_recovery.specs.Recovery.{IsUnwritten, KeepsRecords, TellsDamage}
use Rattle.volume_recovery.specs.VolumeAnswers.{IsFirstFound, IsRefusalWithVolumes, KeepsWithVolumes, RecoversWithVolumes, SpellTrails}
use Rattle.volume_recovery.specs.VolumeLoop.{AreRecovered, AreRecovering}
use Rattle.volume_recovery.specs.VolumeNode.{StandsWithVolumes, StartedWithVolumes, volume_device}
use Rattle.volume_recovery.specs.VolumeRecovery.{IsRecovered, IsRecovering, MayLeave}
use Rattle.volume_recovery.proofs.Leaving.{IsLaw, spells-left}
use Rattle.volume_recovery.proofs.VolumeLeaving.{DumpLaw, ImageLaw, RestingLaw, is-recovered, is-recovering, may-held, may-leave}
use Rattle.volume_recovery.proofs.VolumeStanding.{volume-audit}

abbrev pub RecoveringLaw : Type 0
RecoveringLaw = (config : Config) (images left : ℕ → Held) (list other : List MonitorRecord) (map : RecordMap) → IsValidConfig config
    → StandsWithVolumes config images list map → IsRecovering config images left list other → StandsWithVolumes config left other map

abbrev pub OneAudit : Config → (ℕ → Held) → Type 0
OneAudit config images = (trail : ℕ) (xs ys : List AuditRecord) → Spells (audit_format (rules_of config trail)) (images trail) xs → Spells (audit_format (rules_of config trail)) (images trail) ys → xs ≡ ys

abbrev pub OneList : (ℕ → Held) → Type 0
OneList images = (xs ys : List MonitorRecord) → Spells monitor_format (images 0) xs → Spells monitor_format (images 0) ys → xs ≡ ys

-- each volume is such as a recovery may leave, by whatever trails the images spell
abbrev pub AnyRecovering : {D : Type 0} → (D → Held) → Config → (ℕ → Held) → List (Fuse D) → Type 0
AnyRecovering held config images zs = (list : List MonitorRecord) (audit : ℕ → List AuditRecord) → SpellTrails config images list audit → AreRecovering held config images list audit zs

-- by those that it was recovered by
pub any-recovering : {D : Type 0} (held : D → Held) (config : Config) (images : ℕ → Held) (zs : List (Fuse D)) → IsValidConfig config → OneList images → OneAudit config images
    → (records : List MonitorRecord) (audit : ℕ → List AuditRecord) → SpellTrails config images records audit → AreRecovering held config images records audit zs → AnyRecovering held config images zs
any-recovering held config images zs valid list_one one records audit trails may list other spelled volume line left number at =
    let declared = volume-audit config volume line valid number in
    subst (λ l. MayLeave config volume (other line.trail) l (images (volume_device volume)) left) (list_one records list trails.monitor spelled.monitor)
    (subst (λ a. MayLeave config volume a records (images (volume_device volume)) left)
    (one line.trail (audit line.trail) (other line.trail) (trails.each line.trail declared.above declared.below) (spelled.each line.trail declared.above declared.below))
    (may volume line left number at))

module _ {D : Type 0} (kind : disk.Ghosts D) (config : Config) (images : ℕ → Held) (xs zs : List (Fuse D)) (valid : IsValidConfig config) (count : length xs ≡ 21) (later : AreLater kind xs zs)
    (rest : AreAtRest images)
    (others : (n : ℕ) (fuse : Fuse D) → 0 < n → (n ≤ 4) ⊎ (4 + length config.volumes < n) → slice_get zs n ≡ Some fuse → kind.held (device_of fuse) ≡ images n)
    (audit_law : (rules : Rules) → IsLaw (audit_format rules)) (dump_law : DumpLaw) (one : OneAudit config images) where
  -- whatever it has left stands for what the images stood for
  pub keeps-volumes : RecoveringLaw → AnyRecovering kind.held config images zs → KeepsRecords kind.held images zs → KeepsWithVolumes kind.held config images zs
  keeps-volumes law any keeps list map stands left left_are =
      let trails : SpellTrails config images list stands.stands.audit = record { monitor = stands.stands.monitor_spelled; each = stands.stands.audit_spelled } in
      let volumes = any list stands.stands.audit trails in
      ⊎_elim
      (λ old. inl (law config images left list list map valid stands
      (is-recovering kind config images left xs zs valid count later rest others left_are audit_law dump_law one list stands.stands.audit trails list (inl refl) old volumes)))
      (λ new. inr (law config images left list (list ++ Start (next_epoch list) ∷ []) map valid stands
      (is-recovering kind config images left xs zs valid count later rest others left_are audit_law dump_law one list stands.stands.audit trails (list ++ Start (next_epoch list) ∷ []) (inr refl) new volumes)))
      (keeps list trails.monitor left left_are)

  -- a recovery that was refused, with these devices left
  pub refused-recovers : RecoveringLaw → AnyRecovering kind.held config images zs → KeepsRecords kind.held images zs → (e : RecoverError) → IsRefusalWithVolumes config images e
      → ((device : ℕ) (damage : Damage) → IsFirstFound config images device damage → TellsDamage device damage e) → IsUnwritten kind.held images zs e → RecoversWithVolumes kind.held config images (Err e) zs
  refused-recovers law any keeps e refusal first unwritten = record {
    ok = tt;
    err = refusal;
    first = first;
    kept = keeps-volumes law any keeps;
    records = keeps;
    volumes = λ left left_are list audit trails volume line number.
        may-leave kind config images left xs zs valid count later rest others left_are list audit (any list audit trails) volume line number;
    others = others;
    unwritten = unwritten;
  }

-- devices that were only read are so
pub any-read : {D : Type 0} (held : D → Held) (config : Config) (images : ℕ → Held) (zs : List (Fuse D)) → RestingLaw → ImageLaw → AreAtRest images → AreHeld held zs images → AnyRecovering held config images zs
any-read held config images zs resting law rest are list audit trails = may-held held config images list audit zs resting law rest are

pub unwritten-read : {D : Type 0} (held : D → Held) (images : ℕ → Held) (zs : List (Fuse D)) (e : RecoverError) → AreHeld held zs images → IsUnwritten held images zs e
unwritten-read held images zs (Failed device) are = tt
unwritten-read held images zs (Damaged device damage) are = are
unwritten-read held images zs EpochsSpent are = are
unwritten-read held images zs NoMemory are = tt

-- a monitor trail's device that holds its image spells the same records
pub records-read : {D : Type 0} (held : D → Held) (images : ℕ → Held) (zs : List (Fuse D)) → IsLaw monitor_format → AreAtRest images → (fuse : Fuse D) → slice_get zs 0 ≡ Some fuse
    → held (device_of fuse) ≡ images 0 → KeepsRecords held images zs
records-read held images zs law rest fuse is same list spells left left_are =
    inl (spells-left monitor_format law (images 0) (left 0) list (rest 0) (subst (λ h. Leaves h (left 0)) same (left_are 0 fuse is)) spells)

abbrev pub RecoveredLaw : Type 0
RecoveredLaw = (config : Config) (images left : ℕ → Held) (list : List MonitorRecord) (map : RecordMap) → IsValidConfig config → OneAudit config left
    → StandsWithVolumes config images list map → IsRecovered config images left list → StartedWithVolumes config left list (next_epoch list) map

-- what a whole recovery has left stands with the new Start
pub started-volumes : {D : Type 0} (kind : disk.Ghosts D) (config : Config) (images left : ℕ → Held) (xs zs : List (Fuse D)) → IsValidConfig config → length xs ≡ 21 → AreLater kind xs zs → AreAtRest images
    → ((n : ℕ) (fuse : Fuse D) → 0 < n → (n ≤ 4) ⊎ (4 + length config.volumes < n) → slice_get zs n ≡ Some fuse → kind.held (device_of fuse) ≡ images n)
    → ((rules : Rules) → IsLaw (audit_format rules)) → DumpLaw → OneAudit config images → OneAudit config left → OneList images → RecoveredLaw
    → (records : List MonitorRecord) (audit : ℕ → List AuditRecord) (epoch : ℕ) → SpellTrails config images records audit → epoch ≡ next_epoch records
    → AreRecovered kind.held config images records audit (length config.volumes) zs → AreImages kind.held zs left → Spells monitor_format (left 0) (records ++ Start epoch ∷ [])
    → (list : List MonitorRecord) (map : RecordMap) → StandsWithVolumes config images list map → StartedWithVolumes config left list epoch map
started-volumes kind config images left xs zs valid count later rest others audit_law dump_law one one_left list_one law records audit epoch trails next volumes left_are monitor list map stands =
    let same : records ≡ list = list_one records list trails.monitor stands.stands.monitor_spelled in
    let is : IsRecovered config images left records =
    is-recovered kind config images left xs zs valid count later rest others left_are audit_law dump_law one records audit trails
    (subst (λ e. Spells monitor_format (left 0) (records ++ Start e ∷ [])) next monitor) volumes in
    subst (λ e. StartedWithVolumes config left list e map) (sym next) (subst (λ l. StartedWithVolumes config left l (next_epoch records) map) same
    (law config images left records map valid one_left (subst (λ l. StandsWithVolumes config images l map) (sym same) stands) is))
