-- The reading of a node, one call after the other.
use Rattle.std.specs.Prelude.{◌^◌, Err, IfErr, MatchResult, Result, Some, unwrap_or}
use Rattle.std.proofs.Common.{◌≡◌, ◌≢◌, inl, ◌+◌, ◌-◌, ◌<◌, ◌≤◌, ℕ, List, length, sym, ap, subst, ◌∙◌, arith}
use Rattle.disk_model.specs.Devices.{AreLater, HoldSame, RoseAt, SameBut}
use Rattle.disk_model.specs.Held.{Held}
use Rattle.disk_model.specs.declared.disk.Disk as disk
use Rattle.disk_model.specs.declared.fuse.Fuse.{Fuse}
use Rattle.tmf_model.specs.declared.config.Config.{Config}
use Rattle.trail_files.specs.declared.audit_record.AuditRecord.{AuditRecord}
use Rattle.trail_files.specs.declared.monitor_record.MonitorRecord.{MonitorRecord}
use Rattle.trail_files.specs.MonitorOrder.{last_epoch}
use Rattle.trail_files.specs.MonitorRecord.{monitor_format}
use Rattle.trail_files.specs.Text.{Spells}
use Rattle.volume_restore.specs.declared.changes.NodeChanges.{NodeChanges}
use Rattle.volume_recovery.specs.declared.errors.RecoverError.{RecoverError}
use Rattle.volume_recovery.specs.declared.errors.RecoverError.TheVariants.{EpochsSpent, Failed}
use Rattle.volume_recovery.specs.declared.volumes.recovery.Prepared.{Prepared}
use Rattle.volume_recovery.specs.Node.{AreAtRest, SpellUpTo, next_epoch}
use Rattle.volume_recovery.specs.VolumeAnswers.{IsRefusalWithVolumes, SpellTrails}
use Rattle.volume_recovery.specs.VolumeLoop.{AreFound, HasFailed, IsInspected, ReadsBay, TellsVolumes}
use Rattle.volume_recovery.specs.VolumePrepared.{IsPrepared}
use Rattle.volume_recovery.proofs.VolumeBay.{failed-after, failed-number, same-unused}
use Rattle.volume_recovery.proofs.VolumeReading.{refusal-volumes, spell-trails}

module _ {D : Type 0} (kind : disk.Ghosts D) (config : Config) (xs ys : List (Fuse D)) where
  -- the monitor trail's device was read
  pub reads-monitor : HoldSame kind.held xs ys → AreLater kind xs ys → SameBut 0 xs ys → ReadsBay kind config xs ys
  reads-monitor same keeps others = record { same = same; keeps = keeps; others = same-unused config xs ys 0 (inl (omega arith)) others }

  -- and failed
  pub failed-monitor : (e : RecoverError) → ((number : ℕ) → e ≡ Failed number → (number ≡ 0) × RoseAt kind.faults xs ys number) → HasFailed kind.faults config xs ys e
  failed-monitor e cause = failed-number kind.faults config xs ys e (λ number is. let at = cause number is in (inl (omega (arith, at.0)), at.1))

-- the answer is this refusal
pub told-err : (config : Config) (images : ℕ → Held) (result : Result Prepared RecoverError) (told e : RecoverError) → result ≡ Err told → told ≡ e → IsRefusalWithVolumes config images e
    → MatchResult result (IsPrepared config images) (IsRefusalWithVolumes config images)
told-err config images result told e is same refusal =
    subst (λ r. MatchResult r (IsPrepared config images) (IsRefusalWithVolumes config images)) (sym (is ∙ ap (λ x. Err x) same)) refusal

-- and has this cause
pub cause-err : {A D : Type 0} (faults : D → ℕ) (config : Config) (xs ys : List (Fuse D)) (result : Result A RecoverError) (told e : RecoverError) → result ≡ Err told → told ≡ e
    → HasFailed faults config xs ys e → IfErr result (HasFailed faults config xs ys)
cause-err faults config xs ys result told e is same failed = subst (λ r. IfErr r (HasFailed faults config xs ys)) (sym (is ∙ ap (λ x. Err x) same)) failed

pub cause-spent : {A D : Type 0} (faults : D → ℕ) (config : Config) (xs ys : List (Fuse D)) (result : Result A RecoverError) (told e : RecoverError) → result ≡ Err told → told ≡ e
    → e ≡ EpochsSpent → IfErr result (HasFailed faults config xs ys)
cause-spent faults config xs ys result told e is same spent = subst (λ r. IfErr r (HasFailed faults config xs ys)) (sym (is ∙ ap (λ x. Err x) (same ∙ spent))) tt

-- an epoch that fits has an end before it
pub unspent-next : (list : List MonitorRecord) (epoch : ℕ) → epoch < 2 ^ 32 → epoch ≡ next_epoch list → last_epoch list ≢ Some 4294967295
unspent-next list epoch few next spent = absurd (omega (arith, few, next ∙ ap (λ o. unwrap_or o 0 + 1) spent))

pub begun-next : (list : List MonitorRecord) (epoch : ℕ) → epoch ≡ next_epoch list → 1 ≤ epoch
begun-next list epoch next = omega (arith, next)

-- the changes are those that the trails give
abbrev pub FoundBy : Config → (ℕ → Held) → List MonitorRecord → NodeChanges → Type 0
FoundBy config images list changes = (audit : ℕ → List AuditRecord) → SpellTrails config images list audit → AreFound config images audit list changes

-- what refuses the volumes refuses the node
pub told-volumes : (config : Config) (images : ℕ → Held) (rest : AreAtRest images) (given next list : List MonitorRecord) (epoch : ℕ) (changes : NodeChanges) (e : RecoverError)
    → given ≡ list → next ≡ list → Spells monitor_format (images 0) list → SpellUpTo config images (length config.trails) → FoundBy config images given changes
    → epoch < 2 ^ 32 → epoch ≡ next_epoch next → TellsVolumes config images changes e → IsRefusalWithVolumes config images e
told-volumes config images rest given next list epoch changes e given_is next_is monitor up found few epoch_is tells =
    let trails = spell-trails config images list monitor up in
    refusal-volumes config images rest list trails.0 changes (subst (λ l. FoundBy config images l changes) given_is found trails.0 trails.1) e trails.1
    (unspent-next list epoch few (epoch_is ∙ ap next_epoch next_is)) tells

-- what was read is what the images say
pub is-prepared : (config : Config) (images : ℕ → Held) (prepared : Prepared) (given next : List MonitorRecord) → given ≡ prepared.records.items → next ≡ prepared.records.items
    → Spells monitor_format (images 0) prepared.records.items → SpellUpTo config images (length config.trails) → FoundBy config images given prepared.changes
    → prepared.epoch < 2 ^ 32 → prepared.epoch ≡ next_epoch next → length next + 1 < 2 ^ 64 → IsInspected config images prepared.changes (length config.volumes - 1) prepared.lost.items → IsPrepared config images prepared
is-prepared config images prepared given next given_is next_is monitor up found fits epoch_is few inspected =
    let trails = spell-trails config images prepared.records.items monitor up in
    record {
      audit = trails.0;
      trails = trails.1;
      epoch = epoch_is ∙ ap next_epoch next_is;
      unspent = unspent-next prepared.records.items prepared.epoch fits (epoch_is ∙ ap next_epoch next_is);
      few = subst (λ l. length l + 1 < 2 ^ 64) next_is few;
      found = subst (λ l. FoundBy config images l prepared.changes) given_is found trails.0 trails.1;
      inspected = inspected;
    }
