-- A node whose devices are at rest, after a format and after a recovery.
use Rattle.std.proofs.Common.{zero, suc, ◌≡◌, ◌≤◌, ◌++◌, ℕ, [], ◌∷◌, List, length, sym, subst, arith}
use Rattle.disk_model.specs.Held.{Held}
use Rattle.tmf_model.specs.declared.config.Config.{Config}
use Rattle.tmf_model.specs.RecordMap.{RecordMap, empty_map}
use Rattle.trail_files.specs.declared.monitor_record.MonitorRecord.{MonitorRecord}
use Rattle.trail_files.specs.declared.monitor_record.MonitorRecord.TheVariants.{Start}
use Rattle.trail_files.specs.AuditRecord.{audit_format}
use Rattle.trail_files.specs.MonitorRecord.{monitor_format}
use Rattle.trail_files.specs.Text.{Spells}
use Rattle.trail_files.specs.Trail.{Rests}
use Rattle.volume_recovery.specs.Node.{AreAtRest, IsAtRest, TrailRests, next_epoch}
use Rattle.trail_replay.specs.Texts.{SpellsAudit}
use Rattle.trail_replay.specs.Rules.{rules_of}
use Rattle.volume_recovery.proofs.Leaving.{rests-at_rest}

-- a trail that an image at rest spells rests on the device that holds it
pub trail-rests : (config : Config) (images now : ℕ → Held) (trail : ℕ) → 1 ≤ trail → IsAtRest (images trail) → SpellsAudit config trail (images trail) → now trail ≡ images trail
    → TrailRests config now trail
trail-rests config images now zero some rest spelled same = absurd (omega (arith, some))
trail-rests config images now (suc n) some rest spelled same =
    (spelled.0, subst (λ h. Rests (audit_format (rules_of config (suc n))) h spelled.0) (sym same) (rests-at_rest (audit_format (rules_of config (suc n))) (images (suc n)) spelled.0 rest spelled.1))
