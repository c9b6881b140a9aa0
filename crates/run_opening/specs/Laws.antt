-- What is spelled is spelled in one way, and is not damaged.
use Rattle.std.specs.Prelude.{◌≡◌, ℕ, List, length}
use Rattle.disk_model.specs.Held.{Held}
use Rattle.keyed_file.specs.LabelFormat.{IsLabel, label_text}
use Rattle.keyed_file.specs.declared.label.Label.{Label}
use Rattle.run_outcomes.specs.Attaching.{IsFit, IsUnfitAt}
use Rattle.tmf_model.specs.Config.{IsValidConfig}
use Rattle.tmf_model.specs.declared.config.Config.{Config}
use Rattle.trail_files.specs.AuditOrder.{audit_damage}
use Rattle.trail_files.specs.AuditRecord.{audit_format}
use Rattle.trail_files.specs.Damaged.{IsDamagedAt}
use Rattle.trail_files.specs.MonitorOrder.{monitor_damage}
use Rattle.trail_files.specs.MonitorRecord.{monitor_format}
use Rattle.trail_files.specs.Text.{Spells}
use Rattle.trail_files.specs.declared.audit_record.AuditRecord.{AuditRecord}
use Rattle.trail_files.specs.declared.damage.Damage.{Damage}
use Rattle.trail_files.specs.declared.monitor_record.MonitorRecord.{MonitorRecord}
use Rattle.trail_files.specs.declared.rules.Rules.{Rules}

-- A device spells one list of the monitor trail at most, or its text has one first damage.
pub record ListLaws : Type 0 where
  pub one : (held : Held) (xs ys : List MonitorRecord) → Spells monitor_format held xs → Spells monitor_format held ys → xs ≡ ys
  pub undamaged : (held : Held) (xs : List MonitorRecord) (damage : Damage) → Spells monitor_format held xs → IsDamagedAt monitor_format monitor_damage 32 held damage → ⊥
  pub damage : (held : Held) (x y : Damage) → IsDamagedAt monitor_format monitor_damage 32 held x → IsDamagedAt monitor_format monitor_damage 32 held y → x ≡ y

-- So it is of audit, by the rules of its trail; and each label has one length.
pub record Laws : Type 0 where
  pub list : ListLaws
  pub one : (rules : Rules) (held : Held) (xs ys : List AuditRecord) → Spells (audit_format rules) held xs → Spells (audit_format rules) held ys → xs ≡ ys
  pub undamaged : (rules : Rules) (held : Held) (xs : List AuditRecord) (damage : Damage) → Spells (audit_format rules) held xs → IsDamagedAt (audit_format rules) (audit_damage rules) 128 held damage → ⊥
  pub damage : (rules : Rules) (held : Held) (x y : Damage) → IsDamagedAt (audit_format rules) (audit_damage rules) 128 held x → IsDamagedAt (audit_format rules) (audit_damage rules) 128 held y → x ≡ y
  pub long : (label : Label) → IsLabel label → length (label_text label) ≡ 256

-- Of the devices of a node, whatever they hold: one that is fit is not unfit, and one is unfit in one way.
pub record UnfitLaw : Type 0 where
  pub clean : (config : Config) (epoch : ℕ) (named : List ℕ) (held : ℕ → Held) (number : ℕ) (damage : Damage) → IsFit config epoch named held number → IsUnfitAt config epoch named held number damage → ⊥
  pub one : (config : Config) (epoch : ℕ) (named : List ℕ) (held : ℕ → Held) (number : ℕ) (x y : Damage) → IsValidConfig config → IsUnfitAt config epoch named held number x → IsUnfitAt config epoch named held number y → x ≡ y
