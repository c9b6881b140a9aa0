-- The trails of a node that is up are fit: each is spelled, in one way, and the monitor's list ends with the Start.
use Rattle.std.proofs.Common.{◌≡◌, ℕ, zero, suc, ◌≤◌, List, length, subst, arith, ⊎_elim}
use Rattle.disk_model.specs.Held.{Held}
use Rattle.keyed_file.specs.LabelFormat.{IsLabel, label_text}
use Rattle.keyed_file.specs.declared.label.Label.{Label}
use Rattle.node_machine.specs.Law.{EndsWithStart}
use Rattle.tmf_model.specs.RecordMap.{RecordMap}
use Rattle.tmf_model.specs.declared.config.Config.{Config}
use Rattle.trail_files.specs.AuditRecord.{audit_format}
use Rattle.trail_files.specs.MonitorRecord.{monitor_format}
use Rattle.trail_files.specs.Text.{Spells}
use Rattle.trail_files.specs.declared.audit_record.AuditRecord.{AuditRecord}
use Rattle.trail_files.specs.declared.damage.Damage.{Damage}
use Rattle.trail_files.specs.declared.monitor_record.MonitorRecord.{MonitorRecord}
use Rattle.trail_replay.specs.Rules.{rules_of}
use Rattle.trail_replay.specs.Texts.{IsAuditDamage, IsMonitorDamage}
use Rattle.run_outcomes.specs.Attaching.{IsTrailUnfit}
use Rattle.run_standing.specs.NodeUp.{IsNodeUp}

-- Each trail spells one thing at most, and has no damage where it does; and each label has one length.
pub record Texts : Type 0 where
  pub one_list : (held : Held) (xs ys : List MonitorRecord) → Spells monitor_format held xs → Spells monitor_format held ys → xs ≡ ys
  pub list_whole : (held : Held) (list : List MonitorRecord) (damage : Damage) → Spells monitor_format held list → IsMonitorDamage held damage → ⊥
  pub one_audit : (config : Config) (trail : ℕ) (held : Held) (xs ys : List AuditRecord) → Spells (audit_format (rules_of config trail)) held xs → Spells (audit_format (rules_of config trail)) held ys → xs ≡ ys
  pub audit_whole : (config : Config) (trail : ℕ) (held : Held) (audit : List AuditRecord) (damage : Damage) → Spells (audit_format (rules_of config trail)) held audit → IsAuditDamage config trail held damage → ⊥
  pub long : (label : Label) → IsLabel label → length (label_text label) ≡ 256

module _ (texts : Texts) (config : Config) (epoch : ℕ) (named : List ℕ) (held : ℕ → Held) (list : List MonitorRecord) (map : RecordMap) (up : IsNodeUp config held list map epoch) where
  pub trail_clean : (device : ℕ) (damage : Damage) → device ≤ length config.trails → IsTrailUnfit config epoch named held device damage → ⊥
  trail_clean zero damage le unfit =
      let spelled = up.rests.stands.stands.monitor_spelled in
      ⊎_elim (λ bad. texts.list_whole (held 0) list damage spelled bad)
      (λ other. other.0.2 (subst (EndsWithStart epoch) (texts.one_list (held 0) list other.0.0 spelled other.0.1) up.begun)) unfit
  trail_clean (suc n) damage le unfit =
      let stands = up.rests.stands.stands in
      texts.audit_whole config (suc n) (held (suc n)) (stands.audit (suc n)) damage (stands.audit_spelled (suc n) (omega arith) le) unfit
