-- What is so of the texts that a rollforward reads.
use Rattle.std.specs.Prelude.{◌≡◌, ℕ, ◌++◌, List, [], length}
use Rattle.disk_model.specs.Held.{Held}
use Rattle.tmf_model.specs.declared.config.Config.{Config}
use Rattle.trail_files.specs.declared.audit_record.AuditRecord.{AuditRecord}
use Rattle.trail_files.specs.declared.damage.Damage.{Damage}
use Rattle.trail_files.specs.declared.monitor_record.MonitorRecord.{MonitorRecord}
use Rattle.trail_files.specs.AuditRecord.{audit_format}
use Rattle.trail_files.specs.MonitorRecord.{monitor_format}
use Rattle.trail_files.specs.Text.{Spells}
use Rattle.trail_replay.specs.Rules.{rules_of}
use Rattle.trail_replay.specs.Texts.{IsAuditDamage, IsMonitorDamage}
use Rattle.keyed_file.specs.Block.{IsBlock, KeyedBlock}
use Rattle.keyed_file.specs.BlockFormat.{block_text}
use Rattle.keyed_file.specs.LabelFormat.{IsDumpLabel, dump_text}
use Rattle.keyed_file.specs.Volume.{Contents, SpellsVolume, label_of}
use Rattle.volume_restore.specs.Inspected.{IsFineVolume}

-- the texts of a kind begin no other one of it
abbrev pub BeginsNone : {X : Type 0} → (X → List ℕ) → (X → Type 0) → Type 0
BeginsNone {X} text Is = (a b : X) (rest : List ℕ) → Is a → Is b → text b ≡ text a ++ rest → (b ≡ a) × (rest ≡ [])

-- Each trail, dump label and block spells one thing at most, each block has one length, and nothing is wrong of what is spelled.
pub record AreTexts : Type 0 where
  pub fine : (config : Config) (volume low : ℕ) (image : Held) (contents : Contents) → SpellsVolume (label_of config volume low) image contents → IsFineVolume config volume image
  pub one_list : (held : Held) (xs ys : List MonitorRecord) → Spells monitor_format held xs → Spells monitor_format held ys → xs ≡ ys
  pub one_audit : (config : Config) (trail : ℕ) (held : Held) (xs ys : List AuditRecord) → Spells (audit_format (rules_of config trail)) held xs → Spells (audit_format (rules_of config trail)) held ys → xs ≡ ys
  pub list_whole : (held : Held) (list : List MonitorRecord) (damage : Damage) → Spells monitor_format held list → ¬ IsMonitorDamage held damage
  pub audit_whole : (config : Config) (trail : ℕ) (held : Held) (audit : List AuditRecord) (damage : Damage) → Spells (audit_format (rules_of config trail)) held audit → ¬ IsAuditDamage config trail held damage
  pub labels : BeginsNone dump_text IsDumpLabel
  pub blocks : BeginsNone block_text IsBlock
  pub long : (block : KeyedBlock) → IsBlock block → length (block_text block) ≡ 4096
