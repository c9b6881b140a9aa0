-- What the images of a node's trails spell, and where their text is damaged first.
use Rattle.std.specs.Prelude.{ℕ, zero, suc, ◌<◌, ◌≤◌, List, length}
use Rattle.disk_model.specs.Held.{Held}
use Rattle.tmf_model.specs.declared.config.Config.{Config}
use Rattle.trail_files.specs.declared.audit_record.AuditRecord.{AuditRecord}
use Rattle.trail_files.specs.declared.damage.Damage.{Damage}
use Rattle.trail_files.specs.declared.monitor_record.MonitorRecord.{MonitorRecord}
use Rattle.trail_files.specs.AuditOrder.{audit_damage}
use Rattle.trail_files.specs.AuditRecord.{audit_format}
use Rattle.trail_files.specs.Damaged.{IsDamagedAt}
use Rattle.trail_files.specs.MonitorOrder.{monitor_damage}
use Rattle.trail_files.specs.MonitorRecord.{monitor_format}
use Rattle.trail_files.specs.Text.{Spells}
use Rattle.trail_replay.specs.Rules.{rules_of}

-- the image of a trail spells some audit
abbrev pub SpellsAudit : Config → ℕ → Held → Type 0
SpellsAudit config trail image = (audit : List AuditRecord) × Spells (audit_format (rules_of config trail)) image audit

-- the text of the monitor trail breaks this rule first
abbrev pub IsMonitorDamage : Held → Damage → Type 0
IsMonitorDamage image damage = IsDamagedAt monitor_format monitor_damage 32 image damage

-- the text of a trail breaks this rule first
abbrev pub IsAuditDamage : Config → ℕ → Held → Damage → Type 0
IsAuditDamage config trail image damage = IsDamagedAt (audit_format (rules_of config trail)) (audit_damage (rules_of config trail)) 128 image damage

-- the image of the device with this number spells its trail: the monitor's is 0
abbrev pub NodeSpells : Config → (ℕ → Held) → ℕ → Type 0
NodeSpells config images zero = (list : List MonitorRecord) × Spells monitor_format (images 0) list
NodeSpells config images (suc n) = SpellsAudit config (suc n) (images (suc n))

-- the text of the device with this number breaks this rule first
abbrev pub IsNodeDamage : Config → (ℕ → Held) → ℕ → Damage → Type 0
IsNodeDamage config images zero damage = IsMonitorDamage (images 0) damage
IsNodeDamage config images (suc n) damage = IsAuditDamage config (suc n) (images (suc n)) damage

-- The first damage of a node: the devices before this one, in the order of their numbers, spell their trails, and its own text breaks this rule first.
pub record IsFirstDamage (config : Config) (images : ℕ → Held) (device : ℕ) (damage : Damage) : Type 0 where
  pub is_trail : device ≤ length config.trails
  pub before : (n : ℕ) → n < device → NodeSpells config images n
  pub here : IsNodeDamage config images device damage
