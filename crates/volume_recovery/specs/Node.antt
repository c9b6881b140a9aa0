-- What the images of a node's devices stand for, and where they are damaged first.
use Rattle.std.specs.Prelude.{◌≢◌, ℕ, zero, suc, ◌+◌, ◌<◌, ◌≤◌, List, ◌∷◌, [], ◌++◌, length, All, Some, None, unwrap_or}
use Rattle.disk_model.specs.Devices.{DeviceAt}
use Rattle.disk_model.specs.Held.{Held, IfThere}
use Rattle.disk_model.specs.declared.fuse.Fuse.{Fuse}
use Rattle.tmf_model.specs.declared.config.Config.{Config}
use Rattle.tmf_model.specs.RecordMap.{RecordMap}
use Rattle.trail_files.specs.declared.audit_record.AuditRecord.{AuditRecord}
use Rattle.trail_files.specs.declared.damage.Damage.{Damage}
use Rattle.trail_files.specs.declared.monitor_record.MonitorRecord.{MonitorRecord}
use Rattle.trail_files.specs.declared.monitor_record.MonitorRecord.TheVariants.{Start}
use Rattle.trail_files.specs.AuditRecord.{audit_format}
use Rattle.trail_files.specs.Landed.{IsSettled}
use Rattle.trail_files.specs.MonitorOrder.{last_epoch}
use Rattle.trail_files.specs.MonitorRecord.{monitor_format}
use Rattle.trail_files.specs.StandsFor.{StandsFor}
use Rattle.trail_files.specs.Text.{Spells}
use Rattle.trail_files.specs.Trail.{Rests}
use Rattle.trail_replay.specs.Rules.{rules_of}
use Rattle.trail_replay.specs.Texts.{IsAuditDamage, IsMonitorDamage, SpellsAudit}
use Rattle.volume_restore.specs.Bases.{empty_base}

-- each trail of the configuration rests without a record
abbrev pub AreEmpty : {D : Type 0} → (D → Held) → Config → List (Fuse D) → Type 0
AreEmpty held config fuses = (n : ℕ) → 1 ≤ n → n ≤ length config.trails → DeviceAt (λ d. Rests (audit_format (rules_of config n)) (held d) []) fuses n

-- the epoch behind the last one that the records begin
abbrev pub next_epoch : List MonitorRecord → ℕ
next_epoch list = unwrap_or (last_epoch list) 0 + 1

-- the images of the trails up to this number, from 1 on, spell some audit
abbrev pub SpellUpTo : Config → (ℕ → Held) → ℕ → Type 0
SpellUpTo config images last = (trail : ℕ) → 1 ≤ trail → trail ≤ last → SpellsAudit config trail (images trail)

-- the device with this number spells its trail, the monitor's is 0, and nothing of it is at risk
abbrev pub TrailRests : Config → (ℕ → Held) → ℕ → Type 0
TrailRests config held zero = (list : List MonitorRecord) × Rests monitor_format (held 0) list
TrailRests config held (suc n) = (audit : List AuditRecord) × Rests (audit_format (rules_of config (suc n))) (held (suc n)) audit

-- nothing of what is held is at risk
abbrev pub IsAtRest : Held → Type 0
IsAtRest held = (n : ℕ) → IfThere held n IsSettled

-- nothing of the images is at risk
abbrev pub AreAtRest : (ℕ → Held) → Type 0
AreAtRest images = (n : ℕ) → IsAtRest (images n)
