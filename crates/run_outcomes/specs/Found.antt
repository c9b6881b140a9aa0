-- What a run finds of its devices: what they held when it began, of those that told it and had nothing at risk.
use Rattle.std.specs.Prelude.{◌≡◌, ℕ, ◌<◌, ◌≤◌, List, length, Option, Some, None, IsSome}
use Rattle.block_cache.specs.Volume.{HasBase, HasDump, RestsFor}
use Rattle.disk_model.specs.Held.{Held}
use Rattle.keyed_file.specs.Volume.{label_of}
use Rattle.node_machine.specs.Law.{IsFoundTrail, IsFoundVolume}
use Rattle.node_machine.specs.Opening.{Found, TrailFound, VolumeFound, found_volume}
use Rattle.tmf_model.specs.Commits.{numbered}
use Rattle.tmf_model.specs.declared.config.Config.{Config}
use Rattle.tmf_model.specs.declared.config.Volume.{Volume}
use Rattle.trail_files.specs.AuditRecord.{audit_format}
use Rattle.trail_files.specs.MonitorRecord.{monitor_format}
use Rattle.trail_files.specs.StandsFor.{Base, IsNumber}
use Rattle.trail_files.specs.Trail.{Rests}
use Rattle.trail_files.specs.declared.audit_record.AuditRecord.{AuditRecord}
use Rattle.trail_files.specs.declared.monitor_record.MonitorRecord.{MonitorRecord}
use Rattle.trail_replay.specs.Rules.{rules_of}
use Rattle.run_outcomes.specs.Devices.{DumpRests, dump_device, monitor_device, volume_device}

module _ (config : Config) (told : ℕ → Option Held) where
  -- the device told what it held, and this was so of it
  abbrev pub ToldSo : ℕ → (Held → Type 0) → Type 0
  ToldSo device says = (held : Held) × (told device ≡ Some held) × says held

  -- the monitor trail told this list, and nothing of it was at risk
  abbrev pub ToldList : List MonitorRecord → Type 0
  ToldList list = ToldSo monitor_device (λ held. Rests monitor_format held list)

  -- so did an audit trail its audit
  abbrev pub ToldAudit : ℕ → List AuditRecord → Type 0
  ToldAudit trail audit = ToldSo trail (λ held. Rests (audit_format (rules_of config trail)) held audit)

  -- so did a volume its base, or that it is lost
  abbrev pub ToldBase : ℕ → Option Base → Type 0
  ToldBase volume base = ToldSo (volume_device volume) (λ held. HasBase config volume held base × RestsFor (label_of config volume 1) held)

  -- and a dump device its dump, or that it has none
  abbrev pub ToldDump : ℕ → Option Base → Type 0
  ToldDump volume dump = ToldSo (dump_device volume) (λ held. HasDump config volume held dump × DumpRests held)

  -- If the volume was found, and told a base, it was found with its values.
  abbrev pub IsFoundWithValues : Found → ℕ → Type 0
  IsFoundWithValues found volume = (entry : VolumeFound) (base : Base) → found_volume found volume ≡ Some entry → ToldBase volume (Some base) → IsSome entry.base

  -- each volume that was found, and told a base, was found with its values
  abbrev pub AreFoundWithValues : Found → Type 0
  AreFoundWithValues found = (volume : ℕ) → IsFoundWithValues found volume

  -- What a run of this epoch has found is what the devices told: the length of the monitor's list, the audit of each trail, and each volume, with its dump, that fits its
  -- trail's audit. Of a device that told nothing it says nothing.
  pub record IsFoundOver (epoch : ℕ) (found : Found) : Type 0 where
    pub config_is : found.config ≡ config
    pub epoch_is : found.epoch ≡ epoch
    pub places : (list : List MonitorRecord) → ToldList list → found.places ≡ length list
    pub trails : (trail : ℕ) (audit : List AuditRecord) → 1 ≤ trail → trail ≤ length config.trails → ToldAudit trail audit
        → (t : TrailFound) × (numbered found.trails trail ≡ Some t) × IsFoundTrail t audit
    pub volumes : (number : ℕ) (line : Volume) (base dump : Option Base) (audit : List AuditRecord) → IsNumber config.volumes number line
        → ToldBase number base → ToldDump number dump → ToldAudit line.trail audit → IsFoundVolume config number audit (found_volume found number) base dump
    pub few_trails : length found.trails ≤ length config.trails
    pub no_more : (number : ℕ) → length config.volumes < number → found_volume found number ≡ None
