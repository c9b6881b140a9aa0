-- What keeps a run from beginning: the first place, in the order of its devices, that breaks a format or does not fit the others.
use Rattle.std.specs.Prelude.{◌≡◌, ◌≢◌, ◌⊎◌, ℕ, zero, suc, ◌+◌, ◌<◌, ◌≤◌, List, length, slice_index, Option, Some, None, nat_lt, option_map, if◌then◌else◌}
use Rattle.block_cache.specs.LabelDamage.{bad_label_file}
use Rattle.disk_model.specs.Held.{Held, IsThere}
use Rattle.keyed_file.specs.Dump.{SpellsDumpLabel}
use Rattle.keyed_file.specs.LabelFormat.{IsDumpLabel, IsLabel, bad_dump_label_at}
use Rattle.keyed_file.specs.Layout.{bytes_at, label_length, label_pair, selected_by, slot_at}
use Rattle.keyed_file.specs.Volume.{IsLost, SpellsLabel, label_of}
use Rattle.keyed_file.specs.declared.dump_label.DumpLabel.{DumpLabel}
use Rattle.node_machine.specs.Law.{EndsWithStart}
use Rattle.node_machine.specs.Same.{Among}
use Rattle.tmf_model.specs.declared.config.Config.{Config}
use Rattle.tmf_model.specs.declared.config.Volume.{Volume}
use Rattle.trail_files.specs.AuditRecord.{audit_format}
use Rattle.trail_files.specs.MonitorRecord.{monitor_format}
use Rattle.trail_files.specs.Recovered.{kept_records}
use Rattle.trail_files.specs.StandsFor.{IsNumber, next_position}
use Rattle.trail_files.specs.Text.{Spells}
use Rattle.trail_files.specs.declared.audit_record.AuditRecord.{AuditRecord}
use Rattle.trail_files.specs.declared.damage.Damage.{Damage}
use Rattle.trail_files.specs.declared.damage.DamageKind.{DamageKind}
use Rattle.trail_files.specs.declared.damage.DamageKind.TheVariants.{BadLabel, NoStart}
use Rattle.trail_files.specs.declared.monitor_record.MonitorRecord.{MonitorRecord}
use Rattle.trail_replay.specs.Rules.{rules_of}
use Rattle.trail_replay.specs.Texts.{IsAuditDamage, IsMonitorDamage}
use Rattle.run_outcomes.specs.Devices.{dump_device, monitor_device, volume_device}

-- what does not fit the other devices is told at the front of a device's first file
abbrev pub misfit : DamageKind → Damage
misfit kind = record { file = 1; at = 0; kind = kind }

-- where the dump's label of this volume is wrong first, in a file of these bytes
abbrev pub bad_dump_file : ℕ → List ℕ → Option ℕ
bad_dump_file volume bytes =
    let at = slot_at label_pair (selected_by (slice_index bytes 1)) in
    if nat_lt (length bytes) label_length then Some (length bytes) else option_map (λ bad. at + bad) (bad_dump_label_at volume (bytes_at at 256 bytes))

-- the label's file is open, and this is the first offset at which it is wrong
abbrev pub IsLabelDamage : (List ℕ → Option ℕ) → Held → Damage → Type 0
IsLabelDamage bad held damage = (damage.file ≡ 1) × (damage.kind ≡ BadLabel) × IsThere held 1 (λ f. (slice_index f.bytes 0 ≡ 1) × (bad f.bytes ≡ Some damage.at))

module _ (config : Config) (epoch : ℕ) (named : List ℕ) (held : ℕ → Held) where
  abbrev pub SpellsAudit : ℕ → List AuditRecord → Type 0
  SpellsAudit trail audit = Spells (audit_format (rules_of config trail)) (held trail) audit

  -- the volume has its label, with this low position, which is in its range
  abbrev pub HasLow : ℕ → ℕ → Type 0
  HasLow volume low = IsLabel (label_of config volume low) × IsThere (held (volume_device volume)) 1 (λ f. SpellsLabel (label_of config volume low) f.bytes)

  -- the volume has its label, with this low position, and by it and its trail its disc gives out this position next
  pub record HasNext (volume : ℕ) (line : Volume) (low next : ℕ) : Type 0 where
    pub label : HasLow volume low
    pub audit : List AuditRecord
    pub spelled : SpellsAudit line.trail audit
    pub next_is : next ≡ next_position (kept_records volume 0 audit) (Some low) None

  -- the dump device has a dump's label of the volume, with this start
  pub record HasStart (volume start : ℕ) : Type 0 where
    pub label : DumpLabel
    pub valid : IsDumpLabel label
    pub of_volume : label.volume ≡ volume
    pub starts : label.start ≡ start
    pub spelled : IsThere (held (dump_device volume)) 1 (λ f. SpellsDumpLabel label f.bytes)

  abbrev pub IsVolumeLost : ℕ → Type 0
  IsVolumeLost volume = IsLost (held (volume_device volume))

  -- WHAT IS FIT

  -- a trail's device is fit where it is spelled; the monitor's list has to end with the run's start
  abbrev pub IsTrailFit : ℕ → Type 0
  IsTrailFit zero = (list : List MonitorRecord) × Spells monitor_format (held monitor_device) list × EndsWithStart epoch list
  IsTrailFit (suc n) = (audit : List AuditRecord) × SpellsAudit (suc n) audit

  -- a volume is lost, and the run does not name it; or its label's low position is its disc's next one
  abbrev pub IsVolumeFit : ℕ → Volume → Type 0
  IsVolumeFit volume line = (IsVolumeLost volume × (Among named volume → ⊥)) ⊎ ((low : ℕ) × HasNext volume line low low)

  -- the volume is lost, or there is no dump, or its start is one that the disc has reached
  abbrev pub IsDumpFit : ℕ → Volume → Type 0
  IsDumpFit volume line = IsVolumeLost volume ⊎ IsLost (held (dump_device volume))
      ⊎ ((low next start : ℕ) × HasNext volume line low next × HasStart volume start × (start ≤ next))

  -- the device with this number is fit, if it is of the configuration
  pub record IsFit (device : ℕ) : Type 0 where
    pub trail : device ≤ length config.trails → IsTrailFit device
    pub volume : (number : ℕ) (line : Volume) → IsNumber config.volumes number line → device ≡ volume_device number → IsVolumeFit number line
    pub dump : (number : ℕ) (line : Volume) → IsNumber config.volumes number line → device ≡ dump_device number → IsDumpFit number line

  -- WHAT IS NOT

  -- the text of a trail breaks a rule first there; or that of the monitor trail is whole, and does not end with the run's start
  abbrev pub IsTrailUnfit : ℕ → Damage → Type 0
  IsTrailUnfit zero damage = IsMonitorDamage (held monitor_device) damage
      ⊎ (((list : List MonitorRecord) × Spells monitor_format (held monitor_device) list × (EndsWithStart epoch list → ⊥)) × (damage ≡ misfit NoStart))
  IsTrailUnfit (suc n) damage = IsAuditDamage config (suc n) (held (suc n)) damage

  -- the run names a volume that is lost; or its label is wrong there; or its low position is not its disc's next one
  abbrev pub IsVolumeUnfit : ℕ → Volume → Damage → Type 0
  IsVolumeUnfit volume line damage =
      (IsVolumeLost volume × Among named volume × (damage ≡ misfit BadLabel))
      ⊎ IsLabelDamage (bad_label_file (label_of config volume 1)) (held (volume_device volume)) damage
      ⊎ ((low next : ℕ) × HasNext volume line low next × (low ≢ next) × (damage ≡ misfit BadLabel))

  -- the volume is not lost, and its dump's label is wrong there, or its start is above the disc's next position
  abbrev pub IsDumpUnfit : ℕ → Volume → Damage → Type 0
  IsDumpUnfit volume line damage = (IsVolumeLost volume → ⊥)
      × (IsLabelDamage (bad_dump_file volume) (held (dump_device volume)) damage
      ⊎ ((low next start : ℕ) × HasNext volume line low next × HasStart volume start × (next < start) × (damage ≡ misfit BadLabel)))

  -- this is wrong with the device
  abbrev pub IsUnfitAt : ℕ → Damage → Type 0
  IsUnfitAt device damage =
      ((device ≤ length config.trails) × IsTrailUnfit device damage)
      ⊎ ((number : ℕ) × (line : Volume) × IsNumber config.volumes number line × (device ≡ volume_device number) × IsVolumeUnfit number line damage)
      ⊎ ((number : ℕ) × (line : Volume) × IsNumber config.volumes number line × (device ≡ dump_device number) × IsDumpUnfit number line damage)

  -- The first damage that keeps the run from beginning: the devices before this one are fit.
  pub record IsFirstUnfit (device : ℕ) (damage : Damage) : Type 0 where
    pub before : (n : ℕ) → n < device → IsFit n
    pub here : IsUnfitAt device damage
