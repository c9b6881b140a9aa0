-- What a recovery of a node with volumes answers of the images that its restart made, and what it leaves.
use Rattle.std.specs.Prelude.{◌≡◌, ◌≢◌, ◌⊎◌, ℕ, zero, suc, ◌==◌, ◌+◌, ◌<◌, ◌≤◌, Bool, true, false, if◌then◌else◌, List, ◌∷◌, [], ◌++◌, length, All, filter, slice_get, slice_index, Some, Result, IfOk, IfErr, MatchResult}
use Rattle.std.specs.Option.{option_map_or}
use Rattle.disk_model.specs.Devices.{AreHeld, AreImages}
use Rattle.disk_model.specs.Fuse.{device_of}
use Rattle.disk_model.specs.Held.{Held}
use Rattle.disk_model.specs.declared.fuse.Fuse.{Fuse}
use Rattle.tmf_model.specs.declared.config.Config.{Config}
use Rattle.tmf_model.specs.declared.config.Volume.{Volume}
use Rattle.tmf_model.specs.RecordMap.{RecordMap}
use Rattle.trail_files.specs.declared.audit_record.AuditRecord.{AuditRecord}
use Rattle.trail_files.specs.declared.damage.Damage.{Damage}
use Rattle.trail_files.specs.declared.damage.DamageKind.TheVariants.{BadBlock}
use Rattle.trail_files.specs.declared.monitor_record.MonitorRecord.{MonitorRecord}
use Rattle.trail_files.specs.declared.monitor_record.MonitorRecord.TheVariants.{Start}
use Rattle.trail_files.specs.AuditRecord.{audit_format}
use Rattle.trail_files.specs.MonitorOrder.{last_epoch}
use Rattle.trail_files.specs.MonitorRecord.{monitor_format}
use Rattle.trail_files.specs.StandsFor.{IsNumber}
use Rattle.trail_files.specs.Text.{Spells}
use Rattle.trail_files.specs.Trail.{Rests}
use Rattle.trail_replay.specs.Rules.{rules_of}
use Rattle.keyed_file.specs.Volume.{Contents, IsLost, SpellsVolume, label_of}
use Rattle.block_cache.specs.Volume.{RestsFor}
use Rattle.volume_restore.specs.Bases.{recovered_from}
use Rattle.volume_restore.specs.Changed.{HasRoomIn, IsOverfull}
use Rattle.volume_restore.specs.Damage.{blocks_on}
use Rattle.volume_restore.specs.Inspected.{IsFineVolume, IsVolumeDamage}
use Rattle.volume_restore.specs.Pass.{IsBefore}
use Rattle.volume_recovery.specs.declared.errors.RecoverError.{RecoverError}
use Rattle.volume_recovery.specs.declared.errors.RecoverError.TheVariants.{Failed, Damaged, EpochsSpent, NoMemory}
use Rattle.volume_recovery.specs.declared.recovery.Recovered.{Recovered}
use Rattle.trail_replay.specs.Texts.{IsFirstDamage}
use Rattle.volume_recovery.specs.Node.{TrailRests, next_epoch}
use Rattle.volume_recovery.specs.Recovery.{IsUnwritten, KeepsRecords, TellsDamage}
use Rattle.volume_recovery.specs.VolumeNode.{AreLowered, RestsWithVolumes, StandsWithVolumes, StartedWithVolumes, volume_device}
use Rattle.volume_recovery.specs.VolumeRecovery.{LeavesWhole, MayLeave}

-- the trails that the images spell
pub record SpellTrails (config : Config) (images : ℕ → Held) (list : List MonitorRecord) (audit : ℕ → List AuditRecord) : Type 0 where
  pub monitor : Spells monitor_format (images 0) list
  pub each : (trail : ℕ) → 1 ≤ trail → trail ≤ length config.trails → Spells (audit_format (rules_of config trail)) (images trail) (audit trail)

-- whether no label stands
abbrev pub is_lost : Held → Bool
is_lost image = option_map_or (λ f. if slice_index f.bytes 0 == 1 then false else true) (image 1) true

-- the numbers from 1 to this one, in rising order
abbrev pub numbers_to : ℕ → List ℕ
numbers_to zero = []
numbers_to (suc n) = numbers_to n ++ suc n ∷ []

-- of the first so many volumes the numbers of those that the images have lost, in rising order
abbrev pub lost_among : (ℕ → Held) → ℕ → List ℕ
lost_among images count = filter (λ volume. is_lost (images (volume_device volume))) (numbers_to count)

-- the volume is lost, or nothing of it is wrong
abbrev pub IsReadable : Config → ℕ → Held → Type 0
IsReadable config volume image = IsLost image ⊎ IsFineVolume config volume image

-- The first block of a volume that would hold too much with the records of this map.
pub record IsFirstOverfull (config : Config) (volume : ℕ) (map : RecordMap) (damage : Damage) : Type 0 where
  pub file : ℕ
  pub number : ℕ
  pub within : number < blocks_on config volume file
  pub here : IsOverfull (blocks_on config volume file) number (map file)
  pub before : (f n : ℕ) → n < blocks_on config volume f → IsBefore f n file number → HasRoomIn (blocks_on config volume f) n (map f)
  pub damage_is : damage ≡ record { file = 1 + file; at = number; kind = BadBlock }

-- each block of a volume has room for the records of this map
abbrev pub HasRoomFor : Config → ℕ → RecordMap → Type 0
HasRoomFor config volume map = (file number : ℕ) → number < blocks_on config volume file → HasRoomIn (blocks_on config volume file) number (map file)

-- this is said of what recovery finds of the keys of a volume, by each label and contents that its image spells
abbrev pub IfRecovered : Config → ℕ → List AuditRecord → List MonitorRecord → Held → (RecordMap → Type 0) → Type 0
IfRecovered config volume audit list image P = (low : ℕ) (was : Contents) → SpellsVolume (label_of config volume low) image was → P (recovered_from config volume low was audit list)

-- nothing keeps a volume from its recovery: it is lost; or nothing is wrong of it, and each of its blocks has room for what it gets
pub record IsReadyVolume (config : Config) (volume : ℕ) (audit : List AuditRecord) (list : List MonitorRecord) (image : Held) : Type 0 where
  pub readable : IsReadable config volume image
  pub room : IfRecovered config volume audit list image (HasRoomFor config volume)

-- a volume is wrong first here: it is damaged; or nothing is wrong of it, and this is the first block that would hold too much with what it gets
abbrev pub IsWrongVolume : Config → ℕ → List AuditRecord → List MonitorRecord → Held → Damage → Type 0
IsWrongVolume config volume audit list image damage =
    IsVolumeDamage config volume image damage
    ⊎ (IsFineVolume config volume image × IfRecovered config volume audit list image (λ map. IsFirstOverfull config volume map damage))

-- The first volume that is wrong: each volume before it is ready, and here is its own first damage, or its first block that would hold too much.
pub record IsFirstWrongVolume (config : Config) (images : ℕ → Held) (list : List MonitorRecord) (audit : ℕ → List AuditRecord) (device : ℕ) (damage : Damage) : Type 0 where
  pub volume : ℕ
  pub line : Volume
  pub is_volume : IsNumber config.volumes volume line
  pub device_is : device ≡ volume_device volume
  pub before : (v : ℕ) (l : Volume) → v < volume → IsNumber config.volumes v l → IsReadyVolume config v (audit l.trail) list (images (volume_device v))
  pub here : IsWrongVolume config volume (audit line.trail) list (images (volume_device volume)) damage

-- The first damage behind the trails: they are spelled, an epoch is left, and this volume is wrong first.
pub record IsBehindTrails (config : Config) (images : ℕ → Held) (device : ℕ) (damage : Damage) : Type 0 where
  pub list : List MonitorRecord
  pub audit : ℕ → List AuditRecord
  pub trails : SpellTrails config images list audit
  pub unspent : last_epoch list ≢ Some 4294967295
  pub first : IsFirstWrongVolume config images list audit device damage

-- the first damage that a recovery meets: of a trail; or, where they are spelled, of a volume
abbrev pub IsFirstFound : Config → (ℕ → Held) → ℕ → Damage → Type 0
IsFirstFound config images device damage = IsFirstDamage config images device damage ⊎ IsBehindTrails config images device damage

-- What the device of a volume holds behind a whole recovery: nothing of the volume is at risk; the image, where it is lost; and else a volume of which
-- nothing is wrong.
pub record IsLeftVolume (config : Config) (volume : ℕ) (image now : Held) : Type 0 where
  pub rests : RestsFor (label_of config volume 1) now
  pub lost : IsLost image → now ≡ image
  pub readable : IsReadable config volume now
  pub same_lost : is_lost now ≡ is_lost image

-- The devices stand for the list with the Start of this epoch behind it, and for the map, and nothing of it is at risk; each volume that has a label is
-- lowered; and no audit that they spell is of that epoch.
pub record RestsStarted (config : Config) (now : ℕ → Held) (list : List MonitorRecord) (epoch : ℕ) (map : RecordMap) : Type 0 where
  pub rests : RestsWithVolumes config now (list ++ Start epoch ∷ []) map
  pub lowered : AreLowered config now (list ++ Start epoch ∷ []) map rests.stands
  pub unused : (trail : ℕ) (audit : List AuditRecord) → 1 ≤ trail → trail ≤ length config.trails → Spells (audit_format (rules_of config trail)) (now trail) audit
      → All (λ r. r.tx.epoch ≢ epoch) audit

-- What the devices hold behind a whole recovery of these images: each volume is at rest, also where the images stand for no map; and where they stand for
-- a list and a map, so do the devices, at rest, with the Start of this epoch.
pub record EndsAtRest (config : Config) (images now : ℕ → Held) (epoch : ℕ) : Type 0 where
  pub at_rest : (volume : ℕ) (line : Volume) → IsNumber config.volumes volume line → IsLeftVolume config volume (images (volume_device volume)) (now (volume_device volume))
  pub rests : (list : List MonitorRecord) (map : RecordMap) → StandsWithVolumes config images list map → RestsStarted config now list epoch map

-- What holds where a recovery of these images has answered and left these devices.
pub record HasRecoveredWithVolumes {D : Type 0} (held : D → Held) (config : Config) (images : ℕ → Held) (after : List (Fuse D)) (recovered : Recovered) : Type 0 where
  -- its records are those that the monitor's image spells, and no device is damaged
  pub audit : ℕ → List AuditRecord
  pub trails : SpellTrails config images recovered.records audit
  pub epoch : recovered.epoch ≡ next_epoch recovered.records
  pub lost : recovered.lost ≡ lost_among images (length config.volumes)
  pub readable : (volume : ℕ) (line : Volume) → IsNumber config.volumes volume line → IsReadable config volume (images (volume_device volume))
  pub room : (volume : ℕ) (line : Volume) → IsNumber config.volumes volume line → IfRecovered config volume (audit line.trail) recovered.records (images (volume_device volume)) (HasRoomFor config volume)
  -- whatever a crash leaves of the devices stands for the list with the new Start, and for the map, and each volume that has a label is lowered
  pub stands : (list : List MonitorRecord) (map : RecordMap) → StandsWithVolumes config images list map
      → (left : ℕ → Held) → AreImages held after left → StartedWithVolumes config left list recovered.epoch map
  -- also where the images stood for no map: each trail rests on its device, the monitor's with the new Start behind its records
  pub begun : (now : ℕ → Held) → AreHeld held after now → Rests monitor_format (now 0) (recovered.records ++ Start recovered.epoch ∷ [])
  pub trails_rest : (now : ℕ → Held) → AreHeld held after now → (trail : ℕ) → 1 ≤ trail → trail ≤ length config.trails → TrailRests config now trail
  -- and each volume is recovered from what its own image said
  pub volumes : (left : ℕ → Held) → AreImages held after left → (volume : ℕ) (line : Volume) → IsNumber config.volumes volume line
      → LeavesWhole config volume (audit line.trail) recovered.records (images (volume_device volume)) (left (volume_device volume))
  -- and nothing of what the devices hold is at risk
  pub ended : (now : ℕ → Held) → AreHeld held after now → EndsAtRest config images now recovered.epoch

-- what is said of the images where a recovery of them is refused
abbrev pub IsRefusalWithVolumes : Config → (ℕ → Held) → RecoverError → Type 0
IsRefusalWithVolumes config images (Failed device) = Unit {0}
IsRefusalWithVolumes config images (Damaged device damage) = IsFirstFound config images device damage
IsRefusalWithVolumes config images EpochsSpent = (list : List MonitorRecord) × (audit : ℕ → List AuditRecord) × SpellTrails config images list audit × (last_epoch list ≡ Some 4294967295)
IsRefusalWithVolumes config images NoMemory = Unit {0}

-- whatever a crash leaves of the devices stands for the list, with or without the next Start, and for the same map
abbrev pub KeepsWithVolumes : {D : Type 0} → (D → Held) → Config → (ℕ → Held) → List (Fuse D) → Type 0
KeepsWithVolumes held config images after = (list : List MonitorRecord) (map : RecordMap) → StandsWithVolumes config images list map → (left : ℕ → Held) → AreImages held after left
    → StandsWithVolumes config left list map ⊎ StandsWithVolumes config left (list ++ Start (next_epoch list) ∷ []) map

-- What holds of a recovery of these images, which has left these devices.
pub record RecoversWithVolumes {D : Type 0} (held : D → Held) (config : Config) (images : ℕ → Held) (result : Result Recovered RecoverError) (after : List (Fuse D)) : Type 0 where
  pub ok : IfOk result (HasRecoveredWithVolumes held config images after)
  pub err : IfErr result (IsRefusalWithVolumes config images)
  -- where there is damage, the first is told
  pub first : (device : ℕ) (damage : Damage) → IsFirstFound config images device damage → MatchResult result (λ _. ⊥) (TellsDamage device damage)
  pub kept : IfErr result (λ e. KeepsWithVolumes held config images after)
  -- also where the images stand for no map
  pub records : KeepsRecords held images after
  pub volumes : (left : ℕ → Held) → AreImages held after left → (list : List MonitorRecord) (audit : ℕ → List AuditRecord) → SpellTrails config images list audit
      → (volume : ℕ) (line : Volume) → IsNumber config.volumes volume line → MayLeave config volume (audit line.trail) list (images (volume_device volume)) (left (volume_device volume))
  -- each device that is neither the monitor trail's nor a volume's holds its image
  pub others : (n : ℕ) (fuse : Fuse D) → 0 < n → (n ≤ 4) ⊎ (4 + length config.volumes < n) → slice_get after n ≡ Some fuse → held (device_of fuse) ≡ images n
  -- where damage is told, or no epoch is left, every device does
  pub unwritten : IfErr result (IsUnwritten held images after)
