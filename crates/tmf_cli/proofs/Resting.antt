-- The devices of a node that is up: its trails rest, its volumes too, and nothing of them is damaged.
use Rattle.std.specs.Prelude.{Bool, Option, Some, None, slice_get}
use Rattle.std.specs.List.{AllByRecursion}
use Rattle.std.specs.Option.{option_map_or}
use Rattle.std.proofs.Common.{zero, suc, ◌≡◌, ◌⊎◌, ◌≤◌, ◌-◌, ◌++◌, ◌∷◌, [], ℕ, List, sym, ap, subst, ◌∙◌, inl, inr, ⊎_elim, arith}
use Rattle.std.proofs.lemmas.List.Elements.{recursion_from_All}
use Rattle.disk_model.specs.Held.{Held}
use Rattle.disk_model.specs.Devices.{SameBut, held_at}
use Rattle.disk_model.specs.declared.fuse.Fuse.{Fuse}
use Rattle.tmf_model.specs.declared.config.Config.{Config}
use Rattle.tmf_model.specs.declared.config.FileLine.{FileLine}
use Rattle.tmf_model.specs.declared.config.Volume.{Volume}
use Rattle.tmf_model.specs.Config.{IsDeclared, IsValidConfig}
use Rattle.tmf_model.specs.RecordMap.{RecordMap}
use Rattle.trail_files.specs.declared.damage.Damage.{Damage}
use Rattle.trail_files.specs.declared.monitor_record.MonitorRecord.{MonitorRecord}
use Rattle.trail_files.specs.declared.monitor_record.MonitorRecord.TheVariants.{Start}
use Rattle.trail_files.specs.StandsFor.{Base, IsNumber}
use Rattle.keyed_file.specs.Volume.{Contents, IsLost, SpellsVolume, label_of}
use Rattle.block_cache.specs.Volume.{HasBase}
use Rattle.volume_restore.specs.Bases.{volume_on}
use Rattle.volume_restore.specs.Inspected.{IsFineVolume}
use Rattle.volume_restore.specs.Listed.{IsFineFile}
use Rattle.volume_recovery.specs.declared.recovery.Recovered.{Recovered}
use Rattle.volume_recovery.specs.VolumeAnswers.{EndsAtRest, HasRecoveredWithVolumes, IsFirstFound, IsLeftVolume, RestsStarted, is_lost}
use Rattle.volume_recovery.specs.VolumeFormat.{IsNodeDevice}
use Rattle.volume_recovery.specs.VolumeListing.{file_device}
use Rattle.volume_recovery.specs.VolumeNode.{StandsWithVolumes, volume_device}
use Rattle.tmf_cli.specs.declared.node.Up.{Up}
use Rattle.tmf_cli.specs.BetweenActions.{AreReadable, IsBounded, IsReady, RestsUp, SameOthers, TrailsRest}
use Rattle.tmf_cli.specs.Lost.{AreLost, lost_flags, unless}
use Rattle.tmf_cli.specs.OutputLaw.{Candidate}
use Rattle.tmf_cli.proofs.Bays.{held-is}
use Rattle.tmf_cli.proofs.Losses.{flags-lost, number-at, number-within, unless-some}

-- nothing is wrong in a volume that is spelled
abbrev pub IsFine : Type 0
IsFine = (config : Config) (volume low : ℕ) (image : Held) (contents : Contents) → SpellsVolume (label_of config volume low) image contents → IsFineVolume config volume image

-- images that stand for something have no damage that a recovery would meet
abbrev pub IsUndamagedStand : Config → Type 0
IsUndamagedStand config = (images : ℕ → Held) (list : List MonitorRecord) (map : RecordMap) (device : ℕ) (damage : Damage) → StandsWithVolumes config images list map → IsFirstFound config images device damage → ⊥

-- What a whole recovery of these images leaves on its devices: they are ready for a run and for a listing, and have lost what the images had lost; and where the images stood for a map, the devices
-- rest with the list, with the new Start, and with the same map.
pub record LeavesReady {D : Type 0} (held : D → Held) (config : Config) (images : ℕ → Held) (new : List (Fuse D)) (recovered : Recovered) : Type 0 where
  pub ready : IsReady config (held_at held new) (record { epoch = recovered.epoch; lost = lost_flags recovered.lost })
  pub lost : (volume : ℕ) (line : Volume) → IsNumber config.volumes volume line → is_lost (held_at held new (volume_device volume)) ≡ is_lost (images (volume_device volume))
  pub rests : (map : RecordMap) → StandsWithVolumes config images recovered.records map → RestsStarted config (held_at held new) recovered.records recovered.epoch map

item-all : {T : Type 0} (P : T → Type 0) (items : List T) (n : ℕ) (x : T) → AllByRecursion P items → slice_get items n ≡ Some x → P x
item-all P [] n x all is = absurd (cc)
item-all P (y ∷ ys) zero x all is = let same : y ≡ x = cc in subst P same all.0
item-all P (y ∷ ys) (suc n) x all is = item-all P ys n x all.1 is

-- the trail of a volume is one of the configuration
pub trail-declared : (config : Config) → IsValidConfig config → (volume : ℕ) (line : Volume) → IsNumber config.volumes volume line → IsDeclared config.trails line.trail
trail-declared config valid volume line is =
    item-all (λ x. IsDeclared config.trails x.trail) config.volumes (volume - 1) line (recursion_from_All (λ x. IsDeclared config.trails x.trail) config.volumes valid.volumes.declared) is.1

-- the volume that a file lies on
pub volume_on-line : (config : Config) (file : ℕ) (line : FileLine) → IsNumber config.files file line → volume_on config file ≡ line.volume
volume_on-line config zero line is = absurd (omega (arith, is.0))
volume_on-line config (suc n) line is = ap (λ o. option_map_or (λ one. one.volume) o 0) (ap (slice_get config.files) (before n) ∙ is.1)
  where
    before : (k : ℕ) → k ≡ suc k - 1
    before k = omega arith

-- the volume of a file is one of the configuration
pub line-volume : (config : Config) (file : ℕ) (line : FileLine) → IsValidConfig config → IsNumber config.files file line → (volume : Volume) × IsNumber config.volumes line.volume volume
line-volume config file line valid is =
    let declared = item-all (λ x. IsDeclared config.volumes x.volume) config.files (file - 1) line (recursion_from_All (λ x. IsDeclared config.volumes x.volume) config.files valid.files.declared) is.1 in
    number-at config.volumes line.volume declared.above declared.below

pub file-volume : (config : Config) (file : ℕ) → IsValidConfig config → IsDeclared config.files file → (volume : Volume) × IsNumber config.volumes (volume_on config file) volume
file-volume config file valid declared =
    let line = number-at config.files file declared.above declared.below in
    let volume = line-volume config file line.0 valid line.1 in
    (volume.0, subst (λ n. IsNumber config.volumes n volume.0) (sym (volume_on-line config file line.0 line.1)) volume.1)

-- no file is damaged of devices that stand for something
pub stands-readable : (config : Config) (held : ℕ → Held) (list : List MonitorRecord) (map : RecordMap) → IsValidConfig config → IsFine → StandsWithVolumes config held list map → AreReadable config held
stands-readable config held list map valid fine stands file line is =
    let volume = line-volume config file line valid is in
    of (stands.bases line.volume) (stands.volumes_spelled line.volume volume.0 volume.1)
  where
    of : (base : Option Base) → HasBase config line.volume (held (volume_device line.volume)) base → IsLost (held (volume_device line.volume)) ⊎ IsFineFile config line.volume file (held (volume_device line.volume))
    of None none = inl (λ f there. (none f there).1)
    of (Some base) (was, spelled, records) =
        let whole = fine config line.volume base.position (held (volume_device line.volume)) was spelled in
        inr (record { label = whole.label; blocks = whole.blocks.fine file })

pub up-ready : {D : Type 0} (held : D → Held) (config : Config) (devices : List (Fuse D)) (up : Up) (candidates : Option (List Candidate)) → RestsUp held config devices up candidates → IsReady config (held_at held devices) up
up-ready held config devices up None rests = rests
up-ready held config devices up (Some standings) rests = rests.0

-- so does each whole recovery: of each volume that its images have not lost nothing is wrong, so it spells contents
pub leaves-ready : {D : Type 0} (held : D → Held) (config : Config) (images : ℕ → Held) (new : List (Fuse D)) (recovered : Recovered) → IsValidConfig config → 1 ≤ recovered.epoch
    → HasRecoveredWithVolumes held config images new recovered → LeavesReady held config images new recovered
leaves-ready held config images new recovered valid begun has = record {
  ready = record {
    epoch = begun;
    trails = trails;
    volumes = λ volume line is. (left volume line is).rests;
    labels = λ volume line is. ⊎_elim inl (λ whole. inr whole.label) (left volume line is).readable;
    readable = λ file line is.
        let volume = line-volume config file line valid is in
        ⊎_elim inl (λ whole. inr (record { label = whole.label; blocks = whole.blocks.fine file })) (left line.volume volume.0 volume.1).readable;
    lost = subst (λ numbers. AreLost config now (lost_flags numbers)) (sym has.lost) (flags-lost config images now valid.volumes.few same);
  };
  lost = same;
  rests = λ map stands. ended.rests recovered.records map stands;
}
  where
    now : ℕ → Held
    now = held_at held new

    ended : EndsAtRest config images now recovered.epoch
    ended = has.ended now (held-is held new)

    left : (volume : ℕ) (line : Volume) → IsNumber config.volumes volume line → IsLeftVolume config volume (images (volume_device volume)) (now (volume_device volume))
    left volume line is = ended.at_rest volume line is

    same : (volume : ℕ) (line : Volume) → IsNumber config.volumes volume line → is_lost (now (volume_device volume)) ≡ is_lost (images (volume_device volume))
    same volume line is = (left volume line is).same_lost

    trails : TrailsRest config now
    trails zero few = (recovered.records ++ Start recovered.epoch ∷ [], has.begun now (held-is held new))
    trails (suc n) few = has.trails_rest now (held-is held new) (suc n) (omega arith) few

-- the device of a file's volume is one of the configuration's
pub file-node : (config : Config) (file : ℕ) → IsValidConfig config → IsDeclared config.files file → IsNodeDevice config (file_device config file)
file-node config file valid declared =
    let volume = file-volume config file valid declared in
    let within = number-within config.volumes (volume_on config file) volume.0 volume.1 in
    inr (inl (record { above = omega (arith, volume.1.0); below = omega (arith, within) }))

-- so a listing leaves the others as they were
pub list-others : {D : Type 0} (config : Config) (file : ℕ) (old new : List (Fuse D)) → IsValidConfig config → IsDeclared config.files file → SameBut (file_device config file) old new → SameOthers config old new
list-others config file old new valid declared same = λ number out. same number (λ is. out (subst (IsNodeDevice config) (sym is) (file-node config file valid declared)))

-- the epoch of a node that is up for a run
pub small-up : (is_so : Up → Bool) (o : Option Up) (up : Up) → unless is_so o ≡ Some up → IsBounded o → 1 ≤ up.epoch
small-up is_so o up is small = subst IsBounded (unless-some is_so o up is).0 small
