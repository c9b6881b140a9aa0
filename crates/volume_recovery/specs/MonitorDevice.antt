-- The monitor trail's device of a bay, which is the first, as a device with the bay in hand.
use Rattle.std.specs.Prelude.{◌≡◌, ℕ, Bool, false, List, slice_get, Option, Some, None, refl}
use Rattle.std.specs.Option.{option_map_or}
use Rattle.std.proofs.Common.{◌∙◌}
use Rattle.disk_model.specs.Devices.{FuseAs, SameBut, held_at}
use Rattle.disk_model.specs.Fuse.{IsSameFuse, device_of, fuse_faults}
use Rattle.disk_model.specs.Held.{Held, File, IsSound}
use Rattle.disk_model.specs.SameFuse.{fuse_itself, fuse_on}
use Rattle.disk_model.specs.declared.disk.Disk as disk
use Rattle.disk_model.specs.declared.fuse.Fuse.{Fuse}
use Rattle.trail_files.specs.declared.monitor_record.MonitorRecord.{MonitorRecord}
use Rattle.trail_files.specs.Content.{Content, IsAtRest}
use Rattle.trail_files.specs.Holds.{Holds}
use Rattle.trail_files.specs.MonitorRecord.{monitor_format}
use Rattle.trail_files.specs.Text.{Spells}
use Rattle.trail_files.specs.Trail.{Reads, View}
use Rattle.trail_replay.specs.Rules.{monitor_formats}
use Rattle.volume_recovery.specs.declared.monitor_device.MonitorDevice.{MonitorDevice}

-- whether the first device tells its state
abbrev pub first_tells : {D : Type 0} → (D → Bool) → List (Fuse D) → Bool
first_tells tells bay = option_map_or (λ fuse. tells (device_of fuse)) (slice_get bay 0) false

-- how often the first fuse has failed
abbrev pub first_faults : {D : Type 0} → (D → ℕ) → List (Fuse D) → ℕ
first_faults faults bay = option_map_or (fuse_faults faults) (slice_get bay 0) 0

-- two states of a bay, of which the first device alone was worked on
pub record IsSameFirst {D : Type 0} (is_same : D → D → Type 0) (old new : List (Fuse D)) : Type 0 where
  pub others : SameBut 0 old new
  pub first : FuseAs (IsSameFuse is_same) (slice_get old 0) (slice_get new 0)

-- the first device is told of as it is
abbrev pub in_bay : {D : Type 0} → disk.Ghosts D → disk.Ghosts (MonitorDevice D)
in_bay kind = record {
  tells = λ m. first_tells kind.tells m.bay.now;
  held = λ m. held_at kind.held m.bay.now 0;
  faults = λ m. first_faults kind.faults m.bay.now;
  is_same = λ a b. (a.bay.ghost_name ≡ b.bay.ghost_name) × IsSameFirst kind.is_same a.bay.now b.bay.now;
}

-- these records rest on the trail that is open over the first device
pub record HasResting {D : Type 0} (kind : disk.Ghosts D) (trail : View (MonitorDevice D)) (list : List MonitorRecord) : Type 0 where
  pub content : Content MonitorRecord
  pub rests : IsAtRest content list
  pub holds : Holds (in_bay kind) monitor_formats trail content

-- the trail was opened over the first device, whose image spells these records, and gives them
pub record IsOpenedOn {D : Type 0} (kind : disk.Ghosts D) (image : Held) (trail : View (MonitorDevice D)) : Type 0 where
  pub list : List MonitorRecord
  pub spells : Spells monitor_format image list
  pub has : HasResting kind trail list
  pub reads : Reads (in_bay kind).held monitor_formats trail list

as_itself : {D : Type 0} (is_same : D → D → Type 0) → ((d : D) → is_same d d) → (o : Option (Fuse D)) → FuseAs (IsSameFuse is_same) o o
as_itself is_same itself None = tt
as_itself is_same itself (Some fuse) = fuse_itself is_same itself fuse

as_on : {D : Type 0} (is_same : D → D → Type 0) → ((a b c : D) → is_same a b → is_same b c → is_same a c)
    → (a b c : Option (Fuse D)) → FuseAs (IsSameFuse is_same) a b → FuseAs (IsSameFuse is_same) b c → FuseAs (IsSameFuse is_same) a c
as_on is_same on None None None p q = tt
as_on is_same on None None (Some c) p q = q
as_on is_same on None (Some b) c p q = absurd p
as_on is_same on (Some a) None c p q = absurd p
as_on is_same on (Some a) (Some b) None p q = q
as_on is_same on (Some a) (Some b) (Some c) p q = fuse_on is_same on a b c p q

pub first_itself : {D : Type 0} (is_same : D → D → Type 0) → ((d : D) → is_same d d) → (bay : List (Fuse D)) → IsSameFirst is_same bay bay
first_itself is_same itself bay = record { others = λ n other. refl; first = as_itself is_same itself (slice_get bay 0) }

pub first_on : {D : Type 0} (is_same : D → D → Type 0) → ((a b c : D) → is_same a b → is_same b c → is_same a c)
    → (a b c : List (Fuse D)) → IsSameFirst is_same a b → IsSameFirst is_same b c → IsSameFirst is_same a c
first_on is_same on a b c p q = record {
  others = λ n other. q.others n other ∙ p.others n other;
  first = as_on is_same on (slice_get a 0) (slice_get b 0) (slice_get c 0) p.first q.first;
}

held_sound : {D : Type 0} (held : D → Held) → ((d : D) (n : ℕ) (file : File) → held d n ≡ Some file → IsSound file) → (o : Option (Fuse D)) (n : ℕ) (file : File)
    → option_map_or (λ fuse. held (device_of fuse)) o (λ m. None) n ≡ Some file → IsSound file
held_sound held sound None n file is = absurd (cc)
held_sound held sound (Some fuse) n file is = sound (device_of fuse) n file is

pub first_sound : {D : Type 0} (held : D → Held) → ((d : D) (n : ℕ) (file : File) → held d n ≡ Some file → IsSound file) → (bay : List (Fuse D)) (n : ℕ) (file : File)
    → held_at held bay 0 n ≡ Some file → IsSound file
first_sound held sound bay n file is = held_sound held sound (slice_get bay 0) n file is
