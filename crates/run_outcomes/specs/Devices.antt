-- The devices of a node by their numbers, and the parts that they belong to.
use Rattle.std.specs.Prelude.{◌≡◌, ◌≢◌, ℕ, ◌+◌, ◌-◌, ◌<◌, ◌≤◌, ◌==◌, nat_le, IsTrue, List, length, Option, Some, None, slice_get, option_and_then, if◌then◌else◌}
use Rattle.std.specs.Option.{option_map_or}
use Rattle.disk_model.specs.Frame.{IsLater}
use Rattle.disk_model.specs.Fuse.{IsSameFuse, device_of, fuse_faults}
use Rattle.disk_model.specs.Held.{Held, IfThere, Rose}
use Rattle.disk_model.specs.declared.disk.Disk as disk
use Rattle.disk_model.specs.declared.fuse.Fuse.{Fuse}
use Rattle.tmf_model.specs.Config.{IsNumber, IsWithin}
use Rattle.tmf_model.specs.declared.config.Config.{Config}
use Rattle.tmf_model.specs.declared.config.Volume.{Volume}
use Rattle.trail_files.specs.Landed.{IsSettled}
use Rattle.node_machine.specs.Opening.{disc_part, dump_part, monitor_part, trail_part}

-- the device of the monitor trail; that of an audit trail has the trail's number
abbrev pub monitor_device : ℕ
monitor_device = 0

-- the device of a volume, and that of its dumps
abbrev pub volume_device : ℕ → ℕ
volume_device volume = 4 + volume

abbrev pub dump_device : ℕ → ℕ
dump_device volume = 12 + volume

-- how many devices, workers and discs a node has
abbrev pub devices : ℕ
devices = 21

abbrev pub workers : ℕ
workers = 16

abbrev pub discs : ℕ
discs = 8

-- the part that a device belongs to, by the device's number
abbrev pub part_of_device : ℕ → ℕ
part_of_device device =
    if device == 0 then monitor_part
    else if nat_le device 4 then trail_part device
    else if nat_le device 12 then disc_part (device - 4)
    else dump_part (device - 12)

-- the device is that of no trail, volume or dump of the configuration
pub record IsUntouched (config : Config) (device : ℕ) : Type 0 where
  pub trail : length config.trails < device
  pub volume : (number : ℕ) (line : Volume) → IsNumber config.volumes number line → device ≢ volume_device number
  pub dump : (number : ℕ) (line : Volume) → IsNumber config.volumes number line → device ≢ dump_device number

-- the kind of a device in its fuse, where this is that of the device
abbrev pub fuse_kind : {D : Type 0} → disk.Ghosts D → disk.Ghosts (Fuse D)
fuse_kind kind = record { tells = λ f. kind.tells (device_of f); held = λ f. kind.held (device_of f); faults = fuse_faults kind.faults; is_same = IsSameFuse kind.is_same }

module _ {D : Type 0} (kind : disk.Ghosts D) where
  -- what a device holds, where it tells that
  abbrev pub told_of : D → Option Held
  told_of device = if kind.tells device then Some (kind.held device) else None

  -- what the device with this number holds, where it tells that
  abbrev pub told_by : List D → ℕ → Option Held
  told_by devices number = option_and_then told_of (slice_get devices number)

  -- what the devices that were handed in told, by their numbers
  abbrev pub told_in : (ℕ → Option D) → ℕ → Option Held
  told_in handed_in number = option_and_then told_of (handed_in number)

  -- what the device with this number holds; nothing where there is none
  abbrev pub held_by : List D → ℕ → Held
  held_by devices number = option_map_or kind.held (slice_get devices number) (λ n. None)

  -- every device up to the one with this number tells what it holds
  abbrev pub TellUpTo : ℕ → List D → Type 0
  TellUpTo last devices = (number : ℕ) (device : D) → number ≤ last → slice_get devices number ≡ Some device → IsTrue (kind.tells device)

  -- each device is the one that stood in its place, as calls on it leave it
  abbrev pub AreLaterDevices : List D → List D → Type 0
  AreLaterDevices old new = (number : ℕ) (before after : D) → slice_get old number ≡ Some before → slice_get new number ≡ Some after → IsLater kind before after

  -- each device holds what the one in its place held
  abbrev pub HeldSame : List D → List D → Type 0
  HeldSame old new = (number : ℕ) (before after : D) → slice_get old number ≡ Some before → slice_get new number ≡ Some after → kind.held after ≡ kind.held before

  -- As many devices as were handed in: each is the one that stood in its place, at a later moment, and those that the configuration leaves out are as they were.
  pub record AreReturned (config : Config) (old new : List D) : Type 0 where
    pub count : length new ≡ length old
    pub later : AreLaterDevices old new
    pub untouched : (device : ℕ) → IsUntouched config device → slice_get new device ≡ slice_get old device

  -- the count of faults of the device with this number rose
  pub record CountRoseAt (old new : List D) (number : ℕ) : Type 0 where
    pub before : D
    pub after : D
    pub was : slice_get old number ≡ Some before
    pub is : slice_get new number ≡ Some after
    pub rose : Rose (kind.faults before) (kind.faults after)

-- nothing is at risk of a dump's label and of its two bodies
abbrev pub DumpRests : Held → Type 0
DumpRests held = (file : ℕ) → IsWithin 1 3 file → IfThere held file IsSettled
