-- The device of a disc.
use Rattle.std.specs.Prelude.{ℕ, ◌+◌, ◌-◌, ◌^◌, ◌<◌, ◌≤◌, List, [], ◌∷◌, Option}
use Rattle.disk_model.specs.declared.disk.Disk as disk
use Rattle.node_machine.specs.declared.event.DiscEvent.{DiscEvent}
use Rattle.node_machine.specs.declared.event.DiscEvent.TheVariants as did
use Rattle.audit_writer.specs.Writer.{IsHandedIn}

-- the number of a volume's device
abbrev pub device_of : ℕ → ℕ
device_of volume = 4 + volume

-- how often a call of the disc's device has failed, as it has told
abbrev pub failures : List DiscEvent → ℕ
failures [] = 0
failures (did.Failed by ∷ events) = failures events + 1
failures (_ ∷ events) = failures events

-- the count of a device rose from the first one by as many failed calls at least, where it does not stand at its end
abbrev pub IsRise : ℕ → ℕ → List DiscEvent → Type 0
IsRise first now events = now < 2 ^ 64 - 1 → first + failures events ≤ now

-- it rose by one more: a call has failed, and that is not told yet
abbrev pub IsUntold : ℕ → ℕ → List DiscEvent → Type 0
IsUntold first now events = now < 2 ^ 64 - 1 → first + failures events + 1 ≤ now

-- the device is the one that was handed in, whose count stood so, as its calls have left it, and it has failed for each failure that the disc tells
pub record HoldsDevice {D : Type 0} (kind : disk.Ghosts D) (given : Option D) (first : ℕ) (device : D) (events : List DiscEvent) : Type 0 where
  pub handed : IsHandedIn kind given device
  pub rise : IsRise first (kind.faults device) events
