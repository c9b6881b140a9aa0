-- The states of a run's devices, before any of them is behind a lock.
use Rattle.std.specs.Prelude.{◌≡◌, ◌⊎◌, ℕ, ◌<◌, Bool, true, false, List, [], Option, Some, slice_get}
use Rattle.chronicle.specs.Seats.{own_events}
use Rattle.disc_lock.specs.Numbered.{IsDiscOf}
use Rattle.disk_model.specs.declared.disk.Disk as disk
use Rattle.node_machine.specs.Opening.{Found}
use Rattle.node_machine.specs.Parts.{PartState}
use Rattle.run_outcomes.specs.Devices.{IsUntouched, devices, dump_device, volume_device}
use Rattle.tmf_model.specs.Config.{IsDeclared, IsWithin}
use Rattle.run_states.specs.Post.{IsIdle}
use Rattle.run_states.specs.Volumes.{IsOfLost}
use Rattle.run_states.specs.declared.state.State.{State}
use Rattle.run_states.specs.declared.state.State.TheVariants.{Monitor, Writer, Disc, Dumper, Idle}

-- the device of a state
abbrev pub state_device : {D J C Q : Type 0} → State D J C Q → D
state_device (Monitor w) = w.trail.device
state_device (Writer w) = w.trail.device
state_device (Disc d) = d.blocks.device
state_device (Dumper w) = w.file.device
state_device (Idle aside) = aside.device

-- whether the device was set aside
abbrev pub is_idle : {D J C Q : Type 0} → State D J C Q → Bool
is_idle (Idle aside) = true
is_idle _ = false

-- whether it is the monitor's
abbrev pub is_monitor : {D J C Q : Type 0} → State D J C Q → Bool
is_monitor (Monitor w) = true
is_monitor _ = false

-- it is the monitor's, or was set aside; and the same of a trail's
abbrev pub IsMonitorOrIdle : {D J C Q : Type 0} → State D J C Q → Type 0
IsMonitorOrIdle (Monitor w) = Unit {0}
IsMonitorOrIdle (Idle aside) = Unit {0}
IsMonitorOrIdle _ = ⊥

abbrev pub IsWriterOrIdle : {D J C Q : Type 0} → State D J C Q → Type 0
IsWriterOrIdle (Writer w) = Unit {0}
IsWriterOrIdle (Idle aside) = Unit {0}
IsWriterOrIdle _ = ⊥

module _ {D J C Q : Type 0} (kind : disk.Ghosts D) (opening : List PartState) (found : Found) (faults : ℕ → ℕ) (handed_in : ℕ → Option D) (number : ℕ) where
  -- The state is that of the device with this number, which has had no event, or was set aside, and then has had no failed call; the device is the one that was handed in.
  abbrev pub IsStateOf : State D J C Q → Type 0
  IsStateOf (Monitor w) = (number ≡ 0) × (w.seat.part.events ≡ [])
  IsStateOf (Writer w) = (number ≡ w.seat.part.number) × (w.seat.part.events ≡ [])
  IsStateOf (Disc d) = (number ≡ volume_device d.part.number) × (d.part.events ≡ []) × IsDiscOf found d.part.number d
  IsStateOf (Dumper w) = (number ≡ dump_device w.seat.part.number) × (w.seat.part.events ≡ [])
  IsStateOf (Idle aside) = IsIdle kind opening faults handed_in number aside.device aside.seat

-- each is that of the device with the number of its place
abbrev pub AreStates : {D J C Q : Type 0} → disk.Ghosts D → List PartState → Found → (ℕ → ℕ) → (ℕ → Option D) → List (State D J C Q) → Type 0
AreStates {D} {J} {C} {Q} kind opening found faults handed_in states = (number : ℕ) (state : State D J C Q) → slice_get states number ≡ Some state → IsStateOf kind opening found faults handed_in number state

-- Why the device with this number has no part of its own in a run: the configuration leaves it out, and it is the one that was handed in; or it is that of a lost volume, or of its dumps.
abbrev pub IsLeftAlone : {D : Type 0} → disk.Ghosts D → Found → (ℕ → Option D) → ℕ → D → Type 0
IsLeftAlone kind found handed_in number device = (IsUntouched found.config number × (handed_in number ≡ Some device) × (number < devices)) ⊎ IsOfLost kind found handed_in number device

module _ {D J C Q : Type 0} (kind : disk.Ghosts D) (found : Found) (handed_in : ℕ → Option D) where
  -- The state is of the kind that the device with this number has in a run for which there was memory; of which device it is says `IsStateOf`.
  abbrev pub IsBuilt : ℕ → State D J C Q → Type 0
  IsBuilt number (Monitor w) = number ≡ 0
  IsBuilt number (Writer w) = IsWithin 1 4 number × IsDeclared found.config.trails number
  IsBuilt number (Disc d) = IsWithin 5 12 number
  IsBuilt number (Dumper w) = IsWithin 13 20 number
  IsBuilt number (Idle aside) = IsLeftAlone kind found handed_in number aside.device × (own_events aside.seat ≡ [])

  -- each is
  abbrev pub AreBuilt : List (State D J C Q) → Type 0
  AreBuilt states = (number : ℕ) (state : State D J C Q) → slice_get states number ≡ Some state → IsBuilt number state
