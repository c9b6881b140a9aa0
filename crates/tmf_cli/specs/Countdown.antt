-- The countdown of a bay: which actions it may cut off, and what is so of the fuses behind them.
use Rattle.std.specs.Prelude.{◌≡◌, ◌⊎◌, ℕ, List, slice_get, Option, Some, None, false, true}
use Rattle.std.specs.List.{AllByRecursion}
use Rattle.disk_model.specs.Devices.{EachFuse, NoneFalls}
use Rattle.disk_model.specs.Fuse.{cuts_of, device_of, is_armed}
use Rattle.disk_model.specs.declared.fuse.Fuse.{Fuse}
use Rattle.tmf_model.specs.declared.script.Action.{Action}
use Rattle.tmf_model.specs.declared.script.Action.TheVariants.{Format, Recover, Run, Lose, Rollforward, List as ListFile}

-- after how many device calls an action is cut off, where its line has `kill`
abbrev pub kill_of : Action → Option ℕ
kill_of Format = None
kill_of (Recover kill) = kill
kill_of (Run phase) = phase.kill
kill_of (Lose volume) = None
kill_of (Rollforward volume kill) = kill
kill_of (ListFile file) = None

-- none of the actions is to be cut off
abbrev pub NoneKilled : List Action → Type 0
NoneKilled actions = AllByRecursion (λ action. kill_of action ≡ None) actions

-- the countdown is off: no fuse is armed
abbrev pub IsOff : {D : Type 0} → List (Fuse D) → Type 0
IsOff {D} fuses = (n : ℕ) (fuse : Fuse D) → slice_get fuses n ≡ Some fuse → is_armed fuse ≡ false

-- it is on: each fuse is armed
abbrev pub IsOn : {D : Type 0} → List (Fuse D) → Type 0
IsOn {D} fuses = (n : ℕ) (fuse : Fuse D) → slice_get fuses n ≡ Some fuse → is_armed fuse ≡ true

-- no call was cut of any fuse
abbrev pub NoneCut : {D : Type 0} → List (Fuse D) → List (Fuse D) → Type 0
NoneCut old new = EachFuse (λ a b. cuts_of b ≡ cuts_of a) old new

-- The counts of a bay behind an action, or a row of them: no fuse's count of faults fell; where nothing is to be cut off, no call was cut; and the countdown is off.
pub record KeepsCounts {D : Type 0} (faults : D → ℕ) (unkilled : Type 0) (old new : List (Fuse D)) : Type 0 where
  pub falls : NoneFalls faults old new
  pub uncut : unkilled → NoneCut old new
  pub off : IsOff new

-- at most a fuse was switched on or off: its device is as it was, and so is the count of its calls that were cut
abbrev pub IsSwitched : {D : Type 0} → Fuse D → Fuse D → Type 0
IsSwitched old new = (device_of new ≡ device_of old) × (cuts_of new ≡ cuts_of old)

-- at most the countdown was switched on or off
abbrev pub Switches : {D : Type 0} → List (Fuse D) → List (Fuse D) → Type 0
Switches old new = EachFuse IsSwitched old new

-- this is so of the devices as they were handed in; or once the countdown was switched off
abbrev pub OnceSwitched : {D : Type 0} → (List (Fuse D) → Type 0) → List (Fuse D) → Type 0
OnceSwitched {D} P old = P old ⊎ ((opened : List (Fuse D)) × Switches old opened × IsOff opened × P opened)
