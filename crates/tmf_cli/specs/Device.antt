-- The devices that the program makes: what each tells is what it wraps tells.
use Rattle.std.specs.Prelude.{◌≡◌, ◌+◌, ◌++◌, ℕ, Bool, true, false, List, [], codes, slice_get, Option, Some, None}
use Rattle.std.specs.Fmt.{decimal}
use Rattle.disk_model.specs.Held.{Held}
use Rattle.disk_model.specs.MemDisk.{held_of, listed_of, refused_of, IsUncalled}
use Rattle.tmf_cli.specs.declared.device.Device.{Device}
use Rattle.tmf_cli.specs.declared.device.Device.TheVariants.{Memory, Folder}

-- a device in memory tells its state, and a folder does not
abbrev pub tells_of : {R F P : Type 0} → Device R F P → Bool
tells_of (Memory disk) = true
tells_of (Folder disk) = false

-- what it holds, where it tells that
abbrev pub device_held : {R F P : Type 0} → Device R F P → Held
device_held (Memory disk) = held_of disk
device_held (Folder disk) = λ file. None

-- how often it has failed
abbrev pub device_faults : {R F P : Type 0} → Device R F P → ℕ
device_faults (Memory disk) = listed_of disk + refused_of disk
device_faults (Folder disk) = disk.faults

-- two states of one device: of a folder's, where the folder is the same
abbrev pub is_same_device : {R F P : Type 0} → Device R F P → Device R F P → Type 0
is_same_device (Memory old) (Memory new) = Unit {0}
is_same_device (Folder old) (Folder new) = old.device ≡ new.device
is_same_device (Memory old) (Folder new) = ⊥
is_same_device (Folder old) (Memory new) = ⊥

-- a device in memory that holds nothing, and of which no call is to fail
abbrev pub IsEmptyMemory : {R F P : Type 0} → Device R F P → Type 0
IsEmptyMemory (Memory disk) = ((file : ℕ) → held_of disk file ≡ None) × IsUncalled 0 [] disk
IsEmptyMemory (Folder disk) = ⊥

-- the device of the folder whose name is this number, in this folder, which has not failed
abbrev pub IsInFolder : {R F P : Type 0} → List ℕ → ℕ → Device R F P → Type 0
IsInFolder folder number (Memory disk) = ⊥
IsInFolder folder number (Folder disk) = (disk.device ≡ folder ++ codes "/" ++ decimal number) × (disk.faults ≡ 0)

-- a device as it is made: in this folder, or in memory
abbrev pub IsDeviceOf : {R F P : Type 0} → Option (List ℕ) → ℕ → Device R F P → Type 0
IsDeviceOf None number device = IsEmptyMemory device
IsDeviceOf (Some folder) number device = IsInFolder folder number device

-- each device of a list by its number
abbrev pub AreDevicesOf : {R F P : Type 0} → Option (List ℕ) → List (Device R F P) → Type 0
AreDevicesOf {R} {F} {P} folder devices = (number : ℕ) (device : Device R F P) → slice_get devices number ≡ Some device → IsDeviceOf folder number device
