-- What the listing of a file tells of the device of its volume.
use Rattle.std.specs.Prelude.{◌≡◌, ℕ, List}
use Rattle.disk_model.specs.Held.{Held}
use Rattle.tmf_model.specs.declared.config.Config.{Config}
use Rattle.volume_restore.specs.Bases.{volume_on}
use Rattle.volume_restore.specs.Listed.{IsFileListing, IsFineFile, TellsListing}
use Rattle.volume_restore.specs.declared.list.ListFault.{ListFault}
use Rattle.volume_restore.specs.declared.list.ListFault.TheVariants as fault
use Rattle.volume_recovery.specs.VolumeNode.{volume_device}
use Rattle.volume_recovery.specs.declared.errors.ListError.{ListError}
use Rattle.volume_recovery.specs.declared.errors.ListError.TheVariants.{Failed, Damaged, Lost, NoMemory}

-- the device of the volume that a file lies on
abbrev pub file_device : Config → ℕ → ℕ
file_device config file = volume_device (volume_on config file)

-- what the fault of the listing of a volume's file is to that of the node
abbrev pub file_error : ℕ → ListFault → ListError
file_error device fault.Lost = Lost
file_error device (fault.Damaged damage) = Damaged device damage
file_error device fault.Failed = Failed device
file_error device fault.NoMemory = NoMemory

-- The error tells why the file was not listed from this image of its volume: it has no label; or this device is its volume's, and its label is damaged
-- here first, or it is fine and the file is damaged here first.
abbrev pub TellsFileError : Config → ℕ → Held → ListError → Type 0
TellsFileError config file image (Failed device) = Unit {0}
TellsFileError config file image (Damaged device damage) = (device ≡ file_device config file) × TellsListing config (volume_on config file) file image (fault.Damaged damage)
TellsFileError config file image Lost = TellsListing config (volume_on config file) file image fault.Lost
TellsFileError config file image NoMemory = Unit {0}

-- What is told by the entries of a file that was listed from this image of its volume: nothing of the label and of the file is damaged, and they are the
-- records that the file's own blocks show.
pub record TellsFile (config : Config) (file : ℕ) (image : Held) (entries : List (List ℕ × List ℕ)) : Type 0 where
  pub fine : IsFineFile config (volume_on config file) file image
  pub listing : IsFileListing config (volume_on config file) file image entries
