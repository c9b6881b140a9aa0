-- What a call keeps of the device that it works on.
use Rattle.std.specs.Prelude.{◌≡◌, ◌≤◌, Result, IsErr}
use Rattle.disk_model.specs.Held.{Rose}
use Rattle.disk_model.specs.declared.disk.Disk as disk

-- it is the same device, it tells its state as before, and its count of faults did not fall
pub record IsLater {D : Type 0} (kind : disk.Ghosts D) (old new : D) : Type 0 where
  pub device : kind.is_same old new
  pub tells : kind.tells new ≡ kind.tells old
  pub later : kind.faults old ≤ kind.faults new

-- a call with this result has worked on the device, whose count of faults rose where the call failed
pub record WorksOn {D T E : Type 0} (kind : disk.Ghosts D) (old new : D) (result : Result T E) : Type 0 where
  pub is_later : IsLater kind old new
  pub failed : IsErr result → Rose (kind.faults old) (kind.faults new)
