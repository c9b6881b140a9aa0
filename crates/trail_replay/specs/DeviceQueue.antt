-- Devices in a row.
use Rattle.std.specs.Prelude.{ℕ, List}

-- the devices in their order, and how many can be in the row without more memory
pub record DeviceQueueView (E : Type 0) : Type 0 where
  pub devices : List E
  pub room : ℕ
