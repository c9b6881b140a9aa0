-- What the name of a run says of its volumes.
use Rattle.std.specs.Prelude.{◌≡◌, ℕ, List, Option}
use Rattle.disk_model.specs.declared.disk.Disk as disk
use Rattle.node_machine.specs.Opening.{Found, opening_parts}
use Rattle.node_machine.specs.Parts.{PartState}
use Rattle.run_outcomes.specs.Devices.{told_in}
use Rattle.run_outcomes.specs.Found.{AreFoundWithValues}

-- The run has opened with what was found. Each volume that was found, and whose device told a base as it was handed in, was found with its values.
pub record IsRunNamed {D : Type 0} (kind : disk.Ghosts D) (opening : List PartState) (found : Found) (devices : ℕ → Option D) : Type 0 where
  pub opens : opening ≡ opening_parts found
  pub values : AreFoundWithValues found.config (told_in kind devices) found
