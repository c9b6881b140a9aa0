-- Whose disc a state is.
use Rattle.std.specs.Prelude.{◌≡◌, ℕ}
use Rattle.node_machine.specs.Opening.{Found}
use Rattle.disc_process.specs.Disc.{DiscView}
use Rattle.disc_process.specs.InTime.{IsInTime}

-- The disc is that of the volume with this number, under the configuration that the run has found. Each step of an attempt that its seat has seen there comes before the
-- attempt's worker has ended its steps.
pub record IsDiscOf {D : Type 0} (found : Found) (volume : ℕ) (disc : DiscView D) : Type 0 where
  pub number : disc.part.number ≡ volume
  pub config : disc.part.config ≡ found.config
  pub in_time : IsInTime disc.seat
