-- What the run's name carries of its volumes, and the devices of a volume that was lost.
use Rattle.std.specs.Prelude.{◌≡◌, ◌⊎◌, ℕ, List, Option, Some, None, IsSome, IsTrue}
use Rattle.disc_process.specs.Damage.{HoldsAsGiven}
use Rattle.disk_model.specs.declared.disk.Disk as disk
use Rattle.keyed_file.specs.Volume.{IsLost}
use Rattle.node_machine.specs.Opening.{Found, VolumeFound, found_volume, opening_parts}
use Rattle.node_machine.specs.Parts.{PartState}
use Rattle.tmf_model.specs.Config.{IsDeclared, IsValidConfig}
use Rattle.trail_files.specs.StandsFor.{Base}
use Rattle.run_outcomes.specs.Devices.{dump_device, told_in, volume_device}
use Rattle.run_outcomes.specs.Found.{ToldBase, ToldDump}

-- The run has opened with what was found. Its configuration is valid, and no volume was found that is not declared. A volume that was found, and told what it holds with nothing at
-- risk, told a base, and was found with its values. What is said of a dump device under a premise holds where that told its dump, or that it has none.
pub record AreVolumesNamed {D : Type 0} (kind : disk.Ghosts D) (opening : List PartState) (found : Found) (premise : ℕ → Type 0) (handed_in : ℕ → Option D) : Type 0 where
  pub opens : opening ≡ opening_parts found
  pub valid : IsValidConfig found.config
  pub declared : (volume : ℕ) (entry : VolumeFound) → found_volume found volume ≡ Some entry → IsDeclared found.config.volumes volume
  pub based : (volume : ℕ) (entry : VolumeFound) (base : Option Base) → found_volume found volume ≡ Some entry → ToldBase found.config (told_in kind handed_in) volume base
      → IsSome base × IsSome entry.base
  pub dumps : (volume : ℕ) (dump : Option Base) → ToldDump found.config (told_in kind handed_in) volume dump → premise (dump_device volume)

-- The device with this number is that of a volume that is declared and was found lost, and has no label, if it tells what it holds; or it is that of the dumps of such a volume. It
-- holds what it held when it was handed in.
pub record IsOfLost {D : Type 0} (kind : disk.Ghosts D) (found : Found) (handed_in : ℕ → Option D) (number : ℕ) (device : D) : Type 0 where
  pub volume : ℕ
  pub declared : IsDeclared found.config.volumes volume
  pub none : found_volume found volume ≡ None
  pub place : ((number ≡ volume_device volume) × (IsTrue (kind.tells device) → IsLost (kind.held device))) ⊎ (number ≡ dump_device volume)
  pub as_given : HoldsAsGiven kind (handed_in number) device
