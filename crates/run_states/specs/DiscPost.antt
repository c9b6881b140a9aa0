-- What a disc gives back, and what of it makes a device and its seat of a run.
use Rattle.std.specs.Prelude.{◌≡◌, ℕ, List, Option, IsSome}
use Rattle.audit_writer.specs.Writer.{IsHandedIn}
use Rattle.disc_process.specs.Disc.{AreHomes, DiscView}
use Rattle.disc_process.specs.Later.{IsLawful}
use Rattle.disc_process.specs.Shown.{IsShown}
use Rattle.disk_model.specs.declared.disk.Disk as disk
use Rattle.keyed_file.specs.Volume.{label_of}
use Rattle.node_machine.specs.Opening.{Found}
use Rattle.node_machine.specs.Parts.{PartState}
use Rattle.node_machine.specs.Parts.PartState.{Disc}
use Rattle.tmf_model.specs.Config.{IsWithin}
use Rattle.trail_files.specs.StandsFor.{Base}
use Rattle.run_outcomes.specs.Devices.{told_in, volume_device}
use Rattle.run_outcomes.specs.Ends.{failures_of}
use Rattle.run_outcomes.specs.Found.{ToldBase}
use Rattle.run_states.specs.Post.{IsPost}
use Rattle.run_outcomes.specs.Run.{RoseBy}

-- Beside what holds of every disc: its configuration is the run's, its label is that of its volume, its device is the one that was handed in, whose count rose for each failed
-- call, and it has the values of the opening where the volume told a base.
pub record IsOfRun {D : Type 0} (kind : disk.Ghosts D) (found : Found) (faults : ℕ → ℕ) (handed_in : ℕ → Option D) (disc : DiscView D) : Type 0 where
  pub config : disc.part.config ≡ found.config
  pub number : IsWithin 1 8 disc.part.number
  pub homes : AreHomes disc.part
  pub label : disc.blocks.label ≡ label_of disc.part.config disc.part.number disc.blocks.label.low
  pub device : IsHandedIn kind (handed_in (volume_device disc.part.number)) disc.blocks.device
  pub rise : RoseBy (failures_of (Disc disc.part)) (faults (volume_device disc.part.number)) (kind.faults disc.blocks.device)
  pub told : (base : Option Base) → ToldBase found.config (told_in kind handed_in) disc.part.number base → IsSome base × IsSome disc.part.base

-- A disc of the run that was taken apart makes a device and its seat.
abbrev pub DiscPostLaw : {D : Type 0} → disk.Ghosts D → Type 0
DiscPostLaw {D} kind =
    (opening : List PartState) (found : Found) (faults : ℕ → ℕ) (handed_in : ℕ → Option D) (disc : DiscView D) → IsLawful kind opening disc → IsShown kind disc → IsOfRun kind found faults handed_in disc
    → IsPost kind opening found faults handed_in (volume_device disc.part.number) disc.blocks.device disc.seat
