-- Why a step was refused where no act tells it.
use Rattle.std.specs.Prelude.{◌≡◌, ◌⊎◌, ℕ, ◌≤◌, List, [], ◌∷◌, Option, Some, None}
use mathlib.Core.List.{IsPrefix}
use Rattle.disk_model.specs.declared.disk.Disk as disk
use Rattle.keyed_file.specs.declared.home.Home.{Home}
use Rattle.tmf_model.specs.declared.config.Config.{Config}
use Rattle.tmf_model.specs.declared.script.Step.{Step}
use Rattle.tmf_model.specs.declared.transid.Transid.{Transid}
use Rattle.trail_files.specs.declared.damage.Damage.{Damage}
use Rattle.chronicle.specs.Histories.{states_after}
use Rattle.chronicle.specs.Seats.{HasNewlySeen, Sight}
use Rattle.node_machine.specs.declared.event.By.TheVariants.{Attempt}
use Rattle.node_machine.specs.declared.event.DiscEvent.TheVariants as did
use Rattle.node_machine.specs.declared.event.Event.{Event}
use Rattle.node_machine.specs.declared.event.Event.TheVariants.{OfDisc, OfTrail}
use Rattle.node_machine.specs.declared.event.TrailEvent.TheVariants as trail
use Rattle.node_machine.specs.Deeds.{Log, count_of}
use Rattle.node_machine.specs.Made.{blocks_of, home_block, volume_of}
use Rattle.node_machine.specs.Node.{node}
use Rattle.node_machine.specs.Opening.{disc_part, trail_part, worker_part}
use Rattle.node_machine.specs.Parts.{PartState}
use Rattle.node_machine.specs.Same.{Among}
use Rattle.node_machine.specs.Trail.{trail_of}
use Rattle.txn_states.specs.Txn.{Txn}
use Rattle.disc_process.specs.declared.refused.WriteRefused.{WriteRefused}
use Rattle.disc_process.specs.declared.refused.WriteRefused.TheVariants as refused
use Rattle.disc_process.specs.Damage.{HadBadBlock, WasRight}
use Rattle.disc_process.specs.Disc.{DiscView}
use Rattle.disc_process.specs.Later.{IsLaterDisc, IsLawful}
use Rattle.disc_process.specs.Write.{IsCrowded}
use Rattle.run_outcomes.specs.Devices.{volume_device}
use Rattle.run_outcomes.specs.Ends.{next_at}
use Rattle.run_outcomes.specs.Told.{last_position}

-- The part is the worker's, the disc's or its trail's, and has had as many events as the limit allows among these; or it is the disc's, which gives out no further position behind them.
pub record IsSpentAt (opening : List PartState) (config : Config) (volume : ℕ) (t : Transid) (seen : Log) (part : ℕ) : Type 0 where
  pub which : Among (worker_part t.worker ∷ disc_part volume ∷ trail_part (trail_of config volume) ∷ []) part
  pub spent : (config.steps ≤ count_of part seen) ⊎ ((part ≡ disc_part volume) × (last_position ≤ next_at (states_after node opening seen) volume))

-- the device is the trail's of the volume, or the volume's, and the seat has newly seen that it failed for the attempt
abbrev pub HasFailedAt : Config → ℕ → Transid → Sight Event → Sight Event → ℕ → Type 0
HasFailedAt config volume t old new device =
    ((device ≡ trail_of config volume) × HasNewlySeen (trail_part (trail_of config volume)) (OfTrail (trail.Failed (Attempt t))) old new)
    ⊎ ((device ≡ volume_device volume) × HasNewlySeen (disc_part volume) (OfDisc (did.Failed (Attempt t))) old new)

-- the block of the step's key
abbrev pub step_home : Config → Step → Home
step_home config step = record { file = step.file; number = home_block config step.file step.key; blocks = blocks_of config step.file }

-- The device is the volume's. As it was handed in, the bytes of the block of the step's key broke the format here first, if it told what it held; or nothing was wrong in them then, and that
-- block would pass its most records. Its disc says so in one hold of its lock: at first it had met what the attempt's seat had seen, and what it has seen at last that seat has seen too. The volume told no values at the opening.
pub record IsDamagedAt {D : Type 0} (kind : disk.Ghosts D) (opening : List PartState) (config : Config) (devices : ℕ → Option D) (old new : Sight Event) (step : Step) (device : ℕ) (damage : Damage) : Type 0 where
  pub device_is : device ≡ volume_device (volume_of config step.file)
  pub given : D
  pub handed_in : devices device ≡ Some given
  pub first : DiscView D
  pub last : DiscView D
  pub number_is : first.part.number ≡ volume_of config step.file
  pub config_is : first.part.config ≡ config
  pub met : IsPrefix old.seen first.seat.seen
  pub later : IsLaterDisc opening first last
  pub lawful : IsLawful kind opening last
  pub seen : new.seen ≡ last.seat.seen
  pub baseless : first.part.base ≡ None
  pub bad : HadBadBlock kind (Some given) (step_home config step) damage ⊎ (WasRight kind (Some given) (step_home config step) × IsCrowded kind (Some given) first.part last.blocks step damage)

-- why a step of the attempt was refused: of what an act tells, and of want of memory, nothing more
abbrev pub IsStepRefusal : {D : Type 0} → disk.Ghosts D → List PartState → Config → (ℕ → Option D) → Txn → Sight Event → Step → WriteRefused → Type 0
IsStepRefusal kind opening config devices old new step (refused.Spent part) = IsSpentAt opening config (volume_of config step.file) old.tx new.seen part
IsStepRefusal kind opening config devices old new step (refused.Failed device) = HasFailedAt config (volume_of config step.file) old.tx old.seat new device
IsStepRefusal kind opening config devices old new step (refused.Damaged device damage) = IsDamagedAt kind opening config devices old.seat new step device damage
IsStepRefusal kind opening config devices old new step _ = Unit {0}
