-- How a run over devices that were opened is one over the devices that were handed in.
use Rattle.std.specs.Prelude.{◌≡◌, ℕ, List, length, map, slice_get, Result, MatchResult}
use Rattle.disk_model.specs.declared.disk.Disk as disk
use Rattle.node_machine.specs.Opening.{opening_parts}
use Rattle.node_machine.specs.Parts.{PartState}
use Rattle.node_run.specs.Closing.{IsRunOver}
use Rattle.node_run.specs.Listed.{Listing}
use Rattle.run_opening.specs.Found.{IsOnlyList, found_of}
use Rattle.run_opening.specs.Kept.{device_kept}
use Rattle.run_opening.specs.Opening.{AreOpened}
use Rattle.run_opening.specs.declared.opening.Opened.{Opened}
use Rattle.run_outcomes.specs.Devices.{AreReturned, TellUpTo, told_in}
use Rattle.run_outcomes.specs.Run.{HasNotRun, HasRun, IsUnfit, volumes_named}
use Rattle.run_outcomes.specs.declared.outcome.Outcome.{Outcome}
use Rattle.run_outcomes.specs.declared.outcome.PhaseError.{PhaseError}
use Rattle.run_outcomes.specs.declared.outcome.PhaseError.TheVariants as error
use Rattle.run_states.specs.Begun.{MayBegin, Resting, device_in, faults_in}
use Rattle.tmf_model.specs.Config.{IsValidConfig}
use Rattle.tmf_model.specs.Script.{IsValidPhase}
use Rattle.tmf_model.specs.declared.config.Config.{Config}
use Rattle.tmf_model.specs.declared.script.Phase.{Phase}
use Rattle.trail_files.specs.declared.damage.Damage.{Damage}
use Rattle.trail_files.specs.declared.monitor_record.MonitorRecord.{MonitorRecord}
use Rattle.trail_replay.specs.Rules.{rules_of}
use Rattle.worker_thread.specs.Work.{IsPhaseOf}

-- These are all devices of a node, and they were opened for this phase.
pub record AreOpenedFor {D : Type 0} (kind : disk.Ghosts D) (config : Config) (phase : Phase) (epoch : ℕ) (old : List D) (opened : Opened D) : Type 0 where
  pub count : length old ≡ 21
  pub are : AreOpened kind config epoch (volumes_named config phase) old opened

-- Where a device is unfit, and all up to it tell what they hold, no worker begins, and no other damage is told than the first.
abbrev pub IsExactTold : {D T : Type 0} → disk.Ghosts D → Config → Phase → ℕ → List D → Result T PhaseError → Type 0
IsExactTold kind config phase epoch old result = (device : ℕ) (damage : Damage) → TellUpTo kind device old → IsUnfit kind config phase epoch old device damage
    → MatchResult result (λ _. ⊥) (λ why. (other : ℕ) (told : Damage) → why ≡ error.Damaged other told → (other ≡ device) × (told ≡ damage))

module _ {D : Type 0} (kind : disk.Ghosts D) where
  -- A run that is over, of devices that were opened for it, is a run of the devices that were handed in, which come back.
  abbrev pub OverLaw : Type 0
  OverLaw =
      (config : Config) (phase : Phase) (epoch : ℕ) (old left : List D) (opened : Opened D) (outcomes : List Outcome) → IsValidConfig config → AreOpenedFor kind config phase epoch old opened
      → IsRunOver kind (found_of kind config epoch opened.kept.items) phase (faults_in kind opened.kept.items) (device_in opened.kept.items) outcomes left
      → HasRun kind config phase epoch old left outcomes × AreReturned kind config old left

  -- Devices that were opened alone come back, and no worker has begun.
  abbrev pub ClosedLaw : Type 0
  ClosedLaw =
      (config : Config) (phase : Phase) (epoch : ℕ) (named : List ℕ) (old : List D) (opened : Opened D) → IsValidConfig config → length old ≡ 21 → AreOpened kind config epoch named old opened
      → HasNotRun kind config phase epoch old (map device_kept opened.kept.items) error.NoMemory × AreReturned kind config old (map device_kept opened.kept.items)

  -- Of devices that were opened for a phase each volume that the phase names was found.
  abbrev pub PhaseLaw : Type 0
  PhaseLaw =
      (config : Config) (phase : Phase) (epoch : ℕ) (old : List D) (opened : Opened D) → IsValidConfig config → IsValidPhase config phase
      → AreOpenedFor kind config phase epoch old opened → IsPhaseOf (found_of kind config epoch opened.kept.items) phase

  -- There is a list of the monitor trail that was opened, if it tells one.
  abbrev pub ListedLaw : Type 0
  ListedLaw =
      (config : Config) (epoch : ℕ) (named : List ℕ) (old : List D) (opened : Opened D) → length old ≡ 21 → AreOpened kind config epoch named old opened
      → Listing (told_in kind (device_in opened.kept.items) 0)

  -- Of devices that were opened for a phase a run may begin whose name carries what is kept of them, with a list of the monitor trail that is the only one that it told.
  abbrev pub BeginLaw : Type 0
  BeginLaw =
      (config : Config) (phase : Phase) (epoch : ℕ) (old : List D) (opened : Opened D) (list : List MonitorRecord) (opening : List PartState) → IsValidConfig config → AreOpenedFor kind config phase epoch old opened
      → ((same : Config) → IsOnlyList same (told_in kind (device_in opened.kept.items)) list) → opening ≡ opening_parts (found_of kind config epoch opened.kept.items)
      → MayBegin kind config epoch (volumes_named config phase) old opened opening (found_of kind config epoch opened.kept.items) list
      (rules_of config) (faults_in kind opened.kept.items) (λ n. Resting kind list (slice_get opened.kept.items n)) (device_in opened.kept.items)
