-- What a run stands on once it has a name.
use Rattle.std.specs.Prelude.{◌≡◌, ◌≤◌, ℕ, true, List, [], length, Option}
use Rattle.disk_model.specs.declared.disk.Disk as disk
use Rattle.node_machine.specs.Opening.{Found}
use Rattle.node_machine.specs.Parts.{PartState}
use Rattle.run_opening.specs.declared.opening.Opened.{Opened}
use Rattle.run_outcomes.specs.Devices.{told_in}
use Rattle.run_outcomes.specs.Found.{AreFoundWithValues}
use Rattle.run_states.specs.Begun.{MayBegin}
use Rattle.run_states.specs.Post.{IsNamed}
use Rattle.run_states.specs.Volumes.{AreVolumesNamed}
use Rattle.tmf_model.specs.Transid.{is_between}
use Rattle.tmf_model.specs.declared.config.Config.{Config}
use Rattle.tmf_model.specs.declared.script.Phase.{Phase}
use Rattle.trail_files.specs.declared.monitor_record.MonitorRecord.{MonitorRecord}
use Rattle.trail_files.specs.declared.rules.Rules.{Rules}
use Rattle.worker_thread.specs.Work.{IsPhaseOf}

-- All devices of a node are kept, and there is room for them.
pub record AreAllKept {D : Type 0} (opened : Opened D) : Type 0 where
  pub count : length opened.kept.items ≡ 21
  pub no_more : opened.row.devices ≡ []
  pub room : 21 ≤ opened.row.room

-- The devices of some node were opened for a run of this configuration and epoch, and its name carries what is kept of them.
pub record MayRun {D : Type 0} (kind : disk.Ghosts D) (config : Config) (epoch : ℕ) (opened : Opened D) (opening : List PartState) (found : Found) (before : List MonitorRecord) (rules : ℕ → Rules) (faults : ℕ → ℕ) (premise : ℕ → Type 0) (handed_in : ℕ → Option D) : Type 0 where
  pub named : List ℕ
  pub old : List D
  pub may : MayBegin kind config epoch named old opened opening found before rules faults premise handed_in

-- What the run's name carries is what its locks, its threads and its end ask.
pub record IsUnderName {D : Type 0} (kind : disk.Ghosts D) (opening : List PartState) (found : Found) (before : List MonitorRecord) (rules : ℕ → Rules) (faults : ℕ → ℕ) (premise : ℕ → Type 0) (handed_in : ℕ → Option D) : Type 0 where
  pub named : IsNamed kind found before rules faults premise handed_in
  pub volumes : AreVolumesNamed kind opening found premise handed_in
  pub values : AreFoundWithValues found.config (told_in kind handed_in) found

-- The configuration and the epoch are those of the run. Its items are valid, and each volume that they name was found.
pub record IsRunOf (found : Found) (config : Config) (phase : Phase) (epoch : ℕ) : Type 0 where
  pub config_is : config ≡ found.config
  pub epoch_is : epoch ≡ found.epoch
  pub within : is_between 1 4294967295 epoch ≡ true
  pub phase_is : IsPhaseOf found phase
