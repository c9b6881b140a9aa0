-- What the opening of a trail over its device leaves of both.
use Rattle.std.specs.Prelude.{◌≡◌, List, [], IsTrue}
use Rattle.disk_model.specs.Frame.{IsLater}
use Rattle.disk_model.specs.declared.disk.Disk as disk
use Rattle.tmf_model.specs.declared.config.Config.{Config}
use Rattle.trail_files.specs.declared.rules.Rules.{Rules}
use Rattle.trail_files.specs.declared.trail.TrailPhase.TheVariants.{Ready}
use Rattle.trail_files.specs.Format.{Format}
use Rattle.trail_files.specs.Text.{Spells}
use Rattle.trail_files.specs.Trail.{View, IsWritable, Reads, Rests}
use Rattle.trail_replay.specs.Landed.{HasLanded}

-- a device that is the same one, and of which a call has read alone
pub record IsReread {D : Type 0} (kind : disk.Ghosts D) (old new : D) : Type 0 where
  pub is_later : IsLater kind old new
  pub same : kind.held new ≡ kind.held old

-- a trail as it is opened over a device: it has landed what rests there, and gives what is spelled there
pub record IsOpened {D R : Type 0} (kind : disk.Ghosts D) (format : Rules → Format R) (rules : Rules) (device : D) (trail : View D) : Type 0 where
  pub landed : (records : List R) → IsTrue (kind.tells device) → Rests (format rules) (kind.held device) records → HasLanded kind format trail records
  pub reads : (records : List R) → IsTrue (kind.tells device) → Spells (format rules) (kind.held device) records → Reads kind.held format trail records
  pub spelled : IsTrue (kind.tells device) → (records : List R) × Spells (format rules) (kind.held device) records
  pub ready : trail.phase ≡ Ready
  pub ruled : trail.rules ≡ rules
  pub writable : IsWritable kind.tells kind.held trail
  pub reread : IsReread kind device trail.device

-- what the records of the monitor trail keep to, which has no audit
abbrev pub rules_of_node : Config → Rules
rules_of_node config = record { roll = config.roll; trail = 0; discs = []; files = [] }
