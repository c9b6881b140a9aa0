-- What is so of the outcomes of a run of one worker: each ends as its item does on the map that those before it leave.
use Rattle.std.specs.Prelude.{◌≡◌, ℕ, suc, ◌+◌, false, List, [], ◌∷◌, Contains, length, take, slice_get, Some}
use Rattle.disk_model.specs.Devices.{DevicesTell, held_at}
use Rattle.disk_model.specs.Held.{Held}
use Rattle.disk_model.specs.declared.disk.Disk as disk
use Rattle.disk_model.specs.declared.fuse.Fuse.{Fuse}
use Rattle.run_outcomes.specs.Devices.{devices, fuse_kind}
use Rattle.run_outcomes.specs.Outcomes.{first_attempt, is_last}
use Rattle.run_outcomes.specs.Run.{HasRun}
use Rattle.run_outcomes.specs.declared.outcome.Outcome.{Outcome}
use Rattle.run_outcomes.specs.declared.outcome.Told.TheVariants.{Controlled, Dumped}
use Rattle.run_standing.specs.Made.{HasMade}
use Rattle.run_standing.specs.NodeUp.{IsNodeUp}
use Rattle.tmf_model.specs.Config.{IsValidConfig}
use Rattle.tmf_model.specs.RecordMap.{RecordMap}
use Rattle.tmf_model.specs.declared.config.Config.{Config}
use Rattle.tmf_model.specs.declared.script.Item.{Item}
use Rattle.tmf_model.specs.declared.script.Item.TheVariants.{Control, Dump, Transaction as TransactionItem}
use Rattle.tmf_model.specs.declared.script.Phase.{Phase}
use Rattle.tmf_model.specs.declared.script.Transaction.{Transaction}
use Rattle.trail_files.specs.declared.monitor_record.MonitorRecord.{MonitorRecord}
use Rattle.single_law.specs.Ended.{IsEnd}
use Rattle.single_law.specs.Row.{AreInRow}
use Rattle.single_law.specs.Left.{map_left, records_left}

-- The outcome is of the first attempt at the item with this number, counted from 0. If that is a transaction, it ends as this does on the map that the outcomes before it leave, and its
-- record stands behind theirs. A control point of a volume is made, and so is a dump: none is under way.
pub record HasEnded (config : Config) (phase : Phase) (epoch : ℕ) (items : List Item) (list : List MonitorRecord) (map : RecordMap) (before : List Outcome) (number : ℕ) (outcome : Outcome) : Type 0 where
  pub item : Item
  pub is_item : slice_get items number ≡ Some item
  pub tx : outcome.tx ≡ first_attempt epoch 1 (suc number)
  pub ends : (transaction : Transaction) → item ≡ TransactionItem transaction
      → IsEnd config transaction (map_left phase epoch before map) (length list + suc (length (records_left before))) outcome.told
  pub controls : (volume : ℕ) → item ≡ Control volume → (low : ℕ) × (outcome.told ≡ Controlled volume low)
  pub dumps : (volume : ℕ) → item ≡ Dump volume → (start : ℕ) × (outcome.told ≡ Dumped volume start)

-- There is one outcome for each item, in their order, and each ends so.
pub record HaveEnded (config : Config) (phase : Phase) (epoch : ℕ) (items : List Item) (list : List MonitorRecord) (map : RecordMap) (outcomes : List Outcome) : Type 0 where
  pub count : length outcomes ≡ length items
  pub each : (number : ℕ) (outcome : Outcome) → slice_get outcomes number ≡ Some outcome → HasEnded config phase epoch items list map (take number outcomes) number outcome

-- A run of one worker over devices that stood for the list and the map: each outcome ends as its item does; and in what the run has made of the node exactly the records that the
-- outcomes leave have landed, and none is offered behind them.
pub record IsRunAlone {D : Type 0} (held : D → Held) (config : Config) (phase : Phase) (epoch : ℕ) (items : List Item) (list : List MonitorRecord) (map : RecordMap) (outcomes : List Outcome)
    (old new : List (Fuse D)) : Type 0 where
  pub ended : HaveEnded config phase epoch items list map outcomes
  pub made : HasMade phase epoch held config list map outcomes old new
  pub landed : made.landed ≡ records_left outcomes
  pub offered : made.offered ≡ []
  -- each of them ends a later attempt than those before it
  pub row : AreInRow (records_left outcomes)

-- A run of one worker over the devices of a node that is up, of which no outcome is the last that the worker carries out, is such a run.
abbrev pub SingleLaw : {D : Type 0} → disk.Ghosts D → Type 0
SingleLaw {D} kind =
    (config : Config) (phase : Phase) (epoch : ℕ) (items : List Item) (old new : List (Fuse D)) (outcomes : List Outcome) (list : List MonitorRecord) (map : RecordMap)
    → IsValidConfig config → length old ≡ devices → length new ≡ devices → DevicesTell kind.tells old → IsNodeUp config (held_at kind.held old) list map epoch → phase.workers ≡ items ∷ []
    → HasRun (fuse_kind kind) config phase epoch old new outcomes → ((outcome : Outcome) → Contains outcomes outcome → is_last outcome.told ≡ false)
    → IsRunAlone kind.held config phase epoch items list map outcomes old new
