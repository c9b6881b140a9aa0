-- The outcomes of a run of one worker are one function of its items, the list and the map, apart from the positions that control points and dumps tell.
use Rattle.std.specs.Prelude.{◌≡◌, ℕ, List, length, map}
use Rattle.run_outcomes.specs.declared.outcome.Outcome.{Outcome}
use Rattle.run_outcomes.specs.declared.outcome.Told.{Told}
use Rattle.run_outcomes.specs.declared.outcome.Told.TheVariants.{Controlled, Dumped}
use Rattle.tmf_model.specs.RecordMap.{RecordMap}
use Rattle.tmf_model.specs.declared.config.Config.{Config}
use Rattle.tmf_model.specs.declared.script.Item.{Item}
use Rattle.tmf_model.specs.declared.script.Phase.{Phase}
use Rattle.tmf_model.specs.declared.script.Transaction.{Transaction}
use Rattle.trail_files.specs.declared.monitor_record.MonitorRecord.{MonitorRecord}
use Rattle.single_law.specs.Ended.{IsEnd}
use Rattle.single_law.specs.Single.{HaveEnded}

-- An attempt at a transaction that begins at a map ends in one way.
abbrev pub OneEndLaw : Type 0
OneEndLaw = (config : Config) (transaction : Transaction) (map : RecordMap) (place : ℕ) (one other : Told) → IsEnd config transaction map place one → IsEnd config transaction map place other → one ≡ other

-- what an outcome tells, without the low position of a control point and the start of a dump
abbrev pub without_position : Told → Told
without_position (Controlled volume low) = Controlled volume 0
without_position (Dumped volume start) = Dumped volume 0
without_position told = told

-- an outcome without that
abbrev pub plain_outcome : Outcome → Outcome
plain_outcome outcome = record { tx = outcome.tx; told = without_position outcome.told }

-- apart from these positions the outcomes are the same
abbrev pub AreSameOutcomes : List Outcome → List Outcome → Type 0
AreSameOutcomes outcomes others = map plain_outcome outcomes ≡ map plain_outcome others

-- Two runs of one worker with the same items, over nodes that stand for one map and for lists of one length, have the same outcomes, whatever their histories.
abbrev pub OneRunLaw : Type 0
OneRunLaw =
    (config : Config) (phase : Phase) (epoch : ℕ) (items : List Item) (list other_list : List MonitorRecord) (map : RecordMap) (outcomes other_outcomes : List Outcome)
    → length list ≡ length other_list
    → HaveEnded config phase epoch items list map outcomes → HaveEnded config phase epoch items other_list map other_outcomes → AreSameOutcomes outcomes other_outcomes
