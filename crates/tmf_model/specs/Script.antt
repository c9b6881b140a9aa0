-- Which scripts are valid: what they name is declared, and their counts are in their ranges.
use Rattle.std.specs.Prelude.{ℕ, ◌≡◌, ◌≤◌, IsTrue, List, Option, Some, None, codes, length, All, ⊤}
use Rattle.std.specs.Int.{w64}
use Rattle.std.specs.Prelude.{FitsSigned}
use Rattle.tmf_model.specs.declared.script.Action.{Action}
use Rattle.tmf_model.specs.declared.script.Action.TheVariants.{Format, Recover, Run, Lose, Rollforward, List as ListFile}
use Rattle.tmf_model.specs.declared.config.Config.{Config}
use Rattle.tmf_model.specs.declared.script.Item.{Item}
use Rattle.tmf_model.specs.declared.script.Item.TheVariants.{Transaction as TransactionItem, Control, Dump}
use Rattle.tmf_model.specs.declared.script.Op.{Op}
use Rattle.tmf_model.specs.declared.script.Op.TheVariants.{Put, Add, Del, Read, Lock}
use Rattle.tmf_model.specs.declared.script.Phase.{Phase}
use Rattle.tmf_model.specs.declared.script.Script.{Script}
use Rattle.tmf_model.specs.declared.script.Step.{Step}
use Rattle.tmf_model.specs.declared.script.Transaction.{Transaction}
use Rattle.tmf_model.specs.Config.{IsWithin, IsDeclared, IsValidConfig}
use Rattle.tmf_model.specs.Word.{is_key, is_value}

-- the key of a step that locks a file: it stands for the whole file
abbrev pub whole_file : List ℕ
whole_file = codes "*"

-- a value that is put has a value's form, a number that is added is one of i64, and a lock is one of the whole file
abbrev pub IsValidOp : List ℕ → Op → Type 0
IsValidOp key (Put value) = IsTrue (is_value value)
IsValidOp key (Add number) = FitsSigned w64 number
IsValidOp key Del = ⊤
IsValidOp key Read = ⊤
IsValidOp key Lock = key ≡ whole_file

-- the step's file is declared, its key has a key's form, and its operation may stand at this key
pub record IsValidStep (config : Config) (step : Step) : Type 0 where
  pub file : IsDeclared config.files step.file
  pub key : IsTrue (is_key step.key)
  pub op : IsValidOp step.key step.op

-- 1 to 8 attempts at 64 steps at most
pub record IsValidTransaction (config : Config) (transaction : Transaction) : Type 0 where
  pub attempts : IsWithin 1 8 transaction.attempts
  pub few : length transaction.steps ≤ 64
  pub steps : All (IsValidStep config) transaction.steps

-- the item's transaction is valid, or its volume is declared
abbrev pub IsValidItem : Config → Item → Type 0
IsValidItem config (TransactionItem transaction) = IsValidTransaction config transaction
IsValidItem config (Control volume) = IsDeclared config.volumes volume
IsValidItem config (Dump volume) = IsDeclared config.volumes volume

-- a worker has 4,096 items at most
pub record IsValidWorker (config : Config) (items : List Item) : Type 0 where
  pub few : length items ≤ 4096
  pub each : All (IsValidItem config) items

-- the count behind `kill`, where there is one, is 1,000,000,000 at most
abbrev pub IsValidKill : Option ℕ → Type 0
IsValidKill None = ⊤
IsValidKill (Some count) = count ≤ 1000000000

-- a run has 16 workers at most
pub record IsValidPhase (config : Config) (phase : Phase) : Type 0 where
  pub few : length phase.workers ≤ 16
  pub workers : All (IsValidWorker config) phase.workers
  pub kill : IsValidKill phase.kill

-- what the action names is declared, its run is valid, and so is its count behind `kill`
abbrev pub IsValidAction : Config → Action → Type 0
IsValidAction config Format = ⊤
IsValidAction config (Recover kill) = IsValidKill kill
IsValidAction config (Run phase) = IsValidPhase config phase
IsValidAction config (Lose volume) = IsDeclared config.volumes volume
IsValidAction config (Rollforward volume kill) = IsDeclared config.volumes volume × IsValidKill kill
IsValidAction config (ListFile file) = IsDeclared config.files file

-- the configuration is valid, and so is each action under it
pub record IsValidScript (script : Script) : Type 0 where
  pub config : IsValidConfig script.config
  pub actions : All (IsValidAction script.config) script.actions
