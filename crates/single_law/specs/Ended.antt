-- How an attempt at a transaction ends that begins at a map: up to which step it goes, and what stops it there.
use Rattle.std.specs.Prelude.{◌≡◌, ◌⊎◌, ℕ, suc, ◌<◌, ◌≤◌, List, length, map, take, slice_get, bytes_eq, Option, Some, None, IsSome, Ok, Err}
use Rattle.std.specs.List.{IsDistinct}
use Rattle.node_machine.specs.Disc.{IsChange, IsPut}
use Rattle.node_machine.specs.Made.{home_block}
use Rattle.node_machine.specs.Same.{Among}
use Rattle.run_outcomes.specs.Told.{read_numbers}
use Rattle.run_outcomes.specs.declared.outcome.Told.{Told}
use Rattle.run_outcomes.specs.declared.outcome.Told.TheVariants.{Aborted, Committed, Full, Refused}
use Rattle.tmf_model.specs.Effect.{after_steps, applied, read_values}
use Rattle.tmf_model.specs.RecordMap.{RecordMap}
use Rattle.tmf_model.specs.declared.config.Config.{Config}
use Rattle.tmf_model.specs.declared.script.Close.TheVariants as close
use Rattle.tmf_model.specs.declared.script.Reason.{Reason}
use Rattle.tmf_model.specs.declared.script.Step.{Step}
use Rattle.tmf_model.specs.declared.script.Transaction.{Transaction}

-- one of the steps changes the key
pub record IsChangedBy (steps : List Step) (file : ℕ) (key : List ℕ) : Type 0 where
  pub step : Step
  pub has : Among steps step
  pub changes : IsChange step.op
  pub file_is : step.file ≡ file
  pub key_is : step.key ≡ key

-- Behind these steps, at this map, the key takes room of the block: it has a value, or one of the steps has changed it.
pub record TakesRoom (config : Config) (steps : List Step) (map : RecordMap) (file block : ℕ) (key : List ℕ) : Type 0 where
  pub home : home_block config file key ≡ block
  pub taken : IsSome (map file key) ⊎ IsChangedBy steps file key

-- Behind these steps, at this map, the step puts a key that has no room: it takes none yet, and 62 keys of its block, no two the same, do.
pub record FindsNoRoom (config : Config) (steps : List Step) (map : RecordMap) (step : Step) : Type 0 where
  pub puts : IsPut step.op
  pub absent : map step.file step.key ≡ None
  pub unchanged : IsChangedBy steps step.file step.key → ⊥
  pub keys : List (List ℕ)
  pub many : 62 ≤ length keys
  pub distinct : IsDistinct bytes_eq keys
  pub each : (other : List ℕ) → Among keys other → TakesRoom config steps map step.file (home_block config step.file step.key) other

-- The first so many steps are carried out: none of them is refused or finds no room, and they leave this map.
pub record GoesTo (config : Config) (steps : List Step) (map : RecordMap) (count : ℕ) (after : RecordMap) : Type 0 where
  pub few : count ≤ length steps
  pub values : after_steps (take count steps) map ≡ Ok after
  pub room : (n : ℕ) (step : Step) (before : RecordMap) → n < count → slice_get steps n ≡ Some step → after_steps (take n steps) map ≡ Ok before → FindsNoRoom config (take n steps) before step → ⊥

-- all steps of the transaction are carried out
abbrev pub GoesThrough : Config → Transaction → RecordMap → Type 0
GoesThrough config transaction map = (after : RecordMap) × GoesTo config transaction.steps map (length transaction.steps) after

-- The steps go up to this one, which is refused for this reason.
pub record IsRefusedAt (config : Config) (steps : List Step) (map : RecordMap) (op : ℕ) (reason : Reason) : Type 0 where
  pub before : ℕ
  pub number : op ≡ suc before
  pub step : Step
  pub is_step : slice_get steps before ≡ Some step
  pub at : RecordMap
  pub goes : GoesTo config steps map before at
  pub refused : applied step.op (at step.file step.key) ≡ Err reason

-- The steps go up to one that finds no room for this key.
pub record IsFullAt (config : Config) (steps : List Step) (map : RecordMap) (file : ℕ) (key : List ℕ) : Type 0 where
  pub before : ℕ
  pub step : Step
  pub is_step : slice_get steps before ≡ Some step
  pub at : RecordMap
  pub goes : GoesTo config steps map before at
  pub full : FindsNoRoom config (take before steps) at step
  pub file_is : step.file ≡ file
  pub key_is : step.key ≡ key

-- each read, by the number of its step, has found what the transaction's steps yield on this map
pub record AreReads (transaction : Transaction) (before : RecordMap) (reads : List (ℕ × Option (List ℕ))) : Type 0 where
  pub numbers : map (λ read. read.0) reads ≡ read_numbers 1 transaction.steps
  pub values : map (λ read. read.1) reads ≡ read_values transaction before

-- so an attempt at the transaction ends, where it begins at this map and a commit takes this place
abbrev pub IsEnd : Config → Transaction → RecordMap → ℕ → Told → Type 0
IsEnd config transaction map place (Committed at reads) = (at ≡ place) × (transaction.close ≡ close.Commit) × GoesThrough config transaction map × AreReads transaction map reads
IsEnd config transaction map place Aborted = (transaction.close ≡ close.Abort) × GoesThrough config transaction map
IsEnd config transaction map place (Refused op reason) = IsRefusedAt config transaction.steps map op reason
IsEnd config transaction map place (Full file key) = IsFullAt config transaction.steps map file key
IsEnd config transaction map place _ = ⊥
