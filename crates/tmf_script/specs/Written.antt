-- How a script is written: a sentence for each of its lines.
use Rattle.std.specs.Prelude.{ℕ, ◌-◌, ◌<◌, List, [], ◌∷◌, ◌++◌, length, map, codes, slice_index_or, Option, Some, None, All, ⊤}
use Rattle.std.specs.Fmt.{decimal, signed_decimal}
use Rattle.std.specs.List.{flat_map}
use Rattle.tmf_model.specs.Script.{IsValidScript}
use Rattle.tmf_model.specs.declared.config.Config.{Config}
use Rattle.tmf_model.specs.declared.config.FileLine.{FileLine}
use Rattle.tmf_model.specs.declared.config.Volume.{Volume}
use Rattle.tmf_model.specs.declared.script.Action.{Action}
use Rattle.tmf_model.specs.declared.script.Action.TheVariants as action
use Rattle.tmf_model.specs.declared.script.Close.{Close}
use Rattle.tmf_model.specs.declared.script.Close.TheVariants.{Commit, Abort}
use Rattle.tmf_model.specs.declared.script.Item.{Item}
use Rattle.tmf_model.specs.declared.script.Item.TheVariants as item
use Rattle.tmf_model.specs.declared.script.Op.{Op}
use Rattle.tmf_model.specs.declared.script.Op.TheVariants as op
use Rattle.tmf_model.specs.declared.script.Script.{Script}
use Rattle.tmf_model.specs.declared.script.Step.{Step}
use Rattle.tmf_model.specs.declared.script.Transaction.{Transaction}

-- the name with this number, from 1
abbrev pub name_at : List (List ℕ) → ℕ → List ℕ
name_at names number = slice_index_or names (number - 1) []

abbrev pub volume_names : List Volume → List (List ℕ)
volume_names volumes = map (λ volume. volume.name) volumes

abbrev pub file_names : List FileLine → List (List ℕ)
file_names files = map (λ file. file.name) files

abbrev pub trail_sentence : List ℕ → List (List ℕ)
trail_sentence name = codes "trail" ∷ name ∷ []

abbrev pub volume_sentence : List (List ℕ) → Volume → List (List ℕ)
volume_sentence trails volume = codes "volume" ∷ volume.name ∷ name_at trails volume.trail ∷ []

abbrev pub file_sentence : List (List ℕ) → FileLine → List (List ℕ)
file_sentence volumes file = codes "file" ∷ file.name ∷ name_at volumes file.volume ∷ decimal file.blocks ∷ []

abbrev pub limit_sentences : Config → List (List (List ℕ))
limit_sentences config =
    (codes "cache" ∷ decimal config.cache ∷ [])
    ∷ (codes "car" ∷ decimal config.car_count ∷ decimal config.car_holds ∷ [])
    ∷ (codes "roll" ∷ decimal config.roll ∷ [])
    ∷ (codes "steps" ∷ decimal config.steps ∷ [])
    ∷ []

-- the lines of the head: what is declared, and each limit
abbrev pub head_sentences : Config → List (List (List ℕ))
head_sentences config =
    map trail_sentence config.trails
    ++ (map (volume_sentence config.trails) config.volumes
    ++ (map (file_sentence (volume_names config.volumes)) config.files
    ++ limit_sentences config))

abbrev pub kill_words : Option ℕ → List (List ℕ)
kill_words None = []
kill_words (Some calls) = codes "kill" ∷ decimal calls ∷ []

abbrev pub operation_sentence : List ℕ → List ℕ → Op → List (List ℕ)
operation_sentence file key (op.Put value) = codes "put" ∷ file ∷ key ∷ value ∷ []
operation_sentence file key (op.Add number) = codes "add" ∷ file ∷ key ∷ signed_decimal number ∷ []
operation_sentence file key op.Del = codes "del" ∷ file ∷ key ∷ []
operation_sentence file key op.Read = codes "read" ∷ file ∷ key ∷ []
operation_sentence file key op.Lock = codes "lockfile" ∷ file ∷ []

abbrev pub step_sentence : List (List ℕ) → Step → List (List ℕ)
step_sentence files step = operation_sentence (name_at files step.file) step.key step.op

abbrev pub close_sentence : Close → List (List ℕ)
close_sentence Commit = codes "commit" ∷ []
close_sentence Abort = codes "abort" ∷ []

-- the lines of a transaction: its attempts, its steps and how it ends
abbrev pub transaction_sentences : List (List ℕ) → Transaction → List (List (List ℕ))
transaction_sentences files transaction =
    (codes "begin" ∷ decimal transaction.attempts ∷ [])
    ∷ (map (step_sentence files) transaction.steps ++ close_sentence transaction.close ∷ [])

abbrev pub item_sentences : Config → Item → List (List (List ℕ))
item_sentences config (item.Transaction transaction) = transaction_sentences (file_names config.files) transaction
item_sentences config (item.Control volume) = (codes "control" ∷ name_at (volume_names config.volumes) volume ∷ []) ∷ []
item_sentences config (item.Dump volume) = (codes "dump" ∷ name_at (volume_names config.volumes) volume ∷ []) ∷ []

abbrev pub worker_sentences : Config → List Item → List (List (List ℕ))
worker_sentences config items = (codes "worker" ∷ []) ∷ flat_map (item_sentences config) items

-- the lines of an action: those of a run go from `run` over its workers to `end`
abbrev pub action_sentences : Config → Action → List (List (List ℕ))
action_sentences config action.Format = (codes "format" ∷ []) ∷ []
action_sentences config (action.Recover kill) = (codes "recover" ∷ kill_words kill) ∷ []
action_sentences config (action.Run phase) =
    (codes "run" ∷ kill_words phase.kill)
    ∷ (flat_map (worker_sentences config) phase.workers ++ (codes "end" ∷ []) ∷ [])
action_sentences config (action.Lose volume) = (codes "lose" ∷ name_at (volume_names config.volumes) volume ∷ []) ∷ []
action_sentences config (action.Rollforward volume kill) =
    (codes "rollforward" ∷ name_at (volume_names config.volumes) volume ∷ kill_words kill) ∷ []
action_sentences config (action.List file) = (codes "list" ∷ name_at (file_names config.files) file ∷ []) ∷ []

-- the script as it is written
abbrev pub script_sentences : Script → List (List (List ℕ))
script_sentences script = head_sentences script.config ++ flat_map (action_sentences script.config) script.actions

-- the language has a line for each step but one that locks a whole file
abbrev pub HasLine : Op → Type 0
HasLine (op.Put value) = ⊤
HasLine (op.Add number) = ⊤
HasLine op.Del = ⊤
HasLine op.Read = ⊤
HasLine op.Lock = ⊥

abbrev pub StepHasLine : Step → Type 0
StepHasLine step = HasLine step.op

abbrev pub ItemHasLines : Item → Type 0
ItemHasLines (item.Transaction transaction) = All StepHasLine transaction.steps
ItemHasLines (item.Control volume) = ⊤
ItemHasLines (item.Dump volume) = ⊤

abbrev pub WorkerHasLines : List Item → Type 0
WorkerHasLines items = All ItemHasLines items

abbrev pub ActionHasLines : Action → Type 0
ActionHasLines action.Format = ⊤
ActionHasLines (action.Recover kill) = ⊤
ActionHasLines (action.Run phase) = All WorkerHasLines phase.workers
ActionHasLines (action.Lose volume) = ⊤
ActionHasLines (action.Rollforward volume kill) = ⊤
ActionHasLines (action.List file) = ⊤

-- a valid script that has a volume, and a line for each of its steps
pub record CanBeWritten (script : Script) : Type 0 where
  pub valid : IsValidScript script
  pub volume : 0 < length script.config.volumes
  pub lines : All ActionHasLines script.actions
