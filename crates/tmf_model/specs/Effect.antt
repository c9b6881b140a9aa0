-- What operations and transactions make of records.
use Rattle.std.specs.Prelude.{ℕ, ℤ, ◌+ℤ◌, List, [], ◌∷◌, ◌++◌, fold, Option, Some, None, Result, Ok, Err, if◌then◌else◌}
use Rattle.std.specs.Fmt.{signed_decimal}
use Rattle.std.specs.Result.{result_unwrap_or}
use Rattle.tmf_model.specs.declared.script.Close.{Close}
use Rattle.tmf_model.specs.declared.script.Close.TheVariants.{Commit, Abort}
use Rattle.tmf_model.specs.declared.script.Op.{Op}
use Rattle.tmf_model.specs.declared.script.Op.TheVariants.{Put, Add, Del, Read, Lock}
use Rattle.tmf_model.specs.declared.script.Reason.{Reason}
use Rattle.tmf_model.specs.declared.script.Reason.TheVariants.{Missing, NotNumber, Overflow}
use Rattle.tmf_model.specs.declared.script.Step.{Step}
use Rattle.tmf_model.specs.declared.script.Transaction.{Transaction}
use Rattle.tmf_model.specs.NumberText.{is_i64, number_of}
use Rattle.tmf_model.specs.RecordMap.{RecordMap, with_value}

-- the text of the sum of a number and a value's number, if there is one, or why there is no sum
abbrev pub sum_text : ℤ → Option ℤ → Result (List ℕ) Reason
sum_text addend None = Err NotNumber
sum_text addend (Some number) =
    if is_i64 (number +ℤ addend) then Ok (signed_decimal (number +ℤ addend)) else Err Overflow

-- the value that stays
abbrev pub as_value : Result (List ℕ) Reason → Result (Option (List ℕ)) Reason
as_value (Ok value) = Ok (Some value)
as_value (Err reason) = Err reason

-- the value after the operation, or why it is refused
abbrev pub applied : Op → Option (List ℕ) → Result (Option (List ℕ)) Reason
applied (Put value) before = Ok (Some value)
applied (Add addend) None = Err Missing
applied (Add addend) (Some before) = as_value (sum_text addend (number_of before))
applied Del None = Err Missing
applied Del (Some before) = Ok None
applied Read before = Ok before
applied Lock before = Ok before

-- the map with the value at the step's key, or the reason
abbrev pub stepped : Step → Result (Option (List ℕ)) Reason → RecordMap → Result RecordMap Reason
stepped step (Ok value) map = Ok (with_value step.file step.key value map)
stepped step (Err reason) map = Err reason

-- the map after a step, unless a step before it was refused
abbrev pub after_step : Result RecordMap Reason → Step → Result RecordMap Reason
after_step (Err reason) step = Err reason
after_step (Ok map) step = stepped step (applied step.op (map step.file step.key)) map

-- the map after the steps in their order, or why the first that is refused is refused
abbrev pub after_steps : List Step → RecordMap → Result RecordMap Reason
after_steps steps map = fold after_step (Ok map) steps

-- which map stands after the steps: an abort and a refusal leave the one before
abbrev pub closed : Close → Result RecordMap Reason → RecordMap → RecordMap
closed Commit after before = result_unwrap_or after before
closed Abort after before = before

-- the map after the transaction: all its steps in their order, or none of them
abbrev pub effect : Transaction → RecordMap → RecordMap
effect transaction map = closed transaction.close (after_steps transaction.steps map) map

-- the value that the operation yields, if it is a read
abbrev pub read_value : Op → Option (List ℕ) → List (Option (List ℕ))
read_value (Put value) before = []
read_value (Add addend) before = []
read_value Del before = []
read_value Read before = before ∷ []
read_value Lock before = []

-- the same of a step, unless a step before it was refused
abbrev pub step_reads : Step → Result RecordMap Reason → List (Option (List ℕ))
step_reads step (Ok map) = read_value step.op (map step.file step.key)
step_reads step (Err reason) = []

-- what the reads among the steps yield, in their order, up to the first step that is refused
abbrev pub reads_after : Result RecordMap Reason → List Step → List (Option (List ℕ))
reads_after map [] = []
reads_after map (step ∷ steps) = step_reads step map ++ reads_after (after_step map step) steps

-- what the transaction's reads yield, where it begins at this map
abbrev pub read_values : Transaction → RecordMap → List (Option (List ℕ))
read_values transaction map = reads_after (Ok map) transaction.steps
