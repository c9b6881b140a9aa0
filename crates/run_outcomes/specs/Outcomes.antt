-- Which attempts the outcomes of a run are of: for each worker and each of its items, in their order, one or several.
use Rattle.std.specs.Prelude.{◌≡◌, ◌⊎◌, ℕ, suc, ◌+◌, ◌<◌, ◌||◌, Bool, true, false, List, [], ◌∷◌, ◌++◌}
use Rattle.tmf_model.specs.declared.script.Item.{Item}
use Rattle.tmf_model.specs.declared.script.Item.TheVariants.{Transaction as TransactionItem, Control, Dump}
use Rattle.tmf_model.specs.declared.script.Phase.{Phase}
use Rattle.tmf_model.specs.declared.transid.Transid.{Transid}
use Rattle.run_outcomes.specs.declared.outcome.Outcome.{Outcome}
use Rattle.run_outcomes.specs.declared.outcome.Told.{Told}
use Rattle.run_outcomes.specs.declared.outcome.Told.TheVariants.{Busy, Spent, Failed, Damaged, InDoubt, Hanging, Skipped, Memory}

-- whether another transaction held what the attempt asked for
abbrev pub is_busy : Told → Bool
is_busy (Busy file key holder) = true
is_busy _ = false

abbrev pub is_skipped : Told → Bool
is_skipped Skipped = true
is_skipped _ = false

-- whether the worker carries out no more of its items
abbrev pub is_last : Told → Bool
is_last (Spent part) = true
is_last (Failed device) = true
is_last (Damaged device damage) = true
is_last (InDoubt device) = true
is_last (Hanging why) = true
is_last Memory = true
is_last _ = false

-- how often an item may be attempted
abbrev pub most_attempts : Item → ℕ
most_attempts (TransactionItem transaction) = transaction.attempts
most_attempts (Control volume) = 1
most_attempts (Dump volume) = 1

-- the first attempt at an item
abbrev pub first_attempt : ℕ → ℕ → ℕ → Transid
first_attempt epoch worker ordinal = record { epoch = epoch; worker = worker; ordinal = ordinal; attempt = 1 }

abbrev pub next_attempt : Transid → Transid
next_attempt tx = record { epoch = tx.epoch; worker = tx.worker; ordinal = tx.ordinal; attempt = tx.attempt + 1 }

-- The outcomes are those of one item from this attempt on: each but the last is busy, and the last is not, or is of the last attempt that may be made.
abbrev pub AreAttempts : ℕ → Transid → List Outcome → Type 0
AreAttempts most tx [] = ⊥
AreAttempts most tx (outcome ∷ []) = (outcome.tx ≡ tx) × ((is_busy outcome.told ≡ false) ⊎ (tx.attempt ≡ most))
AreAttempts most tx (outcome ∷ next ∷ more) = (outcome.tx ≡ tx) × (is_busy outcome.told ≡ true) × (tx.attempt < most) × AreAttempts most (next_attempt tx) (next ∷ more)

-- the outcomes are those of a worker's items, from the item with this ordinal on
abbrev pub AreOfItems : ℕ → ℕ → ℕ → List Item → List Outcome → Type 0
AreOfItems epoch worker ordinal [] outcomes = outcomes ≡ []
AreOfItems epoch worker ordinal (item ∷ items) outcomes =
    (first more : List Outcome) × (outcomes ≡ first ++ more) × AreAttempts (most_attempts item) (first_attempt epoch worker ordinal) first × AreOfItems epoch worker (suc ordinal) items more

-- an outcome is `skipped` exactly where the worker has carried out its last item before it
abbrev pub AreSkipped : Bool → List Outcome → Type 0
AreSkipped ended [] = Unit {0}
AreSkipped ended (outcome ∷ more) = (is_skipped outcome.told ≡ ended) × AreSkipped (ended || is_last outcome.told) more

-- the outcomes are those of the workers, from the worker with this number on
abbrev pub AreOfWorkers : ℕ → ℕ → List (List Item) → List Outcome → Type 0
AreOfWorkers epoch worker [] outcomes = outcomes ≡ []
AreOfWorkers epoch worker (items ∷ workers) outcomes =
    (own others : List Outcome) × (outcomes ≡ own ++ others) × AreOfItems epoch worker 1 items own × AreSkipped false own × AreOfWorkers epoch (suc worker) workers others

-- the outcomes are those of a run: for each worker, and each of its items, in their order
abbrev pub AreOutcomesOf : Phase → ℕ → List Outcome → Type 0
AreOutcomesOf phase epoch outcomes = AreOfWorkers epoch 1 phase.workers outcomes
