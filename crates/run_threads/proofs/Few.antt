-- The outcomes of a phase's workers are no more than there is room for.
use Rattle.std.specs.Prelude.{◌≡◌, ℕ, suc, ◌+◌, ◌≤◌, List, [], ◌∷◌, length, All}
use Rattle.std.specs.List.{sum_by}
use Rattle.std.proofs.Common.{ap, ◌∙◌, arith, length-append}
use Rattle.std.proofs.lemmas.List.Elements.{All-head, All-tail}
use Rattle.std.proofs.lemmas.List.Sums.{sum_by-cons}
use Rattle.tmf_model.specs.Script.{IsValidItem, IsValidWorker}
use Rattle.tmf_model.specs.declared.config.Config.{Config}
use Rattle.tmf_model.specs.declared.script.Item.{Item}
use Rattle.tmf_model.specs.declared.script.Item.TheVariants.{Transaction as TransactionItem, Control, Dump}
use Rattle.tmf_model.specs.declared.transid.Transid.{Transid}
use Rattle.run_outcomes.specs.Outcomes.{AreAttempts, AreOfItems, AreOfWorkers, first_attempt, most_attempts, next_attempt}
use Rattle.run_outcomes.specs.Room.{most_outcomes}
use Rattle.run_outcomes.specs.declared.outcome.Outcome.{Outcome}

few_attempts : (most : ℕ) (tx : Transid) (outcomes : List Outcome) → AreAttempts most tx outcomes → tx.attempt ≤ most → length outcomes + tx.attempt ≤ most + 1
few_attempts most tx [] are le = absurd are
few_attempts most tx (outcome ∷ []) are le = omega (arith, le)
few_attempts most tx (outcome ∷ next ∷ more) are le =
    let lt = are.2 in
    let rest = few_attempts most (next_attempt tx) (next ∷ more) are.3 (omega (arith, lt)) in
    omega (arith, rest)

some_attempt : (config : Config) (item : Item) → IsValidItem config item → 1 ≤ most_attempts item
some_attempt config (TransactionItem transaction) valid = valid.attempts.above
some_attempt config (Control volume) valid = omega arith
some_attempt config (Dump volume) valid = omega arith

-- there is one outcome of each item, or more
some_attempts : (most : ℕ) (tx : Transid) (outcomes : List Outcome) → AreAttempts most tx outcomes → 1 ≤ length outcomes
some_attempts most tx [] are = absurd are
some_attempts most tx (outcome ∷ outcomes) are = omega arith

pub some_of_items : (epoch worker ordinal : ℕ) (items : List Item) (outcomes : List Outcome) → AreOfItems epoch worker ordinal items outcomes → length items ≤ length outcomes
some_of_items epoch worker ordinal [] outcomes are = omega arith
some_of_items epoch worker ordinal (item ∷ items) outcomes are =
    let own = some_attempts (most_attempts item) (first_attempt epoch worker ordinal) are.0 are.3 in
    let rest = some_of_items epoch worker (suc ordinal) items are.1 are.4 in
    let both : length outcomes ≡ length are.0 + length are.1 = ap (λ (l : List Outcome). length l) are.2 ∙ length-append are.0 are.1 in
    omega (arith, own, rest, both)

module _ (config : Config) (epoch : ℕ) where
  few_of_items : (worker ordinal : ℕ) (items : List Item) (outcomes : List Outcome) → All (IsValidItem config) items → AreOfItems epoch worker ordinal items outcomes → length outcomes ≤ most_outcomes items
  few_of_items worker ordinal [] outcomes valid are = (let none = ap (λ (l : List Outcome). length l) are in omega (arith, none))
  few_of_items worker ordinal (item ∷ items) outcomes valid are =
      let first = are.0 in
      let more = are.1 in
      let own = few_attempts (most_attempts item) (first_attempt epoch worker ordinal) first are.3 (some_attempt config item (All-head (IsValidItem config) item items valid)) in
      let rest = few_of_items worker (suc ordinal) items more (All-tail (IsValidItem config) item items valid) are.4 in
      let both : length outcomes ≡ length first + length more = ap (λ (l : List Outcome). length l) are.2 ∙ length-append first more in
      let sums = sum_by-cons most_attempts item items in
      omega (arith, own, rest, both, sums)

  pub few_of_workers : (worker : ℕ) (rows : List (List Item)) (outcomes : List Outcome) → All (IsValidWorker config) rows → AreOfWorkers epoch worker rows outcomes
      → length outcomes ≤ sum_by (λ items. most_outcomes items) rows
  few_of_workers worker [] outcomes valid are = (let none = ap (λ (l : List Outcome). length l) are in omega (arith, none))
  few_of_workers worker (items ∷ rows) outcomes valid are =
      let own = are.0 in
      let others = are.1 in
      let here = few_of_items worker 1 items own (All-head (IsValidWorker config) items rows valid).each are.3 in
      let rest = few_of_workers (suc worker) rows others (All-tail (IsValidWorker config) items rows valid) are.5 in
      let both : length outcomes ≡ length own + length others = ap (λ (l : List Outcome). length l) are.2 ∙ length-append own others in
      let sums = sum_by-cons (λ items. most_outcomes items) items rows in
      omega (arith, here, rest, both, sums)
