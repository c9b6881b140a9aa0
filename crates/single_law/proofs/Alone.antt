-- With one worker no attempt is busy, so each item has one outcome, in their order.
use Rattle.std.specs.Prelude.{◌≡◌, ℕ, zero, suc, ◌==◌, Bool, true, false, if◌then◌else◌, List, [], ◌∷◌, ◌++◌, length, take, Option, Some, None, option_and_then}
use Rattle.std.proofs.Common.{refl, ap, sym, ◌∙◌, subst, append-nil, ⊎_elim, inl, inr}
use Rattle.tmf_model.specs.Commits.{attempted, numbered, script_transaction}
use Rattle.tmf_model.specs.Transid.{is_between}
use Rattle.tmf_model.specs.declared.script.Item.{Item}
use Rattle.tmf_model.specs.declared.script.Item.TheVariants.{Control, Dump, Transaction as TransactionItem}
use Rattle.tmf_model.specs.declared.script.Phase.{Phase}
use Rattle.tmf_model.specs.declared.script.Transaction.{Transaction}
use Rattle.tmf_model.specs.declared.transid.Transid.{Transid}
use Rattle.node_machine.specs.Same.{Among}
use Rattle.node_machine.specs.SameLaws.{among_left, among_right}
use Rattle.run_outcomes.specs.Outcomes.{AreAttempts, AreOfItems, AreOfWorkers, AreOutcomesOf, AreSkipped, first_attempt, is_busy, is_last, is_skipped, most_attempts}
use Rattle.run_outcomes.specs.Told.{Account, AreTold, IsTold}
use Rattle.run_outcomes.specs.declared.outcome.Outcome.{Outcome}
use Rattle.run_outcomes.specs.declared.outcome.Told.{Told}
use Rattle.run_outcomes.specs.declared.outcome.Told.TheVariants.{Aborted, Busy, Committed, Controlled, Damaged, Dumped, Dumping, Failed, Full, Hanging, InDoubt, Memory, Refused, Skipped, Spent}

-- WHOSE ATTEMPT

numbered_one : {T : Type 0} (x y : T) (n : ℕ) → numbered (x ∷ []) n ≡ Some y → (n ≡ 1) × (x ≡ y)
numbered_one x y zero is = absurd (cc (is))
numbered_one x y (suc zero) is = (refl, cc (is))
numbered_one x y (suc (suc n)) is = absurd (cc (is))

-- the item that an identifier of the script is of
pub record IsOfItem (items : List Item) (t : Transid) (transaction : Transaction) : Type 0 where
  pub worker : t.worker ≡ 1
  pub item : numbered items t.ordinal ≡ Some (TransactionItem transaction)

attempted_is : (attempt : ℕ) (item : Item) (transaction : Transaction) → attempted attempt item ≡ Some transaction → item ≡ TransactionItem transaction
attempted_is attempt (TransactionItem other) transaction is = by_case (is_between 1 other.attempts attempt) is where
  by_case : (b : Bool) → (if b then Some other else None) ≡ Some transaction → TransactionItem other ≡ TransactionItem transaction
  by_case true is = (let one : other ≡ transaction = cc (is) in ap (λ (x : Transaction). TransactionItem x) one)
  by_case false is = absurd (cc (is))
attempted_is attempt (Control volume) transaction is = absurd (cc (is))
attempted_is attempt (Dump volume) transaction is = absurd (cc (is))

pub of_item : (phase : Phase) (epoch : ℕ) (items : List Item) (t : Transid) (transaction : Transaction) → phase.workers ≡ items ∷ [] → script_transaction phase epoch t ≡ Some transaction → IsOfItem items t transaction
of_item phase epoch items t transaction one is = by_epoch (t.epoch == epoch) is where
  by_item : (o : Option Item) → numbered items t.ordinal ≡ o → option_and_then (attempted t.attempt) o ≡ Some transaction → numbered items t.ordinal ≡ Some (TransactionItem transaction)
  by_item None here is = absurd (cc (is))
  by_item (Some item) here is = here ∙ ap (λ (x : Item). Some x) (attempted_is t.attempt item transaction is)

  by_worker : (o : Option (List Item)) → numbered (items ∷ []) t.worker ≡ o → option_and_then (attempted t.attempt) (option_and_then (λ xs. numbered xs t.ordinal) o) ≡ Some transaction → IsOfItem items t transaction
  by_worker None here is = absurd (cc (is))
  by_worker (Some own) here is =
      let at = numbered_one items own t.worker here in
      record { worker = at.0; item = by_item (numbered items t.ordinal) refl (ap (λ (xs : List Item). option_and_then (attempted t.attempt) (numbered xs t.ordinal)) at.1 ∙ is) }

  by_epoch : (b : Bool) → (if b then option_and_then (attempted t.attempt) (option_and_then (λ xs. numbered xs t.ordinal) (numbered phase.workers t.worker)) else None) ≡ Some transaction → IsOfItem items t transaction
  by_epoch true is = by_worker (numbered (items ∷ []) t.worker) refl (ap (λ (w : List (List Item)). option_and_then (attempted t.attempt) (option_and_then (λ xs. numbered xs t.ordinal) (numbered w t.worker))) (sym one) ∙ is)
  by_epoch false is = absurd (cc (is))

-- NOBODY IS BUSY

module _ (a : Account) (items : List Item) (one : a.phase.workers ≡ items ∷ []) (outcomes : List Outcome) (told : AreTold a outcomes) where
  busy_never : (outcome : Outcome) (file : ℕ) (key : List ℕ) (holder : Transid) → Among outcomes outcome → outcome.told ≡ Busy file key holder → IsTold a (record { tx = outcome.tx; told = Busy file key holder }) → ⊥
  busy_never outcome file key holder among is (inl told_of) =
      let held = told.busy outcome told_of.0 file key holder among is told_of.1 told_of.2.0 in
      let own = of_item a.phase a.epoch items outcome.tx told_of.0 one told_of.1 in
      let other = of_item a.phase a.epoch items holder held.transaction one held.is_attempt in
      held.other (other.worker ∙ sym own.worker)
  busy_never outcome file key holder among is (inr (inl told_of)) = absurd told_of.2
  busy_never outcome file key holder among is (inr (inr told_of)) = absurd told_of.2

  pub not_busy : (outcome : Outcome) → Among outcomes outcome → is_busy outcome.told ≡ false
  not_busy outcome among = by_case outcome.told refl where
    by_case : (how : Told) → outcome.told ≡ how → is_busy how ≡ false
    by_case (Busy file key holder) is = absurd (busy_never outcome file key holder among is (subst (λ (x : Told). IsTold a (record { tx = outcome.tx; told = x })) is (told.each outcome among).told))
    by_case (Committed place reads) is = refl
    by_case Aborted is = refl
    by_case (Full file key) is = refl
    by_case (Refused op reason) is = refl
    by_case (Spent part) is = refl
    by_case (Failed device) is = refl
    by_case (Damaged device damage) is = refl
    by_case (InDoubt device) is = refl
    by_case (Hanging why) is = refl
    by_case Skipped is = refl
    by_case Memory is = refl
    by_case (Controlled volume low) is = refl
    by_case (Dumped volume start) is = refl
    by_case (Dumping volume) is = refl

-- ONE OUTCOME AN ITEM

-- the outcomes are of first attempts at items, from the one with this ordinal on
abbrev pub AreFrom : ℕ → ℕ → List Outcome → Type 0
AreFrom epoch ordinal [] = Unit {0}
AreFrom epoch ordinal (outcome ∷ outcomes) = (outcome.tx ≡ first_attempt epoch 1 ordinal) × AreFrom epoch (suc ordinal) outcomes

-- a list of one item
abbrev IsOne : ℕ → ℕ → List Outcome → Type 0
IsOne epoch ordinal outcomes = (outcome : Outcome) × (outcomes ≡ outcome ∷ []) × (outcome.tx ≡ first_attempt epoch 1 ordinal)

one_attempt : (epoch ordinal most : ℕ) (outcomes : List Outcome) → ((outcome : Outcome) → Among outcomes outcome → is_busy outcome.told ≡ false) → AreAttempts most (first_attempt epoch 1 ordinal) outcomes → IsOne epoch ordinal outcomes
one_attempt epoch ordinal most [] free are = absurd are
one_attempt epoch ordinal most (outcome ∷ []) free are = (outcome, refl, are.0)
one_attempt epoch ordinal most (outcome ∷ next ∷ more) free are = absurd (let both : true ≡ false = sym are.1 ∙ free outcome (inl refl) in cc (both))

pub each_one : (epoch ordinal : ℕ) (items : List Item) (outcomes : List Outcome) → ((outcome : Outcome) → Among outcomes outcome → is_busy outcome.told ≡ false) → AreOfItems epoch 1 ordinal items outcomes
    → AreFrom epoch ordinal outcomes × (length outcomes ≡ length items)
each_one epoch ordinal [] outcomes free are = (subst (λ (l : List Outcome). AreFrom epoch ordinal l) (sym are) tt, ap (λ (l : List Outcome). length l) are)
each_one epoch ordinal (item ∷ items) outcomes free (first, more, whole, attempts, rest) =
    let in_first : (outcome : Outcome) → Among first outcome → is_busy outcome.told ≡ false = λ outcome has. free outcome (subst (λ (l : List Outcome). Among l outcome) (sym whole) (among_left first more outcome has)) in
    let in_more : (outcome : Outcome) → Among more outcome → is_busy outcome.told ≡ false = λ outcome has. free outcome (subst (λ (l : List Outcome). Among l outcome) (sym whole) (among_right first more outcome has)) in
    let single = one_attempt epoch ordinal (most_attempts item) first in_first attempts in
    let all = each_one epoch (suc ordinal) items more in_more rest in
    let is : outcomes ≡ single.0 ∷ more = whole ∙ ap (λ (l : List Outcome). l ++ more) single.1 in
    (subst (λ (l : List Outcome). AreFrom epoch ordinal l) (sym is) (single.2, all.0), ap (λ (l : List Outcome). length l) is ∙ ap (λ (n : ℕ). suc n) all.1)

-- where none of the first so many outcomes is the worker's last, none of them is skipped
none_skipped : (count : ℕ) (outcomes : List Outcome) → ((outcome : Outcome) → Among (take count outcomes) outcome → is_last outcome.told ≡ false) → AreSkipped false outcomes
    → (outcome : Outcome) → Among (take count outcomes) outcome → is_skipped outcome.told ≡ false
none_skipped zero [] goes are outcome among = absurd among
none_skipped (suc count) [] goes are outcome among = absurd among
none_skipped zero (first ∷ more) goes are outcome among = absurd among
none_skipped (suc count) (first ∷ more) goes are outcome among = ⊎_elim
    (λ (is : first ≡ outcome). ap (λ (o : Outcome). is_skipped o.told) (sym is) ∙ are.0)
    (λ (rest : Among (take count more) outcome). none_skipped count more (λ o has. goes o (inr has)) (subst (λ (b : Bool). AreSkipped b more) (goes first (inl refl)) are.1) outcome rest)
    among

-- what the outcomes of the one worker are, of which the first so many do not end it
pub record AreItsOutcomes (epoch : ℕ) (items : List Item) (outcomes : List Outcome) (going : ℕ) : Type 0 where
  pub from : AreFrom epoch 1 outcomes
  pub count : length outcomes ≡ length items
  pub unskipped : (outcome : Outcome) → Among (take going outcomes) outcome → is_skipped outcome.told ≡ false

pub its_outcomes : (phase : Phase) (epoch : ℕ) (items : List Item) (outcomes : List Outcome) (going : ℕ) → phase.workers ≡ items ∷ [] → ((outcome : Outcome) → Among outcomes outcome → is_busy outcome.told ≡ false)
    → ((outcome : Outcome) → Among (take going outcomes) outcome → is_last outcome.told ≡ false) → AreOutcomesOf phase epoch outcomes → AreItsOutcomes epoch items outcomes going
its_outcomes phase epoch items outcomes going one free goes are = of_workers (subst (λ (w : List (List Item)). AreOfWorkers epoch 1 w outcomes) one are) where
  of_workers : AreOfWorkers epoch 1 (items ∷ []) outcomes → AreItsOutcomes epoch items outcomes going
  of_workers (own, others, whole, of_items, skipped, none) =
      let same : outcomes ≡ own = whole ∙ ap (λ (l : List Outcome). own ++ l) none ∙ append-nil own in
      let all = each_one epoch 1 items outcomes free (subst (λ (l : List Outcome). AreOfItems epoch 1 1 items l) (sym same) of_items) in
      record { from = all.0; count = all.1; unskipped = none_skipped going outcomes goes (subst (λ (l : List Outcome). AreSkipped false l) (sym same) skipped) }
