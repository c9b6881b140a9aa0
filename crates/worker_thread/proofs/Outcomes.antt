-- Outcomes of items, one behind the other.
use Rattle.std.specs.Prelude.{◌≤◌, ◌<◌, ◌+◌, ◌-◌, ◌||◌}
use Rattle.std.specs.Option.{option_map_or}
use Rattle.std.proofs.Common.{◌≡◌, ⊎_elim, ℕ, suc, Bool, true, false, List, [], ◌∷◌, ◌++◌, append-nil, append_assoc, length, length-append, Option, Some, slice_get, refl, ap, sym, ◌∙◌, subst, arith}
use Rattle.tmf_model.specs.declared.script.Item.{Item}
use Rattle.tmf_model.specs.declared.transid.Transid.{Transid}
use Rattle.node_machine.specs.Same.{Among}
use Rattle.run_outcomes.specs.Outcomes.{AreAttempts, AreOfItems, AreSkipped, first_attempt, is_busy, is_last, most_attempts, next_attempt}
use Rattle.run_outcomes.specs.Told.{MayHold}
use Rattle.run_outcomes.specs.declared.outcome.Outcome.{Outcome}
use Rattle.run_outcomes.specs.declared.outcome.Told.{Told}
use Rattle.run_outcomes.specs.declared.outcome.Told.TheVariants.{Busy, InDoubt, Hanging}
use Rattle.worker_thread.specs.Working.{has_ended, is_last_ending}

or_assoc : (a b c : Bool) → ((a || b) || c) ≡ (a || (b || c))
or_assoc true b c = refl
or_assoc false b c = refl

or_false : (a : Bool) → (a || false) ≡ a
or_false true = refl
or_false false = refl

pub or_parts : (a b : Bool) → (a || b) ≡ false → (a ≡ false) × (b ≡ false)
or_parts true b none = absurd (cc (none))
or_parts false b none = (refl, none)

-- WHAT IS TOLD

pub busy_goes_on : (told : Told) → is_busy told ≡ true → is_last told ≡ false
busy_goes_on (Busy file key holder) busy = refl
busy_goes_on _ busy = absurd (cc (busy))

pub busy_lets_go : (told : Told) → is_busy told ≡ true → MayHold told → ⊥
busy_lets_go (InDoubt device) busy holds = absurd (cc (busy))
busy_lets_go (Hanging why) busy holds = absurd (cc (busy))
busy_lets_go _ busy holds = holds

pub one_lets_go : (told : Told) → is_last told ≡ false → MayHold told → ⊥
one_lets_go (InDoubt device) goes_on holds = absurd (cc (goes_on))
one_lets_go (Hanging why) goes_on holds = absurd (cc (goes_on))
one_lets_go _ goes_on holds = holds

-- WHETHER A WORKER HAS ENDED

pub ended_append : (xs ys : List Outcome) → has_ended (xs ++ ys) ≡ (has_ended xs || has_ended ys)
ended_append [] ys = refl
ended_append (x ∷ xs) ys = ap (λ (b : Bool). is_last x.told || b) (ended_append xs ys) ∙ sym (or_assoc (is_last x.told) (has_ended xs) (has_ended ys))

pub goes_on_append : (xs ys : List Outcome) → has_ended (xs ++ ys) ≡ false → (has_ended xs ≡ false) × (has_ended ys ≡ false)
goes_on_append xs ys none = or_parts (has_ended xs) (has_ended ys) (sym (ended_append xs ys) ∙ none)

get_last : (xs : List Outcome) (x : Outcome) → slice_get (xs ++ x ∷ []) (length xs) ≡ Some x
get_last [] x = refl
get_last (y ∷ xs) x = get_last xs x

-- where none but the last may end the worker, the last says whether one does
pub last_says : (xs : List Outcome) (x : Outcome) → has_ended xs ≡ false → is_last_ending (xs ++ x ∷ []) ≡ has_ended (xs ++ x ∷ [])
last_says xs x none =
    let size = length-append xs (x ∷ []) in
    let place : length (xs ++ x ∷ []) - 1 ≡ length xs = omega (arith, size) in
    let there : slice_get (xs ++ x ∷ []) (length (xs ++ x ∷ []) - 1) ≡ Some x = ap (λ (n : ℕ). slice_get (xs ++ x ∷ []) n) place ∙ get_last xs x in
    let one : is_last_ending (xs ++ x ∷ []) ≡ is_last x.told = ap (λ (o : Option Outcome). option_map_or (λ (outcome : Outcome). is_last outcome.told) o false) there in
    let all : has_ended (xs ++ x ∷ []) ≡ is_last x.told = ended_append xs (x ∷ []) ∙ ap (λ (b : Bool). b || (is_last x.told || false)) none ∙ or_false (is_last x.told) in
    one ∙ sym all

-- WHICH WERE SKIPPED

pub skipped_append : (ended : Bool) (xs ys : List Outcome) → AreSkipped ended xs → AreSkipped (ended || has_ended xs) ys → AreSkipped ended (xs ++ ys)
skipped_append ended [] ys first rest = subst (λ (b : Bool). AreSkipped b ys) (or_false ended) rest
skipped_append ended (x ∷ xs) ys first rest =
    (first.0, skipped_append (ended || is_last x.told) xs ys first.1 (subst (λ (b : Bool). AreSkipped b ys) (sym (or_assoc ended (is_last x.told) (has_ended xs))) rest))

-- THE ATTEMPTS AT AN ITEM

-- each is of that item
pub attempts_of_item : (most : ℕ) (t : Transid) (outcomes : List Outcome) → AreAttempts most t outcomes → (outcome : Outcome) → Among outcomes outcome → outcome.tx.ordinal ≡ t.ordinal
attempts_of_item most t [] are outcome among = absurd are
attempts_of_item most t (x ∷ []) are outcome among = ⊎_elim
    (λ (same : x ≡ outcome). ap (λ (o : Outcome). o.tx.ordinal) (sym same) ∙ ap (λ (u : Transid). u.ordinal) are.0)
    (λ (none : Among {A = Outcome} [] outcome). absurd none)
    among
attempts_of_item most t (x ∷ next ∷ more) are outcome among = ⊎_elim
    (λ (same : x ≡ outcome). ap (λ (o : Outcome). o.tx.ordinal) (sym same) ∙ ap (λ (u : Transid). u.ordinal) are.0)
    (λ (later : Among (next ∷ more) outcome). attempts_of_item most (next_attempt t) (next ∷ more) are.3 outcome later)
    among

-- they are no more than may be made
pub attempts_few : (most : ℕ) (t : Transid) (outcomes : List Outcome) → AreAttempts most t outcomes → t.attempt ≤ most → length outcomes + t.attempt ≤ most + 1
attempts_few most t [] are within = absurd are
attempts_few most t (x ∷ []) are within = omega (arith, within)
attempts_few most t (x ∷ next ∷ more) are within =
    let less : t.attempt < most = are.2 in
    let rest : length (next ∷ more) + (t.attempt + 1) ≤ most + 1 = attempts_few most (next_attempt t) (next ∷ more) are.3 (omega (arith, less)) in
    omega (arith, rest)

-- of these none but the last ends the worker
pub record AreUpTo (outcomes : List Outcome) : Type 0 where
  pub first : List Outcome
  pub last : Outcome
  pub are : outcomes ≡ first ++ last ∷ []
  pub go_on : has_ended first ≡ false

pub attempts_up_to : (most : ℕ) (t : Transid) (outcomes : List Outcome) → AreAttempts most t outcomes → AreUpTo outcomes
attempts_up_to most t [] are = absurd are
attempts_up_to most t (x ∷ []) are = record { first = []; last = x; are = refl; go_on = refl }
attempts_up_to most t (x ∷ next ∷ more) are =
    let rest = attempts_up_to most (next_attempt t) (next ∷ more) are.3 in
    record {
      first = x ∷ rest.first;
      last = rest.last;
      are = ap (λ (l : List Outcome). x ∷ l) rest.are;
      go_on = ap (λ (b : Bool). b || has_ended rest.first) (busy_goes_on x.told are.1) ∙ rest.go_on;
    }

-- behind outcomes that did not end the worker, the last attempt says whether it is ended
pub attempts_say : (most : ℕ) (t : Transid) (before first : List Outcome) → AreAttempts most t first → has_ended before ≡ false → is_last_ending (before ++ first) ≡ has_ended (before ++ first)
attempts_say most t before first are none =
    let to = attempts_up_to most t first are in
    let whole : before ++ first ≡ (before ++ to.first) ++ to.last ∷ [] = ap (λ (l : List Outcome). before ++ l) to.are ∙ sym (append_assoc before to.first (to.last ∷ [])) in
    let go_on : has_ended (before ++ to.first) ≡ false = ended_append before to.first ∙ ap (λ (b : Bool). b || has_ended to.first) none ∙ to.go_on in
    subst (λ (l : List Outcome). is_last_ending l ≡ has_ended l) (sym whole) (last_says (before ++ to.first) to.last go_on)

-- THE ITEMS OF A WORKER

-- one item more
pub items_append : (epoch worker ordinal next : ℕ) (items : List Item) (item : Item) (outcomes first : List Outcome) → ordinal + length items ≡ next → AreOfItems epoch worker ordinal items outcomes
    → AreAttempts (most_attempts item) (first_attempt epoch worker next) first → AreOfItems epoch worker ordinal (items ++ item ∷ []) (outcomes ++ first)
items_append epoch worker ordinal next [] item outcomes first number none are =
    let here : next ≡ ordinal = omega (arith, number) in
    (first, [], ap (λ (l : List Outcome). l ++ first) none ∙ sym (append-nil first), subst (λ (n : ℕ). AreAttempts (most_attempts item) (first_attempt epoch worker n) first) here are, refl)
items_append epoch worker ordinal next (x ∷ items) item outcomes first number of are =
    (of.0, of.1 ++ first, ap (λ (l : List Outcome). l ++ first) of.2 ∙ append_assoc of.0 of.1 first, of.3, items_append epoch worker (suc ordinal) next items item of.1 first (omega (arith, number)) of.4 are)
