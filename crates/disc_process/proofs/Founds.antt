-- What follows from what a step has come to.
use Rattle.std.proofs.Common.{◌≡◌, ℕ, ◌<◌, ◌≤◌, ◌&&◌, ◌||◌, ◌⊎◌, inl, inr, Bool, true, false, not, List, length, Option, Some, None, Result, Ok, Err, cond, nat_le, nat_lt, bytes_eq, refl, ap, sym, ◌∙◌, arith}
use Rattle.std.specs.List.{list_any}
use Rattle.std.specs.Option.{is_some, MatchOption}
use Rattle.keyed_file.specs.Block.{KeyedBlock, CanTake, has_key, has_room, taken_keys, value_at}
use Rattle.tmf_model.specs.Effect.{applied}
use Rattle.tmf_model.specs.declared.script.Op.{Op}
use Rattle.tmf_model.specs.declared.script.Op.TheVariants.{Put, Add, Del, Read, Lock}
use Rattle.tmf_model.specs.declared.script.Reason.{Reason}
use Rattle.tmf_model.specs.declared.script.Step.{Step}
use Rattle.node_machine.specs.Disc.{IsChange, IsPut}
use Rattle.disc_process.specs.declared.found.Found.{Found}
use Rattle.disc_process.specs.declared.found.Found.TheVariants.{Change, Value, Full, Crowded, Refused}
use Rattle.disc_process.specs.Found.{is_put, is_still, outcome, found_in}

pub from_match : {A : Type 0} (o : Option A) (P : A → Type 0) → MatchOption o ⊥ P → (x : A) × (o ≡ Some x) × P x
from_match None P h = absurd h
from_match (Some x) P h = (x, refl, h)

-- a step that changes its key's value, in its block
pub record Changes (block : KeyedBlock) (kept : List (List ℕ)) (op : Op) (key : List ℕ) (before after : Option (List ℕ)) : Type 0 where
  pub was : before ≡ value_at block key
  pub gives : applied op before ≡ Ok after
  pub op_changes : IsChange op
  pub room : is_put op ≡ true → has_room block kept key ≡ true
  pub few : is_put op ≡ true → has_key block key ≡ false → length block.records < 62

outcome_change : (op : Op) (v before after : Option (List ℕ)) (r : Result (Option (List ℕ)) Reason) (read : Bool) → is_still op ≡ read
    → outcome op v r ≡ Change before after → (before ≡ v) × (r ≡ Ok after) × (is_still op ≡ false)
outcome_change op v before after (Err reason) read e h = absurd (cc (h))
outcome_change op v before after (Ok a) true e h = (let bad : Value a ≡ Change before after = sym (ap (λ b. cond b (Value a) (Change v a)) e) ∙ h in absurd (cc (bad)))
outcome_change op v before after (Ok a) false e h =
    let good : Change v a ≡ Change before after = sym (ap (λ b. cond b (Value a) (Change v a)) e) ∙ h in
    let one : v ≡ before = cc (good) in
    let two : a ≡ after = cc (good) in
    (sym one, ap Ok two, e)

change_op : (op : Op) → is_still op ≡ false → IsChange op
change_op (Put value) h = tt
change_op (Add addend) h = tt
change_op Del h = tt
change_op Read h = absurd (cc (h))
change_op Lock h = absurd (cc (h))

not_false : (b : Bool) → not b ≡ false → b ≡ true
not_false true h = refl
not_false false h = absurd (cc (h))

put_room : (a b : Bool) → (a && not b) ≡ false → a ≡ true → b ≡ true
put_room true b h e = not_false b h
put_room false b h e = absurd (cc (e))

le_not : (m n : ℕ) → nat_le m n ≡ false → n < m
le_not m n h = grind (arith)

few_of : (a b : Bool) (n : ℕ) → (a && (not b && nat_le 62 n)) ≡ false → a ≡ true → b ≡ false → n < 62
few_of true false n h e f = le_not 62 n h
few_of true true n h e f = absurd (cc (f))
few_of false b n h e f = absurd (cc (e))

choose : (a b : Bool) (x : Found) (before after : Option (List ℕ)) → cond a Full (cond b Crowded x) ≡ Change before after → (a ≡ false) × (b ≡ false) × (x ≡ Change before after)
choose true b x before after h = absurd (cc (h))
choose false true x before after h = absurd (cc (h))
choose false false x before after h = (refl, refl, h)

pub changes : (block : KeyedBlock) (kept : List (List ℕ)) (step : Step) (before after : Option (List ℕ)) → found_in block kept step ≡ Change before after → Changes block kept step.op step.key before after
changes block kept step before after h =
    let parts = choose (is_put step.op && not (has_room block kept step.key)) (is_put step.op && (not (has_key block step.key) && nat_le 62 (length block.records))) (outcome step.op (value_at block step.key) (applied step.op (value_at block step.key))) before after h in
    let o = outcome_change step.op (value_at block step.key) before after (applied step.op (value_at block step.key)) (is_still step.op) refl parts.2 in
    record {
      was = o.0;
      gives = ap (applied step.op) o.0 ∙ o.1;
      op_changes = change_op step.op o.2;
      room = put_room (is_put step.op) (has_room block kept step.key) parts.0;
      few = few_of (is_put step.op) (has_key block step.key) (length block.records) parts.1;
    }

present : (op : Op) (before after : Option (List ℕ)) (value : List ℕ) → applied op before ≡ Ok after → after ≡ Some value → is_put op ≡ false → IsChange op → is_some before ≡ true
present (Put v) before after value g a p c = absurd (cc (p))
present (Add n) None after value g a p c = absurd (cc (g))
present (Add n) (Some b) after value g a p c = refl
present Del None after value g a p c = absurd (cc (g))
present Del (Some b) after value g a p c = refl
present Read before after value g a p c = absurd c
present Lock before after value g a p c = absurd c

-- the block can take such a change
pub can_take : (block : KeyedBlock) (kept : List (List ℕ)) (op : Op) (key : List ℕ) (before after : Option (List ℕ)) → Changes block kept op key before after → CanTake block.records key after
can_take block kept op key before None c = tt
can_take block kept op key before (Some value) c = of (is_put op) refl (has_key block key) refl
  where
    of : (p : Bool) → is_put op ≡ p → (k : Bool) → has_key block key ≡ k → (is_some (value_at block key) ≡ true) ⊎ (length block.records < 62)
    of p e true f = inl f
    of true e false f = inr (c.few e f)
    of false e false f = inl (ap is_some (sym c.was) ∙ present op before (Some value) value c.gives refl e c.op_changes)

choose_full : (a b : Bool) (op : Op) (v : Option (List ℕ)) (r : Result (Option (List ℕ)) Reason) → cond a Full (cond b Crowded (outcome op v r)) ≡ Full → a ≡ true
choose_full true b op v r h = refl
choose_full false true op v r h = absurd (cc (h))
choose_full false false op v (Err reason) h = absurd (cc (h))
choose_full false false op v (Ok x) h = of (is_still op) h
  where
    of : (c : Bool) → cond c (Value x) (Change v x) ≡ Full → false ≡ true
    of true h = absurd (cc (h))
    of false h = absurd (cc (h))

full_parts : (a b : Bool) → (a && not b) ≡ true → (a ≡ true) × (b ≡ false)
full_parts true false h = (refl, refl)
full_parts true true h = absurd (cc (h))
full_parts false b h = absurd (cc (h))

-- a step whose key has no room is a put, and its block has none
pub full : (block : KeyedBlock) (kept : List (List ℕ)) (step : Step) → found_in block kept step ≡ Full → (is_put step.op ≡ true) × (has_room block kept step.key ≡ false)
full block kept step h =
    full_parts (is_put step.op) (has_room block kept step.key)
    (choose_full (is_put step.op && not (has_room block kept step.key)) (is_put step.op && (not (has_key block step.key) && nat_le 62 (length block.records))) step.op (value_at block step.key) (applied step.op (value_at block step.key)) h)

choose_crowded : (a b : Bool) (op : Op) (v : Option (List ℕ)) (r : Result (Option (List ℕ)) Reason) → cond a Full (cond b Crowded (outcome op v r)) ≡ Crowded → (a ≡ false) × (b ≡ true)
choose_crowded true b op v r h = absurd (cc (h))
choose_crowded false true op v r h = (refl, refl)
choose_crowded false false op v (Err reason) h = absurd (cc (h))
choose_crowded false false op v (Ok x) h = of (is_still op) h
  where
    of : (c : Bool) → cond c (Value x) (Change v x) ≡ Crowded → (false ≡ false) × (false ≡ true)
    of true h = absurd (cc (h))
    of false h = absurd (cc (h))

-- a put whose key has room beside the kept ones, in a block that has none
pub record CrowdedStep (block : KeyedBlock) (kept : List (List ℕ)) (step : Step) : Type 0 where
  pub put : is_put step.op ≡ true
  pub absent : has_key block step.key ≡ false
  pub room : (list_any (bytes_eq step.key) kept || nat_lt (length (taken_keys block kept)) 62) ≡ true
  pub many : 62 ≤ length block.records

crowded_parts : (a b c : Bool) → (a && (not b && c)) ≡ true → (a ≡ true) × (b ≡ false) × (c ≡ true)
crowded_parts true false true h = (refl, refl, refl)
crowded_parts true false false h = absurd (cc (h))
crowded_parts true true c h = absurd (cc (h))
crowded_parts false b c h = absurd (cc (h))

or_second : (a b : Bool) → (a || b) ≡ true → a ≡ false → b ≡ true
or_second false b h e = h
or_second true b h e = absurd (cc (e))

is_le : (m n : ℕ) → nat_le m n ≡ true → m ≤ n
is_le m n h = grind (arith)

pub crowded : (block : KeyedBlock) (kept : List (List ℕ)) (step : Step) → found_in block kept step ≡ Crowded → CrowdedStep block kept step
crowded block kept step h =
    let both = choose_crowded (is_put step.op && not (has_room block kept step.key)) (is_put step.op && (not (has_key block step.key) && nat_le 62 (length block.records))) step.op (value_at block step.key) (applied step.op (value_at block step.key)) h in
    let parts = crowded_parts (is_put step.op) (has_key block step.key) (nat_le 62 (length block.records)) both.1 in record {
      put = parts.0;
      absent = parts.1;
      room = or_second (has_key block step.key) (list_any (bytes_eq step.key) kept || nat_lt (length (taken_keys block kept)) 62) (put_room (is_put step.op) (has_room block kept step.key) both.0 parts.0) parts.1;
      many = is_le 62 (length block.records) parts.2;
    }

choose_refused : (a b : Bool) (op : Op) (v : Option (List ℕ)) (r : Result (Option (List ℕ)) Reason) (reason : Reason) → cond a Full (cond b Crowded (outcome op v r)) ≡ Refused reason → r ≡ Err reason
choose_refused true b op v r reason h = absurd (cc (h))
choose_refused false true op v r reason h = absurd (cc (h))
choose_refused false false op v (Err other) reason h = (let same : other ≡ reason = cc (h) in ap Err same)
choose_refused false false op v (Ok x) reason h = of (is_still op) h
  where
    of : (c : Bool) → cond c (Value x) (Change v x) ≡ Refused reason → Ok x ≡ Err reason
    of true h = absurd (cc (h))
    of false h = absurd (cc (h))

pub refused : (block : KeyedBlock) (kept : List (List ℕ)) (step : Step) (reason : Reason) → found_in block kept step ≡ Refused reason → applied step.op (value_at block step.key) ≡ Err reason
refused block kept step reason h =
    choose_refused (is_put step.op && not (has_room block kept step.key)) (is_put step.op && (not (has_key block step.key) && nat_le 62 (length block.records))) step.op (value_at block step.key) (applied step.op (value_at block step.key)) reason h

choose_value : (a b : Bool) (op : Op) (v : Option (List ℕ)) (value : Option (List ℕ)) → cond a Full (cond b Crowded (outcome op v (applied op v))) ≡ Value value → value ≡ v
choose_value true b op v value h = absurd (cc (h))
choose_value false true op v value h = absurd (cc (h))
choose_value false false (Put w) v value h = absurd (cc (h))
choose_value false false (Add n) None value h = absurd (cc (h))
choose_value false false (Add n) (Some w) value h = of (applied (Add n) (Some w)) h
  where
    of : (r : Result (Option (List ℕ)) Reason) → outcome (Add n) (Some w) r ≡ Value value → value ≡ Some w
    of (Ok x) h = absurd (cc (h))
    of (Err x) h = absurd (cc (h))
choose_value false false Del None value h = absurd (cc (h))
choose_value false false Del (Some w) value h = absurd (cc (h))
choose_value false false Read v value h = (let same : v ≡ value = cc (h) in sym same)
choose_value false false Lock v value h = (let same : v ≡ value = cc (h) in sym same)

pub read_found : (block : KeyedBlock) (kept : List (List ℕ)) (step : Step) (value : Option (List ℕ)) → found_in block kept step ≡ Value value → value ≡ value_at block step.key
read_found block kept step value h =
    choose_value (is_put step.op && not (has_room block kept step.key)) (is_put step.op && (not (has_key block step.key) && nat_le 62 (length block.records))) step.op (value_at block step.key) value h

pub put_is : (op : Op) → is_put op ≡ true → IsPut op
put_is (Put v) h = tt
put_is (Add n) h = absurd (cc (h))
put_is Del h = absurd (cc (h))
put_is Read h = absurd (cc (h))
put_is Lock h = absurd (cc (h))
