-- An attempt that begins at a map ends in one way, so the outcomes of one worker are one function of its items, the list and the map, apart from the positions that control points and dumps tell.
use Rattle.std.specs.Prelude.{◌≡◌, ◌⊎◌, ℕ, zero, suc, ◌+◌, ◌<◌, List, [], ◌∷◌, length, map, take, fold, Option, Some, Result, Ok, Err, slice_get}
use Rattle.std.proofs.Common.{refl, ap, sym, ◌∙◌, subst, arith, ⊎_elim, inl, inr}
use Rattle.std.proofs.lemmas.Option.{slice_get_within}
use Rattle.tmf_model.specs.Effect.{after_step, after_steps, applied, stepped}
use Rattle.tmf_model.specs.RecordMap.{RecordMap}
use Rattle.tmf_model.specs.declared.config.Config.{Config}
use Rattle.tmf_model.specs.declared.script.Close.TheVariants.{Abort as AbortClose, Commit as CommitClose}
use Rattle.tmf_model.specs.declared.script.Item.{Item}
use Rattle.tmf_model.specs.declared.script.Item.TheVariants.{Control, Dump, Transaction as TransactionItem}
use Rattle.tmf_model.specs.declared.script.Op.{Op}
use Rattle.tmf_model.specs.declared.script.Op.TheVariants.{Add, Del, Lock, Put, Read}
use Rattle.tmf_model.specs.declared.script.Phase.{Phase}
use Rattle.tmf_model.specs.declared.script.Reason.{Reason}
use Rattle.tmf_model.specs.declared.script.Step.{Step}
use Rattle.tmf_model.specs.declared.script.Transaction.{Transaction}
use Rattle.trail_files.specs.declared.monitor_record.MonitorRecord.{MonitorRecord}
use Rattle.node_machine.specs.Disc.{IsPut}
use Rattle.run_outcomes.specs.declared.outcome.Outcome.{Outcome}
use Rattle.run_outcomes.specs.declared.outcome.Told.TheVariants.{Aborted, Committed, Full, Refused}
use Rattle.run_standing.specs.Made.{map_behind}
use Rattle.single_law.proofs.Positions.{records_same}
use Rattle.single_law.specs.Ended.{GoesTo, IsEnd, IsFullAt, IsRefusedAt}
use Rattle.single_law.specs.Left.{map_left, records_left}
use Rattle.single_law.specs.One.{AreSameOutcomes, OneEndLaw, OneRunLaw, plain_outcome, without_position}
use Rattle.single_law.specs.Single.{HasEnded}

-- STEPS

-- once a step was refused, so is all behind it
refused_stays : (steps : List Step) (reason : Reason) → fold after_step (Err reason) steps ≡ Err reason
refused_stays [] reason = refl
refused_stays (step ∷ steps) reason = refused_stays steps reason

-- beyond a step that is refused no steps are carried out
refused_beyond : (steps : List Step) (before n : ℕ) (step : Step) (reason : Reason) (from at after : RecordMap) → slice_get steps before ≡ Some step → after_steps (take before steps) from ≡ Ok at
    → applied step.op (at step.file step.key) ≡ Err reason → before < n → after_steps (take n steps) from ≡ Ok after → ⊥
refused_beyond [] before n step reason from at after is goes refused lt there = cc (is)
refused_beyond (x ∷ steps) zero zero step reason from at after is goes refused lt there = omega (arith, lt)
refused_beyond (x ∷ steps) zero (suc n) step reason from at after is goes refused lt there =
    let one : x ≡ step = cc (is) in
    let same : from ≡ at = cc (goes) in
    let stops : after_step (Ok from) x ≡ Err reason =
    (λ i. after_step (Ok (same i)) (one i)) ∙ ap (λ (r : Result (Option (List ℕ)) Reason). stepped step r at) refused in
    let all : Err reason ≡ Ok after = sym (ap (λ (r : Result RecordMap Reason). fold after_step r (take n steps)) stops ∙ refused_stays (take n steps) reason) ∙ there in
    cc (all)
refused_beyond (x ∷ steps) (suc before) zero step reason from at after is goes refused lt there = omega (arith, lt)
refused_beyond (x ∷ steps) (suc before) (suc n) step reason from at after is goes refused lt there =
    by_step (λ next goes_ there_. refused_beyond steps before n step reason next at after is goes_ refused (omega (arith, lt)) there_) (after_step (Ok from) x) goes there
  where
    by_step : ((next : RecordMap) → after_steps (take before steps) next ≡ Ok at → after_steps (take n steps) next ≡ Ok after → ⊥) → (r : Result RecordMap Reason) → fold after_step r (take before steps) ≡ Ok at
        → fold after_step r (take n steps) ≡ Ok after → ⊥
    by_step rest (Ok next) goes_ there_ = rest next goes_ there_
    by_step rest (Err why) goes_ there_ = (let both : Err why ≡ Ok at = sym (refused_stays (take before steps) why) ∙ goes_ in cc (both))

put_stands : (op : Op) (value : Option (List ℕ)) (reason : Reason) → IsPut op → applied op value ≡ Err reason → ⊥
put_stands (Put new) value reason puts refused = cc (refused)
put_stands (Add amount) value reason puts refused = puts
put_stands Del value reason puts refused = puts
put_stands Read value reason puts refused = puts
put_stands Lock value reason puts refused = puts

-- of two numbers one is less, or they are the same
which : (a b : ℕ) → (a < b) ⊎ (b < a) ⊎ (a ≡ b)
which zero zero = inr (inr refl)
which zero (suc b) = inl (omega arith)
which (suc a) zero = inr (inl (omega arith))
which (suc a) (suc b) = ⊎_elim (λ (lt : a < b). inl (omega (arith, lt))) (λ others. ⊎_elim (λ (lt : b < a). inr (inl (omega (arith, lt)))) (λ (is : a ≡ b). inr (inr (ap suc is))) others) (which a b)

same_pairs : {A B : Type 0} (xs ys : List (A × B)) → map (λ x. x.0) xs ≡ map (λ x. x.0) ys → map (λ x. x.1) xs ≡ map (λ x. x.1) ys → xs ≡ ys
same_pairs [] [] one other = refl
same_pairs [] (y ∷ ys) one other = absurd (cc (one))
same_pairs (x ∷ xs) [] one other = absurd (cc (one))
same_pairs (x ∷ xs) (y ∷ ys) one other =
    let first : x.0 ≡ y.0 = cc (one) in
    let second : x.1 ≡ y.1 = cc (other) in
    let rest = same_pairs xs ys (cc (one)) (cc (other)) in
    λ i. (first i, second i) ∷ rest i

-- ONE END

module _ (config : Config) (steps : List Step) (from : RecordMap) where
  -- where steps are carried out none of them is refused, and none finds no room
  refused_short : (op : ℕ) (reason : Reason) (r : IsRefusedAt config steps from op reason) (count : ℕ) (after : RecordMap) → GoesTo config steps from count after → r.before < count → ⊥
  refused_short op reason r count after goes lt = refused_beyond steps r.before count r.step reason from r.at after r.is_step r.goes.values r.refused lt goes.values

  full_short : (file : ℕ) (key : List ℕ) (f : IsFullAt config steps from file key) (count : ℕ) (after : RecordMap) → GoesTo config steps from count after → f.before < count → ⊥
  full_short file key f count after goes lt = goes.room f.before f.step f.at lt f.is_step f.goes.values f.full

  not_refused : (op : ℕ) (reason : Reason) (after : RecordMap) → GoesTo config steps from (length steps) after → IsRefusedAt config steps from op reason → ⊥
  not_refused op reason after goes r = refused_short op reason r (length steps) after goes (slice_get_within steps r.before r.step r.is_step)

  not_full : (file : ℕ) (key : List ℕ) (after : RecordMap) → GoesTo config steps from (length steps) after → IsFullAt config steps from file key → ⊥
  not_full file key after goes f = full_short file key f (length steps) after goes (slice_get_within steps f.before f.step f.is_step)

  -- the steps at one place, behind the same ones, are one, and the maps there
  same_step : (one other : ℕ) (x y : Step) → one ≡ other → slice_get steps one ≡ Some x → slice_get steps other ≡ Some y → x ≡ y
  same_step one other x y is at_x at_y = (let both : Some x ≡ Some y = sym at_x ∙ (ap (λ (n : ℕ). slice_get steps n) is ∙ at_y) in cc (both))

  same_map : (one other : ℕ) (x y : RecordMap) → one ≡ other → after_steps (take one steps) from ≡ Ok x → after_steps (take other steps) from ≡ Ok y → x ≡ y
  same_map one other x y is at_x at_y = (let both : Ok x ≡ Ok y = sym at_x ∙ (ap (λ (n : ℕ). after_steps (take n steps) from) is ∙ at_y) in cc (both))

  one_refusal : (op other_op : ℕ) (reason other : Reason) → IsRefusedAt config steps from op reason → IsRefusedAt config steps from other_op other → Refused op reason ≡ Refused other_op other
  one_refusal op other_op reason other r s = ⊎_elim
      (λ (lt : r.before < s.before). absurd (refused_short op reason r s.before s.at s.goes lt))
      (λ others. ⊎_elim
      (λ (lt : s.before < r.before). absurd (refused_short other_op other s r.before r.at r.goes lt))
      (λ (is : r.before ≡ s.before).
      let step = same_step r.before s.before r.step s.step is r.is_step s.is_step in
      let at = same_map r.before s.before r.at s.at is r.goes.values s.goes.values in
      let both : Err reason ≡ Err other = sym r.refused ∙ ((λ i. applied (step i).op (at i (step i).file (step i).key)) ∙ s.refused) in
      let why : reason ≡ other = cc (both) in
      let number : op ≡ other_op = r.number ∙ (ap suc is ∙ sym s.number) in
      λ i. Refused (number i) (why i))
      others)
      (which r.before s.before)

  one_fullness : (file other_file : ℕ) (key other_key : List ℕ) → IsFullAt config steps from file key → IsFullAt config steps from other_file other_key → Full file key ≡ Full other_file other_key
  one_fullness file other_file key other_key f g = ⊎_elim
      (λ (lt : f.before < g.before). absurd (full_short file key f g.before g.at g.goes lt))
      (λ others. ⊎_elim
      (λ (lt : g.before < f.before). absurd (full_short other_file other_key g f.before f.at f.goes lt))
      (λ (is : f.before ≡ g.before).
      let step = same_step f.before g.before f.step g.step is f.is_step g.is_step in
      let files : file ≡ other_file = sym f.file_is ∙ (ap (λ (x : Step). x.file) step ∙ g.file_is) in
      let keys : key ≡ other_key = sym f.key_is ∙ (ap (λ (x : Step). x.key) step ∙ g.key_is) in
      λ i. Full (files i) (keys i))
      others)
      (which f.before g.before)

  not_both : (op : ℕ) (reason : Reason) (file : ℕ) (key : List ℕ) → IsRefusedAt config steps from op reason → IsFullAt config steps from file key → ⊥
  not_both op reason file key r f = ⊎_elim
      (λ (lt : r.before < f.before). refused_short op reason r f.before f.at f.goes lt)
      (λ others. ⊎_elim
      (λ (lt : f.before < r.before). full_short file key f r.before r.at r.goes lt)
      (λ (is : r.before ≡ f.before).
      let step = same_step r.before f.before r.step f.step is r.is_step f.is_step in
      put_stands r.step.op (r.at r.step.file r.step.key) reason (subst (λ (x : Step). IsPut x.op) (sym step) f.full.puts) r.refused)
      others)
      (which r.before f.before)

closes : CommitClose ≡ AbortClose → ⊥
closes is = cc (is)

pub one_end_law : OneEndLaw
one_end_law config transaction from place (Committed at reads) (Committed other more) one two =
    let places : at ≡ other = one.0 ∙ sym two.0 in
    let all : reads ≡ more = same_pairs reads more (one.3.numbers ∙ sym two.3.numbers) (one.3.values ∙ sym two.3.values) in
    λ i. Committed (places i) (all i)
one_end_law config transaction from place (Committed at reads) Aborted one two = absurd (closes (sym one.1 ∙ two.0))
one_end_law config transaction from place (Committed at reads) (Refused op reason) one two = absurd (not_refused config transaction.steps from op reason one.2.0 one.2.1 two)
one_end_law config transaction from place (Committed at reads) (Full file key) one two = absurd (not_full config transaction.steps from file key one.2.0 one.2.1 two)
one_end_law config transaction from place Aborted (Committed at reads) one two = absurd (closes (sym two.1 ∙ one.0))
one_end_law config transaction from place Aborted Aborted one two = refl
one_end_law config transaction from place Aborted (Refused op reason) one two = absurd (not_refused config transaction.steps from op reason one.1.0 one.1.1 two)
one_end_law config transaction from place Aborted (Full file key) one two = absurd (not_full config transaction.steps from file key one.1.0 one.1.1 two)
one_end_law config transaction from place (Refused op reason) (Committed at reads) one two = absurd (not_refused config transaction.steps from op reason two.2.0 two.2.1 one)
one_end_law config transaction from place (Refused op reason) Aborted one two = absurd (not_refused config transaction.steps from op reason two.1.0 two.1.1 one)
one_end_law config transaction from place (Refused op reason) (Refused other_op other) one two = one_refusal config transaction.steps from op other_op reason other one two
one_end_law config transaction from place (Refused op reason) (Full file key) one two = absurd (not_both config transaction.steps from op reason file key one two)
one_end_law config transaction from place (Full file key) (Committed at reads) one two = absurd (not_full config transaction.steps from file key two.2.0 two.2.1 one)
one_end_law config transaction from place (Full file key) Aborted one two = absurd (not_full config transaction.steps from file key two.1.0 two.1.1 one)
one_end_law config transaction from place (Full file key) (Refused op reason) one two = absurd (not_both config transaction.steps from op reason file key two one)
one_end_law config transaction from place (Full file key) (Full other_file other_key) one two = one_fullness config transaction.steps from file other_file key other_key one two
one_end_law config transaction from place (Committed at reads) _ one two = absurd two
one_end_law config transaction from place Aborted _ one two = absurd two
one_end_law config transaction from place (Refused op reason) _ one two = absurd two
one_end_law config transaction from place (Full file key) _ one two = absurd two
one_end_law config transaction from place _ other one two = absurd one

-- ONE RUN

-- what is made of lists of one length is the same where it is of each item, behind the same
same_maps : {T U : Type 0} (f : T → U) (xs ys : List T) → length xs ≡ length ys
    → ((n : ℕ) (x y : T) → slice_get xs n ≡ Some x → slice_get ys n ≡ Some y → map f (take n xs) ≡ map f (take n ys) → f x ≡ f y) → map f xs ≡ map f ys
same_maps f [] [] count each = refl
same_maps f [] (y ∷ ys) count each = absurd (omega (arith, count))
same_maps f (x ∷ xs) [] count each = absurd (omega (arith, count))
same_maps f (x ∷ xs) (y ∷ ys) count each =
    let head : f x ≡ f y = each zero x y refl refl refl in
    let tail = same_maps f xs ys (omega (arith, count)) (λ n a b at_a at_b same. each (suc n) a b at_a at_b (λ i. head i ∷ same i)) in
    λ i. head i ∷ tail i

-- of one item two outcomes behind the same ones tell the same
module _ (config : Config) (phase : Phase) (epoch : ℕ) (items : List Item) (list other_list : List MonitorRecord) (map_ : RecordMap) (count : length list ≡ length other_list) (before other_before : List Outcome)
    (same : AreSameOutcomes before other_before) (number : ℕ) (x y : Outcome)
    (first : HasEnded config phase epoch items list map_ before number x) (second : HasEnded config phase epoch items other_list map_ other_before number y) where
  same_item : second.item ≡ first.item
  same_item = (let both : Some second.item ≡ Some first.item = sym second.is_item ∙ first.is_item in cc (both))

  same_end : (transaction : Transaction) → first.item ≡ TransactionItem transaction → x.told ≡ y.told
  same_end transaction is =
      let records : records_left other_before ≡ records_left before = sym (records_same before other_before same) in
      let here : IsEnd config transaction (map_left phase epoch before map_) (length list + suc (length (records_left before))) y.told =
      subst (λ (l : List MonitorRecord). IsEnd config transaction (map_behind phase epoch l map_) (length list + suc (length l)) y.told) records
      (subst (λ (k : ℕ). IsEnd config transaction (map_left phase epoch other_before map_) (k + suc (length (records_left other_before))) y.told) (sym count) (second.ends transaction (same_item ∙ is))) in
      one_end_law config transaction (map_left phase epoch before map_) (length list + suc (length (records_left before))) x.told y.told (first.ends transaction is) here

  same_told : (item : Item) → first.item ≡ item → without_position x.told ≡ without_position y.told
  same_told (TransactionItem transaction) is = ap without_position (same_end transaction is)
  same_told (Control volume) is = ap without_position (first.controls volume is).1 ∙ sym (ap without_position (second.controls volume (same_item ∙ is)).1)
  same_told (Dump volume) is = ap without_position (first.dumps volume is).1 ∙ sym (ap without_position (second.dumps volume (same_item ∙ is)).1)

  same_outcome : plain_outcome x ≡ plain_outcome y
  same_outcome =
      let tx : x.tx ≡ y.tx = first.tx ∙ sym second.tx in
      let told = same_told first.item refl in
      λ i. record { tx = tx i; told = told i }

pub one_run_law : OneRunLaw
one_run_law config phase epoch items list other_list map_ outcomes other_outcomes count one other =
    same_maps plain_outcome outcomes other_outcomes (one.count ∙ sym other.count) (λ n x y at_x at_y same.
    same_outcome config phase epoch items list other_list map_ count (take n outcomes) (take n other_outcomes) same n x y (one.each n x at_x) (other.each n y at_y))
