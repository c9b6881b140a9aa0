-- The records that outcomes leave of which none is the last stand first of those that have landed, in their order; where no outcome is the last, nothing else has landed, and none is offered.
use Rattle.std.specs.Prelude.{◌≡◌, ◌⊎◌, ℕ, suc, ◌<◌, true, false, List, [], ◌∷◌, ◌++◌, Option, Some, None, slice_get, take}
use Rattle.std.specs.List.{cons_option}
use Rattle.std.proofs.Common.{refl, ap, sym, ◌∙◌, subst, arith, append-nil, ⊎_elim, inl, inr}
use Rattle.chronicle.specs.Histories.{states_after}
use Rattle.tmf_model.specs.Commits.{script_transaction}
use Rattle.tmf_model.specs.declared.script.Item.{Item}
use Rattle.tmf_model.specs.declared.script.Phase.{Phase}
use Rattle.tmf_model.specs.declared.script.Transaction.{Transaction}
use Rattle.tmf_model.specs.declared.transid.Transid.{Transid}
use Rattle.trail_files.specs.declared.damage.Damage.{Damage}
use Rattle.trail_files.specs.declared.monitor_record.MonitorRecord.{MonitorRecord}
use Rattle.trail_files.specs.declared.monitor_record.MonitorRecord.TheVariants.{Abort, Commit, Start}
use Rattle.node_machine.specs.Deeds.{EventsLaw, HasBegun, Log}
use Rattle.node_machine.specs.Monitor.{IsLater, ended_by, offered_car, recorded}
use Rattle.node_machine.specs.Node.{node}
use Rattle.node_machine.specs.Opening.{Found, monitor_part, opening_parts}
use Rattle.node_machine.specs.Parts.{MonitorPart, PartState}
use Rattle.node_machine.specs.Parts.PartState.{Monitor}
use Rattle.node_machine.specs.declared.event.Cause.TheVariants as cause
use Rattle.node_machine.specs.declared.event.MonitorEvent.{MonitorEvent}
use Rattle.node_machine.specs.Same.{Among, IsBefore}
use Rattle.node_machine.specs.SameLaws.{among_append, among_left, among_right}
use Rattle.run_outcomes.specs.Ends.{monitor_events, monitor_events_in}
use Rattle.run_outcomes.specs.Outcomes.{first_attempt, is_busy, is_last, is_skipped}
use Rattle.run_outcomes.specs.Told.{IsAttemptTold, IsCommitted, IsEnded, IsOutcomeTold, IsTold, MayBeCommitted, MayHold}
use Rattle.run_outcomes.specs.declared.outcome.Outcome.{Outcome}
use Rattle.run_outcomes.specs.declared.outcome.Told.{Told}
use Rattle.run_outcomes.specs.declared.outcome.Told.TheVariants.{Aborted, Busy, Committed, Controlled, Damaged, Dumped, Dumping, Failed, Full, Hanging, InDoubt, Memory, Refused, Skipped, Spent}
use Rattle.single_law.proofs.Alone.{AreFrom, AreItsOutcomes, its_outcomes, not_busy}
use Rattle.single_law.proofs.Given.{IsGiven, account, among_at, among_given, front_among, landed, monitor_there, offered, recorded_begun, turned_begun}
use Rattle.single_law.proofs.Moments.{not_before, not_both}
use Rattle.single_law.proofs.Rows.{order_law, row_across, row_front}
use Rattle.single_law.specs.Left.{end_record, records_left}
use Rattle.single_law.specs.Row.{AreInRow}

-- TWO ROWS WITH THE SAME RECORDS

-- the record is the one that the outcome leaves
abbrev pub IsLeftBy : Outcome → MonitorRecord → Type 0
IsLeftBy outcome x = end_record outcome.tx outcome.told ≡ Some x

pub left_ends : (t : Transid) (told : Told) (x : MonitorRecord) → end_record t told ≡ Some x → ended_by x ≡ Some t
left_ends t (Committed place reads) x is = (let one : Commit t ≡ x = cc (is) in ap ended_by (sym one))
left_ends t Aborted x is = (let one : Abort t ≡ x = cc (is) in ap ended_by (sym one))
left_ends t (Full file key) x is = (let one : Abort t ≡ x = cc (is) in ap ended_by (sym one))
left_ends t (Refused op reason) x is = (let one : Abort t ≡ x = cc (is) in ap ended_by (sym one))
left_ends t (Busy file key holder) x is = absurd (cc (is))
left_ends t (Spent part) x is = absurd (cc (is))
left_ends t (Failed device) x is = absurd (cc (is))
left_ends t (Damaged device damage) x is = absurd (cc (is))
left_ends t (InDoubt device) x is = absurd (cc (is))
left_ends t (Hanging why) x is = absurd (cc (is))
left_ends t Skipped x is = absurd (cc (is))
left_ends t Memory x is = absurd (cc (is))
left_ends t (Controlled volume low) x is = absurd (cc (is))
left_ends t (Dumped volume start) x is = absurd (cc (is))
left_ends t (Dumping volume) x is = absurd (cc (is))

-- an outcome among those of later items is of a later attempt
pub later_from : (epoch ordinal from : ℕ) (outcomes : List Outcome) (outcome : Outcome) → ordinal < from → AreFrom epoch from outcomes → Among outcomes outcome → IsBefore (first_attempt epoch 1 ordinal) outcome.tx × (outcome.tx.worker ≡ 1)
later_from epoch ordinal from [] outcome lt are among = absurd among
later_from epoch ordinal from (first ∷ more) outcome lt are among = ⊎_elim
    (λ (is : first ≡ outcome).
    let tx : outcome.tx ≡ first_attempt epoch 1 from = ap (λ (o : Outcome). o.tx) (sym is) ∙ are.0 in
    (subst (λ (t : Transid). IsBefore (first_attempt epoch 1 ordinal) t) (sym tx) (inl lt), ap (λ (t : Transid). t.worker) tx))
    (λ (rest : Among more outcome). later_from epoch ordinal (suc from) more outcome (omega (arith, lt)) are.1 rest)
    among

module _ (epoch : ℕ) where
  -- one of the outcomes leaves the record
  abbrev IsLeft : List Outcome → MonitorRecord → Type 0
  IsLeft outcomes x = (outcome : Outcome) × Among outcomes outcome × IsLeftBy outcome x

  -- the record ends the attempt of one of the outcomes
  abbrev EndsOne : List Outcome → MonitorRecord → Type 0
  EndsOne outcomes x = (outcome : Outcome) × Among outcomes outcome × (ended_by x ≡ Some outcome.tx)

  -- Each of these records is left by one of the outcomes, or ends the attempt of one that stands behind them; and what the outcomes leave is there.
  record AreSameAs (outcomes behind : List Outcome) (records : List MonitorRecord) : Type 0 where
    of_one : (x : MonitorRecord) → Among records x → IsLeft outcomes x ⊎ EndsOne behind x
    there : (outcome : Outcome) (x : MonitorRecord) → Among outcomes outcome → IsLeftBy outcome x → Among records x

  -- in both cases it ends the attempt of one of them all
  ends_any : (outcomes behind : List Outcome) (x : MonitorRecord) → IsLeft outcomes x ⊎ EndsOne behind x → EndsOne (outcomes ++ behind) x
  ends_any outcomes behind x by = ⊎_elim
      (λ (left : IsLeft outcomes x). (left.0, among_left outcomes behind left.0 left.1, left_ends left.0.tx left.0.told x left.2))
      (λ (ends : EndsOne behind x). (ends.0, among_right outcomes behind ends.0 ends.1, ends.2))
      by

  -- a record of a later item does not stand before one of an earlier item
  not_earlier : (ordinal : ℕ) (first : Outcome) (outcomes : List Outcome) (x y : MonitorRecord) → first.tx ≡ first_attempt epoch 1 ordinal → AreFrom epoch (suc ordinal) outcomes → IsLeftBy first x
      → EndsOne outcomes y → IsLater y x → ⊥
  not_earlier ordinal first outcomes x y tx are is_x by later =
      let behind = later_from epoch ordinal (suc ordinal) outcomes by.0 (omega arith) are by.1 in
      let worker : by.0.tx.worker ≡ first.tx.worker = behind.1 ∙ sym (ap (λ (t : Transid). t.worker) tx) in
      let back = later by.0.tx first.tx by.2 (left_ends first.tx first.told x is_x) worker in
      not_both (first_attempt epoch 1 ordinal) by.0.tx behind.0 (subst (λ (t : Transid). IsBefore by.0.tx t) tx back)

  -- of two outcomes of different items no record is the same
  not_same : (ordinal : ℕ) (first : Outcome) (outcomes : List Outcome) (x : MonitorRecord) → first.tx ≡ first_attempt epoch 1 ordinal → AreFrom epoch (suc ordinal) outcomes → IsLeftBy first x → EndsOne outcomes x → ⊥
  not_same ordinal first outcomes x tx are is_x by =
      let behind = later_from epoch ordinal (suc ordinal) outcomes by.0 (omega arith) are by.1 in
      let both : Some first.tx ≡ Some by.0.tx = sym (left_ends first.tx first.told x is_x) ∙ by.2 in
      let one : first.tx ≡ by.0.tx = cc (both) in
      not_before by.0.tx (subst (λ (t : Transid). IsBefore t by.0.tx) (sym tx ∙ one) behind.0)

  -- what the first outcome does not leave is of those behind it
  behind_first : (first : Outcome) (outcomes behind : List Outcome) (x : MonitorRecord) → (IsLeftBy first x → ⊥) → IsLeft (first ∷ outcomes) x ⊎ EndsOne behind x → IsLeft outcomes x ⊎ EndsOne behind x
  behind_first first outcomes behind x differs by = ⊎_elim
      (λ (left : IsLeft (first ∷ outcomes) x). ⊎_elim
      (λ (is : first ≡ left.0). absurd (differs (subst (λ (o : Outcome). IsLeftBy o x) (sym is) left.2)))
      (λ (more : Among outcomes left.0). inl (left.0, more, left.2))
      left.1)
      (λ (ends : EndsOne behind x). inr ends)
      by

  -- what the outcomes leave stands first
  front_rows : (ordinal : ℕ) (outcomes behind : List Outcome) (records : List MonitorRecord) → AreFrom epoch ordinal (outcomes ++ behind) → AreInRow records → AreSameAs outcomes behind records
      → (rest : List MonitorRecord) × (records ≡ records_left outcomes ++ rest)
  front_rows ordinal [] behind records are row same = (records, refl)
  front_rows ordinal (first ∷ outcomes) behind records are row same =
      by_case (end_record first.tx first.told) refl (λ rows_ row_ same_. front_rows (suc ordinal) outcomes behind rows_ are.1 row_ same_)
    where
      by_case : (o : Option MonitorRecord) → end_record first.tx first.told ≡ o
          → ((rows_ : List MonitorRecord) → AreInRow rows_ → AreSameAs outcomes behind rows_ → (rest : List MonitorRecord) × (rows_ ≡ records_left outcomes ++ rest))
          → (rest : List MonitorRecord) × (records ≡ cons_option o (records_left outcomes) ++ rest)
      by_case None none next = next records row (record {
        of_one = λ x has. behind_first first outcomes behind x (λ is. (let left : None ≡ Some x = sym none ∙ is in absurd (cc (left)))) (same.of_one x has);
        there = λ outcome x among is. same.there outcome x (inr among) is;
      })
      by_case (Some x) is_x next = with_first records row same refl where
        with_first : (rows_ : List MonitorRecord) → AreInRow rows_ → AreSameAs (first ∷ outcomes) behind rows_ → records ≡ rows_ → (rest : List MonitorRecord) × (records ≡ x ∷ records_left outcomes ++ rest)
        with_first [] row_ same_ is = absurd (same_.there first x (inl refl) is_x)
        with_first (y ∷ ys) row_ same_ is = (tail.0, is ∙ (λ i. head i ∷ tail.1 i)) where
          is_left : (z : MonitorRecord) → IsLeftBy first z → z ≡ x
          is_left z left = (let both : Some z ≡ Some x = sym left ∙ is_x in cc (both))

          -- the first record is the first outcome's
          of_later : EndsOne (outcomes ++ behind) y → y ≡ x
          of_later by = ⊎_elim
              (λ (it : y ≡ x). it)
              (λ (after : Among ys x). absurd (not_earlier ordinal first (outcomes ++ behind) x y are.0 are.1 is_x by (row_.0 x after)))
              (same_.there first x (inl refl) is_x)

          head : y ≡ x
          head = ⊎_elim
              (λ (left : IsLeft (first ∷ outcomes) y). ⊎_elim
              (λ (it : first ≡ left.0). is_left y (subst (λ (o : Outcome). IsLeftBy o y) (sym it) left.2))
              (λ (more : Among outcomes left.0). of_later (ends_any outcomes behind y (inl (left.0, more, left.2))))
              left.1)
              (λ (ends : EndsOne behind y). of_later (ends_any outcomes behind y (inr ends)))
              (same_.of_one y (inl refl))

          not_again : (z : MonitorRecord) → Among ys z → IsLeftBy first z → ⊥
          not_again z has left =
              let later : IsLater x x = subst (λ (v : MonitorRecord). IsLater x v) (is_left z left) (subst (λ (v : MonitorRecord). IsLater v z) head (row_.0 z has)) in
              let ends = left_ends first.tx first.told x is_x in
              not_before first.tx (later first.tx first.tx ends ends refl)

          tail : (rest : List MonitorRecord) × (ys ≡ records_left outcomes ++ rest)
          tail = next ys row_.1 (record {
            of_one = λ z has. behind_first first outcomes behind z (not_again z has) (same_.of_one z (inr has));
            there = λ outcome z among it.
                ⊎_elim
                (λ (here : y ≡ z). absurd (not_same ordinal first (outcomes ++ behind) x are.0 are.1 is_x
                (ends_any outcomes behind x (inl (outcome, among, it ∙ ap (λ (v : MonitorRecord). Some v) (sym here ∙ head))))))
                (λ (after : Among ys z). after)
                (same_.there outcome z (inr among) it);
          })

  -- where no outcome stands behind them, nothing else stands there
  same_rows : (ordinal : ℕ) (outcomes : List Outcome) (records : List MonitorRecord) → AreFrom epoch ordinal outcomes → AreInRow records → AreSameAs outcomes [] records → records ≡ records_left outcomes
  same_rows ordinal outcomes records are row same =
      let front = front_rows ordinal outcomes [] records (subst (λ (l : List Outcome). AreFrom epoch ordinal l) (sym (append-nil outcomes)) are) row same in
      front.1 ∙ (ap (λ (l : List MonitorRecord). records_left outcomes ++ l) (none front.0 front.1) ∙ append-nil (records_left outcomes))
    where
      none : (rest : List MonitorRecord) → records ≡ records_left outcomes ++ rest → rest ≡ []
      none [] is = refl
      none (z ∷ zs) is = ⊎_elim
          (λ (left : IsLeft outcomes z).
          let before = among_given (λ (o : Outcome). end_record o.tx o.told) outcomes left.0 z left.1 left.2 in
          let later = row_across (records_left outcomes) (z ∷ zs) z z (subst AreInRow is row) before (inl refl) in
          let ends = left_ends left.0.tx left.0.told z left.2 in
          absurd (not_before left.0.tx (later left.0.tx left.0.tx ends ends refl)))
          (λ (ends : EndsOne [] z). absurd ends.1)
          (same.of_one z (subst (λ (l : List MonitorRecord). Among l z) (sym is) (among_right (records_left outcomes) (z ∷ zs) z (inl refl))))

-- THE RECORDS OF A RUN

-- what an item tells that is no transaction
abbrev pub IsItemTold : Told → Type 0
IsItemTold (Controlled volume low) = Unit {0}
IsItemTold (Dumped volume start) = Unit {0}
IsItemTold (Dumping volume) = Unit {0}
IsItemTold _ = ⊥

clash : true ≡ false → ⊥
clash is = cc (is)

module _ (law : EventsLaw) (phase : Phase) (items : List Item) (outcomes : List Outcome) (found : Found) (log : Log) (broken : ℕ → Damage → Type 0) (given : IsGiven phase items outcomes found log broken) where
  -- the outcomes of which none is the last that the worker carries out
  abbrev pub going : List Outcome
  going = take given.count outcomes

  going_among : (outcome : Outcome) → Among going outcome → Among outcomes outcome
  going_among outcome has = front_among given.count outcomes outcome has

  pub its : AreItsOutcomes found.epoch items outcomes given.count
  its = its_outcomes phase found.epoch items outcomes given.count given.one (not_busy (account phase items outcomes found log broken) items given.one outcomes given.told) given.goes given.attempts

  -- WHAT AN OUTCOME TELLS

  -- how an attempt ends by itself
  abbrev pub IsOwnEnd : Told → Type 0
  IsOwnEnd (Committed place reads) = Unit {0}
  IsOwnEnd Aborted = Unit {0}
  IsOwnEnd (Full file key) = Unit {0}
  IsOwnEnd (Refused op reason) = Unit {0}
  IsOwnEnd _ = ⊥

  -- what the history has of an attempt that ended so
  abbrev pub IsOfAttempt : Transid → Told → Type 0
  IsOfAttempt t how = (transaction : Transaction) × (script_transaction phase found.epoch t ≡ Some transaction) × IsAttemptTold (account phase items outcomes found log broken) t transaction how

  attempt_told : (t : Transid) (how : Told) → IsOwnEnd how → IsTold (account phase items outcomes found log broken) (record { tx = t; told = how }) → IsOfAttempt t how
  attempt_told t (Committed place reads) own (inl is) = (is.0, is.1, is.2)
  attempt_told t (Committed place reads) own (inr (inl is)) = absurd is.2
  attempt_told t (Committed place reads) own (inr (inr is)) = absurd is.2
  attempt_told t Aborted own (inl is) = (is.0, is.1, is.2)
  attempt_told t Aborted own (inr (inl is)) = absurd is.2
  attempt_told t Aborted own (inr (inr is)) = absurd is.2
  attempt_told t (Full file key) own (inl is) = (is.0, is.1, is.2)
  attempt_told t (Full file key) own (inr (inl is)) = absurd is.2
  attempt_told t (Full file key) own (inr (inr is)) = absurd is.2
  attempt_told t (Refused op reason) own (inl is) = (is.0, is.1, is.2)
  attempt_told t (Refused op reason) own (inr (inl is)) = absurd is.2
  attempt_told t (Refused op reason) own (inr (inr is)) = absurd is.2
  attempt_told t (Busy file key holder) own is = absurd own
  attempt_told t (Spent part) own is = absurd own
  attempt_told t (Failed device) own is = absurd own
  attempt_told t (Damaged device damage) own is = absurd own
  attempt_told t (InDoubt device) own is = absurd own
  attempt_told t (Hanging why) own is = absurd own
  attempt_told t Skipped own is = absurd own
  attempt_told t Memory own is = absurd own
  attempt_told t (Controlled volume low) own is = absurd own
  attempt_told t (Dumped volume start) own is = absurd own
  attempt_told t (Dumping volume) own is = absurd own

  pub told_as : (outcome : Outcome) (how : Told) → Among outcomes outcome → outcome.told ≡ how → IsOutcomeTold (account phase items outcomes found log broken) (record { tx = outcome.tx; told = how })
  told_as outcome how among is = subst (λ (x : Told). IsOutcomeTold (account phase items outcomes found log broken) (record { tx = outcome.tx; told = x })) is (given.told.each outcome among)

  pub attempt_of : (outcome : Outcome) (how : Told) → Among outcomes outcome → outcome.told ≡ how → IsOwnEnd how → IsOfAttempt outcome.tx how
  attempt_of outcome how among is own = attempt_told outcome.tx how own (told_as outcome how among is).told

  -- an item that is no transaction has no attempt
  pub no_attempt : (t : Transid) (how : Told) → IsItemTold how → IsTold (account phase items outcomes found log broken) (record { tx = t; told = how }) → HasBegun log t → ⊥
  no_attempt t (Controlled volume low) item (inl is) begun = absurd is.2
  no_attempt t (Controlled volume low) item (inr (inl is)) begun = is.4 begun
  no_attempt t (Controlled volume low) item (inr (inr is)) begun = absurd is.2
  no_attempt t (Dumped volume start) item (inl is) begun = absurd is.2
  no_attempt t (Dumped volume start) item (inr (inl is)) begun = absurd is.2
  no_attempt t (Dumped volume start) item (inr (inr is)) begun = is.4 begun
  no_attempt t (Dumping volume) item (inl is) begun = absurd is.2
  no_attempt t (Dumping volume) item (inr (inl is)) begun = absurd is.2
  no_attempt t (Dumping volume) item (inr (inr is)) begun = is.4 begun
  no_attempt t (Committed place reads) item is begun = absurd item
  no_attempt t Aborted item is begun = absurd item
  no_attempt t (Full file key) item is begun = absurd item
  no_attempt t (Refused op reason) item is begun = absurd item
  no_attempt t (Busy file key holder) item is begun = absurd item
  no_attempt t (Spent part) item is begun = absurd item
  no_attempt t (Failed device) item is begun = absurd item
  no_attempt t (Damaged device damage) item is begun = absurd item
  no_attempt t (InDoubt device) item is begun = absurd item
  no_attempt t (Hanging why) item is begun = absurd item
  no_attempt t Skipped item is begun = absurd item
  no_attempt t Memory item is begun = absurd item

  -- each of these outcomes is of an attempt that ended by itself, or of another item
  pub ends_or_item : (outcome : Outcome) (how : Told) → Among going outcome → outcome.told ≡ how → IsOwnEnd how ⊎ IsItemTold how
  ends_or_item outcome (Committed place reads) among is = inl tt
  ends_or_item outcome Aborted among is = inl tt
  ends_or_item outcome (Full file key) among is = inl tt
  ends_or_item outcome (Refused op reason) among is = inl tt
  ends_or_item outcome (Controlled volume low) among is = inr tt
  ends_or_item outcome (Dumped volume start) among is = inr tt
  ends_or_item outcome (Dumping volume) among is = inr tt
  ends_or_item outcome (Busy file key holder) among is =
      absurd (clash (ap (λ (x : Told). is_busy x) (sym is) ∙ not_busy (account phase items outcomes found log broken) items given.one outcomes given.told outcome (going_among outcome among)))
  ends_or_item outcome Skipped among is = absurd (clash (ap (λ (x : Told). is_skipped x) (sym is) ∙ its.unskipped outcome among))
  ends_or_item outcome (Spent part) among is = absurd (clash (ap (λ (x : Told). is_last x) (sym is) ∙ given.goes outcome among))
  ends_or_item outcome (Failed device) among is = absurd (clash (ap (λ (x : Told). is_last x) (sym is) ∙ given.goes outcome among))
  ends_or_item outcome (Damaged device damage) among is = absurd (clash (ap (λ (x : Told). is_last x) (sym is) ∙ given.goes outcome among))
  ends_or_item outcome (InDoubt device) among is = absurd (clash (ap (λ (x : Told). is_last x) (sym is) ∙ given.goes outcome among))
  ends_or_item outcome (Hanging why) among is = absurd (clash (ap (λ (x : Told). is_last x) (sym is) ∙ given.goes outcome among))
  ends_or_item outcome Memory among is = absurd (clash (ap (λ (x : Told). is_last x) (sym is) ∙ given.goes outcome among))

  -- WHICH RECORDS THERE ARE

  abbrev pub m : MonitorPart
  m = (monitor_there found log).0

  pub at_m : slice_get (states_after node (opening_parts found) log) monitor_part ≡ Some (Monitor m)
  at_m = (monitor_there found log).1

  pub events_are : monitor_events (states_after node (opening_parts found) log) ≡ m.events
  events_are = ap (λ (o : Option PartState). monitor_events_in o) at_m

  abbrev pub all_records : List MonitorRecord
  all_records = landed phase items outcomes found log broken ++ offered phase items outcomes found log broken

  pub all_are : all_records ≡ recorded m.events ++ offered_car m.events
  all_are = ap (λ (es : List MonitorEvent). recorded es ++ offered_car es) events_are

  begun_of : (x : MonitorRecord) (t : Transid) → Among all_records x → ended_by x ≡ Some t → HasBegun log t
  begun_of x t has is = recorded_begun law found log m x t given.history at_m (subst (λ (l : List MonitorRecord). Among l x) all_are has) is

  -- each is the one that an outcome leaves, where it is of one of these
  pub commit_left : (t : Transid) (outcome : Outcome) (how : Told) → Among going outcome → outcome.tx ≡ t → outcome.told ≡ how → MayBeCommitted how → end_record outcome.tx how ≡ Some (Commit t)
  commit_left t outcome (Committed place reads) among tx is may = ap (λ (u : Transid). Some (Commit u)) tx
  commit_left t outcome (InDoubt device) among tx is may = absurd (clash (ap (λ (x : Told). is_last x) (sym is) ∙ given.goes outcome among))
  commit_left t outcome _ among tx is may = absurd may

  abort_left : (t : Transid) (outcome : Outcome) (how : Told) → HasBegun log t → Among going outcome → outcome.tx ≡ t → outcome.told ≡ how → (IsCommitted how → ⊥) → end_record outcome.tx how ≡ Some (Abort t)
  abort_left t outcome how begun among tx is never = ⊎_elim
      (λ (own : IsOwnEnd how). of_end how own never)
      (λ (item : IsItemTold how). absurd (no_attempt outcome.tx how item (told_as outcome how (going_among outcome among) is).told (subst (λ (u : Transid). HasBegun log u) (sym tx) begun)))
      (ends_or_item outcome how among is)
    where
      of_end : (how_ : Told) → IsOwnEnd how_ → (IsCommitted how_ → ⊥) → end_record outcome.tx how_ ≡ Some (Abort t)
      of_end (Committed place reads) own never_ = absurd (never_ tt)
      of_end Aborted own never_ = ap (λ (u : Transid). Some (Abort u)) tx
      of_end (Full file key) own never_ = ap (λ (u : Transid). Some (Abort u)) tx
      of_end (Refused op reason) own never_ = ap (λ (u : Transid). Some (Abort u)) tx
      of_end _ own never_ = absurd own

  of_one : (earlier behind : List Outcome) → outcomes ≡ earlier ++ behind → ((outcome : Outcome) → Among earlier outcome → Among going outcome) → (x : MonitorRecord) → Among all_records x
      → IsLeft found.epoch earlier x ⊎ EndsOne found.epoch behind x
  of_one earlier behind whole goes (Start epoch) has = absurd (given.records (Start epoch) has)
  of_one earlier behind whole goes (Commit t) has =
      let by = given.records (Commit t) has in
      ⊎_elim
      (λ (before : Among earlier by.outcome). inl (by.outcome, before, commit_left t by.outcome by.outcome.told (goes by.outcome before) by.tx_is refl by.is_so))
      (λ (after : Among behind by.outcome). inr (by.outcome, after, ap (λ (u : Transid). Some u) (sym by.tx_is)))
      (among_append earlier behind by.outcome (subst (λ (l : List Outcome). Among l by.outcome) whole by.among))
  of_one earlier behind whole goes (Abort t) has =
      let by = given.records (Abort t) has in
      ⊎_elim
      (λ (before : Among earlier by.outcome). inl (by.outcome, before, abort_left t by.outcome by.outcome.told (begun_of (Abort t) t has refl) (goes by.outcome before) by.tx_is refl by.is_so))
      (λ (after : Among behind by.outcome). inr (by.outcome, after, ap (λ (u : Transid). Some u) (sym by.tx_is)))
      (among_append earlier behind by.outcome (subst (λ (l : List Outcome). Among l by.outcome) whole by.among))

  -- and each outcome's is there
  begun_end : (t : Transid) (how : Told) → IsOfAttempt t how → IsOwnEnd how → (IsCommitted how → ⊥) → HasBegun log t
  begun_end t (Committed place reads) of own never = absurd (never tt)
  begun_end t Aborted of own never = of.2.2
  begun_end t (Full file key) of own never = turned_begun law found log t (cause.Full of.2.step) tt given.history of.2.turned.turn
  begun_end t (Refused op reason) of own never = turned_begun law found log t (cause.Refused of.2.0 reason) tt given.history of.2.1.turn
  begun_end t _ of own never = absurd own

  given_up : (outcome : Outcome) (how : Told) → Among outcomes outcome → outcome.told ≡ how → IsOwnEnd how → (IsCommitted how → ⊥) → (MayHold how → ⊥) → Among (landed phase items outcomes found log broken) (Abort outcome.tx)
  given_up outcome how among is own never holds =
      let told = told_as outcome how among is in
      ⊎_elim
      (λ (may : MayHold how). absurd (holds may))
      (λ (ended : IsEnded (account phase items outcomes found log broken) outcome.tx how). ⊎_elim (λ (c : IsCommitted how). absurd (never c)) (λ (there : Among (landed phase items outcomes found log broken) (Abort outcome.tx)). there) ended.recorded)
      (told.ended (begun_end outcome.tx how (attempt_of outcome how among is own) own never))

  record_there : (outcome : Outcome) (how : Told) (x : MonitorRecord) → Among outcomes outcome → outcome.told ≡ how → end_record outcome.tx how ≡ Some x → Among (landed phase items outcomes found log broken) x
  record_there outcome (Committed place reads) x among is left =
      let of = attempt_of outcome (Committed place reads) among is tt in
      let one : Commit outcome.tx ≡ x = cc (left) in
      subst (λ (v : MonitorRecord). Among (landed phase items outcomes found log broken) v) one (among_at (landed phase items outcomes found log broken) of.2.3.before (Commit outcome.tx) of.2.3.at)
  record_there outcome Aborted x among is left =
      (let one : Abort outcome.tx ≡ x = cc (left) in subst (λ (v : MonitorRecord). Among (landed phase items outcomes found log broken) v) one (given_up outcome Aborted among is tt (λ c. c) (λ h. h)))
  record_there outcome (Full file key) x among is left =
      (let one : Abort outcome.tx ≡ x = cc (left) in subst (λ (v : MonitorRecord). Among (landed phase items outcomes found log broken) v) one (given_up outcome (Full file key) among is tt (λ c. c) (λ h. h)))
  record_there outcome (Refused op reason) x among is left =
      (let one : Abort outcome.tx ≡ x = cc (left) in subst (λ (v : MonitorRecord). Among (landed phase items outcomes found log broken) v) one (given_up outcome (Refused op reason) among is tt (λ c. c) (λ h. h)))
  record_there outcome _ x among is left = absurd (cc (left))

  pub row : AreInRow all_records
  row = subst AreInRow (sym all_are) (order_law found log m given.history at_m).0

  -- what outcomes leave of which none is the last stands first of what has landed
  pub front_left : (earlier behind : List Outcome) → outcomes ≡ earlier ++ behind → ((outcome : Outcome) → Among earlier outcome → Among going outcome)
      → (rest : List MonitorRecord) × (landed phase items outcomes found log broken ≡ records_left earlier ++ rest)
  front_left earlier behind whole goes =
      front_rows found.epoch 1 earlier behind (landed phase items outcomes found log broken) (subst (λ (l : List Outcome). AreFrom found.epoch 1 l) whole its.from)
      (row_front (landed phase items outcomes found log broken) (offered phase items outcomes found log broken) row) (record {
        of_one = λ x has. of_one earlier behind whole goes x (among_left (landed phase items outcomes found log broken) (offered phase items outcomes found log broken) x has);
        there = λ outcome x among is. record_there outcome outcome.told x (going_among outcome (goes outcome among)) refl is;
      })

  -- WHERE NO OUTCOME IS THE LAST

  module _ (all : going ≡ outcomes) where
    all_going : (outcome : Outcome) → Among outcomes outcome → Among going outcome
    all_going outcome among = subst (λ (l : List Outcome). Among l outcome) (sym all) among

    pub all_left : all_records ≡ records_left outcomes
    all_left = same_rows found.epoch 1 outcomes all_records its.from row (record {
      of_one = of_one outcomes [] (sym (append-nil outcomes)) all_going;
      there = λ outcome x among is. among_left (landed phase items outcomes found log broken) (offered phase items outcomes found log broken) x (record_there outcome outcome.told x among refl is);
    })

    pub landed_left : landed phase items outcomes found log broken ≡ records_left outcomes
    landed_left = same_rows found.epoch 1 outcomes (landed phase items outcomes found log broken) its.from
        (row_front (landed phase items outcomes found log broken) (offered phase items outcomes found log broken) row) (record {
          of_one = λ x has. of_one outcomes [] (sym (append-nil outcomes)) all_going x (among_left (landed phase items outcomes found log broken) (offered phase items outcomes found log broken) x has);
          there = λ outcome x among is. record_there outcome outcome.told x among refl is;
        })

    -- so none is offered
    pub none_offered : offered phase items outcomes found log broken ≡ []
    none_offered = nothing (landed phase items outcomes found log broken) (offered phase items outcomes found log broken) (all_left ∙ sym landed_left) where
      nothing : (xs ys : List MonitorRecord) → xs ++ ys ≡ xs → ys ≡ []
      nothing [] ys is = is
      nothing (x ∷ xs) ys is = nothing xs ys (cc (is))
