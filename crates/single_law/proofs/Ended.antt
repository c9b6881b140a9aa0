-- Each outcome of the one worker before the last that it carries out ends as its item does on the map that those before it leave.
use Rattle.std.specs.Prelude.{◌≡◌, ◌⊎◌, ℕ, zero, suc, ◌+◌, ◌<◌, ◌≤◌, List, [], ◌∷◌, ◌++◌, length, map, take, drop, Option, Some, Ok, option_and_then, slice_get}
use Rattle.std.specs.List.{cons_option}
use Rattle.std.proofs.Common.{refl, ap, sym, ◌∙◌, subst, arith, append_assoc, append-nil, ⊎_elim, inl, inr}
use Rattle.std.proofs.lemmas.List.Elements.{filter_map-append}
use Rattle.std.proofs.lemmas.List.{take-map}
use Rattle.std.proofs.lemmas.Option.{slice_get_within}
use Rattle.disk_model.specs.Held.{Held}
use Rattle.tmf_model.specs.Commits.{after_commit, numbered, script_transaction}
use Rattle.tmf_model.specs.Effect.{after_steps, applied, read_values, reads_after}
use Rattle.tmf_model.specs.RecordMap.{RecordMap}
use Rattle.tmf_model.specs.declared.script.Item.{Item}
use Rattle.tmf_model.specs.declared.script.Item.TheVariants.{Control, Dump, Transaction as TransactionItem}
use Rattle.tmf_model.specs.declared.script.Phase.{Phase}
use Rattle.tmf_model.specs.declared.script.Reason.{Reason}
use Rattle.tmf_model.specs.declared.script.Step.{Step}
use Rattle.tmf_model.specs.declared.script.Transaction.{Transaction}
use Rattle.tmf_model.specs.declared.transid.Transid.{Transid}
use Rattle.trail_files.specs.StandsFor.{Base}
use Rattle.trail_files.specs.declared.damage.Damage.{Damage}
use Rattle.trail_files.specs.declared.monitor_record.MonitorRecord.{MonitorRecord}
use Rattle.trail_files.specs.declared.monitor_record.MonitorRecord.TheVariants.{Commit}
use Rattle.trail_files.specs.declared.rules.Rules.{Rules}
use Rattle.node_machine.specs.Deeds.{DoneLaw, EventsLaw, IsTurnedAt, Log, done, step_of, steps_done}
use Rattle.node_machine.specs.Disc.{IsPut}
use Rattle.node_machine.specs.Holders.{HolderLaw}
use Rattle.node_machine.specs.Law.{AreServed, Deed, IsOpening, after_list, deeds_of}
use Rattle.node_machine.specs.Law.Deed.{Changed, Locked, Saw}
use Rattle.node_machine.specs.Live.{LiveLaw, after_deeds}
use Rattle.node_machine.specs.Monitor.{ended_by, offered_car, recorded}
use Rattle.node_machine.specs.Opening.{Found, disc_part}
use Rattle.node_machine.specs.Reads.{ReadsLaw}
use Rattle.node_machine.specs.Same.{Among}
use Rattle.node_machine.specs.SameLaws.{among_left, among_right}
use Rattle.node_machine.specs.declared.event.Cause.{Cause}
use Rattle.node_machine.specs.declared.event.Cause.TheVariants as cause
use Rattle.node_machine.specs.declared.event.DiscEvent.TheVariants.{Start as StartDump, Turn}
use Rattle.node_machine.specs.declared.event.Event.{Event}
use Rattle.node_machine.specs.declared.event.Event.TheVariants.{OfDisc}
use Rattle.run_outcomes.specs.Outcomes.{first_attempt}
use Rattle.run_outcomes.specs.Told.{IsControlTold, IsDumpTold, IsTold, item_of}
use Rattle.run_outcomes.specs.declared.outcome.Outcome.{Outcome}
use Rattle.run_outcomes.specs.declared.outcome.Told.{Told}
use Rattle.run_outcomes.specs.declared.outcome.Told.TheVariants.{Aborted, Committed, Controlled, Damaged, Dumped, Dumping, Failed, Full, Memory, Refused, Skipped, Spent}
use Rattle.single_law.proofs.Acting.{IsActing}
use Rattle.single_law.proofs.Alone.{AreFrom, of_item}
use Rattle.single_law.proofs.Folds.{same_meaning}
use Rattle.single_law.proofs.Given.{IsGiven, WasTurned, account, among_front, landed, list_around, offered, was_turned}
use Rattle.single_law.proofs.Landed.{IsItemTold, IsOwnEnd, all_are, all_records, at_m, attempt_of, ends_or_item, front_left, going, its, later_from, m, row, told_as}
use Rattle.single_law.proofs.Last.{turned_last, IsTurnedLast}
use Rattle.single_law.proofs.Moment.{IsAround, at_mf, comes_to, commit_told, effect_same, is_around, keys_free, left_by, mf, not_yet}
use Rattle.single_law.proofs.Moments.{next_enabled, not_before}
use Rattle.single_law.proofs.Rooms.{HasRoomAfter, full_at, no_room-agree, room_behind, room_nth}
use Rattle.single_law.proofs.Rows.{row_front}
use Rattle.single_law.proofs.Served.{Agree, Leaves, deeds_append, served_leaves, served_take}
use Rattle.single_law.proofs.Values.{IsAlwaysAlone, refused_at, served_behind}
use Rattle.single_law.specs.Ended.{FindsNoRoom, GoesThrough, GoesTo, IsEnd}
use Rattle.single_law.specs.Front.{HaveEndedTo}
use Rattle.single_law.specs.Left.{end_record, map_left, records_left}
use Rattle.single_law.specs.Row.{AreInRow}
use Rattle.single_law.specs.Single.{HasEnded, HaveEnded}

-- LISTS

take_count : {T : Type 0} (xs : List T) (n : ℕ) (x : T) → slice_get xs n ≡ Some x → length (take n xs) ≡ n
take_count [] n x at = absurd (cc (at))
take_count (y ∷ xs) zero x at = refl
take_count (y ∷ xs) (suc n) x at = ap suc (take_count xs n x at)

pub take_whole : {T : Type 0} (xs : List T) → take (length xs) xs ≡ xs
take_whole [] = refl
take_whole (x ∷ xs) = ap (λ l. x ∷ l) (take_whole xs)

get_take : {T : Type 0} (xs : List T) (n count : ℕ) → n < count → slice_get (take count xs) n ≡ slice_get xs n
get_take [] n zero lt = absurd (omega (arith, lt))
get_take [] n (suc count) lt = refl
get_take (x ∷ xs) n zero lt = absurd (omega (arith, lt))
get_take (x ∷ xs) zero (suc count) lt = refl
get_take (x ∷ xs) (suc n) (suc count) lt = get_take xs n count (omega (arith, lt))

take_less : {T : Type 0} (xs : List T) (n count : ℕ) → n < count → take n (take count xs) ≡ take n xs
take_less [] n zero lt = absurd (omega (arith, lt))
take_less [] n (suc count) lt = refl
take_less (x ∷ xs) n zero lt = absurd (omega (arith, lt))
take_less (x ∷ xs) zero (suc count) lt = refl
take_less (x ∷ xs) (suc n) (suc count) lt = ap (λ l. x ∷ l) (take_less xs n count (omega (arith, lt)))

get_map : {T U : Type 0} (f : T → U) (xs : List T) (n : ℕ) (y : U) → slice_get (map f xs) n ≡ Some y → (x : T) × (slice_get xs n ≡ Some x) × (f x ≡ y)
get_map f [] n y at = absurd (cc (at))
get_map f (x ∷ xs) zero y at = (x, refl, cc (at))
get_map f (x ∷ xs) (suc n) y at = get_map f xs n y at

item_there : {T U : Type 0} (xs : List T) (ys : List U) (n : ℕ) (x : T) → length xs ≡ length ys → slice_get xs n ≡ Some x → (y : U) × (slice_get ys n ≡ Some y)
item_there [] ys n x count at = absurd (cc (at))
item_there (z ∷ xs) [] n x count at = absurd (omega (arith, count))
item_there (z ∷ xs) (w ∷ ys) zero x count at = (w, refl)
item_there (z ∷ xs) (w ∷ ys) (suc n) x count at = item_there xs ys n x (omega (arith, count)) at

at_numbered : {T : Type 0} (xs : List T) (n : ℕ) (x y : T) → slice_get xs n ≡ Some x → numbered xs (suc n) ≡ Some y → x ≡ y
at_numbered xs n x y at is = (let both : Some x ≡ Some y = sym at ∙ is in cc (both))

neither : ⊥ ⊎ ⊥ → ⊥
neither (inl none) = none
neither (inr none) = none

-- a record stands in a row once
row_place : (xs ys : List MonitorRecord) (x : MonitorRecord) (t : Transid) (n : ℕ) → ended_by x ≡ Some t → AreInRow (xs ++ x ∷ ys) → slice_get (xs ++ x ∷ ys) n ≡ Some x → n ≡ length xs
row_place [] ys x t zero is row_ at = refl
row_place [] ys x t (suc n) is row_ at = absurd (not_before t (row_.0 x (there ys n at) t t is is refl)) where
  there : (zs : List MonitorRecord) (k : ℕ) → slice_get zs k ≡ Some x → Among zs x
  there [] k at_ = absurd (cc (at_))
  there (z ∷ zs) zero at_ = inl (cc (at_))
  there (z ∷ zs) (suc k) at_ = inr (there zs k at_)
row_place (z ∷ xs) ys x t zero is row_ at =
    let same : z ≡ x = cc (at) in
    absurd (not_before t (row_.0 x (among_right xs (x ∷ ys) x (inl refl)) t t (ap ended_by same ∙ is) is refl))
row_place (z ∷ xs) ys x t (suc n) is row_ at = ap suc (row_place xs ys x t n is row_.1 at)

module _ (law : EventsLaw) (holder_law : HolderLaw) (done_law : DoneLaw) (live_law : LiveLaw) (reads_law : ReadsLaw)
    (rules : ℕ → Rules) (images : ℕ → Held) (bases dumps : ℕ → Option Base) (list : List MonitorRecord) (map_ : RecordMap) (phase : Phase) (items : List Item) (outcomes : List Outcome) (found : Found)
    (o : IsOpening rules images bases dumps list map_ found) (log : Log) (broken : ℕ → Damage → Type 0) (given : IsGiven phase items outcomes found log broken) where
  -- the fold by the history of what outcomes leave is that by the script
  pub left_folds : (earlier : List Outcome) → ((e : Outcome) → Among earlier e → Among outcomes e) → after_list log (records_left earlier) map_ ≡ map_left phase found.epoch earlier map_
  left_folds earlier among =
      done_law log (records_left earlier) map_ ∙ same_meaning (λ t. Some (done log t)) (script_transaction phase found.epoch) (records_left earlier) map_ (λ u has before.
      (let by = left_by earlier (Commit u) has in
      let told = commit_told by.0.tx u by.0.told by.2 in
      let of = attempt_of law phase items outcomes found log broken given by.0 (Committed told.1.0 told.1.1) (among by.0 by.1) told.1.2 tt in
      subst (λ (t : Transid). after_commit (Some (done log t)) before ≡ after_commit (script_transaction phase found.epoch t) before) told.0
      (effect_same of.0 (steps_done by.0.tx log) before of.2.0 of.2.1.done ∙ ap (λ (x : Option Transaction). after_commit x before) (sym of.1))))

  module _ (earlier later : List Outcome) (outcome : Outcome) (whole : outcomes ≡ earlier ++ outcome ∷ later) (few : length earlier < given.count) where
    abbrev from : RecordMap
    from = map_left phase found.epoch earlier map_

    abbrev place_of : ℕ
    place_of = length list + suc (length (records_left earlier))

    among_outcomes : Among outcomes outcome
    among_outcomes = subst (λ (l : List Outcome). Among l outcome) (sym whole) (among_right earlier (outcome ∷ later) outcome (inl refl))

    earlier_among : (e : Outcome) → Among earlier e → Among outcomes e
    earlier_among e has = subst (λ (l : List Outcome). Among l e) (sym whole) (among_left earlier (outcome ∷ later) e has)

    -- up to this one none is the last
    up_to : (e : Outcome) → Among (earlier ++ outcome ∷ []) e → Among (going law phase items outcomes found log broken given) e
    up_to e has = subst (λ (l : List Outcome). Among (take given.count l) e) (sym whole) (among_front given.count earlier later outcome e few has)

    -- whenever its attempt acts, it is alone
    alone : IsAlwaysAlone law live_law rules images bases dumps list map_ found o log given.history outcome.tx from
    alone = λ front rest x s cut at acts listed.
        let here : IsActing found front outcome.tx = record { s = s; at = at; acts = acts; listed = listed } in
        record {
          m = mf law holder_law done_law phase items outcomes found log broken given earlier later outcome whole few front (x ∷ rest) cut here;
          at = at_mf law holder_law done_law phase items outcomes found log broken given earlier later outcome whole few front (x ∷ rest) cut here;
          uncommitted = not_yet law holder_law done_law phase items outcomes found log broken given earlier later outcome whole few front (x ∷ rest) cut here;
          keys = keys_free law holder_law done_law phase items outcomes found log broken given earlier later outcome whole few front (x ∷ rest) cut here;
          comes_to = comes_to law holder_law done_law phase items outcomes found log broken given earlier later outcome whole few front (x ∷ rest) cut here map_;
        }

    abbrev deeds : List Deed
    deeds = deeds_of outcome.tx log

    served : AreServed deeds from
    served = served_behind law live_law rules images bases dumps list map_ found o log given.history outcome.tx from alone [] log refl

    -- where a step puts a key, it has found room
    roomy : (n : ℕ) (deed : Deed) (step : Step) (before : RecordMap) → slice_get deeds n ≡ Some deed → step_of deed ≡ step → after_steps (map step_of (take n deeds)) from ≡ Ok before
        → FindsNoRoom found.config (map step_of (take n deeds)) before step → ⊥
    roomy n deed step before at is after full = by_deed deed (room_nth law live_law rules images bases dumps list map_ found o log given.history outcome.tx from alone [] deeds n deed
        (room_behind law live_law rules images bases dumps list map_ found o log given.history outcome.tx from alone [] log refl) at) is
      where
        left : Leaves (map step_of (take n deeds)) from (after_deeds (take n deeds) from)
        left = served_leaves (take n deeds) from from (λ file key. refl) (served_take n deeds from served)

        same : Agree before (after_deeds (take n deeds) from)
        same = (let both : Ok before ≡ Ok left.0 = sym after ∙ left.1 in let one : before ≡ left.0 = cc (both) in λ file key. ap (λ (v : RecordMap). v file key) one ∙ left.2 file key)

        by_deed : (d : Deed) → HasRoomAfter law live_law rules images bases dumps list map_ found o log given.history outcome.tx from alone (take n deeds) d → step_of d ≡ step → ⊥
        by_deed (Changed r op) has it = has (no_room-agree found.config (map step_of (take n deeds)) before (after_deeds (take n deeds) from) (step_of (Changed r op)) same
            (subst (λ (x : Step). FindsNoRoom found.config (map step_of (take n deeds)) before x) (sym it) full))
        by_deed (Saw file key value) has it = subst (λ (x : Step). IsPut x.op) (sym it) full.puts
        by_deed (Locked file) has it = subst (λ (x : Step). IsPut x.op) (sym it) full.puts

    -- its steps go as far as they were carried out
    goes : (steps : List Step) (count : ℕ) → count ≤ length steps → steps_done outcome.tx log ≡ take count steps → (after : RecordMap) × GoesTo found.config steps from count after × Agree after (after_deeds deeds from)
    goes steps count few done_ =
        let left = served_leaves deeds from from (λ file key. refl) served in
        (left.0, record { few = few; values = ap (λ (l : List Step). after_steps l from) (sym done_) ∙ left.1; room = room }, left.2)
      where
        room : (n : ℕ) (step : Step) (before : RecordMap) → n < count → slice_get steps n ≡ Some step → after_steps (take n steps) from ≡ Ok before → FindsNoRoom found.config (take n steps) before step → ⊥
        room n step before lt at after full =
            let there : slice_get (map step_of deeds) n ≡ Some step = ap (λ (l : List Step). slice_get l n) done_ ∙ (get_take steps n count lt ∙ at) in
            let deed = get_map step_of deeds n step there in
            let first : map step_of (take n deeds) ≡ take n steps = sym (take-map step_of n deeds) ∙ (ap (λ (l : List Step). take n l) done_ ∙ take_less steps n count lt) in
            roomy n deed.0 step before deed.1 deed.2 (ap (λ (l : List Step). after_steps l from) first ∙ after) (subst (λ (l : List Step). FindsNoRoom found.config l before step) (sym first) full)

    through : (transaction : Transaction) → steps_done outcome.tx log ≡ transaction.steps → GoesThrough found.config transaction from
    through transaction done_ = (let is = goes transaction.steps (length transaction.steps) (omega arith) (done_ ∙ sym (take_whole transaction.steps)) in (is.0, is.1))

    -- what is so of an attempt that came to this
    abbrev EndsAs : Told → Type 0
    EndsAs how = (transaction : Transaction) × (script_transaction phase found.epoch outcome.tx ≡ Some transaction) × IsEnd found.config transaction from place_of how

    -- COMMITTED

    module _ (place : ℕ) (reads : List (ℕ × Option (List ℕ))) (is : outcome.told ≡ Committed place reads) where
      -- its record stands in what has landed behind those of the outcomes before
      landed_parts : (behind : List MonitorRecord) × (landed phase items outcomes found log broken ≡ records_left earlier ++ Commit outcome.tx ∷ behind)
      landed_parts =
          let front = front_left law phase items outcomes found log broken given (earlier ++ outcome ∷ []) later (whole ∙ sym (append_assoc earlier (outcome ∷ []) later)) up_to in
          let left : records_left (earlier ++ outcome ∷ []) ≡ records_left earlier ++ Commit outcome.tx ∷ [] =
          filter_map-append (λ (u : Outcome). end_record u.tx u.told) earlier (outcome ∷ [])
          ∙ ap (λ (how : Told). records_left earlier ++ cons_option (end_record outcome.tx how) []) is in (
            front.0,
            front.1 ∙ (ap (λ (l : List MonitorRecord). l ++ front.0) left ∙ append_assoc (records_left earlier) (Commit outcome.tx ∷ []) front.0),
          )

      abbrev behind_it : List MonitorRecord
      behind_it = landed_parts.0 ++ offered phase items outcomes found log broken

      record_parts : all_records law phase items outcomes found log broken given ≡ records_left earlier ++ Commit outcome.tx ∷ behind_it
      record_parts =
          ap (λ (l : List MonitorRecord). l ++ offered phase items outcomes found log broken) landed_parts.1
          ∙ append_assoc (records_left earlier) (Commit outcome.tx ∷ landed_parts.0) (offered phase items outcomes found log broken)

      all_parts : recorded (m law phase items outcomes found log broken given).events ++ offered_car (m law phase items outcomes found log broken given).events ≡ records_left earlier ++ Commit outcome.tx ∷ behind_it
      all_parts = sym (all_are law phase items outcomes found log broken given) ∙ record_parts

      -- so that is its place
      place_is : (before : ℕ) → place ≡ found.places + suc before → slice_get (landed phase items outcomes found log broken) before ≡ Some (Commit outcome.tx) → place ≡ place_of
      place_is before is_place at =
          let there : slice_get (records_left earlier ++ Commit outcome.tx ∷ landed_parts.0) before ≡ Some (Commit outcome.tx) =
          ap (λ (l : List MonitorRecord). slice_get l before) (sym landed_parts.1) ∙ at in
          let in_row : AreInRow (records_left earlier ++ Commit outcome.tx ∷ landed_parts.0) =
          subst (λ (l : List MonitorRecord). AreInRow l) landed_parts.1
          (row_front (landed phase items outcomes found log broken) (offered phase items outcomes found log broken) (row law phase items outcomes found log broken given)) in
          let index = row_place (records_left earlier) landed_parts.0 (Commit outcome.tx) outcome.tx before refl in_row there in
          let opened = o.places in
          is_place ∙ (λ i. opened i + suc (index i))

      committed_ends : EndsAs (Committed place reads)
      committed_ends =
          let of = attempt_of law phase items outcomes found log broken given outcome (Committed place reads) among_outcomes is tt in (
            of.0,
            of.1,
            (
              place_is of.2.3.before of.2.3.place_is of.2.3.at,
              of.2.0,
              through of.0 of.2.1.done,
              record {
                numbers = of.2.2.numbers;
                values = of.2.2.values ∙ (reads_law rules found images bases dumps list map_ log o given.history (m law phase items outcomes found log broken given) (at_m law phase items outcomes found log broken given) (records_left earlier) behind_it outcome.tx all_parts
                    ∙ (ap (λ (v : RecordMap). read_values (done log outcome.tx) v) (left_folds earlier earlier_among) ∙ ap (λ (steps : List Step). reads_after (Ok from) steps) of.2.1.done));
              },
            ),
          )

    -- GIVEN UP

    aborted_ends : outcome.told ≡ Aborted → EndsAs Aborted
    aborted_ends is =
        let of = attempt_of law phase items outcomes found log broken given outcome Aborted among_outcomes is tt in
        (of.0, of.1, (of.2.0, through of.0 of.2.1.done))

    -- where it was turned away, its steps stand before that
    turned_deeds : (why : Cause) (was : WasTurned log outcome.tx why) → IsTurnedLast log outcome.tx → deeds ≡ deeds_of outcome.tx was.front
    turned_deeds why was last =
        let entry : ℕ × Event = (was.part, OfDisc (Turn outcome.tx why)) in
        let none : deeds_of outcome.tx (entry ∷ was.rest) ≡ [] = last was.front was.rest was.part why was.cut in
        ap (λ (l : Log). deeds_of outcome.tx l) was.cut ∙ (deeds_append outcome.tx was.front (entry ∷ was.rest) ∙ (ap (λ (l : List Deed). deeds_of outcome.tx was.front ++ l) none ∙ append-nil (deeds_of outcome.tx was.front)))

    turned_goes : (steps : List Step) (number : ℕ) (why : Cause) (turned : IsTurnedAt log outcome.tx steps number why) → (after : RecordMap) × GoesTo found.config steps from turned.before after × Agree after (after_deeds deeds from)
    turned_goes steps number why turned =
        let at : slice_get steps turned.before ≡ Some turned.step = ap (λ (n : ℕ). numbered steps n) (sym turned.number_is) ∙ turned.at in
        let within = slice_get_within steps turned.before turned.step at in
        goes steps turned.before (omega (arith, within)) turned.done

    turned_step : (steps : List Step) (number : ℕ) (why : Cause) (step : Step) (turned : IsTurnedAt log outcome.tx steps number why) → step ≡ turned.step → slice_get steps turned.before ≡ Some step
    turned_step steps number why step turned same = ap (λ (n : ℕ). numbered steps n) (sym turned.number_is) ∙ (turned.at ∙ ap (λ (x : Step). Some x) (sym same))

    refused_ends : (op : ℕ) (reason : Reason) → outcome.told ≡ Refused op reason → IsTurnedLast log outcome.tx → EndsAs (Refused op reason)
    refused_ends op reason is last =
        let of = attempt_of law phase items outcomes found log broken given outcome (Refused op reason) among_outcomes is tt in
        let step : Step = of.2.0 in
        let turned = of.2.1 in
        let why : Cause = cause.Refused step reason in
        let was = was_turned log outcome.tx why turned.turn in
        let g = turned_goes of.0.steps op why turned in
        let refused = refused_at law live_law rules images bases dumps list map_ found o log given.history outcome.tx from alone was.front was.rest was.part step reason was.cut
        (next_enabled law found log was.front was.rest (was.part, OfDisc (Turn outcome.tx why)) was.cut given.history) in
        let same : g.0 step.file step.key ≡ after_deeds (deeds_of outcome.tx was.front) from step.file step.key =
        g.2 step.file step.key ∙ ap (λ (l : List Deed). after_deeds l from step.file step.key) (turned_deeds why was last) in (
          of.0,
          of.1,
          record {
            before = turned.before;
            number = turned.number_is;
            step = step;
            is_step = turned_step of.0.steps op why step turned turned.is_on;
            at = g.0;
            goes = g.1;
            refused = ap (λ (v : Option (List ℕ)). applied step.op v) same ∙ refused;
          },
        )

    full_ends : (file : ℕ) (key : List ℕ) → outcome.told ≡ Full file key → IsTurnedLast log outcome.tx → EndsAs (Full file key)
    full_ends file key is last =
        let of = attempt_of law phase items outcomes found log broken given outcome (Full file key) among_outcomes is tt in
        let step : Step = of.2.step in
        let turned = of.2.turned in
        let why : Cause = cause.Full step in
        let was = was_turned log outcome.tx why turned.turn in
        let g = turned_goes of.0.steps of.2.number why turned in
        let full = full_at law live_law rules images bases dumps list map_ found o log given.history outcome.tx from alone was.front was.rest was.part step was.cut
        (next_enabled law found log was.front was.rest (was.part, OfDisc (Turn outcome.tx why)) was.cut given.history) in
        let here : deeds ≡ deeds_of outcome.tx was.front = turned_deeds why was last in
        let steps_are : steps_done outcome.tx was.front ≡ take turned.before of.0.steps = ap (λ (l : List Deed). map step_of l) (sym here) ∙ turned.done in
        let same : Agree (after_deeds (deeds_of outcome.tx was.front) from) g.0 = λ f k. sym (g.2 f k ∙ ap (λ (l : List Deed). after_deeds l from f k) here) in (
          of.0,
          of.1,
          record {
            before = turned.before;
            step = step;
            is_step = turned_step of.0.steps of.2.number why step turned turned.is_on;
            at = g.0;
            goes = g.1;
            full = subst (λ (l : List Step). FindsNoRoom found.config l g.0 step) steps_are
                (no_room-agree found.config (steps_done outcome.tx was.front) (after_deeds (deeds_of outcome.tx was.front) from) g.0 step same full);
            file_is = of.2.file_is;
            key_is = of.2.key_is;
          },
        )

    -- EACH

    -- it has carried out no step behind one that was turned away
    last_so : (how : Told) → outcome.told ≡ how → IsOwnEnd law phase items outcomes found log broken given how → IsTurnedLast log outcome.tx
    last_so how is own =
        let of = attempt_of law phase items outcomes found log broken given outcome how among_outcomes is own in
        turned_last outcome.tx log ((given.told.each outcome among_outcomes).last of.0 of.1)

    ends_as : (how : Told) → outcome.told ≡ how → IsOwnEnd law phase items outcomes found log broken given how → EndsAs how
    ends_as (Committed place reads) is own = committed_ends place reads is
    ends_as Aborted is own = aborted_ends is
    ends_as (Full file key) is own = full_ends file key is (last_so (Full file key) is own)
    ends_as (Refused op reason) is own = refused_ends op reason is (last_so (Refused op reason) is own)
    ends_as _ is own = absurd own

    beside : IsAround found.epoch 1 earlier later outcome
    beside = is_around found.epoch 1 earlier later outcome (subst (λ (l : List Outcome). AreFrom found.epoch 1 l) whole (its law phase items outcomes found log broken given).from)

    -- it tells how an attempt ended by itself, or of another item
    own_or_item : IsOwnEnd law phase items outcomes found log broken given outcome.told ⊎ IsItemTold outcome.told
    own_or_item = ends_or_item law phase items outcomes found log broken given outcome outcome.told (up_to outcome (among_right earlier (outcome ∷ []) outcome (inl refl))) refl

    -- an item that is a transaction is told of by an attempt at it
    item_at : (item : Item) (number : ℕ) → slice_get items number ≡ Some item → outcome.tx ≡ first_attempt found.epoch 1 (suc number) → item_of phase outcome.tx ≡ Some item
    item_at item number at tx =
        ap (λ (t : Transid). item_of phase t) tx ∙ (ap (λ (w : List (List Item)). option_and_then (λ own. numbered own (suc number)) (numbered w 1)) given.one ∙ at)

    no_item : (transaction : Transaction) (how : Told) → item_of phase outcome.tx ≡ Some (TransactionItem transaction) → IsItemTold how → IsTold (account phase items outcomes found log broken) (record { tx = outcome.tx; told = how }) → ⊥
    no_item transaction (Controlled volume low) at item (inl is) = is.2
    no_item transaction (Controlled volume low) at item (inr (inl is)) = (let both : Some (TransactionItem transaction) ≡ Some (Control volume) = sym at ∙ (is.1 ∙ ap (λ (n : ℕ). Some (Control n)) (sym is.2.0)) in let one : TransactionItem transaction ≡ Control volume = cc (both) in cc (one))
    no_item transaction (Controlled volume low) at item (inr (inr is)) = is.2
    no_item transaction (Dumped volume start) at item (inl is) = is.2
    no_item transaction (Dumped volume start) at item (inr (inl is)) = is.2
    no_item transaction (Dumped volume start) at item (inr (inr is)) = (let both : Some (TransactionItem transaction) ≡ Some (Dump is.0) = sym at ∙ is.1 in let one : TransactionItem transaction ≡ Dump is.0 = cc (both) in cc (one))
    no_item transaction (Dumping volume) at item (inl is) = is.2
    no_item transaction (Dumping volume) at item (inr (inl is)) = is.2
    no_item transaction (Dumping volume) at item (inr (inr is)) = (let both : Some (TransactionItem transaction) ≡ Some (Dump is.0) = sym at ∙ is.1 in let one : TransactionItem transaction ≡ Dump is.0 = cc (both) in cc (one))
    no_item transaction _ at item is = item

    ends : (item : Item) (number : ℕ) (transaction : Transaction) → slice_get items number ≡ Some item → outcome.tx ≡ first_attempt found.epoch 1 (suc number) → item ≡ TransactionItem transaction
        → IsEnd found.config transaction from place_of outcome.told
    ends item number transaction at tx is = ⊎_elim
        (λ (own : IsOwnEnd law phase items outcomes found log broken given outcome.told).
        let e = ends_as outcome.told refl own in
        let of = of_item phase found.epoch items outcome.tx e.0 given.one e.1 in
        let there : numbered items (suc number) ≡ Some (TransactionItem e.0) = ap (λ (t : Transid). numbered items t.ordinal) (sym tx) ∙ of.item in
        let same : TransactionItem e.0 ≡ TransactionItem transaction = sym (at_numbered items number item (TransactionItem e.0) at there) ∙ is in
        let one : e.0 ≡ transaction = cc (same) in
        subst (λ (x : Transaction). IsEnd found.config x from place_of outcome.told) one e.2)
        (λ (item_told : IsItemTold outcome.told).
        absurd (no_item transaction outcome.told (item_at item number at tx ∙ ap (λ (x : Item). Some x) is) item_told (told_as law phase items outcomes found log broken given outcome outcome.told among_outcomes refl).told))
        own_or_item

    -- CONTROL POINTS AND DUMPS

    -- the item that a transaction of the script is
    transaction_at : (transaction : Transaction) → script_transaction phase found.epoch outcome.tx ≡ Some transaction → item_of phase outcome.tx ≡ Some (TransactionItem transaction)
    transaction_at transaction is =
        let of = of_item phase found.epoch items outcome.tx transaction given.one is in
        ap (λ (w : List (List Item)). option_and_then (λ own. numbered own outcome.tx.ordinal) (numbered w outcome.tx.worker)) given.one
        ∙ (ap (λ (n : ℕ). option_and_then (λ own. numbered own outcome.tx.ordinal) (numbered (items ∷ []) n)) of.worker ∙ of.item)

    -- an outcome of a control point has what a control point tells, and so of a dump
    control_told : (volume : ℕ) (how : Told) → item_of phase outcome.tx ≡ Some (Control volume) → IsTold (account phase items outcomes found log broken) (record { tx = outcome.tx; told = how })
        → IsControlTold (account phase items outcomes found log broken) outcome.tx volume how
    control_told volume how at (inl is) = (let both : Some (Control volume) ≡ Some (TransactionItem is.0) = sym at ∙ transaction_at is.0 is.1 in let one : Control volume ≡ TransactionItem is.0 = cc (both) in absurd (cc (one)))
    control_told volume how at (inr (inl is)) =
        let both : Some (Control is.0) ≡ Some (Control volume) = sym is.1 ∙ at in
        let item : Control is.0 ≡ Control volume = cc (both) in
        let one : is.0 ≡ volume = cc (item) in
        subst (λ (n : ℕ). IsControlTold (account phase items outcomes found log broken) outcome.tx n how) one is.2
    control_told volume how at (inr (inr is)) = (let both : Some (Control volume) ≡ Some (Dump is.0) = sym at ∙ is.1 in let one : Control volume ≡ Dump is.0 = cc (both) in absurd (cc (one)))

    dump_told : (volume : ℕ) (how : Told) → item_of phase outcome.tx ≡ Some (Dump volume) → IsTold (account phase items outcomes found log broken) (record { tx = outcome.tx; told = how })
        → IsDumpTold (account phase items outcomes found log broken) outcome.tx volume how
    dump_told volume how at (inl is) = (let both : Some (Dump volume) ≡ Some (TransactionItem is.0) = sym at ∙ transaction_at is.0 is.1 in let one : Dump volume ≡ TransactionItem is.0 = cc (both) in absurd (cc (one)))
    dump_told volume how at (inr (inl is)) = (let both : Some (Dump volume) ≡ Some (Control is.0) = sym at ∙ is.1 in let one : Dump volume ≡ Control is.0 = cc (both) in absurd (cc (one)))
    dump_told volume how at (inr (inr is)) =
        let both : Some (Dump is.0) ≡ Some (Dump volume) = sym is.1 ∙ at in
        let item : Dump is.0 ≡ Dump volume = cc (both) in
        let one : is.0 ≡ volume = cc (item) in
        subst (λ (n : ℕ). IsDumpTold (account phase items outcomes found log broken) outcome.tx n how) one is.2

    -- no dump was under way: it would be for an item of another worker
    none_under_way : (volume : ℕ) → outcome.told ≡ Dumping volume → ⊥
    none_under_way volume is =
        let by = given.told.dumping outcome volume among_outcomes is in
        let begun : ℕ × Event = (disc_part volume, OfDisc (StartDump by.number by.start by.item)) in
        let turned : ℕ × Event = (disc_part volume, OfDisc (Turn outcome.tx cause.Dumping)) in
        let other = given.told.done (disc_part volume) (OfDisc (StartDump by.number by.start by.item)) by.item
        (subst (λ (l : Log). Among l begun) (sym by.stands) (among_left by.front (turned ∷ by.rest) begun by.begun)) (inr refl) in
        by.other (sym (ap (λ (t : Transid). t.worker) other.2) ∙ (of_one other.0 other.1 ∙ sym (of_one outcome among_outcomes)))
      where
        of_one : (u : Outcome) → Among outcomes u → u.tx.worker ≡ 1
        of_one u has = (later_from found.epoch 0 1 outcomes u (omega arith) (its law phase items outcomes found log broken given).from has).1

    -- so a control point is told as made, and a dump as whole
    is_control : (volume : ℕ) (how : Told) → IsOwnEnd law phase items outcomes found log broken given how ⊎ IsItemTold how → IsControlTold (account phase items outcomes found log broken) outcome.tx volume how
        → (low : ℕ) × (how ≡ Controlled volume low)
    is_control volume (Controlled named low) ends is = (low, ap (λ (n : ℕ). Controlled n low) is.0)
    is_control volume (Failed device) ends is = absurd (neither ends)
    is_control volume (Spent part) ends is = absurd (neither ends)
    is_control volume Skipped ends is = absurd (neither ends)
    is_control volume Memory ends is = absurd (neither ends)
    is_control volume _ ends is = absurd is

    is_dump : (volume : ℕ) (how : Told) → outcome.told ≡ how → IsOwnEnd law phase items outcomes found log broken given how ⊎ IsItemTold how
        → IsDumpTold (account phase items outcomes found log broken) outcome.tx volume how → (start : ℕ) × (how ≡ Dumped volume start)
    is_dump volume (Dumped named start) told ends is = (start, ap (λ (n : ℕ). Dumped n start) is.0)
    is_dump volume (Dumping named) told ends is = absurd (none_under_way named told)
    is_dump volume (Failed device) told ends is = absurd (neither ends)
    is_dump volume (Damaged device damage) told ends is = absurd (neither ends)
    is_dump volume (Spent part) told ends is = absurd (neither ends)
    is_dump volume Skipped told ends is = absurd (neither ends)
    is_dump volume Memory told ends is = absurd (neither ends)
    is_dump volume _ told ends is = absurd is

    controls : (item : Item) (number volume : ℕ) → slice_get items number ≡ Some item → outcome.tx ≡ first_attempt found.epoch 1 (suc number) → item ≡ Control volume
        → (low : ℕ) × (outcome.told ≡ Controlled volume low)
    controls item number volume at tx is =
        is_control volume outcome.told own_or_item
        (control_told volume outcome.told (item_at item number at tx ∙ ap (λ (x : Item). Some x) is) (given.told.each outcome among_outcomes).told)

    makes_dump : (item : Item) (number volume : ℕ) → slice_get items number ≡ Some item → outcome.tx ≡ first_attempt found.epoch 1 (suc number) → item ≡ Dump volume
        → (start : ℕ) × (outcome.told ≡ Dumped volume start)
    makes_dump item number volume at tx is =
        is_dump volume outcome.told refl own_or_item
        (dump_told volume outcome.told (item_at item number at tx ∙ ap (λ (x : Item). Some x) is) (given.told.each outcome among_outcomes).told)

  -- THE RUN

  ended_at : (number : ℕ) (outcome : Outcome) → number < given.count → slice_get outcomes number ≡ Some outcome → HasEnded found.config phase found.epoch items list map_ (take number outcomes) number outcome
  ended_at number outcome lt at =
      let whole = list_around outcomes number outcome at in
      let earlier : List Outcome = take number outcomes in
      let later : List Outcome = drop (suc number) outcomes in
      let item = item_there outcomes items number outcome (its law phase items outcomes found log broken given).count at in
      let count : length earlier ≡ number = take_count outcomes number outcome at in
      let few : length earlier < given.count = omega (arith, count, lt) in
      let tx : outcome.tx ≡ first_attempt found.epoch 1 (suc number) = (beside earlier later outcome whole few).tx ∙ ap (λ (n : ℕ). first_attempt found.epoch 1 n) (omega (arith, count)) in
      record {
        item = item.0;
        is_item = item.1;
        tx = tx;
        ends = λ transaction is. ends earlier later outcome whole few item.0 number transaction item.1 tx is;
        controls = λ volume is. controls earlier later outcome whole few item.0 number volume item.1 tx is;
        dumps = λ volume is. makes_dump earlier later outcome whole few item.0 number volume item.1 tx is;
      }

  pub have_ended_to : HaveEndedTo found.config phase found.epoch items list map_ outcomes given.count
  have_ended_to = record { each = ended_at }

  -- where none is the last, all have
  pub have_ended : length outcomes ≤ given.count → HaveEnded found.config phase found.epoch items list map_ outcomes
  have_ended all = record {
    count = (its law phase items outcomes found log broken given).count;
    each = λ number outcome at. (let within = slice_get_within outcomes number outcome at in ended_at number outcome (omega (arith, within, all)) at);
  }
