-- What all workers are when they have ended.
use Rattle.std.specs.Prelude.{◌≡◌, ℕ, zero, suc, ◌+◌, ◌-◌, ◌*◌, ◌<◌, ◌≤◌, List, [], ◌∷◌, ◌++◌, length, map, All, Option, Some, None, slice_get, sum}
use Rattle.std.specs.List.{Contains, flat_map, sum_by}
use Rattle.std.proofs.Common.{add-one, refl, sym, ap, subst, ◌∙◌, arith, ◌⊎◌, inl, inr}
use Rattle.std.proofs.lemmas.List.Elements.{All-head, All-tail, Contains-append_left, Contains-append_right}
use Rattle.std.proofs.lemmas.Bool.{cases_lt}
use Rattle.std.proofs.lemmas.Option.{slice_get_past, slice_get_within}
use Rattle.chronicle.specs.Seats.{Sight, new_seat}
use Rattle.disk_model.specs.declared.disk.Disk as disk
use Rattle.tmf_model.specs.Commits.{numbered}
use Rattle.tmf_model.specs.Config.{IsWithin}
use Rattle.tmf_model.specs.declared.script.Item.{Item}
use Rattle.tmf_model.specs.declared.script.Phase.{Phase}
use Rattle.tmf_model.specs.declared.transid.Transid.{Transid}
use Rattle.node_machine.proofs.Opened.{opening_worker}
use Rattle.node_machine.specs.Deeds.{Log}
use Rattle.node_machine.specs.Opening.{Found, each_from, opening_parts, worker_part}
use Rattle.node_machine.specs.Same.{Among}
use Rattle.node_machine.specs.declared.event.Event.{Event}
use Rattle.run_outcomes.specs.Between.{MayBeNext}
use Rattle.run_outcomes.specs.Devices.{workers}
use Rattle.run_outcomes.specs.Knowing.{FirstLaw}
use Rattle.run_outcomes.specs.Outcomes.{AreOfItems, AreOfWorkers}
use Rattle.run_outcomes.specs.Reach.{Reach, first_tokens, reach_at}
use Rattle.run_outcomes.specs.Run.{account_of}
use Rattle.run_outcomes.specs.Worker.{IsWorker}
use Rattle.run_outcomes.specs.declared.outcome.Outcome.{Outcome}
use Rattle.worker_thread.specs.declared.hand.WorkerHand.{WorkerHand}
use Rattle.run_threads.specs.Ended.{HaveEnded}
use Rattle.run_threads.specs.Hands.{IsThrough, numbers_to}
use Rattle.run_threads.proofs.Lists.{among_flat, all_at, contains_at, count_of, flat_among, item_there, number_at, sum_split}

-- A worker that had nothing to do is as it began.
none_yet : (t : Transid) → MayBeNext [] t
none_yet t = record { earlier = λ u has. absurd (cc (has)); decided = λ u has. absurd (cc (has)); unfinished = refl; undecided = refl; alone = refl }

abbrev first_reach : ℕ → Reach
first_reach worker = record { seat = new_seat (worker_part worker); tokens = first_tokens }

idle_worker : {D : Type 0} (kind : disk.Ghosts D) (found : Found) (phase : Phase) (devices : ℕ → Option D) → FirstLaw → (worker : ℕ) → IsWithin 1 workers worker
    → IsWorker (opening_parts found) found (account_of kind found.config phase found.epoch devices found) worker (first_reach worker) [] [] []
idle_worker kind found phase devices law worker within = record {
  part = refl;
  own = λ outcome among. absurd among;
  begun = λ t has own. absurd has;
  state = record { number = worker; epoch = found.epoch; events = [] };
  at_state = opening_worker found worker within.above within.below;
  next = λ t later. none_yet t;
  knows = law worker (worker_part worker);
  few = omega arith;
  theirs = λ part e t among its. absurd among;
  moved = λ part e t among its. absurd among;
  told = λ outcome among. absurd among;
  dumps = record { ended = λ volume t number start among. absurd among; apart = λ outcome volume among is. absurd among };
}

module _ {J : Type 0} where
  -- how far the worker with this number has come, whose hand that is where it has one
  abbrev pub reach_or : ℕ → Option (WorkerHand J) → Reach
  reach_or worker None = first_reach worker
  reach_or worker (Some hand) = reach_at hand.worker.seat hand.worker.share

  -- and its outcomes
  abbrev pub outcomes_or : Option (WorkerHand J) → List Outcome
  outcomes_or None = []
  outcomes_or (Some hand) = hand.worker.outcomes.items

  abbrev pub all_outcomes : List (WorkerHand J) → List Outcome
  all_outcomes hands = flat_map (λ hand. hand.worker.outcomes.items) hands

  abbrev pub all_seats : List (WorkerHand J) → List (Sight Event)
  all_seats hands = map (λ hand. hand.worker.seat) hands

  abbrev pub all_amounts : List (WorkerHand J) → ℕ
  all_amounts hands = sum_by (λ hand. hand.worker.share.amount) hands

  seat_there : (hands : List (WorkerHand J)) (n : ℕ) (hand : WorkerHand J) → slice_get hands n ≡ Some hand → slice_get (all_seats hands) n ≡ Some hand.worker.seat
  seat_there [] n hand at = absurd (cc (at))
  seat_there (first ∷ hands) zero hand at = (let same : first ≡ hand = cc (at) in ap (λ (h : WorkerHand J). Some h.worker.seat) same)
  seat_there (first ∷ hands) (suc n) hand at = seat_there hands n hand at

module _ {D J : Type 0} (kind : disk.Ghosts D) (found : Found) (phase : Phase) (devices : ℕ → Option D) where
  -- the outcomes of workers in their order are those that the phase asks for
  of_workers : (first : ℕ) (hands : List (WorkerHand J)) (rows : List (List Item)) → map (λ hand. hand.number) hands ≡ each_from (λ k. k) first (length rows)
      → ((n k : ℕ) (items : List Item) → slice_get rows n ≡ Some items → k ≡ first + n → numbered phase.workers k ≡ Some items) → All (IsThrough kind found phase devices) hands
      → AreOfWorkers found.epoch first rows (all_outcomes hands)
  of_workers first [] [] numbers_are rows_are through = refl
  of_workers first (hand ∷ hands) [] numbers_are rows_are through = absurd (cc (numbers_are))
  of_workers first [] (items ∷ rows) numbers_are rows_are through = absurd (cc (numbers_are))
  of_workers first (hand ∷ hands) (items ∷ rows) numbers_are rows_are through =
      let own = (All-head (IsThrough kind found phase devices) hand hands through).worked in
      let number : hand.number ≡ first = cc (numbers_are) in
      let tail : map (λ hand. hand.number) hands ≡ each_from (λ k. k) (first + 1) (length rows) = cc (numbers_are) in
      let here = rows_are zero hand.number items refl (omega (arith, number)) in
      let both : Some own.items ≡ Some items = sym own.items_are ∙ here in
      let same : own.items ≡ items = cc (both) in
      let rest = of_workers (first + 1) hands rows tail (λ n k more at e. rows_are (suc n) k more at (omega (arith, e))) (All-tail (IsThrough kind found phase devices) hand hands through) in (
        hand.worker.outcomes.items,
        all_outcomes hands,
        refl,
        subst (λ (n : ℕ). AreOfItems found.epoch n 1 items hand.worker.outcomes.items) number (subst (λ (l : List Item). AreOfItems found.epoch hand.number 1 l hand.worker.outcomes.items) same own.of_items),
        own.skipped,
        subst (λ (k : ℕ). AreOfWorkers found.epoch k rows (all_outcomes hands)) (add-one first) rest,
      )

  pub in_order : (hands : List (WorkerHand J)) → map (λ hand. hand.number) hands ≡ numbers_to (length phase.workers) → All (IsThrough kind found phase devices) hands → AreOfWorkers found.epoch 1 phase.workers (all_outcomes hands)
  in_order hands numbers_are through = of_workers 1 hands phase.workers numbers_are (λ n k items at e. at_number n k items at (e ∙ one_add n)) through
    where
      one_add : (n : ℕ) → 1 + n ≡ suc n
      one_add n = omega arith

      at_number : (n k : ℕ) (items : List Item) → slice_get phase.workers n ≡ Some items → k ≡ suc n → numbered phase.workers k ≡ Some items
      at_number n k items at e = ap (λ (j : ℕ). numbered phase.workers j) e ∙ at

  module _ (law : FirstLaw) (hands : List (WorkerHand J)) (few : length phase.workers ≤ workers) (numbers_are : map (λ hand. hand.number) hands ≡ numbers_to (length phase.workers)) (through : All (IsThrough kind found phase devices) hands) where
    many : length hands ≡ length phase.workers
    many = count_of (λ hand. hand.number) hands 1 (length phase.workers) numbers_are

    number_is : (n : ℕ) (hand : WorkerHand J) → slice_get hands n ≡ Some hand → hand.number ≡ suc n
    number_is n hand at = (let number = number_at (λ hand. hand.number) hands 1 (length phase.workers) numbers_are n hand at in omega (arith, number))

    -- what the worker with this number has done and knows
    record IsKnown (worker : ℕ) (its : Option (WorkerHand J)) : Type 0 where
      acts : Log
      moves : Log
      is : IsWithin 1 workers worker → IsWorker (opening_parts found) found (account_of kind found.config phase found.epoch devices found) worker (reach_or worker its) acts moves (outcomes_or its)

    known : (worker : ℕ) (its : Option (WorkerHand J)) → numbered hands worker ≡ its → IsKnown worker its
    known worker None at = record { acts = []; moves = []; is = λ within. idle_worker kind found phase devices law worker within }
    known zero (Some hand) at = absurd (cc (at))
    known (suc n) (Some hand) at =
        let own = (all_at (IsThrough kind found phase devices) hands through n hand at).worked.working in
        record {
          acts = own.acts;
          moves = own.moves;
          is = λ within. subst
              (λ (k : ℕ). IsWorker (opening_parts found) found (account_of kind found.config phase found.epoch devices found) k (reach_at hand.worker.seat hand.worker.share) own.acts own.moves hand.worker.outcomes.items)
              (number_is n hand at) own.is;
        }

    no_hand : (worker : ℕ) → 1 ≤ worker → numbered hands worker ≡ None → length phase.workers < worker
    no_hand zero some none = absurd (omega (arith, some))
    no_hand (suc n) some none = by_case (cases_lt n (length hands)) where
      by_case : (n < length hands) ⊎ (length hands ≤ n) → length phase.workers < suc n
      by_case (inl there) = (let item = item_there hands n there in absurd (cc (none, item.1)))
      by_case (inr past) = omega (arith, past, many)

    seat_among : (before : List (Sight Event)) → ((worker : ℕ) → length phase.workers < worker → worker ≤ workers → Contains before (new_seat (worker_part worker)))
        → (worker : ℕ) (its : Option (WorkerHand J)) → numbered hands worker ≡ its → IsWithin 1 workers worker → Contains (before ++ all_seats hands) (reach_or worker its).seat
    seat_among before idle worker None at within = Contains-append_left before (all_seats hands) (new_seat (worker_part worker)) (idle worker (no_hand worker within.above at) within.below)
    seat_among before idle zero (Some hand) at within = absurd (cc (at))
    seat_among before idle (suc n) (Some hand) at within =
        Contains-append_right before (all_seats hands) hand.worker.seat (contains_at (all_seats hands) n hand.worker.seat (seat_there hands n hand at))

    each_own : (outcome : Outcome) → Among (all_outcomes hands) outcome → IsWithin 1 workers outcome.tx.worker × Among (outcomes_or (numbered hands outcome.tx.worker)) outcome
    each_own outcome among =
        let one = among_flat (λ (hand : WorkerHand J). hand.worker.outcomes.items) hands outcome among in
        let own = (all_at (IsThrough kind found phase devices) hands through one.place one.item one.at).worked.working.is.own outcome one.has in
        let number : outcome.tx.worker ≡ suc one.place = own ∙ number_is one.place one.item one.at in
        let there = slice_get_within hands one.place one.item one.at in
        let here : numbered hands outcome.tx.worker ≡ Some one.item = ap (λ (k : ℕ). numbered hands k) number ∙ one.at in
        (record { above = omega (arith, number); below = omega (arith, number, there, many, few) }, subst (λ (o : Option (WorkerHand J)). Among (outcomes_or o) outcome) (sym here) one.has)

    own_among : (worker : ℕ) (its : Option (WorkerHand J)) → numbered hands worker ≡ its → (outcome : Outcome) → Among (outcomes_or its) outcome → Among (all_outcomes hands) outcome
    own_among worker None at outcome among = absurd among
    own_among zero (Some hand) at outcome among = absurd (cc (at))
    own_among (suc n) (Some hand) at outcome among = flat_among (λ (hand : WorkerHand J). hand.worker.outcomes.items) hands n hand outcome at among

    abbrev tokens_at : ℕ → ℕ
    tokens_at worker = (reach_or worker (numbered hands worker)).tokens

    hand_tokens : (n k : ℕ) (hand : WorkerHand J) → slice_get hands n ≡ Some hand → k ≡ 1 + n → tokens_at k ≡ hand.worker.share.amount
    hand_tokens n k hand at e =
        let number : k ≡ suc n = omega (arith, e) in
        let here : numbered hands k ≡ Some hand = ap (λ (j : ℕ). numbered hands j) number ∙ at in
        ap (λ (o : Option (WorkerHand J)). (reach_or k o).tokens) here

    idle_tokens : (k : ℕ) → 1 + length hands ≤ k → tokens_at k ≡ first_tokens
    idle_tokens zero le = absurd (omega (arith, le))
    idle_tokens (suc n) le = ap (λ (o : Option (WorkerHand J)). (reach_or (suc n) o).tokens) (slice_get_past hands n (omega (arith, le)))

    all_tokens_are : (more : ℕ) → workers ≡ length phase.workers + more → sum (each_from tokens_at 1 workers) ≡ all_amounts hands + more * first_tokens
    all_tokens_are more is = sum_split (λ (hand : WorkerHand J). hand.worker.share.amount) hands tokens_at first_tokens 1 workers more (omega (arith, is, many)) hand_tokens idle_tokens

    -- so have all ended
    pub have_ended : (before seats : List (Sight Event)) (outcomes : List Outcome) (rest amount : ℕ)
        → ((worker : ℕ) → length phase.workers < worker → worker ≤ workers → Contains before (new_seat (worker_part worker)))
        → seats ≡ before ++ all_seats hands → outcomes ≡ all_outcomes hands → rest + length phase.workers * first_tokens ≡ workers * first_tokens → amount ≡ rest + all_amounts hands
        → HaveEnded kind found phase devices seats amount outcomes
    have_ended before seats outcomes rest amount idle seats_are outcomes_are rest_is amount_is = record {
      reach = λ worker. reach_or worker (numbered hands worker);
      acts = λ worker. (known worker (numbered hands worker) refl).acts;
      moves = λ worker. (known worker (numbered hands worker) refl).moves;
      of = λ worker. outcomes_or (numbered hands worker);
      is = λ worker within. (known worker (numbered hands worker) refl).is within;
      has = λ worker within. subst (λ (l : List (Sight Event)). Contains l (reach_or worker (numbered hands worker)).seat) (sym seats_are) (seat_among before idle worker (numbered hands worker) refl within);
      each = λ outcome among. each_own outcome (subst (λ (l : List Outcome). Among l outcome) outcomes_are among);
      all = λ worker outcome within among. subst (λ (l : List Outcome). Among l outcome) (sym outcomes_are) (own_among worker (numbered hands worker) refl outcome among);
      in_order = subst (λ (l : List Outcome). AreOfWorkers found.epoch 1 phase.workers l) (sym outcomes_are) (in_order hands numbers_are through);
      tokens =
          (let more : workers ≡ length phase.workers + (workers - length phase.workers) = omega (arith, few) in
          let left : rest ≡ (workers - length phase.workers) * first_tokens = omega (arith, rest_is, few) in
          let sums = all_tokens_are (workers - length phase.workers) more in
          omega (arith, sums, left, amount_is));
    }
