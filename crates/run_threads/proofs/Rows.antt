-- Worked rows: a phase of two workers with three items, from its hands to its outcomes.
use Rattle.std.specs.Prelude.{◌≡◌, ℕ, ◌+◌, ◌*◌, ◌<◌, ◌≤◌, List, [], ◌∷◌, ◌++◌, length, map, Option, None, sum}
use Rattle.std.specs.List.{Contains}
use Rattle.std.proofs.Common.{inl, refl, ap, subst, ◌∙◌, arith, length-append}
use Rattle.std.proofs.lemmas.List.Elements.{All-cons, All-nil}
use Rattle.std.specs.declared.sync.ledger.Share.{Share}
use Rattle.chronicle.specs.Seats.{Sight, new_seat}
use Rattle.disk_model.specs.declared.disk.Disk as disk
use Rattle.tmf_model.specs.declared.script.Close.TheVariants.{Commit}
use Rattle.tmf_model.specs.declared.script.Item.TheVariants.{Transaction as TransactionItem, Control, Dump}
use Rattle.tmf_model.specs.declared.script.Phase.{Phase}
use Rattle.node_machine.specs.Opening.{Found, each_from, worker_part}
use Rattle.node_machine.specs.declared.event.Event.{Event}
use Rattle.run_outcomes.specs.Devices.{workers}
use Rattle.run_outcomes.specs.Knowing.{FirstLaw}
use Rattle.run_outcomes.specs.Outcomes.{AreOfItems, AreOutcomesOf, first_attempt}
use Rattle.run_outcomes.specs.Reach.{first_tokens}
use Rattle.run_outcomes.specs.declared.outcome.Outcome.{Outcome}
use Rattle.run_outcomes.specs.declared.outcome.Told.TheVariants.{Committed, Controlled, Dumped}
use Rattle.worker_thread.specs.declared.hand.WorkerHand.{WorkerHand}
use Rattle.run_threads.specs.Dealt.{HasDealt}
use Rattle.run_threads.specs.Ended.{HaveEnded}
use Rattle.run_threads.specs.Hands.{HaveBegun, IsFresh, IsThrough, IsTurned}
use Rattle.run_threads.specs.Room.{most_of_all}
use Rattle.run_threads.specs.declared.hand.Hand.TheVariants.{Disc, Worker}
use Rattle.run_threads.proofs.Ended.{all_amounts, have_ended}
use Rattle.run_threads.proofs.Few.{some_of_items}
use Rattle.run_threads.proofs.Hands.{begun_workers}

-- a transaction that may be attempted twice and a control point, by one worker, and a dump, by another
abbrev phase : Phase
phase = record { kill = None; workers = (TransactionItem (record { attempts = 2; steps = []; close = Commit }) ∷ Control 1 ∷ []) ∷ (Dump 1 ∷ []) ∷ [] }

abbrev committed : Outcome
committed = record { tx = first_attempt 7 1 1; told = Committed 5 [] }

abbrev lowered : Outcome
lowered = record { tx = first_attempt 7 1 2; told = Controlled 1 2 }

abbrev dumped : Outcome
dumped = record { tx = first_attempt 7 2 1; told = Dumped 1 3 }

-- OUTCOMES

-- those of the first worker stand in front of those of the second
row_outcomes : AreOutcomesOf phase 7 (committed ∷ lowered ∷ dumped ∷ [])
row_outcomes = (
  committed ∷ lowered ∷ [],
  dumped ∷ [],
  refl,
  (committed ∷ [], lowered ∷ [], refl, (refl, inl refl), (lowered ∷ [], [], refl, (refl, inl refl), refl)),
  (refl, (refl, tt)),
  (dumped ∷ [], [], refl, (dumped ∷ [], [], refl, (refl, inl refl), refl), (refl, tt), refl),
)

-- there is room for one more, since the transaction may be attempted twice
row_room : most_of_all phase ≡ 4
row_room = refl

-- one of the last worker is not left out,
not_fewer : AreOutcomesOf phase 7 (committed ∷ lowered ∷ []) → ⊥
not_fewer (own, others, is, of_first, skipped, (second, none, second_is, of_second, second_skipped, empty)) = fewer own others second none is of_first second_is of_second empty where
  short : (own others second none : List Outcome) → committed ∷ lowered ∷ [] ≡ own ++ others → 2 ≤ length own → others ≡ second ++ none → 1 ≤ length second → ⊥
  short own others second none is two second_is one =
      let long = ap (λ (l : List Outcome). length l) is ∙ length-append own others in
      let more = ap (λ (l : List Outcome). length l) second_is ∙ length-append second none in
      omega (arith, long, more, two, one)

  fewer : (own others second none : List Outcome) → committed ∷ lowered ∷ [] ≡ own ++ others → AreOfItems 7 1 1 (TransactionItem (record { attempts = 2; steps = []; close = Commit }) ∷ Control 1 ∷ []) own → others ≡ second ++ none
      → AreOfItems 7 2 1 (Dump 1 ∷ []) second → none ≡ [] → ⊥
  fewer own others second none is of_first second_is of_second empty =
      short own others second none is (some_of_items 7 1 1 (TransactionItem (record { attempts = 2; steps = []; close = Commit }) ∷ Control 1 ∷ []) own of_first) second_is (some_of_items 7 2 1 (Dump 1 ∷ []) second of_second)

-- HANDS

module _ {J : Type 0} (first second : WorkerHand J) (one : first.number ≡ 1) (two : second.number ≡ 2) where
  -- two discs, and behind them the workers
  row_begun : IsFresh phase first → IsFresh phase second → HaveBegun 2 phase (Disc 0 ∷ Disc 1 ∷ Worker first ∷ Worker second ∷ [])
  row_begun fresh also = record {
    workers = first ∷ second ∷ [];
    after_is = refl;
    numbers_are = (λ i. one i ∷ two i ∷ []);
    fresh = All-cons (IsFresh phase) first (second ∷ []) fresh (All-cons (IsFresh phase) second [] also (All-nil (IsFresh phase)));
  }

  -- not in front of them,
  not_in_front : HaveBegun 1 phase (Worker first ∷ Disc 0 ∷ Worker second ∷ []) → ⊥
  not_in_front begun = (let is = begun.after_is in absurd (cc (is)))

  -- nor is a disc's place one too high,
  not_too_high : HaveBegun 1 phase (Disc 1 ∷ Worker first ∷ Worker second ∷ []) → ⊥
  not_too_high begun = (let is = begun.after_is in absurd (cc (is)))

  -- nor are the workers exchanged, nor is one left out.
  not_exchanged : HaveBegun 0 phase (Worker second ∷ Worker first ∷ []) → ⊥
  not_exchanged begun =
      let is = begun_workers 0 phase (Worker second ∷ Worker first ∷ []) begun in
      let numbers : second.number ∷ first.number ∷ [] ≡ 1 ∷ 2 ∷ [] = ap (λ (l : List (WorkerHand J)). map (λ hand. hand.number) l) is ∙ begun.numbers_are in
      let here : second.number ≡ 1 = cc (numbers) in
      omega (arith, here, two)

  not_left_out : HaveBegun 0 phase (Worker first ∷ []) → ⊥
  not_left_out begun =
      let is = begun_workers 0 phase (Worker first ∷ []) begun in
      let numbers : first.number ∷ [] ≡ 1 ∷ 2 ∷ [] = ap (λ (l : List (WorkerHand J)). map (λ hand. hand.number) l) is ∙ begun.numbers_are in
      absurd (cc (numbers))

module _ {D J : Type 0} (kind : disk.Ghosts D) (found : Found) (devices : ℕ → Option D) (hand : WorkerHand J) where
  -- behind its turn a hand is of the same disc, and of no worker
  not_another_disc : IsTurned kind found phase devices {J = J} (Disc 0) (Disc 1) → ⊥
  not_another_disc turned = absurd (cc (turned))

  not_a_worker : IsTurned kind found phase devices (Disc 0) (Worker hand) → ⊥
  not_a_worker turned = turned

-- TOKENS

-- what is dealt to two workers,
row_dealt : {L : Type 0} (old new : Share L) → old.parts ≡ 17 → new.parts ≡ 15 → old.amount ≡ 16 * first_tokens → new.amount ≡ 14 * first_tokens → HasDealt 2 old new
row_dealt old new parts left amount rest = record { parts = omega (arith, parts, left); amount = omega (arith, amount, rest) }

-- of which one has a token too few
not_dealt : {L : Type 0} (old new : Share L) → HasDealt 2 old new → old.amount ≡ 16 * first_tokens → new.amount ≡ 14 * first_tokens + 1 → ⊥
not_dealt old new dealt amount rest = (let is = dealt.amount in omega (arith, is, amount, rest))

-- ALL WORKERS

module _ {D J : Type 0} (kind : disk.Ghosts D) (found : Found) (devices : ℕ → Option D) (law : FirstLaw) (first second : WorkerHand J) (one : first.number ≡ 1) (two : second.number ≡ 2) where
  -- The two that had items, and 14 that had none, have ended: their tokens are those that were not dealt, and those that the two have left.
  row_ended : (idle : List (Sight Event)) → ((worker : ℕ) → 2 < worker → worker ≤ workers → Contains idle (new_seat (worker_part worker))) → IsThrough kind found phase devices first → IsThrough kind found phase devices second
      → HaveEnded kind found phase devices (idle ++ first.worker.seat ∷ second.worker.seat ∷ []) (14 * first_tokens + (first.worker.share.amount + second.worker.share.amount)) (first.worker.outcomes.items ++ (second.worker.outcomes.items ++ []))
  row_ended idle there through also =
      let few : 2 ≤ 16 = omega arith in
      let sums : 14 * first_tokens + (first.worker.share.amount + second.worker.share.amount) ≡ 14 * first_tokens + all_amounts (first ∷ second ∷ []) = omega arith in
      have_ended kind found phase devices law (first ∷ second ∷ []) few (λ i. one i ∷ two i ∷ [])
      (All-cons (IsThrough kind found phase devices) first (second ∷ []) through (All-cons (IsThrough kind found phase devices) second [] also (All-nil (IsThrough kind found phase devices))))
      idle (idle ++ first.worker.seat ∷ second.worker.seat ∷ []) (first.worker.outcomes.items ++ (second.worker.outcomes.items ++ [])) (14 * first_tokens) (14 * first_tokens + (first.worker.share.amount + second.worker.share.amount)) there refl
      refl refl sums

module _ {D : Type 0} (kind : disk.Ghosts D) (found : Found) (devices : ℕ → Option D) (seats : List (Sight Event)) (amount : ℕ) where
  -- Not so where an outcome of the last worker is left out,
  not_ended_without : found.epoch ≡ 7 → HaveEnded kind found phase devices seats amount (committed ∷ lowered ∷ []) → ⊥
  not_ended_without epoch ended = not_fewer (subst (λ (n : ℕ). AreOutcomesOf phase n (committed ∷ lowered ∷ [])) epoch ended.in_order)

  -- where a token is missing,
  not_ended_short : (outcomes : List Outcome) (ended : HaveEnded kind found phase devices seats amount outcomes) → amount + 1 ≡ sum (each_from (λ worker. (ended.reach worker).tokens) 1 workers) → ⊥
  not_ended_short outcomes ended short = (let all = ended.tokens in omega (arith, all, short))

  -- nor where no seat is there.
  not_ended_alone : (outcomes : List Outcome) → HaveEnded kind found phase devices [] amount outcomes → ⊥
  not_ended_alone outcomes ended =
      let has = ended.has 1 (record { above = omega arith; below = omega arith }) in
      let few = has.1 in
      omega (arith, few)
