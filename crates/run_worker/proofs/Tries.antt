-- A worker's attempts at a transaction, from the first one to the last.
use Rattle.std.specs.Prelude.{◌⊎◌, ◌&&◌, ◌≤◌, ◌<◌, ◌+◌, nat_le, vec_capacity}
use Rattle.std.proofs.Common.{Global, Vec, ◌≡◌, inl, inr, ℕ, Bool, true, false, List, [], ◌∷◌, ◌++◌, length, length-append, append_assoc, Option, refl, ap, sym, ◌∙◌, subst, arith}
use Rattle.std.proofs.lemmas.Bool.{and_from, and_parts, le-leb, leb-true}
use Rattle.std.specs.declared.sync.ledger.Share.{Share}
use Rattle.chronicle.specs.Seats.{Sight}
use Rattle.disk_model.specs.declared.disk.Disk as disk
use Rattle.tmf_model.specs.Transid.{is_between}
use Rattle.tmf_model.specs.declared.script.Transaction.{Transaction}
use Rattle.tmf_model.specs.declared.transid.Transid.{Transid}
use Rattle.node_machine.specs.Opening.{Found}
use Rattle.node_machine.specs.Parts.{PartState}
use Rattle.node_machine.specs.declared.event.Event.{Event}
use Rattle.commit_boxcar.specs.Settled.{IsOfRun}
use Rattle.run_outcomes.specs.Between.{BeginLaw, GoOnLaw}
use Rattle.run_outcomes.specs.Outcomes.{AreAttempts, is_busy, next_attempt}
use Rattle.run_outcomes.specs.Reach.{Reach, reach_at}
use Rattle.run_outcomes.specs.declared.outcome.Outcome.{Outcome}
use Rattle.run_worker.specs.Attempted.{HasAttempted, MayAttempt}
use Rattle.run_worker.specs.Going.{HasGivenSome, HasRoomForReads}
use Rattle.run_worker.specs.Tried.{HasTried, HasTriedOnce, MayTry}
use Rattle.run_worker.proofs.Decided.{attempt_had}
use Rattle.run_worker.proofs.Had.{between_after}

-- IDENTIFIERS

between_so : (a b n : ℕ) → a ≤ n → n ≤ b → is_between a b n ≡ true
between_so a b n low high = and_from (nat_le a n) (nat_le n b) (le-leb a n low) (le-leb n b high)

-- the next attempt is one of the run too
next_run : (found : Found) (tx : Transid) → IsOfRun found tx → tx.attempt < 8 → IsOfRun found (next_attempt tx)
next_run found tx run few =
    let one = and_parts (is_between 1 4294967295 tx.epoch) (is_between 1 16 tx.worker && (is_between 1 4096 tx.ordinal && is_between 1 8 tx.attempt)) run.valid in
    let two = and_parts (is_between 1 16 tx.worker) (is_between 1 4096 tx.ordinal && is_between 1 8 tx.attempt) one.1 in
    let three = and_parts (is_between 1 4096 tx.ordinal) (is_between 1 8 tx.attempt) two.1 in
    let last : is_between 1 8 (tx.attempt + 1) ≡ true = between_so 1 8 (tx.attempt + 1) (omega arith) (omega (arith, few)) in
    record {
      valid = and_from (is_between 1 4294967295 tx.epoch) (is_between 1 16 tx.worker && (is_between 1 4096 tx.ordinal && is_between 1 8 (tx.attempt + 1))) one.0
          (and_from (is_between 1 16 tx.worker) (is_between 1 4096 tx.ordinal && is_between 1 8 (tx.attempt + 1)) two.0 (and_from (is_between 1 4096 tx.ordinal) (is_between 1 8 (tx.attempt + 1)) three.0 last));
      epoch = run.epoch;
    }

worker_some : (found : Found) (tx : Transid) → IsOfRun found tx → 1 ≤ tx.worker
worker_some found tx run =
    let one = and_parts (is_between 1 4294967295 tx.epoch) (is_between 1 16 tx.worker && (is_between 1 4096 tx.ordinal && is_between 1 8 tx.attempt)) run.valid in
    let two = and_parts (is_between 1 16 tx.worker) (is_between 1 4096 tx.ordinal && is_between 1 8 tx.attempt) one.1 in
    leb-true 1 tx.worker (and_parts (nat_le 1 tx.worker) (nat_le tx.worker 16) two.0).0

-- WHAT AN ATTEMPT ASKS

module _ {L : Type 0} (opening : List PartState) (found : Found) (tx : Transid) (transaction : Transaction) (reads : Vec (ℕ × Option (List ℕ)) Global) (seat : Sight Event) (share : Share L) (outcomes : Vec Outcome Global)
    (may : MayTry opening found tx transaction reads seat share outcomes) where
  pub may_attempt : BeginLaw → MayAttempt opening found tx transaction.steps reads seat share
  may_attempt begins =
      let b = may.next.2 in
      let limit = may.steps_are.few in
      let some = may.some in
      let many = may.tokens.amount in
      record {
        run = may.run;
        worker = worker_some found tx may.run;
        own = b.part;
        can = begins opening seat b.state tx b.at (record { worker = b.number; epoch = b.epoch_is }) (b.next tx may.next.1);
        steps_are = may.steps_are;
        tokens = record { parts = may.tokens.parts; amount = omega (arith, limit, some, many) };
        room = may.reads_room;
      }

  pub may_keep : length outcomes.items < vec_capacity outcomes
  may_keep = (let some = may.some in let room = may.room in omega (arith, some, room))

  -- behind one that was busy, where it was not the last, the next one may be made
  pub may_go_on : GoOnLaw → {D : Type 0} (kind : disk.Ghosts D) (devices : ℕ → Option D) (seat_new : Sight Event) (share_new : Share L) (reads_new : Vec (ℕ × Option (List ℕ)) Global) (outcomes_new : Vec Outcome Global) (busy : Bool)
      → HasTriedOnce kind opening found.config devices tx transaction (reach_at seat share) (reach_at seat_new share_new) outcomes.items outcomes_new.items busy → HasGivenSome (length transaction.steps) share share_new
      → HasRoomForReads transaction.steps reads_new → vec_capacity outcomes_new ≡ vec_capacity outcomes → tx.attempt < transaction.attempts
      → MayTry opening found (next_attempt tx) transaction reads_new seat_new share_new outcomes_new
  may_go_on law kind devices seat_new share_new reads_new outcomes_new busy once given room same_capacity left =
      let had = attempt_had kind opening found.config devices tx transaction.steps transaction.close (reach_at seat share) (reach_at seat_new share_new) once.outcome.told once.attempted in
      let size : length outcomes_new.items ≡ length outcomes.items + 1 = ap (λ (l : List Outcome). length l) once.after_is ∙ length-append outcomes.items (once.outcome ∷ []) in
      let limit = may.steps_are.few in
      let most = may.few in
      let many = may.tokens.amount in
      let some = may.tokens.parts in
      let paid = given.amount in
      let parts = given.parts in
      let kept = may.room in
      record {
        run = next_run found tx may.run (omega (arith, left, most));
        next = (tx, inr (refl, omega arith), between_after law opening tx may.next.0 seat seat_new tx.worker tx.epoch may.next.1 may.next.2 had);
        some = omega (arith, left);
        few = may.few;
        steps_are = may.steps_are;
        tokens = record { parts = omega (arith, some, parts); amount = omega (arith, limit, many, paid, left) };
        reads_room = room;
        room = omega (arith, size, kept, same_capacity, left);
      }

  -- WHAT THE ATTEMPTS HAVE COME TO

  module _ (law : GoOnLaw) {D : Type 0} (kind : disk.Ghosts D) (devices : ℕ → Option D) (mid : Sight Event) (share_mid : Share L) (after : List Outcome) (busy : Bool)
      (once : HasTriedOnce kind opening found.config devices tx transaction (reach_at seat share) (reach_at mid share_mid) outcomes.items after busy) where
    its : HasAttempted kind opening found.config devices once.outcome.tx transaction.steps transaction.close (reach_at seat share) (reach_at mid share_mid) once.outcome.told
    its = subst (λ (t : Transid). HasAttempted kind opening found.config devices t transaction.steps transaction.close (reach_at seat share) (reach_at mid share_mid) once.outcome.told) (sym once.tx_is) once.attempted

    -- one alone, which was not busy, or was the last that may be made
    pub tried_last : (busy ≡ false) ⊎ (tx.attempt ≡ transaction.attempts) → HasTried kind opening found.config devices tx transaction (reach_at seat share) (reach_at mid share_mid) outcomes.items after
    tried_last so =
        let had = attempt_had kind opening found.config devices tx transaction.steps transaction.close (reach_at seat share) (reach_at mid share_mid) once.outcome.told once.attempted in
        record {
          tried = once.outcome ∷ [];
          after_is = once.after_is;
          are = (once.tx_is, why so);
          made = (reach_at mid share_mid, its, refl);
          last = tx;
          of_item = refl;
          between = between_after law opening tx may.next.0 seat mid tx.worker tx.epoch may.next.1 may.next.2 had;
        }
      where
        why : (busy ≡ false) ⊎ (tx.attempt ≡ transaction.attempts) → (is_busy once.outcome.told ≡ false) ⊎ (tx.attempt ≡ transaction.attempts)
        why (inl not) = inl (sym once.busy_is ∙ not)
        why (inr last) = inr last

    more_attempts : (most : ℕ) (o : Outcome) (rest : List Outcome) → o.tx ≡ tx → is_busy o.told ≡ true → tx.attempt < most → AreAttempts most (next_attempt tx) rest → AreAttempts most tx (o ∷ rest)
    more_attempts most o [] is was left are = absurd are
    more_attempts most o (next ∷ rest) is was left are = (is, was, left, are)

    -- one, and those behind it
    pub tried_more : busy ≡ true → tx.attempt < transaction.attempts → (new : Reach) (end : List Outcome) → HasTried kind opening found.config devices (next_attempt tx) transaction (reach_at mid share_mid) new after end
        → HasTried kind opening found.config devices tx transaction (reach_at seat share) new outcomes.items end
    tried_more was left new end rest = record {
      tried = once.outcome ∷ rest.tried;
      after_is = rest.after_is ∙ ap (λ (l : List Outcome). l ++ rest.tried) once.after_is ∙ append_assoc outcomes.items (once.outcome ∷ []) rest.tried;
      are = more_attempts transaction.attempts once.outcome rest.tried once.tx_is (sym once.busy_is ∙ was) left rest.are;
      made = (reach_at mid share_mid, its, rest.made);
      last = rest.last;
      of_item = rest.of_item;
      between = rest.between;
    }
