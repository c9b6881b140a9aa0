-- One item of a worker: what doing it asks for, and what it leaves.
use Rattle.std.specs.Prelude.{◌≤◌, ◌<◌, ◌*◌, ◌||◌, vec_capacity}
use Rattle.std.proofs.Common.{Global, Vec, ◌≡◌, ℕ, Bool, true, false, List, [], ◌∷◌, ◌++◌, length, Option, refl, ap, sym, ◌∙◌, subst, arith}
use Rattle.std.specs.declared.sync.ledger.Share.{Share}
use Rattle.chronicle.specs.Seats.{Sight}
use Rattle.disk_model.specs.declared.disk.Disk as disk
use Rattle.tmf_model.specs.Config.{IsValidConfig}
use Rattle.tmf_model.specs.Transid.{is_between}
use Rattle.tmf_model.specs.declared.script.Item.{Item}
use Rattle.tmf_model.specs.declared.script.Phase.{Phase}
use Rattle.tmf_model.specs.declared.transid.Transid.{Transid}
use Rattle.node_machine.specs.declared.event.Event.{Event}
use Rattle.node_machine.specs.Opening.{Found, opening_parts}
use Rattle.node_machine.specs.Parts.{PartState}
use Rattle.run_items.specs.Behind.{outcome_of}
use Rattle.run_outcomes.specs.Knowing.{most_tokens}
use Rattle.run_outcomes.specs.Outcomes.{first_attempt, most_attempts}
use Rattle.run_outcomes.specs.Reach.{Reach, reach_at}
use Rattle.run_outcomes.specs.declared.outcome.Outcome.{Outcome}
use Rattle.run_outcomes.specs.declared.outcome.Told.TheVariants.{Skipped}
use Rattle.run_worker.specs.Going.{HasGivenSome}
use Rattle.worker_thread.specs.Carried.{HasCarriedOut, MayCarryOut}
use Rattle.worker_thread.specs.Named.{IsRunNamed}
use Rattle.worker_thread.specs.Room.{HasRoomFor}
use Rattle.worker_thread.specs.Work.{IsPhaseOf}
use Rattle.worker_thread.specs.Working.{HasDoneItem, MayDoItem, has_ended, is_last_ending}
use Rattle.worker_thread.proofs.Done.{Laws, carried_out, skipped_item}
use Rattle.worker_thread.proofs.Items.{of_run, run_item, some_most}
use Rattle.worker_thread.proofs.Outcomes.{attempts_few, attempts_say, ended_append}
use Rattle.worker_thread.proofs.Rooms.{first_room, one_outcomes, one_tokens, room_left}

abbrev Reads : Type 0
Reads = Vec (ℕ × Option (List ℕ)) Global

-- a share that is as it was has given nothing
pub kept_tokens : {L : Type 0} (old new : Share L) (count : ℕ) → new ≡ old → HasGivenSome count old new
kept_tokens {L} old new count same = record {
  parts = ap (λ (s : Share L). s.parts) same;
  amount = (let amount = ap (λ (s : Share L). s.amount) same in omega (arith, amount));
}

-- a worker whose seat and share are as they were is where it was
pub same_reach : {L : Type 0} (seat seat_new : Sight Event) (share share_new : Share L) → seat_new ≡ seat → share_new ≡ share → reach_at seat share ≡ reach_at seat_new share_new
same_reach {L} seat seat_new share share_new same kept = ap (λ (v : Sight Event). reach_at v share) (sym same) ∙ ap (λ (s : Share L). reach_at seat_new s) (sym kept)

module _ {D L : Type 0} (kind : disk.Ghosts D) (opening : List PartState) (found : Found) (phase : Phase) (devices : ℕ → Option D) (named : IsRunNamed kind opening found devices) (of_phase : IsPhaseOf found phase)
    (worker ordinal : ℕ) (item : Item) (seat : Sight Event) (share : Share L) (outcomes : Vec Outcome Global) (reads : List Reads) (ended : Bool)
    (may : MayDoItem kind found phase devices worker ordinal item seat share outcomes reads ended) where
  some : 1 ≤ most_attempts item
  some = some_most found item (run_item found phase of_phase (first_attempt found.epoch worker ordinal) item may.item_is)

  pub may_skip : length outcomes.items < vec_capacity outcomes
  may_skip = (let room = one_outcomes item may.rest share outcomes reads may.room in let one = some in omega (arith, room, one))

  -- what it leaves room for, and whether the worker has ended
  few : (new : Reach) (after : List Outcome) → (done : HasDoneItem kind found phase devices worker ordinal item new outcomes.items after) → length done.first ≤ most_attempts item
  few new after done = (let size = attempts_few (most_attempts item) (first_attempt found.epoch worker ordinal) done.first done.are some in omega (arith, size))

  pub left : (new : Reach) (share_new : Share L) (outcomes_new : Vec Outcome Global) (room : Reads) (reads_new : List Reads) → HasDoneItem kind found phase devices worker ordinal item new outcomes.items outcomes_new.items
      → HasGivenSome (most_tokens * most_attempts item) share share_new → vec_capacity outcomes_new ≡ vec_capacity outcomes → reads ≡ room ∷ reads_new
      → (rest : List Item) → HasRoomFor (item ∷ rest) share outcomes reads → HasRoomFor rest share_new outcomes_new reads_new
  left new share_new outcomes_new room reads_new done given kept is rest has =
      room_left item rest share outcomes reads has share_new outcomes_new room reads_new done.first given done.after_is (few new outcomes_new.items done) kept is

  pub ended_says : (new : Reach) (after : List Outcome) → HasDoneItem kind found phase devices worker ordinal item new outcomes.items after → ended ≡ false → is_last_ending after ≡ has_ended after
  ended_says new after done none =
      subst (λ (l : List Outcome). is_last_ending l ≡ has_ended l) (sym done.after_is)
      (attempts_say (most_attempts item) (first_attempt found.epoch worker ordinal) outcomes.items done.first done.are (sym may.ended_is ∙ none))

  pub ended_still : (new : Reach) (after : List Outcome) → HasDoneItem kind found phase devices worker ordinal item new outcomes.items after → ended ≡ true → ended ≡ has_ended after
  ended_still new after done is =
      is
      ∙ sym (ap has_ended done.after_is ∙ ended_append outcomes.items done.first ∙ ap (λ (b : Bool). b || has_ended done.first) (sym may.ended_is ∙ is))

  -- WHAT IT HAS COME TO

  module _ (epoch : ℕ) (epoch_is : epoch ≡ found.epoch) (within : is_between 1 4294967295 epoch ≡ true) (valid : IsValidConfig found.config) (t : Transid) (t_is : t ≡ first_attempt epoch worker ordinal) where
    tx_is : t ≡ first_attempt found.epoch worker ordinal
    tx_is = t_is ∙ ap (λ (e : ℕ). first_attempt e worker ordinal) epoch_is

    of_the_run : is_between 1 4294967295 found.epoch ≡ true
    of_the_run = subst (λ (e : ℕ). is_between 1 4294967295 e ≡ true) epoch_is within

    pub may_carry : (room : Reads) (more : List Reads) → reads ≡ room ∷ more → MayCarryOut opening found t item room seat share outcomes
    may_carry room more is =
        let first : Transid = first_attempt found.epoch worker ordinal in
        subst (λ (o : List PartState). MayCarryOut o found t item room seat share outcomes) (sym named.opens)
        (subst (λ (u : Transid). MayCarryOut (opening_parts found) found u item room seat share outcomes) (sym tx_is) (record {
          item_is = run_item found phase of_phase first item may.item_is;
          run = of_run found phase of_phase first item may.item_is of_the_run refl;
          first = refl;
          next = may.working.next;
          parts = may.room.parts;
          tokens = one_tokens item may.rest share outcomes reads may.room;
          reads_room = first_room item may.rest room reads more may.room.reads_room is;
          room = one_outcomes item may.rest share outcomes reads may.room;
        }))

    named_here : IsRunNamed kind (opening_parts found) found devices
    named_here = record { opens = refl; values = named.values }

    pub skipped_done : Laws kind → (new : Reach) (after : List Outcome) → reach_at seat share ≡ new → after ≡ outcomes.items ++ outcome_of t Skipped ∷ [] → ended ≡ true
        → HasDoneItem kind found phase devices worker ordinal item new outcomes.items after
    skipped_done laws new after same is has =
        subst (λ (at : Reach). HasDoneItem kind found phase devices worker ordinal item at outcomes.items after) same
        (skipped_item kind found phase devices laws valid of_phase named_here worker ordinal item (reach_at seat share) outcomes.items may.working may.item_is after
        (is ∙ ap (λ (u : Transid). outcomes.items ++ outcome_of u Skipped ∷ []) tx_is) (sym may.ended_is ∙ has))

    pub carried_done : Laws kind → (new : Reach) (after : List Outcome) → HasCarriedOut kind opening found devices t item (reach_at seat share) new outcomes.items after → ended ≡ false
        → HasDoneItem kind found phase devices worker ordinal item new outcomes.items after
    carried_done laws new after by none =
        let here = subst (λ (u : Transid). HasCarriedOut kind opening found devices u item (reach_at seat share) new outcomes.items after) tx_is by in
        carried_out kind found phase devices laws valid of_phase named_here worker ordinal item (reach_at seat share) outcomes.items may.working may.item_is new after (sym may.ended_is ∙ none)
        (subst (λ (o : List PartState). HasCarriedOut kind o found devices (first_attempt found.epoch worker ordinal) item (reach_at seat share) new outcomes.items after) named.opens here)
