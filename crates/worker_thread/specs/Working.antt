-- A worker of a run, between two of its items and behind the last one.
use Rattle.std.specs.Prelude.{◌≡◌, ℕ, suc, ◌<◌, ◌-◌, ◌||◌, Bool, false, List, [], ◌∷◌, ◌++◌, length, slice_get, Option, Some}
use Rattle.std.specs.Option.{option_map_or}
use Rattle.std.proofs.Common.{Global, Vec}
use Rattle.std.specs.declared.sync.ledger.Share.{Share}
use Rattle.chronicle.specs.Seats.{Sight, new_seat}
use Rattle.disk_model.specs.declared.disk.Disk as disk
use Rattle.tmf_model.specs.Commits.{numbered}
use Rattle.tmf_model.specs.declared.script.Item.{Item}
use Rattle.tmf_model.specs.declared.script.Phase.{Phase}
use Rattle.node_machine.specs.declared.event.Event.{Event}
use Rattle.node_machine.specs.Deeds.{Log}
use Rattle.node_machine.specs.Opening.{Found, opening_parts, worker_part}
use Rattle.node_machine.specs.Same.{Among}
use Rattle.run_outcomes.specs.Outcomes.{AreAttempts, AreOfItems, AreSkipped, first_attempt, is_last, most_attempts}
use Rattle.run_outcomes.specs.Reach.{Reach, first_tokens, reach_at}
use Rattle.run_outcomes.specs.Room.{IsRoomFor}
use Rattle.run_outcomes.specs.Run.{account_of}
use Rattle.run_outcomes.specs.Told.{item_of}
use Rattle.run_outcomes.specs.Worker.{IsWorker}
use Rattle.run_outcomes.specs.declared.outcome.Outcome.{Outcome}
use Rattle.run_worker.specs.Known.{HaveLetGo}
use Rattle.run_worker.specs.Tried.{MayBeginNext}
use Rattle.worker_thread.specs.Room.{HasRoomFor}

-- whether one of the outcomes ends its worker
abbrev pub has_ended : List Outcome → Bool
has_ended [] = false
has_ended (outcome ∷ more) = is_last outcome.told || has_ended more

-- whether the last of them does
abbrev pub is_last_ending : List Outcome → Bool
is_last_ending outcomes = option_map_or (λ outcome. is_last outcome.told) (slice_get outcomes (length outcomes - 1)) false

-- A worker that begins: its seat is new, no token is given, it has no outcome, and there is room for the outcomes of its items and for their reads.
pub record IsNewWorker {L : Type 0} (phase : Phase) (worker : ℕ) (seat : Sight Event) (share : Share L) (outcomes : Vec Outcome Global) (reads : List (Vec (ℕ × Option (List ℕ)) Global)) (ended : Bool) : Type 0 where
  pub items : List Item
  pub items_are : numbered phase.workers worker ≡ Some items
  pub seat_is : seat ≡ new_seat (worker_part worker)
  pub parts : 0 < share.parts
  pub tokens : share.amount ≡ first_tokens
  pub room : IsRoomFor items (record { outcomes = outcomes; reads = reads })
  pub ended_is : ended ≡ false

module _ {D : Type 0} (kind : disk.Ghosts D) (found : Found) (phase : Phase) (devices : ℕ → Option D) where
  -- A worker with these outcomes, which are of items before the one with this ordinal. It may begin that one, and has let go of all that it held, unless one of them has ended it.
  pub record IsWorking (worker ordinal : ℕ) (at : Reach) (outcomes : List Outcome) : Type 0 where
    pub acts : Log
    pub moves : Log
    pub is : IsWorker (opening_parts found) found (account_of kind found.config phase found.epoch devices found) worker at acts moves outcomes
    pub earlier : (outcome : Outcome) → Among outcomes outcome → outcome.tx.ordinal < ordinal
    pub next : MayBeginNext (opening_parts found) at.seat (first_attempt found.epoch worker ordinal)
    pub let_go : has_ended outcomes ≡ false → HaveLetGo worker at.seat.seen

  -- The worker may do this item: it is its next one, there is room for it, and it is known whether an earlier one has ended the worker.
  pub record MayDoItem {L : Type 0} (worker ordinal : ℕ) (item : Item) (seat : Sight Event) (share : Share L) (outcomes : Vec Outcome Global) (reads : List (Vec (ℕ × Option (List ℕ)) Global)) (ended : Bool) : Type 0 where
    pub working : IsWorking worker ordinal (reach_at seat share) outcomes.items
    pub item_is : item_of phase (first_attempt found.epoch worker ordinal) ≡ Some item
    pub rest : List Item
    pub room : HasRoomFor (item ∷ rest) share outcomes reads
    pub ended_is : ended ≡ has_ended outcomes.items

  -- The worker has done the item with this ordinal: it has the outcomes of its attempts more, or that it was skipped, exactly where an earlier one has ended the worker.
  pub record HasDoneItem (worker ordinal : ℕ) (item : Item) (new : Reach) (before after : List Outcome) : Type 0 where
    pub first : List Outcome
    pub after_is : after ≡ before ++ first
    pub are : AreAttempts (most_attempts item) (first_attempt found.epoch worker ordinal) first
    pub skipped : AreSkipped (has_ended before) first
    pub working : IsWorking worker (suc ordinal) new after

  -- The worker has done all of its items: the outcomes are theirs, and behind one that has ended the worker each further one was skipped, and no other.
  pub record HasWorked (worker : ℕ) (new : Reach) (outcomes : List Outcome) : Type 0 where
    pub items : List Item
    pub items_are : numbered phase.workers worker ≡ Some items
    pub of_items : AreOfItems found.epoch worker 1 items outcomes
    pub skipped : AreSkipped false outcomes
    pub working : IsWorking worker (suc (length items)) new outcomes
