-- What the workers of a run have from its home: parts of the ledger, tokens and seats.
use Rattle.std.specs.Prelude.{◌≡◌, ℕ, ◌≤◌, ◌<◌, ◌+◌, ◌*◌, List, [], length, vec_capacity}
use Rattle.std.specs.List.{Contains, sum_by}
use Rattle.std.proofs.Common.{Global, Vec}
use Rattle.std.specs.declared.sync.ledger.Share.{Share}
use Rattle.chronicle.specs.Seats.{Sight, new_seat, new_seats}
use Rattle.tmf_model.specs.declared.script.Phase.{Phase}
use Rattle.node_machine.specs.Opening.{worker_part}
use Rattle.node_machine.specs.declared.event.Event.{Event}
use Rattle.run_outcomes.specs.Devices.{workers}
use Rattle.run_outcomes.specs.Reach.{first_tokens}
use Rattle.worker_thread.specs.declared.hand.WorkerHand.{WorkerHand}
use Rattle.run_threads.specs.declared.hand.Hand.{Hand}

-- The share has a part for each of so many workers, and one of its own; and the tokens with which they begin.
pub record MayDeal {L : Type 0} (count : ℕ) (share : Share L) : Type 0 where
  pub parts : count < share.parts
  pub amount : count * first_tokens ≤ share.amount

-- It has given each of so many a part, and the tokens with which it begins.
pub record HasDealt {L : Type 0} (count : ℕ) (old new : Share L) : Type 0 where
  pub parts : new.parts + count ≡ old.parts
  pub amount : new.amount + count * first_tokens ≡ old.amount

-- It has what these workers had.
pub record HasMerged {J L : Type 0} (hands : List (WorkerHand J)) (old new : Share L) : Type 0 where
  pub parts : new.parts ≡ old.parts + sum_by (λ hand. hand.worker.share.parts) hands
  pub amount : new.amount ≡ old.amount + sum_by (λ hand. hand.worker.share.amount) hands

-- No hand is there yet, but room for one of each disc and each worker of the phase; and the seats of all workers, in their order.
pub record IsEmptyCrew {J : Type 0} (discs : ℕ) (phase : Phase) (hands : Vec (Hand J) Global) (seats : Vec (Sight Event) Global) : Type 0 where
  pub empty : hands.items ≡ []
  pub room : discs + length phase.workers ≤ vec_capacity hands
  pub seats_are : seats.items ≡ new_seats workers

-- The seats are those of the workers that have no items, each new, and there is room for those of the others.
pub record AreIdle (phase : Phase) (seats : Vec (Sight Event) Global) : Type 0 where
  pub has : (worker : ℕ) → length phase.workers < worker → worker ≤ workers → Contains seats.items (new_seat (worker_part worker))
  pub many : length seats.items + length phase.workers ≡ workers
  pub room : workers ≤ vec_capacity seats
