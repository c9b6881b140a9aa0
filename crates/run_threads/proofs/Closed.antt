-- Hands that have worked, when all are ended.
use Rattle.std.specs.Prelude.{◌≡◌, ℕ, ◌+◌, ◌*◌, ◌≤◌, ◌++◌, List, length, Option, vec_capacity}
use Rattle.std.proofs.Common.{Global, Vec, ap, ◌∙◌, arith, length-append}
use Rattle.std.proofs.lemmas.List.{length-map}
use Rattle.std.specs.declared.sync.ledger.Share.{Share}
use Rattle.chronicle.specs.Seats.{Sight}
use Rattle.disk_model.specs.declared.disk.Disk as disk
use Rattle.tmf_model.specs.declared.script.Phase.{Phase}
use Rattle.node_machine.specs.Opening.{Found}
use Rattle.node_machine.specs.declared.event.Event.{Event}
use Rattle.run_outcomes.specs.Devices.{workers}
use Rattle.run_outcomes.specs.Knowing.{FirstLaw}
use Rattle.run_outcomes.specs.Reach.{first_tokens}
use Rattle.run_outcomes.specs.declared.outcome.Outcome.{Outcome}
use Rattle.worker_thread.specs.declared.hand.WorkerHand.{WorkerHand}
use Rattle.run_threads.specs.Dealt.{AreIdle, HasMerged}
use Rattle.run_threads.specs.Ended.{HaveEnded}
use Rattle.run_threads.specs.Hands.{HaveWorked, workers_of}
use Rattle.run_threads.specs.Room.{IsRoomForAll}
use Rattle.run_threads.specs.declared.hand.Hand.{Hand}
use Rattle.run_threads.proofs.Ended.{all_outcomes, all_seats, have_ended, in_order}
use Rattle.run_threads.proofs.Few.{few_of_workers}
use Rattle.run_threads.proofs.Left.{parts_of}
use Rattle.run_threads.proofs.Lists.{count_of}

module _ {D J : Type 0} (kind : disk.Ghosts D) (found : Found) (phase : Phase) (devices : ℕ → Option D) (hands : List (Hand J)) (worked : HaveWorked kind found phase devices hands) where
  abbrev its : List (WorkerHand J)
  its = workers_of hands

  count : length its ≡ length phase.workers
  count = count_of (λ (hand : WorkerHand J). hand.number) its 1 (length phase.workers) worked.numbers_are

  -- there is room for their seats,
  pub seats_fit : (seats : Vec (Sight Event) Global) → AreIdle phase seats → length seats.items + length (workers_of hands) ≤ vec_capacity seats
  seats_fit seats idle = (let many = idle.many in let room = idle.room in let all = count in omega (arith, many, room, all))

  -- and for their outcomes
  pub outcomes_fit : (outcomes : Vec Outcome Global) → IsRoomForAll phase outcomes → length outcomes.items + length (all_outcomes (workers_of hands)) ≤ vec_capacity outcomes
  outcomes_fit outcomes room =
      let none = ap (λ (l : List Outcome). length l) room.empty in
      let few = few_of_workers found.config found.epoch 1 phase.workers (all_outcomes (workers_of hands)) worked.valid.workers (in_order kind found phase devices its worked.numbers_are worked.through) in
      let enough = room.enough in
      omega (arith, none, few, enough)

  pub parts_back : {L : Type 0} (old new : Share L) → HasMerged (workers_of hands) old new → new.parts ≡ old.parts + length phase.workers
  parts_back old new merged = (let each = parts_of kind found phase devices its worked.through in let is = merged.parts in let all = count in omega (arith, each, is, all))

  pub all_there : (before after : List (Sight Event)) → length before + length phase.workers ≡ workers → after ≡ before ++ all_seats (workers_of hands) → length after ≡ workers
  all_there before after many is =
      let size = ap (λ (l : List (Sight Event)). length l) is ∙ length-append before (all_seats its) in
      let mapped : length (all_seats its) ≡ length its = length-map its (λ (hand : WorkerHand J). hand.worker.seat) in
      let all = count in
      omega (arith, size, mapped, all, many)

  pub all_ended : {L : Type 0} → FirstLaw → (before : Vec (Sight Event) Global) (seats : List (Sight Event)) (none : Vec Outcome Global) (outcomes : List Outcome) (old new : Share L)
      → AreIdle phase before → seats ≡ before.items ++ all_seats (workers_of hands) → IsRoomForAll phase none → outcomes ≡ none.items ++ all_outcomes (workers_of hands)
      → old.amount + length phase.workers * first_tokens ≡ workers * first_tokens → HasMerged (workers_of hands) old new → HaveEnded kind found phase devices seats new.amount outcomes
  all_ended law before seats none outcomes old new idle seats_are room outcomes_are rest merged =
      have_ended kind found phase devices law its worked.valid.few worked.numbers_are worked.through before.items seats outcomes old.amount new.amount idle.has seats_are
      (outcomes_are ∙ ap (λ (l : List Outcome). l ++ all_outcomes its) room.empty) rest merged.amount
