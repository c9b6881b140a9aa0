-- What is left of the hands, when one more has ended.
use Rattle.std.specs.Prelude.{◌≡◌, ℕ, ◌+◌, List, [], ◌∷◌, ◌++◌, length, All, Option}
use Rattle.std.specs.List.{sum_by}
use Rattle.std.proofs.Common.{refl, sym, ap, ◌∙◌, arith, append_assoc, length-append}
use Rattle.std.proofs.lemmas.List.Elements.{All-head, All-tail}
use Rattle.std.proofs.lemmas.Grind.{flat_map-append}
use Rattle.std.proofs.lemmas.List.{map-append}
use Rattle.std.proofs.lemmas.List.Sums.{sum_by-append, sum_by-cons}
use Rattle.chronicle.specs.Seats.{Sight}
use Rattle.disk_model.specs.declared.disk.Disk as disk
use Rattle.tmf_model.specs.declared.script.Phase.{Phase}
use Rattle.node_machine.specs.Opening.{Found}
use Rattle.node_machine.specs.declared.event.Event.{Event}
use Rattle.run_outcomes.specs.declared.outcome.Outcome.{Outcome}
use Rattle.worker_thread.specs.declared.hand.WorkerHand.{WorkerHand}
use Rattle.run_threads.specs.Hands.{IsThrough, workers_of}
use Rattle.run_threads.specs.declared.hand.Hand.{Hand}
use Rattle.run_threads.specs.declared.hand.Hand.TheVariants.{Disc, Worker}
use Rattle.run_threads.proofs.Ended.{all_outcomes, all_seats}

-- what was taken from behind stands in front
pub moved : {A : Type 0} (front own more whole after : List A) → front ++ (own ++ more) ≡ whole → after ≡ front ++ own → after ++ more ≡ whole
moved {A} front own more whole after is pushed = ap (λ (l : List A). l ++ more) pushed ∙ append_assoc front own more ∙ is

module _ {J : Type 0} where
  pub cons_workers : (hand : Hand J) (more : List (Hand J)) → workers_of (hand ∷ more) ≡ workers_of (hand ∷ []) ++ workers_of more
  cons_workers (Disc place) more = refl
  cons_workers (Worker worker) more = refl

module _ {J : Type 0} (hands more : List (Hand J)) (hand : Hand J) (first : hands ≡ hand ∷ more) where
  abbrev own : List (WorkerHand J)
  own = workers_of (hand ∷ [])

  left_workers : workers_of hands ≡ own ++ workers_of more
  left_workers = ap (λ (l : List (Hand J)). workers_of l) first ∙ cons_workers hand more

  pub left_seats : (front whole after : List (Sight Event)) → front ++ all_seats (workers_of hands) ≡ whole → after ≡ front ++ all_seats (workers_of (hand ∷ [])) → after ++ all_seats (workers_of more) ≡ whole
  left_seats front whole after is pushed =
      let apart : all_seats (workers_of hands) ≡ all_seats own ++ all_seats (workers_of more) = ap (λ (l : List (WorkerHand J)). all_seats l) left_workers ∙ map-append (λ (one : WorkerHand J). one.worker.seat) own (workers_of more) in
      moved front (all_seats own) (all_seats (workers_of more)) whole after (ap (λ (l : List (Sight Event)). front ++ l) (sym apart) ∙ is) pushed

  pub left_outcomes : (front whole after : List Outcome) → front ++ all_outcomes (workers_of hands) ≡ whole → after ≡ front ++ all_outcomes (workers_of (hand ∷ [])) → after ++ all_outcomes (workers_of more) ≡ whole
  left_outcomes front whole after is pushed =
      let apart : all_outcomes (workers_of hands) ≡ all_outcomes own ++ all_outcomes (workers_of more) =
      ap (λ (l : List (WorkerHand J)). all_outcomes l) left_workers ∙ flat_map-append (λ (one : WorkerHand J). one.worker.outcomes.items) own (workers_of more) in
      moved front (all_outcomes own) (all_outcomes (workers_of more)) whole after (ap (λ (l : List Outcome). front ++ l) (sym apart) ∙ is) pushed

  pub left_sum : (amount : WorkerHand J → ℕ) → sum_by amount (workers_of hands) ≡ sum_by amount (workers_of (hand ∷ [])) + sum_by amount (workers_of more)
  left_sum amount = ap (λ (l : List (WorkerHand J)). sum_by amount l) left_workers ∙ sum_by-append amount own (workers_of more)

  pub left_count : length (workers_of hands) ≡ length (workers_of (hand ∷ [])) + length (workers_of more)
  left_count = ap (λ (l : List (WorkerHand J)). length l) left_workers ∙ length-append own (workers_of more)

  pub left_long : length (all_outcomes (workers_of hands)) ≡ length (all_outcomes (workers_of (hand ∷ []))) + length (all_outcomes (workers_of more))
  left_long = ap (λ (l : List (WorkerHand J)). length (all_outcomes l)) left_workers ∙ ap (λ (l : List Outcome). length l) (flat_map-append (λ (one : WorkerHand J). one.worker.outcomes.items) own (workers_of more))
      ∙ length-append (all_outcomes own) (all_outcomes (workers_of more))

-- each worker that has done its items has one part
pub parts_of : {D J : Type 0} (kind : disk.Ghosts D) (found : Found) (phase : Phase) (devices : ℕ → Option D) (hands : List (WorkerHand J)) → All (IsThrough kind found phase devices) hands → sum_by (λ hand. hand.worker.share.parts) hands ≡ length hands
parts_of kind found phase devices [] through = refl
parts_of {D} {J} kind found phase devices (hand ∷ hands) through =
    let own = (All-head (IsThrough kind found phase devices) hand hands through).part in
    let rest = parts_of kind found phase devices hands (All-tail (IsThrough kind found phase devices) hand hands through) in
    let sums = sum_by-cons (λ (hand : WorkerHand J). hand.worker.share.parts) hand hands in
    omega (arith, own, rest, sums)
