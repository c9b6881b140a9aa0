-- Which part an attempt or an item tells as spent, and of which volume it tells damage.
use Rattle.std.specs.Prelude.{◌≡◌, ℕ, ◌<◌, ◌≤◌, ◌+◌, [], ◌∷◌, None}
use Rattle.std.proofs.Common.{refl, subst, arith, inl, inr, ⊎_elim}
use Rattle.node_machine.proofs.Example.{config, t}
use Rattle.node_machine.specs.Deeds.{count_of}
use Rattle.node_machine.specs.Same.{Among}
use Rattle.node_machine.specs.declared.event.By.TheVariants.{Attempt}
use Rattle.node_machine.specs.declared.event.Event.TheVariants.{OfTrail, OfWorker}
use Rattle.node_machine.specs.declared.event.TrailEvent.TheVariants.{Failed as TrailFailed}
use Rattle.node_machine.specs.declared.event.WorkerEvent.TheVariants.{Begin}
use Rattle.tmf_model.specs.declared.script.Item.TheVariants.{Transaction as TransactionItem}
use Rattle.tmf_model.specs.declared.script.Phase.{Phase}
use Rattle.trail_files.specs.declared.damage.Damage.{Damage}
use Rattle.run_outcomes.specs.Concerned.{dump_parts}
use Rattle.run_outcomes.specs.Told.{Account, IsAttemptTold, IsControlTold, IsDumpTold, last_position}
use Rattle.run_outcomes.specs.declared.outcome.Told.TheVariants.{Damaged, Spent}
use Rattle.run_outcomes.proofs.Example.{one_put}
use Rattle.run_outcomes.proofs.TurnRow.{v}

abbrev puts : Phase
puts = record { kill = None; workers = (TransactionItem one_put ∷ []) ∷ (TransactionItem one_put ∷ []) ∷ [] }

-- both workers have begun an attempt, and the limit is one event; each device is damaged everywhere
abbrev full : Account
full = record {
  config = record config { steps = 1 };
  phase = puts;
  epoch = 1;
  log = (0, OfWorker (Begin t)) ∷ (1, OfWorker (Begin v)) ∷ [];
  opened = 1;
  landed = [];
  next = λ volume. 1;
  broken = λ device damage. Unit {0};
}

one : 1 ≤ 1
one = omega arith

most : last_position ≤ last_position
most = omega arith

-- a part behind those of the workers has had no event
unreached : (number part : ℕ) → number ≡ part → count_of number full.log < 1 → 1 ≤ count_of part full.log → ⊥
unreached number part same none some = (let few = subst (λ (n : ℕ). count_of n full.log < 1) same none in omega (arith, few, some))

-- the parts of a dump of volume 1 are its disc and its dump device
not_in_dump : (part : ℕ) → (16 ≡ part → ⊥) → (29 ≡ part → ⊥) → Among (dump_parts 1) part → ⊥
not_in_dump part no_disc no_device among = ⊎_elim (λ (e : 16 ≡ part). no_disc e) (λ more. ⊎_elim (λ (e : 29 ≡ part). no_device e) (λ none. none) more) among

-- the first worker's attempt tells that its own worker has come to the limit
pub told_spent : IsAttemptTold full t one_put (Spent 0)
told_spent = (inl refl, inl one)

-- It does not tell that of the other worker,
pub not_of_other : IsAttemptTold full t one_put (Spent 1) → ⊥
not_of_other told = ⊎_elim (λ (e : 0 ≡ 1). omega (arith, e)) (λ more. ⊎_elim (λ (e : 28 ≡ 1). omega (arith, e)) (λ more. ⊎_elim (λ (e : 16 ≡ 1). omega (arith, e))
    (λ more. ⊎_elim (λ (e : 24 ≡ 1). omega (arith, e)) (λ none. none) more) more) more) told.0

-- and a control point or a dump tells it of no worker.
pub not_of_control : IsControlTold full t 1 (Spent 0) → ⊥
not_of_control told = ⊎_elim (λ (e : 16 ≡ 0). omega (arith, e)) (λ more. ⊎_elim (λ (e : 24 ≡ 0). omega (arith, e)) (λ none. none) more) told.0.0

pub not_of_dump : IsDumpTold full t 1 (Spent 0) → ⊥
not_of_dump told = not_in_dump 0 (λ e. omega (arith, e)) (λ e. omega (arith, e)) told.0.0

-- the trail of volume 1 has had an event
abbrev full_trail : Account
full_trail = record full { log = (24, OfTrail (TrailFailed (Attempt t))) ∷ [] }

-- a control point tells that the trail has come to the limit
pub told_trail : IsControlTold full_trail t 1 (Spent 24)
told_trail = ((inr (inl refl), one), refl)

-- A dump tells it of no trail.
pub not_of_trail : IsDumpTold full_trail t 1 (Spent 24) → ⊥
not_of_trail told = not_in_dump 24 (λ e. omega (arith, e)) (λ e. omega (arith, e)) told.0.0

-- the disc of the volume gives out no further position, and has had no event
abbrev without_positions : Account
without_positions = record full { next = λ volume. last_position }

-- an attempt tells that of its disc
pub told_without_positions : IsAttemptTold without_positions t one_put (Spent 16)
told_without_positions = (inr (inr (inl refl)), inr (1, refl, most))

-- No control point and no dump does, of whatever part.
pub not_of_control_without_positions : (part : ℕ) → IsControlTold without_positions t 1 (Spent part) → ⊥
not_of_control_without_positions part told = ⊎_elim (λ (e : 16 ≡ part). unreached 16 part e (omega arith) told.0.1)
    (λ more. ⊎_elim (λ (e : 24 ≡ part). unreached 24 part e (omega arith) told.0.1) (λ none. none) more) told.0.0

pub not_of_dump_without_positions : (part : ℕ) → IsDumpTold without_positions t 1 (Spent part) → ⊥
not_of_dump_without_positions part told = ⊎_elim (λ (e : 16 ≡ part). unreached 16 part e (omega arith) told.0.1)
    (λ more. ⊎_elim (λ (e : 29 ≡ part). unreached 29 part e (omega arith) told.0.1) (λ none. none) more) told.0.0

-- the attempt tells damage of the volume on which it has its step
pub told_damaged : (damage : Damage) → IsAttemptTold full t one_put (Damaged 5 damage)
told_damaged damage = ((1, inl refl, refl), tt)

-- It tells none of another volume.
pub not_damaged_elsewhere : (damage : Damage) → IsAttemptTold full t one_put (Damaged 6 damage) → ⊥
not_damaged_elsewhere damage told =
    let volume = told.0 in
    let device : 6 ≡ 4 + volume.0 = volume.2 in
    ⊎_elim (λ (e : 1 ≡ volume.0). omega (arith, device, e)) (λ none. none) volume.1
