-- Worked rows: why a step is refused where no act tells it, and what is told then.
use Rattle.std.specs.Prelude.{◌≤◌}
use Rattle.std.proofs.Common.{◌≡◌, ◌+◌, ℕ, inl, inr, ⊎_elim, List, [], ◌∷◌, ◌++◌, length, length-append, Option, Some, None, refl, ap, arith}
use Rattle.chronicle.specs.Seats.{Sight}
use Rattle.disk_model.specs.declared.disk.Disk as disk
use Rattle.tmf_model.specs.declared.config.Config.{Config}
use Rattle.tmf_model.specs.declared.script.Op.TheVariants.{Put}
use Rattle.tmf_model.specs.declared.script.Step.{Step}
use Rattle.tmf_model.specs.declared.transid.Transid.{Transid}
use Rattle.trail_files.specs.declared.damage.Damage.{Damage}
use Rattle.node_machine.proofs.Example.{config, t}
use Rattle.node_machine.specs.Deeds.{Log}
use Rattle.node_machine.specs.Parts.{PartState}
use Rattle.node_machine.specs.Same.{Among}
use Rattle.node_machine.specs.declared.event.By.TheVariants.{Attempt}
use Rattle.node_machine.specs.declared.event.Event.{Event}
use Rattle.node_machine.specs.declared.event.Event.TheVariants.{OfTrail, OfWorker}
use Rattle.node_machine.specs.declared.event.TrailEvent.TheVariants as trail
use Rattle.node_machine.specs.declared.event.WorkerEvent.TheVariants.{Begin, Enlist}
use Rattle.disc_process.specs.declared.refused.WriteRefused.TheVariants as refused
use Rattle.run_outcomes.specs.declared.outcome.Told.TheVariants as told
use Rattle.run_worker.specs.Attempted.{told_by_refusal}
use Rattle.run_worker.specs.Refused.{HasFailedAt, IsDamagedAt, IsSpentAt}

other : Transid
other = record { epoch = 1; worker = 2; ordinal = 1; attempt = 1 }

put_step : Step
put_step = record { file = 1; key = 107 ∷ []; op = Put (118 ∷ []) }

-- the configuration of the example, with this limit of events
abbrev limited : ℕ → Config
limited steps = record config { steps = steps }

-- THE LIMIT

-- the attempt's worker has had two events
abbrev two_events : Log
two_events = (0, OfWorker (Begin t)) ∷ (0, OfWorker (Enlist t 1)) ∷ []

-- so its part is spent where two is the limit
row_spent : (opening : List PartState) → IsSpentAt opening (limited 2) 1 t two_events 0
row_spent opening = record { which = inl refl; spent = inl (omega arith) }

-- and is not where three is
not_spent : (opening : List PartState) → IsSpentAt opening (limited 3) 1 t two_events 0 → ⊥
not_spent opening s = ⊎_elim
    (λ (many : 3 ≤ 2). omega (arith, many))
    (λ last. (let part : 0 ≡ 16 = last.0 in omega (arith, part)))
    s.spent

-- the part of another worker is never told, whatever has happened
not_others : (opening : List PartState) (seen : Log) → IsSpentAt opening config 1 t seen 1 → ⊥
not_others opening seen s = ⊎_elim
    (λ (own : 0 ≡ 1). omega (arith, own))
    (λ (more : Among (16 ∷ 24 ∷ []) 1). ⊎_elim (λ (disc : 16 ≡ 1). omega (arith, disc)) (λ (rest : Among (24 ∷ []) 1). ⊎_elim (λ (its : 24 ≡ 1). omega (arith, its)) (λ (none : ⊥). none) rest) more)
    s.which

-- FAILED CALLS

abbrev trail_failed : Event
trail_failed = OfTrail (trail.Failed (Attempt t))

abbrev seat_with : Log → Sight Event
seat_with seen = record { part = Some 0; seen = seen }

-- a call of the volume's trail failed for the attempt, which its seat had not seen before
row_failed : HasFailedAt config 1 t (seat_with two_events) (seat_with (two_events ++ (24, trail_failed) ∷ [])) 1
row_failed = inl (refl, record { more = []; events = refl })

-- a failed call that it had seen before is no cause
not_again : HasFailedAt config 1 t (seat_with ((24, trail_failed) ∷ [])) (seat_with ((24, trail_failed) ∷ [])) 1 → ⊥
not_again (inl x) =
    let more = x.1.more in
    let size : 1 ≡ length ((trail_failed ∷ more) ++ trail_failed ∷ []) = ap (λ (l : List Event). length l) x.1.events in
    let parts : length ((trail_failed ∷ more) ++ trail_failed ∷ []) ≡ length (trail_failed ∷ more) + 1 = length-append (trail_failed ∷ more) (trail_failed ∷ []) in
    omega (arith, size, parts)
not_again (inr x) = (let device : 1 ≡ 5 = x.0 in omega (arith, device))

-- DAMAGE

-- damage is told of the step's volume alone, which is device 5
not_elsewhere : {D : Type 0} (kind : disk.Ghosts D) (opening : List PartState) (devices : ℕ → Option D) (old new : Sight Event) (damage : Damage) → IsDamagedAt kind opening config devices old new put_step 6 damage → ⊥
unfolding put_step
not_elsewhere kind opening devices old new damage d = (let device : 6 ≡ 5 = d.device_is in omega (arith, device))

-- and of a device that was handed in
not_missing : {D : Type 0} (kind : disk.Ghosts D) (opening : List PartState) (old new : Sight Event) (damage : Damage) → IsDamagedAt kind opening config (λ number. None) old new put_step 5 damage → ⊥
not_missing kind opening old new damage d = absurd (cc (d.handed_in))

-- WHAT IS TOLD

row_busy : told_by_refusal 2 put_step (refused.Busy other) ≡ told.Busy 1 (107 ∷ []) other
unfolding put_step
row_busy = refl

row_told : told_by_refusal 2 put_step (refused.Failed 1) ≡ told.Failed 1
row_told = refl
