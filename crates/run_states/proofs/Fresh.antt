-- The parts of an opening, which have had no event, and their seats.
use Rattle.std.specs.Prelude.{◌≡◌, ℕ, zero, suc, ◌-◌, ◌<◌, ◌≤◌, List, [], length, map, filter, Some, slice_get}
use Rattle.std.proofs.Common.{refl, ap, arith, ⊎_elim}
use Rattle.std.proofs.lemmas.Bool.{cases_lt}
use Rattle.disc_process.specs.Disc.{IsFresh}
use Rattle.node_machine.proofs.Opened.{fresh, opening_count, IsFresh as IsNew}
use Rattle.node_machine.proofs.Placed.{opening_placed}
use Rattle.node_machine.specs.Opening.{Found, disc_part, opening_parts}
use Rattle.node_machine.specs.Parts.{PartState}
use Rattle.node_machine.specs.Parts.PartState.{Worker, Disc, Trail, Monitor, Dump, Idle}
use Rattle.node_machine.specs.declared.event.DiscEvent.{DiscEvent}
use Rattle.node_machine.specs.declared.event.DumpEvent.{DumpEvent}
use Rattle.node_machine.specs.declared.event.Event.TheVariants.{OfWorker, OfDisc, OfTrail, OfMonitor, OfDump}
use Rattle.node_machine.specs.declared.event.MonitorEvent.{MonitorEvent}
use Rattle.node_machine.specs.declared.event.TrailEvent.{TrailEvent}
use Rattle.node_machine.specs.declared.event.WorkerEvent.{WorkerEvent}
use Rattle.run_outcomes.proofs.PartKinds.{worker_is}
use Rattle.run_outcomes.specs.Devices.{dump_device, part_of_device, volume_device}
use Rattle.run_outcomes.specs.Ends.{failures_of, is_failure}
use Rattle.run_states.proofs.DumpPosts.{part_dump}
use Rattle.run_states.proofs.Lists.{item_there}
use Rattle.run_states.proofs.Posts.{part_trail}

-- the part of a volume's device
pub part_disc : (number : ℕ) → 1 ≤ number → number ≤ 8 → part_of_device (volume_device number) ≡ disc_part number
part_disc zero some few = absurd (omega (arith, some))
part_disc (suc zero) some few = refl
part_disc (suc (suc zero)) some few = refl
part_disc (suc (suc (suc zero))) some few = refl
part_disc (suc (suc (suc (suc zero)))) some few = refl
part_disc (suc (suc (suc (suc (suc zero))))) some few = refl
part_disc (suc (suc (suc (suc (suc (suc zero)))))) some few = refl
part_disc (suc (suc (suc (suc (suc (suc (suc zero))))))) some few = refl
part_disc (suc (suc (suc (suc (suc (suc (suc (suc zero)))))))) some few = refl
part_disc (suc (suc (suc (suc (suc (suc (suc (suc (suc n))))))))) some few = absurd (omega (arith, few))

-- each part has the number of its place, and has had no event
pub is_fresh : (found : Found) → IsFresh (opening_parts found)
is_fresh found q (Worker s) at = (let is = (worker_is found [] q s at).1 in omega (arith, is), fresh found q (Worker s) at)
is_fresh found q (Disc s) at = (opening_placed found q (Disc s) at, fresh found q (Disc s) at)
is_fresh found q (Monitor s) at = fresh found q (Monitor s) at
is_fresh found q (Trail s) at = tt
is_fresh found q (Dump s) at = tt
is_fresh found q Idle at = tt

-- a part that has had no event has had no failed call
quiet : (s : PartState) → IsNew s → failures_of s ≡ 0
quiet (Worker s) new = ap (λ (es : List WorkerEvent). length (filter is_failure (map (λ e. OfWorker e) es))) new
quiet (Disc s) new = ap (λ (es : List DiscEvent). length (filter is_failure (map (λ e. OfDisc e) es))) new
quiet (Trail s) new = ap (λ (es : List TrailEvent). length (filter is_failure (map (λ e. OfTrail e) es))) new
quiet (Monitor s) new = ap (λ (es : List MonitorEvent). length (filter is_failure (map (λ e. OfMonitor e) es))) new
quiet (Dump s) new = ap (λ (es : List DumpEvent). length (filter is_failure (map (λ e. OfDump e) es))) new
quiet Idle new = refl

part_few : (n : ℕ) → 1 ≤ n → n < 21 → part_of_device n < 37
part_few n some lt = ⊎_elim
    (λ (trail : n < 5). (let is = part_trail n some (omega (arith, trail)) in omega (arith, is, trail)))
    (λ (past : 5 ≤ n). ⊎_elim
    (λ (disc : n < 13).
    let place : volume_device (n - 4) ≡ n = omega (arith, past) in
    let is = part_disc (n - 4) (omega (arith, past)) (omega (arith, disc)) in
    let same = ap part_of_device place in
    omega (arith, is, same, disc))
    (λ (dump : 13 ≤ n).
    let place : dump_device (n - 12) ≡ n = omega (arith, dump) in
    let is = part_dump (n - 12) (omega (arith, dump)) (omega (arith, lt)) in
    let same = ap part_of_device place in
    omega (arith, is, same, lt))
    (cases_lt n 13))
    (cases_lt n 5)

-- the part of a device, which has had no failed call
pub record QuietPart (found : Found) (n : ℕ) : Type 0 where
  pub state : PartState
  pub at : slice_get (opening_parts found) (part_of_device n) ≡ Some state
  pub none : failures_of state ≡ 0

pub quiet_part : (found : Found) (n : ℕ) → 1 ≤ n → n < 21 → QuietPart found n
quiet_part found n some lt =
    let few = part_few n some lt in
    let count = opening_count found in
    let one = item_there (opening_parts found) (part_of_device n) (omega (arith, few, count)) in
    record { state = one.0; at = one.1; none = quiet one.0 (fresh found (part_of_device n) one.0 one.1) }
