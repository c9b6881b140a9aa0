-- The parts of a run in a history that goes on from what a seat has seen.
use Rattle.std.specs.Prelude.{◌≡◌, ℕ, zero, suc, ◌≤◌, List, [], ◌∷◌, Option, Some, None, slice_get}
use Rattle.std.specs.Option.{option_map}
use Rattle.std.proofs.Common.{refl, ap, ◌∙◌, arith}
use Rattle.chronicle.proofs.Facts.{last_state, still_known}
use Rattle.chronicle.proofs.States.{state_after, state_is_own}
use Rattle.chronicle.specs.Histories.{IsHistory, IsTrueIn, events_of, states_after}
use Rattle.chronicle.specs.Seats.{IsWholeOf, Knows, Sight, part_state}
use Rattle.node_machine.specs.Deeds.{Log}
use Rattle.node_machine.specs.Laws.{node_facts_stay}
use Rattle.node_machine.specs.Node.{node, state_with}
use Rattle.node_machine.specs.Opening.{Found, VolumeFound, disc_at, disc_part, disc_with, dump_at, dump_part, dump_with, found_volume, opening_parts}
use Rattle.node_machine.specs.Parts.{DiscPart, Fact, PartState}
use Rattle.node_machine.specs.Parts.PartState.{Disc, Idle}
use Rattle.node_machine.specs.declared.event.Event.{Event}
use Rattle.node_machine.specs.declared.event.Event.TheVariants.{OfWorker, OfDisc, OfTrail, OfMonitor, OfDump}

-- a seat's part is in the state that the seat has seen
pub part_in : (opening : List PartState) (log : Log) (v : Sight Event) (p : ℕ) (s : PartState) → IsWholeOf log v → v.part ≡ Some p → part_state node opening v ≡ Some s
    → slice_get (states_after node opening log) p ≡ Some s
part_in opening log v p s whole is at = last_state node opening log v p whole is ∙ at

-- what a seat knows is true
pub known_in : (opening : List PartState) (log : Log) (v : Sight Event) (f : Fact) → IsWholeOf log v → IsHistory node opening log → Knows node opening v f → IsTrueIn node (states_after node opening log) f
known_in opening log v f whole history known = still_known node opening node_facts_stay v.seen log f whole.begins history known

-- at the opening the part of a disc, and that of its dumps, stand at their places
pub disc_opens : (found : Found) (volume : ℕ) → 1 ≤ volume → volume ≤ 8 → slice_get (opening_parts found) (disc_part volume) ≡ Some (disc_at found volume)
disc_opens found zero some few = absurd (omega (arith, some))
disc_opens found (suc zero) some few = refl
disc_opens found (suc (suc zero)) some few = refl
disc_opens found (suc (suc (suc zero))) some few = refl
disc_opens found (suc (suc (suc (suc zero)))) some few = refl
disc_opens found (suc (suc (suc (suc (suc zero))))) some few = refl
disc_opens found (suc (suc (suc (suc (suc (suc zero)))))) some few = refl
disc_opens found (suc (suc (suc (suc (suc (suc (suc zero))))))) some few = refl
disc_opens found (suc (suc (suc (suc (suc (suc (suc (suc zero)))))))) some few = refl
disc_opens found (suc (suc (suc (suc (suc (suc (suc (suc (suc n))))))))) some few = absurd (omega (arith, few))

pub dump_opens : (found : Found) (volume : ℕ) → 1 ≤ volume → volume ≤ 8 → slice_get (opening_parts found) (dump_part volume) ≡ Some (dump_at found volume)
dump_opens found zero some few = absurd (omega (arith, some))
dump_opens found (suc zero) some few = refl
dump_opens found (suc (suc zero)) some few = refl
dump_opens found (suc (suc (suc zero))) some few = refl
dump_opens found (suc (suc (suc (suc zero)))) some few = refl
dump_opens found (suc (suc (suc (suc (suc zero))))) some few = refl
dump_opens found (suc (suc (suc (suc (suc (suc zero)))))) some few = refl
dump_opens found (suc (suc (suc (suc (suc (suc (suc zero))))))) some few = refl
dump_opens found (suc (suc (suc (suc (suc (suc (suc (suc zero)))))))) some few = refl
dump_opens found (suc (suc (suc (suc (suc (suc (suc (suc (suc n))))))))) some few = absurd (omega (arith, few))

idle_after : (events : List Event) → state_after state_with Idle events ≡ Idle
idle_after [] = refl
idle_after (e ∷ events) = idle_after events

-- a part that is idle at the opening is idle
idle_in : (found : Found) (log : Log) (part : ℕ) → slice_get (opening_parts found) part ≡ Some Idle → slice_get (states_after node (opening_parts found) log) part ≡ Some Idle
idle_in found log part at =
    state_is_own node part (opening_parts found) log
    ∙ ap (λ (o : Option PartState). option_map (λ (s : PartState). state_after state_with s (events_of part log)) o) at
    ∙ ap (λ (s : PartState). Some s) (idle_after (events_of part log))

-- so are the parts of a volume that was lost
pub lost_disc : (found : Found) (log : Log) (volume : ℕ) → 1 ≤ volume → volume ≤ 8 → found_volume found volume ≡ None → slice_get (states_after node (opening_parts found) log) (disc_part volume) ≡ Some Idle
lost_disc found log volume some few none =
    idle_in found log (disc_part volume) (disc_opens found volume some few ∙ ap (λ (o : Option VolumeFound). Some (disc_with found.config volume o)) none)

pub lost_dump : (found : Found) (log : Log) (volume : ℕ) → 1 ≤ volume → volume ≤ 8 → found_volume found volume ≡ None → slice_get (states_after node (opening_parts found) log) (dump_part volume) ≡ Some Idle
lost_dump found log volume some few none =
    idle_in found log (dump_part volume) (dump_opens found volume some few ∙ ap (λ (o : Option VolumeFound). Some (dump_with found.config volume o)) none)

-- the state is a disc's, with the configuration and the values that it had at the opening
pub record IsStillDisc (s : DiscPart) (state : PartState) : Type 0 where
  pub now : DiscPart
  pub is : state ≡ Disc now
  pub config : now.config ≡ s.config
  pub base : now.base ≡ s.base

disc_after : (s : DiscPart) (events : List Event) → IsStillDisc s (state_after state_with (Disc s) events)
disc_after s [] = record { now = s; is = refl; config = refl; base = refl }
disc_after s (OfDisc e ∷ events) = (let rest = disc_after (record s { events = e ∷ s.events }) events in record { now = rest.now; is = rest.is; config = rest.config; base = rest.base })
disc_after s (OfWorker e ∷ events) = disc_after s events
disc_after s (OfTrail e ∷ events) = disc_after s events
disc_after s (OfMonitor e ∷ events) = disc_after s events
disc_after s (OfDump e ∷ events) = disc_after s events

-- the disc of a volume that was found is a disc's part, with the configuration and the values that were found
pub record IsFoundStill (found : Found) (entry : VolumeFound) (states : List PartState) (volume : ℕ) : Type 0 where
  pub now : DiscPart
  pub at : slice_get states (disc_part volume) ≡ Some (Disc now)
  pub config : now.config ≡ found.config
  pub base : now.base ≡ entry.base

pub disc_in : (found : Found) (log : Log) (volume : ℕ) (entry : VolumeFound) → 1 ≤ volume → volume ≤ 8 → found_volume found volume ≡ Some entry
    → IsFoundStill found entry (states_after node (opening_parts found) log) volume
disc_in found log volume entry some few is =
    let first : DiscPart = record { config = found.config; number = volume; base = entry.base; first = entry.next; low = entry.low; rest = entry.rest; events = [] } in
    let events = events_of (disc_part volume) log in
    let still = disc_after first events in
    record {
      now = still.now;
      at =
          state_is_own node (disc_part volume) (opening_parts found) log
          ∙ ap (λ (o : Option PartState). option_map (λ (s : PartState). state_after state_with s events) o) (disc_opens found volume some few ∙ ap (λ (o : Option VolumeFound). Some (disc_with found.config volume o)) is)
          ∙ ap (λ (s : PartState). Some s) still.is;
      config = still.config;
      base = still.base;
    }
