-- Worked rows: what a control point leaves, and what its worker knows by it.
use Rattle.std.proofs.Common.{◌≡◌, inl, inr, ℕ, [], ◌∷◌, refl, Some, arith}
use Rattle.chronicle.specs.Seats.{Sight, new_seat}
use Rattle.node_machine.proofs.Example.{config, t}
use Rattle.node_machine.specs.Deeds.{Log}
use Rattle.node_machine.specs.declared.event.By.TheVariants.{Attempt}
use Rattle.node_machine.specs.declared.event.DiscEvent.TheVariants as did
use Rattle.node_machine.specs.declared.event.Event.{Event}
use Rattle.node_machine.specs.declared.event.Event.TheVariants.{OfDisc}
use Rattle.run_outcomes.specs.Reach.{HasMoved, first_tokens}
use Rattle.run_outcomes.specs.Knowing.{FirstLaw, MovesKnownLaw}
use Rattle.run_outcomes.specs.declared.outcome.Told.TheVariants.{Controlled, Failed, Memory, Skipped, Spent}
use Rattle.run_items.specs.Controlled.{ControlMakes, HasDoneControl}

abbrev low : ℕ × Event
low = (16, OfDisc (did.Low 2 (Attempt t)))

abbrev lowered : ℕ × Event
lowered = (16, OfDisc did.Lowered)

abbrev failed : ℕ × Event
failed = (16, OfDisc (did.Failed (Attempt t)))

-- the first worker's seat, which has seen these entries
abbrev seat_of : Log → Sight Event
seat_of log = record { part = Some 0; seen = log }

-- the low position has moved to 2
row_controlled : ControlMakes config 1 t (seat_of []) (seat_of (low ∷ lowered ∷ [])) (Controlled 1 2) (low ∷ [])
row_controlled = (refl, record { before = []; between = []; after = []; stands = refl; next = λ none. none }, refl)

-- the volume has failed behind the begin of the move; or in front of any
row_cut : ControlMakes config 1 t (seat_of []) (seat_of (low ∷ failed ∷ [])) (Failed 5) (low ∷ [])
row_cut = (inr (refl, record { more = OfDisc (did.Low 2 (Attempt t)) ∷ []; rest = []; events = refl }), inr (record { low = 2; front = []; rest = failed ∷ []; stands = refl; since = ([], refl); failed = inr (refl, inl refl) }, refl))

row_failed : ControlMakes config 1 t (seat_of []) (seat_of (failed ∷ [])) (Failed 5) []
row_failed = (inr (refl, record { more = []; rest = []; events = refl }), inl refl)

-- A move is told neither as one of another volume,
not_of_other : (moves : Log) → ControlMakes config 1 t (seat_of []) (seat_of (low ∷ lowered ∷ [])) (Controlled 2 2) moves → ⊥
not_of_other moves makes = (let is = makes.0 in omega (arith, is))

-- nor as none that a spent part or want of memory has kept back,
one_is_not_none : (x : ℕ × Event) → x ∷ [] ≡ [] → ⊥
one_is_not_none x h = absurd (cc (h))

not_spent : (part : ℕ) → ControlMakes config 1 t (seat_of []) (seat_of (low ∷ lowered ∷ [])) (Spent part) (low ∷ []) → ⊥
not_spent part makes = one_is_not_none low makes.1

not_for_memory : ControlMakes config 1 t (seat_of []) (seat_of (low ∷ lowered ∷ [])) Memory (low ∷ []) → ⊥
not_for_memory makes = one_is_not_none low makes

-- nor as nothing at all.
not_skipped : (moves : Log) → ControlMakes config 1 t (seat_of []) (seat_of (low ∷ lowered ∷ [])) Skipped moves → ⊥
not_skipped moves makes = makes

-- A worker that has given a token for the move knows it;
row_known : MovesKnownLaw → HasDoneControl config 1 t (record { seat = seat_of []; tokens = 5 }) (record { seat = seat_of (low ∷ lowered ∷ []); tokens = 4 }) (Controlled 1 2)
row_known law = record {
  moves = low ∷ [];
  moved = (law 1).once (record { seat = seat_of []; tokens = 5 }) (record { seat = seat_of (low ∷ lowered ∷ []); tokens = 4 }) low
      (record { own = refl; more = low ∷ lowered ∷ []; seen = refl; among = inl refl; given = refl });
  makes = row_controlled;
}

-- one that has given none does not.
not_unpaid : FirstLaw → HasMoved 1 (record { seat = new_seat 0; tokens = first_tokens }) (record { seat = seat_of (low ∷ lowered ∷ []); tokens = first_tokens }) (low ∷ []) → ⊥
not_unpaid law moved = (let counted = (moved [] [] (law 1 0)).counted in omega (arith, counted))
