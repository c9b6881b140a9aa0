-- Worked rows: what a dump leaves.
use Rattle.std.specs.Prelude.{◌⊎◌}
use Rattle.std.proofs.Common.{◌≡◌, inl, inr, ⊎_elim, ℕ, true, [], ◌∷◌, ◌++◌, Option, Some, None, refl, ap}
use Rattle.chronicle.specs.Seats.{Sight}
use Rattle.disk_model.specs.declared.disk.Disk as disk
use Rattle.node_machine.proofs.Example.{config, t}
use Rattle.node_machine.specs.Deeds.{Log}
use Rattle.node_machine.specs.Opening.{Found}
use Rattle.node_machine.specs.declared.event.By.TheVariants.{Attempt}
use Rattle.node_machine.specs.declared.event.Cause.TheVariants as cause
use Rattle.node_machine.specs.declared.event.DiscEvent.TheVariants as did
use Rattle.node_machine.specs.declared.event.DumpEvent.TheVariants as dump_did
use Rattle.node_machine.specs.declared.event.Event.{Event}
use Rattle.node_machine.specs.declared.event.Event.TheVariants.{OfDisc, OfDump}
use Rattle.run_outcomes.specs.Moves.{start_move}
use Rattle.run_outcomes.specs.Told.{item_acts}
use Rattle.run_outcomes.specs.declared.outcome.Told.TheVariants.{Dumped, Dumping, Failed, Memory, Spent}
use Rattle.run_items.specs.Dumped.{DumpMakes, FailsIn, IsCutShort}

abbrev start : ℕ × Event
start = (16, OfDisc (did.Start 1 4 t))

-- a call of the dump device has failed
abbrev failed : ℕ × Event
failed = (29, OfDump (dump_did.Failed (Attempt t)))

abbrev whole : Log
whole = start ∷ (29, OfDump (dump_did.Seal 1 4)) ∷ (29, OfDump (dump_did.Sealed 1 true)) ∷ (16, OfDisc (did.Raise 1 None)) ∷ []

-- the first worker's seat, which has seen these entries
abbrev seat_of : Log → Sight Event
seat_of log = record { part = Some 0; seen = log }

-- an item that was turned away has one act, at its volume's disc
row_turn : item_acts 1 t (Dumping 1) ≡ (16, OfDisc (did.Turn t cause.Dumping)) ∷ []
row_turn = refl

-- The dump device has failed behind the begin of the dump,
row_behind : IsCutShort config 1 t 1 4 13 (seat_of (start ∷ failed ∷ []))
row_behind = record { front = []; rest = failed ∷ []; stands = refl; failed = inr (inr (refl, inl refl)) }

-- and not in front of it alone.
none_fails : (rest : Log) → [] ≡ rest → FailsIn config 1 t 13 rest → ⊥
none_fails [] e fails = ⊎_elim (λ (x : (13 ≡ 1) × ⊥). x.1) (λ (y : ((13 ≡ 5) × ⊥) ⊎ ((13 ≡ 13) × ⊥)). ⊎_elim (λ (x : (13 ≡ 5) × ⊥). x.1) (λ (x : (13 ≡ 13) × ⊥). x.1) y) fails
none_fails (x ∷ rest) e fails = absurd (cc (e))

in_front : (front rest : Log) → failed ∷ start ∷ [] ≡ front ++ start_move 1 t 1 4 ∷ rest → FailsIn config 1 t 13 rest → ⊥
in_front [] rest e fails = absurd (let same : failed ≡ start = cc (e) in cc (ap (λ (x : ℕ × Event). x.1) same))
in_front (x ∷ []) rest e fails = none_fails rest (cc (e)) fails
in_front (x ∷ y ∷ []) rest e fails = absurd (cc (e))
in_front (x ∷ y ∷ z ∷ front) rest e fails = absurd (cc (e))

not_behind : IsCutShort config 1 t 1 4 13 (seat_of (failed ∷ start ∷ [])) → ⊥
not_behind cut = in_front cut.front cut.rest cut.stands cut.failed

module _ {D : Type 0} (kind : disk.Ghosts D) (devices : ℕ → Option D) (found : Found) where
  -- the dump was begun, sealed and landed, and its disc has heard of it
  row_dumped : DumpMakes kind devices found 1 t (seat_of []) (seat_of whole) (Dumped 1 4) (start ∷ [])
  row_dumped = (refl, (record { number = 1; started = inl refl; sealed = inr (inl refl); landed = inr (inr (inl refl)); rest = None; raised = inr (inr (inr (inl refl))) }, refl))

  -- another was under way
  row_dumping : DumpMakes kind devices found 1 t (seat_of []) (seat_of ((16, OfDisc (did.Turn t cause.Dumping)) ∷ [])) (Dumping 1) []
  row_dumping = (refl, refl)

  row_cut : DumpMakes kind devices found 1 t (seat_of []) (seat_of (start ∷ failed ∷ [])) (Failed 13) (start ∷ [])
  row_cut = (inr (inr (refl, record { more = []; rest = []; events = refl })), inr (1, 4, record { front = []; rest = failed ∷ []; stands = refl; failed = inr (inr (refl, inl refl)) }, refl))

  -- A dump that was begun alone is not told as whole,
  not_unsealed : (moves : Log) → DumpMakes kind devices found 1 t (seat_of []) (seat_of (start ∷ [])) (Dumped 1 4) moves → ⊥
  not_unsealed moves makes = ⊎_elim (λ (e : start ≡ (29, OfDump (dump_did.Seal makes.1.0.number 4))). absurd (cc (ap (λ (x : ℕ × Event). x.1) e))) (λ none. none) makes.1.0.sealed

  -- nor one that was begun as kept back by a spent part;
  not_spent : (part : ℕ) → DumpMakes kind devices found 1 t (seat_of []) (seat_of (start ∷ [])) (Spent part) (start ∷ []) → ⊥
  not_spent part makes = absurd (let none : start ∷ [] ≡ [] = makes.1 in cc (none))

  -- and one that was not begun is not told as stopped for want of memory.
  not_for_memory : DumpMakes kind devices found 1 t (seat_of []) (seat_of []) Memory [] → ⊥
  not_for_memory makes = absurd (let none : [] ≡ start_move 1 t makes.0 makes.1 ∷ [] = makes.2 in cc (none))
