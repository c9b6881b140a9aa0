-- The rules of the relay: part 0 sends 1, 2, 3 and so on, and part 1 takes them in the same order.
use Rattle.std.specs.Prelude.{◌≡◌, ℕ, ◌+◌, ◌≤◌, List, [], ◌∷◌}
use Rattle.chronicle.specs.Histories.{Rules}
use Rattle.relay.specs.declared.machine.PartState.{PartState}
use Rattle.relay.specs.declared.machine.PartState.TheVariants.{Sending, Taking}
use Rattle.relay.specs.declared.machine.Event.{Event}
use Rattle.relay.specs.declared.machine.Event.TheVariants.{Sent, Taken}
use Rattle.relay.specs.declared.machine.WasSent.{WasSent}

abbrev pub was_sent : ℕ → WasSent
was_sent n = record { 0 = n }

-- at the opening nothing was sent, and nothing taken
abbrev pub unsent : List PartState
unsent = Sending 0 ∷ Taking 0 ∷ []

-- each number is one more than the last
abbrev pub IsNext : PartState → Event → Type 0
IsNext (Sending n) (Sent m) = m ≡ n + 1
IsNext (Sending n) (Taken m) = ⊥
IsNext (Taking n) (Sent m) = ⊥
IsNext (Taking n) (Taken m) = m ≡ n + 1

-- what is taken was sent
abbrev pub NeedsSent : (WasSent → Type 0) → PartState → Event → Type 0
NeedsSent true s (Sent m) = Unit {0}
NeedsSent true s (Taken m) = true (was_sent m)

abbrev pub state_with : PartState → Event → PartState
state_with (Sending n) (Sent m) = Sending m
state_with (Sending n) (Taken m) = Sending n
state_with (Taking n) (Sent m) = Taking n
state_with (Taking n) (Taken m) = Taking m

-- all numbers up to the last were sent
abbrev pub Shows : PartState → WasSent → Type 0
Shows (Sending n) f = f.0 ≤ n
Shows (Taking n) f = ⊥

abbrev pub relay : Rules PartState Event WasSent
relay = record { allows = IsNext; asks = NeedsSent; step = state_with; makes = Shows }
