-- The relay keeps the laws of a machine.
use Rattle.std.specs.Prelude.{ℕ, ◌≤◌}
use Rattle.std.proofs.Common.{sym, subst}
use Rattle.std.proofs.Math.Nat.{le_trans, le-add_right}
use Rattle.chronicle.specs.Histories.{FactsStay, IsMonotone}
use Rattle.relay.specs.declared.machine.PartState.{PartState}
use Rattle.relay.specs.declared.machine.PartState.TheVariants.{Sending, Taking}
use Rattle.relay.specs.declared.machine.Event.{Event}
use Rattle.relay.specs.declared.machine.Event.TheVariants.{Sent, Taken}
use Rattle.relay.specs.declared.machine.WasSent.{WasSent}
use Rattle.relay.specs.Relay.{NeedsSent, relay, was_sent}

pub relay_facts_stay : FactsStay relay
relay_facts_stay (Sending n) (Sent m) f may shows = subst (λ (k : ℕ). f.0 ≤ k) (sym may) (le_trans shows (le-add_right n 1))
relay_facts_stay (Sending n) (Taken m) f may shows = absurd may
relay_facts_stay (Taking n) e f may shows = absurd shows

needs_more : (t u : WasSent → Type 0) (s : PartState) (e : Event) → ((f : WasSent) → t f → u f) → NeedsSent t s e → NeedsSent u s e
needs_more t u s (Sent m) more needs = tt
needs_more t u s (Taken m) more needs = more (was_sent m) needs

pub relay_monotone : IsMonotone relay
relay_monotone = record { more = needs_more }
