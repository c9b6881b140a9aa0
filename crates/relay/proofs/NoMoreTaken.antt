-- No more is taken than was sent.
use Rattle.std.proofs.Common.{◌≡◌, ℕ, zero, suc, ◌+◌, ◌≤◌, List, [], ◌∷◌, length, sym, subst, arith}
use Rattle.chronicle.specs.Histories.{events_of, IsHistory, IsTrueIn}
use Rattle.relay.specs.declared.machine.PartState.{PartState}
use Rattle.relay.specs.declared.machine.PartState.TheVariants.{Sending, Taking}
use Rattle.relay.specs.declared.machine.Event.{Event}
use Rattle.relay.specs.declared.machine.Event.TheVariants as did
use Rattle.relay.specs.Relay.{relay, was_sent, IsNext}

-- what is true was sent
sent_so_far : (a b m : ℕ) → IsTrueIn relay (Sending a ∷ Taking b ∷ []) (was_sent m) → m ≤ a
sent_so_far a b m (zero, s, at, makes) =
    let e : Sending a ≡ s = cc (at) in
    subst (λ (t : PartState). relay.makes t (was_sent m)) (sym e) makes
sent_so_far a b m (suc zero, s, at, makes) =
    let e : Taking b ≡ s = cc (at) in
    absurd (subst (λ (t : PartState). relay.makes t (was_sent m)) (sym e) makes)
sent_so_far a b m (suc (suc q), s, at, makes) = absurd (cc (at))

pub no_more_taken : (a b : ℕ) (log : List (ℕ × Event)) → b ≤ a → IsHistory relay (Sending a ∷ Taking b ∷ []) log → b + length (events_of 1 log) ≤ a + length (events_of 0 log)
no_more_taken a b [] le h = omega arith
no_more_taken a b ((zero, did.Sent m) ∷ log) le h =
    let e : Sending a ≡ h.0.0 = cc (h.0.1) in
    let may : m ≡ a + 1 = subst (λ (t : PartState). IsNext t (did.Sent m)) (sym e) h.0.2 in
    let rest = no_more_taken m b log (omega arith) h.1 in omega (arith, may, rest)
no_more_taken a b ((zero, did.Taken m) ∷ log) le h =
    let e : Sending a ≡ h.0.0 = cc (h.0.1) in
    absurd (subst (λ (t : PartState). IsNext t (did.Taken m)) (sym e) h.0.2)
no_more_taken a b ((suc zero, did.Sent m) ∷ log) le h =
    let e : Taking b ≡ h.0.0 = cc (h.0.1) in
    absurd (subst (λ (t : PartState). IsNext t (did.Sent m)) (sym e) h.0.2)
no_more_taken a b ((suc zero, did.Taken m) ∷ log) le h =
    let e : Taking b ≡ h.0.0 = cc (h.0.1) in
    let may : m ≡ b + 1 = subst (λ (t : PartState). IsNext t (did.Taken m)) (sym e) h.0.2 in
    let sent : m ≤ a = sent_so_far a b m h.0.3 in
    let rest = no_more_taken a m log sent h.1 in omega (arith, may, rest)
no_more_taken a b ((suc (suc p), e) ∷ log) le h = absurd (cc (h.0.1))
