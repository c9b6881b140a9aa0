-- Worked rows: which item of a worker comes next, and that it has had no event.
use Rattle.std.proofs.Common.{◌≡◌, ◌<◌, inl, ⊎_elim, ℕ, [], ◌∷◌, refl, ap, sym, subst, arith}
use Rattle.tmf_model.specs.declared.transid.Transid.{Transid}
use Rattle.node_machine.proofs.Example.{t}
use Rattle.node_machine.specs.Deeds.{Log}
use Rattle.node_machine.specs.Opening.{worker_part}
use Rattle.node_machine.specs.declared.event.Event.{Event}
use Rattle.node_machine.specs.declared.event.Event.TheVariants.{OfWorker}
use Rattle.node_machine.specs.declared.event.WorkerEvent.{WorkerEvent}
use Rattle.node_machine.specs.declared.event.WorkerEvent.TheVariants.{Begin}
use Rattle.run_outcomes.specs.Between.{HasNone, IsEventOf}
use Rattle.run_outcomes.specs.Joined.{IsNext}
use Rattle.run_outcomes.specs.declared.outcome.Outcome.{Outcome}
use Rattle.run_outcomes.specs.declared.outcome.Told.TheVariants.{Controlled}

-- The first worker's second item comes next behind its first; the first one does not come again.
abbrev second : Transid
second = record { epoch = 1; worker = 1; ordinal = 2; attempt = 1 }

abbrev first_outcome : Outcome
first_outcome = record { tx = t; told = Controlled 1 2 }

row_next : IsNext 1 (first_outcome ∷ []) second
row_next = record { own = refl; later = λ outcome among. ⊎_elim (λ (is : first_outcome ≡ outcome). (let same : 1 ≡ outcome.tx.ordinal = ap (λ (o : Outcome). o.tx.ordinal) is in inl (omega (arith, same)))) (λ none. absurd none) among }

not_again : IsNext 1 (first_outcome ∷ []) t → ⊥
not_again next = ⊎_elim (λ (less : 1 < 1). omega (arith, less)) (λ (same : (1 ≡ 1) × (1 < 1)). (let less = same.1 in omega (arith, less))) (next.later first_outcome (inl refl))

-- Where the first one has begun, the second one has had no event; the first one has.
abbrev first_begun : Log
first_begun = (worker_part 1, OfWorker (Begin t)) ∷ []

row_none : HasNone first_begun second
row_none e of_it has = ⊎_elim
    (λ (is : (worker_part 1, OfWorker (Begin t)) ≡ (worker_part 1, OfWorker e)).
    let event : OfWorker (Begin t) ≡ OfWorker e = ap (λ (x : ℕ × Event). x.1) is in
    let same : Begin t ≡ e = cc (event) in
    let item : t ≡ second = subst (λ (x : WorkerEvent). IsEventOf second x) (sym same) of_it in
    (let ordinal : 1 ≡ 2 = ap (λ (u : Transid). u.ordinal) item in omega (arith, ordinal)))
    (λ none. absurd none)
    has

not_none : HasNone first_begun t → ⊥
not_none none = none (Begin t) refl (inl refl)
