-- Worked rows: the seats of all parts, and the tokens that they count.
use Rattle.std.specs.Prelude.{◌≡◌, ℕ, zero, suc, ◌<◌, ◌≤◌, List, [], ◌∷◌, ◌++◌, Some, None}
use Rattle.std.specs.List.{Contains}
use Rattle.std.proofs.Common.{refl, ap, subst, ◌∙◌, arith, ⊎_elim}
use Rattle.std.proofs.lemmas.Bool.{cases_lt}
use Rattle.std.proofs.lemmas.List.Elements.{Contains-append_left, Contains-push, Contains-push_cases}
use Rattle.chronicle.specs.Seats.{Sight, new_seat, new_seats}
use Rattle.node_machine.specs.declared.event.DiscEvent.TheVariants.{Read}
use Rattle.node_machine.specs.declared.event.Event.{Event}
use Rattle.node_machine.specs.declared.event.Event.TheVariants.{OfDisc}
use Rattle.run_states.specs.Post.{seat_tokens, tokens_in}
use Rattle.tmf_model.specs.declared.transid.Transid.{Transid}
use Rattle.node_run.specs.Closing.{AreAllSeats}

abbrev one : ℕ → Sight Event
one part = new_seat part

abbrev all : ℕ → List (Sight Event)
all count = new_seats count

seat_there : (n p : ℕ) → p < n → Contains (all n) (one p)
seat_there zero p lt = absurd (omega (arith, lt))
seat_there (suc n) p lt =
    ⊎_elim
    (λ (less : p < n). Contains-append_left (all n) (one n ∷ []) (one p) (seat_there n p less))
    (λ (ge : n ≤ p). let same : n ≡ p = omega (arith, lt, ge) in subst (λ (k : ℕ). Contains (all n ++ one n ∷ []) (one k)) same (Contains-push (all n) (one n)))
    (cases_lt p n)

-- the seats of the first parts are of no other
seats_below : (n p : ℕ) (v : Sight Event) → Contains (all n) v → v.part ≡ Some p → p < n
seats_below zero p v has at = absurd (let few = has.1 in omega (arith, few))
seats_below (suc n) p v has at =
    ⊎_elim
    (λ earlier. let less = seats_below n p v earlier at in omega (arith, less))
    (λ (last : one n ≡ v). let both : Some n ≡ Some p = ap (λ (s : Sight Event). s.part) last ∙ at in let same : n ≡ p = cc (both) in omega (arith, same))
    (Contains-push_cases (all n) (one n) v has)

-- the 37 seats with which a run begins are those of all parts,
row_all : AreAllSeats (all 37)
row_all = record { many = refl; has = λ p lt. record { seat = one p; has = seat_there 37 p lt; is = refl } }

-- one too few are not,
row_few : AreAllSeats (all 36) → ⊥
row_few are = absurd (let many = are.many in omega (arith, many))

-- nor are 37 where one stands twice
row_twice : AreAllSeats (all 36 ++ one 0 ∷ []) → ⊥
row_twice are =
    let last_part = are.has 36 (omega arith) in
    ⊎_elim
    (λ earlier. let less = seats_below 36 36 last_part.seat earlier last_part.is in absurd (omega (arith, less)))
    (λ (last : one 0 ≡ last_part.seat). let both : Some 0 ≡ Some 36 = ap (λ (s : Sight Event). s.part) last ∙ last_part.is in absurd (cc (both)))
    (Contains-push_cases (all 36) (one 0) last_part.seat last_part.has)

-- TOKENS

abbrev attempt : Transid
attempt = record { epoch = 7; worker = 1; ordinal = 1; attempt = 1 }

-- of a read at the first volume's disc
abbrev reading : List (ℕ × Event)
reading = (16, OfDisc (Read attempt 1 [] None)) ∷ []

-- its seat counts one, and that of the worker none, which has seen it too
row_tokens : tokens_in (record { part = Some 16; seen = reading } ∷ record { part = Some 0; seen = reading } ∷ []) ≡ 1
row_tokens = refl

-- the seat of another disc, which has seen it, counts none
row_other : seat_tokens (record { part = Some 17; seen = reading }) ≡ 0
row_other = refl

-- two are not counted
row_no_more : tokens_in (record { part = Some 16; seen = reading } ∷ record { part = Some 0; seen = reading } ∷ []) ≡ 2 → ⊥
row_no_more e = cc
