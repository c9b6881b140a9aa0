-- Which seats are a disc's, and how many tokens the seats among these count.
use Rattle.std.specs.Prelude.{◌≡◌, ℕ, zero, suc, ◌<◌, ◌≤◌, Bool, true, false, List, [], ◌∷◌, ◌++◌, map, Some, if◌then◌else◌}
use Rattle.std.proofs.Common.{refl, sym, ap, ◌∙◌, arith}
use Rattle.chronicle.specs.Seats.{Sight, own_events}
use Rattle.node_machine.specs.Moves.{token_count}
use Rattle.node_machine.specs.declared.event.Event.{Event}
use Rattle.run_outcomes.specs.Devices.{part_of_device}
use Rattle.run_states.proofs.Joining.{map_pushed, moved}
use Rattle.run_states.specs.Post.{PostView, is_disc_part, seat_tokens}

disc_there : (n : ℕ) → 5 ≤ n → n ≤ 12 → is_disc_part (Some (part_of_device n)) ≡ true
disc_there zero above below = absurd (omega (arith, above))
disc_there (suc (zero)) above below = absurd (omega (arith, above))
disc_there (suc (suc (zero))) above below = absurd (omega (arith, above))
disc_there (suc (suc (suc (zero)))) above below = absurd (omega (arith, above))
disc_there (suc (suc (suc (suc (zero))))) above below = absurd (omega (arith, above))
disc_there (suc (suc (suc (suc (suc (zero)))))) above below = refl
disc_there (suc (suc (suc (suc (suc (suc (zero))))))) above below = refl
disc_there (suc (suc (suc (suc (suc (suc (suc (zero)))))))) above below = refl
disc_there (suc (suc (suc (suc (suc (suc (suc (suc (zero))))))))) above below = refl
disc_there (suc (suc (suc (suc (suc (suc (suc (suc (suc (zero)))))))))) above below = refl
disc_there (suc (suc (suc (suc (suc (suc (suc (suc (suc (suc (zero))))))))))) above below = refl
disc_there (suc (suc (suc (suc (suc (suc (suc (suc (suc (suc (suc (zero)))))))))))) above below = refl
disc_there (suc (suc (suc (suc (suc (suc (suc (suc (suc (suc (suc (suc (zero))))))))))))) above below = refl
disc_there (suc (suc (suc (suc (suc (suc (suc (suc (suc (suc (suc (suc (suc (n)))))))))))))) above below = absurd (omega (arith, below))

no_disc : (n : ℕ) → n ≤ 4 → is_disc_part (Some (part_of_device n)) ≡ false
no_disc zero few = refl
no_disc (suc (zero)) few = refl
no_disc (suc (suc (zero))) few = refl
no_disc (suc (suc (suc (zero)))) few = refl
no_disc (suc (suc (suc (suc (zero))))) few = refl
no_disc (suc (suc (suc (suc (suc (n)))))) few = absurd (omega (arith, few))

no_disc_behind : (n : ℕ) → 13 ≤ n → n < 21 → is_disc_part (Some (part_of_device n)) ≡ false
no_disc_behind zero above few = absurd (omega (arith, above))
no_disc_behind (suc (zero)) above few = absurd (omega (arith, above))
no_disc_behind (suc (suc (zero))) above few = absurd (omega (arith, above))
no_disc_behind (suc (suc (suc (zero)))) above few = absurd (omega (arith, above))
no_disc_behind (suc (suc (suc (suc (zero))))) above few = absurd (omega (arith, above))
no_disc_behind (suc (suc (suc (suc (suc (zero)))))) above few = absurd (omega (arith, above))
no_disc_behind (suc (suc (suc (suc (suc (suc (zero))))))) above few = absurd (omega (arith, above))
no_disc_behind (suc (suc (suc (suc (suc (suc (suc (zero)))))))) above few = absurd (omega (arith, above))
no_disc_behind (suc (suc (suc (suc (suc (suc (suc (suc (zero))))))))) above few = absurd (omega (arith, above))
no_disc_behind (suc (suc (suc (suc (suc (suc (suc (suc (suc (zero)))))))))) above few = absurd (omega (arith, above))
no_disc_behind (suc (suc (suc (suc (suc (suc (suc (suc (suc (suc (zero))))))))))) above few = absurd (omega (arith, above))
no_disc_behind (suc (suc (suc (suc (suc (suc (suc (suc (suc (suc (suc (zero)))))))))))) above few = absurd (omega (arith, above))
no_disc_behind (suc (suc (suc (suc (suc (suc (suc (suc (suc (suc (suc (suc (zero))))))))))))) above few = absurd (omega (arith, above))
no_disc_behind (suc (suc (suc (suc (suc (suc (suc (suc (suc (suc (suc (suc (suc (zero)))))))))))))) above few = refl
no_disc_behind (suc (suc (suc (suc (suc (suc (suc (suc (suc (suc (suc (suc (suc (suc (zero))))))))))))))) above few = refl
no_disc_behind (suc (suc (suc (suc (suc (suc (suc (suc (suc (suc (suc (suc (suc (suc (suc (zero)))))))))))))))) above few = refl
no_disc_behind (suc (suc (suc (suc (suc (suc (suc (suc (suc (suc (suc (suc (suc (suc (suc (suc (zero))))))))))))))))) above few = refl
no_disc_behind (suc (suc (suc (suc (suc (suc (suc (suc (suc (suc (suc (suc (suc (suc (suc (suc (suc (zero)))))))))))))))))) above few = refl
no_disc_behind (suc (suc (suc (suc (suc (suc (suc (suc (suc (suc (suc (suc (suc (suc (suc (suc (suc (suc (zero))))))))))))))))))) above few = refl
no_disc_behind (suc (suc (suc (suc (suc (suc (suc (suc (suc (suc (suc (suc (suc (suc (suc (suc (suc (suc (suc (zero)))))))))))))))))))) above few = refl
no_disc_behind (suc (suc (suc (suc (suc (suc (suc (suc (suc (suc (suc (suc (suc (suc (suc (suc (suc (suc (suc (suc (zero))))))))))))))))))))) above few = refl
no_disc_behind (suc (suc (suc (suc (suc (suc (suc (suc (suc (suc (suc (suc (suc (suc (suc (suc (suc (suc (suc (suc (suc (n)))))))))))))))))))))) above few = absurd (omega (arith, few))

if_no : (b : Bool) (n : ℕ) → b ≡ false → (if b then n else 0) ≡ 0
if_no true n e = absurd (cc (e))
if_no false n e = refl

if_so : (b : Bool) (n : ℕ) → b ≡ true → (if b then n else 0) ≡ n
if_so true n e = refl
if_so false n e = absurd (cc (e))

-- a trail's seat counts none
pub trail_counts : (v : Sight Event) (n : ℕ) → v.part ≡ Some (part_of_device n) → n ≤ 4 → seat_tokens v ≡ 0
trail_counts v n part few = if_no (is_disc_part v.part) (token_count (own_events v)) (ap is_disc_part part ∙ no_disc n few)

-- nor does that of a dump device
pub dump_counts : (v : Sight Event) (n : ℕ) → v.part ≡ Some (part_of_device n) → 13 ≤ n → n < 21 → seat_tokens v ≡ 0
dump_counts v n part above few = if_no (is_disc_part v.part) (token_count (own_events v)) (ap is_disc_part part ∙ no_disc_behind n above few)

-- a disc's counts each act and each move
pub disc_counts : (v : Sight Event) (n : ℕ) → v.part ≡ Some (part_of_device n) → 5 ≤ n → n ≤ 12 → seat_tokens v ≡ token_count (own_events v)
disc_counts v n part above below = if_so (is_disc_part v.part) (token_count (own_events v)) (ap is_disc_part part ∙ disc_there n above below)

-- the numbers of devices, when the next one of a row is put behind them
pub numbers_moved : {A : Type 0} (f : A → ℕ) (posts next : List PostView) (post : PostView) (rest left : List A) (x : A) → next ≡ posts ++ post ∷ [] → rest ≡ x ∷ left → post.number ≡ f x
    → map (λ p. p.number) next ++ map f left ≡ map (λ p. p.number) posts ++ map f rest
numbers_moved f posts next post rest left x is front number =
    ap (λ l. map (λ p. p.number) l ++ map f left) is
    ∙ ap (λ l. l ++ map f left) (map_pushed (λ (p : PostView). p.number) posts post)
    ∙ moved (map (λ p. p.number) posts) (map f left) post.number
    ∙ ap (λ n. map (λ p. p.number) posts ++ n ∷ map f left) number
    ∙ ap (λ l. map (λ p. p.number) posts ++ map f l) (sym front)
