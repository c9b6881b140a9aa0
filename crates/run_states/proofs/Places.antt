-- The numbers of what stands behind locks.
use Rattle.std.specs.Prelude.{◌≡◌, ℕ, zero, suc, ◌+◌, List, [], ◌∷◌, ◌++◌, length, map, Some, slice_get}
use Rattle.std.proofs.Common.{refl, sym, ap, ◌∙◌, arith}
use Rattle.node_machine.specs.Opening.{each_from}
use Rattle.run_outcomes.specs.Devices.{dump_device, volume_device}
use Rattle.run_states.specs.Post.{PostView}
use Rattle.run_states.specs.Rows.{all_places}

map_map : {A : Type 0} (f : ℕ → ℕ) (h : A → ℕ) (xs : List A) → map (λ x. f (h x)) xs ≡ map f (map h xs)
map_map f h [] = refl
map_map f h (x ∷ xs) = ap (λ l. f (h x) ∷ l) (map_map f h xs)

pub length-map : {A : Type 0} (f : A → ℕ) (xs : List A) → length (map f xs) ≡ length xs
length-map f [] = refl
length-map f (x ∷ xs) = ap suc (length-map f xs)

length-each : (first n : ℕ) → length (each_from (λ k. k) first n) ≡ n
length-each first zero = refl
length-each first (suc n) = ap suc (length-each (first + 1) n)

-- devices are put behind others, kind by kind: so their numbers are all places
pub gathered_places : {A B C : Type 0} (trail : A → ℕ) (disc : B → ℕ) (dumper : C → ℕ) (trails : List A) (discs : List B) (dumpers : List C) (alone first second third : List PostView)
    → map (λ p. p.number) first ≡ map (λ p. p.number) alone ++ map trail trails
    → map (λ p. p.number) second ≡ map (λ p. p.number) first ++ map (λ d. volume_device (disc d)) discs
    → map (λ p. p.number) third ≡ map (λ p. p.number) second ++ map (λ d. dump_device (dumper d)) dumpers
    → map (λ p. p.number) third ≡ all_places (record { trails = map trail trails; discs = map disc discs; dumpers = map dumper dumpers; alone = map (λ p. p.number) alone })
gathered_places trail disc dumper trails discs dumpers alone first second third one two three =
    three
    ∙ ap (λ l. l ++ map (λ d. dump_device (dumper d)) dumpers) (two ∙ ap (λ l. l ++ map (λ d. volume_device (disc d)) discs) one)
    ∙ ap (λ l. ((map (λ p. p.number) alone ++ map trail trails) ++ l) ++ map (λ d. dump_device (dumper d)) dumpers) (map_map (λ volume. volume_device volume) disc discs)
    ∙ ap (λ l. ((map (λ p. p.number) alone ++ map trail trails) ++ map (λ volume. volume_device volume) (map disc discs)) ++ l) (map_map (λ volume. dump_device volume) dumper dumpers)

-- where the numbers rise from the first on, each item has the number of its place
pub rising_at : {A : Type 0} (f : A → ℕ) (xs : List A) (first n : ℕ) → map f xs ≡ each_from (λ k. k) first n → (place : ℕ) (x : A) → slice_get xs place ≡ Some x → f x ≡ place + first
rising_at f [] first n e place x at = absurd (cc (at))
rising_at f (y ∷ ys) first zero e place x at = absurd (cc (e))
rising_at f (y ∷ ys) first (suc n) e zero x at =
    let head : f y ≡ first = cc (e) in
    let same : x ≡ y = cc (at) in
    let none : first ≡ 0 + first = omega arith in
    ap f same ∙ head ∙ none
rising_at f (y ∷ ys) first (suc n) e (suc place) x at =
    let rest : map f ys ≡ each_from (λ k. k) (first + 1) n = cc (e) in
    let behind = rising_at f ys (first + 1) n rest place x at in
    omega (arith, behind)

pub rising_many : {A : Type 0} (f : A → ℕ) (xs : List A) (first n : ℕ) → map f xs ≡ each_from (λ k. k) first n → length xs ≡ n
rising_many f xs first n e = sym (length-map f xs) ∙ ap length e ∙ length-each first n
