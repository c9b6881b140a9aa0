-- Counts of failed calls that rose.
use Rattle.std.specs.Prelude.{ℕ, zero, suc, ◌+◌, ◌-◌, ◌<◌, ◌≤◌, ◌^◌, min}
use Rattle.std.proofs.Common.{arith, ⊎_elim}
use Rattle.std.proofs.lemmas.Bool.Decides.{leb_tells}
use Rattle.run_outcomes.specs.Run.{RoseBy}

min-le-left : (m n : ℕ) → min m n ≤ m
min-le-left zero zero = omega arith
min-le-left zero (suc n) = omega arith
min-le-left (suc m) zero = omega arith
min-le-left (suc m) (suc n) = (let less = min-le-left m n in omega (arith, less))

min-le-right : (m n : ℕ) → min m n ≤ n
min-le-right zero zero = omega arith
min-le-right zero (suc n) = omega arith
min-le-right (suc m) zero = omega arith
min-le-right (suc m) (suc n) = (let less = min-le-right m n in omega (arith, less))

-- a count that rose by so many, where it does not stand at its end
pub rose_by : (times before now : ℕ) → (now < 2 ^ 64 - 1 → before + times ≤ now) → RoseBy times before now
rose_by times before now rise = ⊎_elim
    (λ most. let less = min-le-right (before + times) (2 ^ 64 - 1) in omega (arith, most.1, less))
    (λ under. let less = min-le-left (before + times) (2 ^ 64 - 1) in omega (arith, rise under.1, less))
    (leb_tells (2 ^ 64 - 1) now)
