-- Bytes that differ nowhere from the wanted ones, and the least of two offsets.
use Rattle.std.proofs.Common.{◌≡◌, ℕ, ◌+◌, ◌<◌, ◌≤◌, Bool, true, false, List, [], ◌∷◌, length, Option, Some, None, refl, ap, arith, eqb-true}
use Rattle.std.specs.Prelude.{◌==◌, nat_lt, if◌then◌else◌}
use Rattle.keyed_file.specs.Fields.{first_difference, least_of}

-- neither of two offsets is there exactly where the least of them is not
pub least-none : (a b : Option ℕ) → least_of a b ≡ None → (a ≡ None) × (b ≡ None)
least-none None b e = (refl, e)
least-none (Some a) None e = absurd cc
least-none (Some a) (Some b) e = absurd (of_either (nat_lt b a) e)
  where
    of_either : (t : Bool) → (if t then Some b else Some a) ≡ None → ⊥
    of_either true is = cc
    of_either false is = cc

pub least-nones : (a b : Option ℕ) → a ≡ None → b ≡ None → least_of a b ≡ None
least-nones a b first second = (λ i. least_of (first i) (second i))

-- bytes of one length that differ nowhere are the same
pub no_difference : (at : ℕ) (bytes wanted : List ℕ) → length bytes ≡ length wanted → first_difference at bytes wanted ≡ None → bytes ≡ wanted
no_difference at [] [] long none = refl
no_difference at [] (w ∷ ws) long none = absurd (omega (arith, long))
no_difference at (b ∷ bs) [] long none = absurd (omega (arith, long))
no_difference at (b ∷ bs) (w ∷ ws) long none = (elim (b == w) as (λ t. b == w ≡ t → (if t then first_difference (at + 1) bs ws else Some at) ≡ None → b ∷ bs ≡ w ∷ ws) [
  | true ↦ λ same rest. let first = eqb-true b w same in let behind = no_difference (at + 1) bs ws (omega (arith, long)) rest in λ i. first i ∷ behind i
  | false ↦ λ _ some. absurd (cc some)
]) refl none

pub difference-same : (at : ℕ) (bytes : List ℕ) → first_difference at bytes bytes ≡ None
difference-same at [] = refl
difference-same at (b ∷ bs) = rw (same b) (difference-same (at + 1) bs)
  where
    same : (n : ℕ) → (n == n) ≡ true
    same n = grind (arith)

-- the lower of two offsets is the least
pub least-second : (a b : ℕ) → b < a → least_of (Some a) (Some b) ≡ Some b
least-second a b below = (elim (nat_lt b a) as (λ t. nat_lt b a ≡ t → (if t then Some b else Some a) ≡ Some b) [
  | true ↦ λ _. refl
  | false ↦ λ not. absurd (grind (arith, not, below))
]) refl

pub least-first : (a b : ℕ) → a ≤ b → least_of (Some a) (Some b) ≡ Some a
least-first a b below = (elim (nat_lt b a) as (λ t. nat_lt b a ≡ t → (if t then Some b else Some a) ≡ Some a) [
  | true ↦ λ is. absurd (grind (arith, is, below))
  | false ↦ λ _. refl
]) refl

pub least-same : (a b c d : Option ℕ) → a ≡ c → b ≡ d → least_of a b ≡ least_of c d
least-same a b c d first second = (λ i. least_of (first i) (second i))
