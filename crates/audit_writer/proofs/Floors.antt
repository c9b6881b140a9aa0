-- Which floors of discs a writer's seat knows.
use Rattle.std.specs.Prelude.{ℕ, ◌<◌, max, List, [], ◌∷◌, slice_index}
use Rattle.std.proofs.Common.{◌≡◌, ◌⊎◌, zero, suc, inl, inr, ⊎_elim, subst, set, arith}
use Rattle.std.proofs.lemmas.Bool.{cases_lt}
use Rattle.node_machine.specs.Parts.{Fact}
use Rattle.node_machine.specs.Parts.Fact.{Floor}
use Rattle.audit_writer.specs.Writer.{AreFloors}

pub floors_more : (bounds : List ℕ) (known after : Fact → Type 0) → ((f : Fact) → known f → after f) → AreFloors known bounds → AreFloors after bounds
floors_more bounds known after more are d = ⊎_elim (λ (none : slice_index bounds d ≡ 0). inl none) (λ (told : known (Floor d (slice_index bounds d))). inr (more (Floor d (slice_index bounds d)) told)) (are d)

each_set : (P : ℕ → ℕ → Type 0) (xs : List ℕ) (k x : ℕ) → ((d : ℕ) → P d (slice_index xs d)) → P k x → (d : ℕ) → P d (slice_index (set xs k x) d)
each_set P [] k x each new d = each d
each_set P (y ∷ ys) zero x each new zero = new
each_set P (y ∷ ys) zero x each new (suc d) = each (suc d)
each_set P (y ∷ ys) (suc k) x each new zero = each zero
each_set P (y ∷ ys) (suc k) x each new (suc d) = each_set (λ e n. P (suc e) n) ys k x (λ e. each (suc e)) new d

greater : (known : Fact → Type 0) (d old bound : ℕ) → (old ≡ 0) ⊎ known (Floor d old) → known (Floor d bound) → (max old bound ≡ 0) ⊎ known (Floor d (max old bound))
greater known d old bound was told = ⊎_elim
    (λ (lt : old < bound). (let is : bound ≡ max old bound = omega (arith, lt) in inr (subst (λ (n : ℕ). known (Floor d n)) is told)))
    (λ le. (let is : old ≡ max old bound = omega (arith, le) in subst (λ (n : ℕ). (n ≡ 0) ⊎ known (Floor d n)) is was))
    (cases_lt old bound)

-- a disc has told a bound
pub floors_raised : (bounds : List ℕ) (known : Fact → Type 0) (d bound : ℕ) → AreFloors known bounds → known (Floor d bound) → AreFloors known (set bounds d (max (slice_index bounds d) bound))
floors_raised bounds known d bound are told = each_set (λ e n. (n ≡ 0) ⊎ known (Floor e n)) bounds d (max (slice_index bounds d) bound) are (greater known d (slice_index bounds d) bound (are d) told)
