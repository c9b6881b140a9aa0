-- The seats of all five parts.
use Rattle.std.proofs.Common.{◌≡◌, zero, suc, [], ◌∷◌, Some, refl, arith}
use Rattle.chronicle.specs.Seats.{Sight, AreAll}

pub five_are_all : {E : Type 0} (a b c d e : Sight E) → a.part ≡ Some 0 → b.part ≡ Some 1 → c.part ≡ Some 2 → d.part ≡ Some 3 → e.part ≡ Some 4 → AreAll 5 (a ∷ b ∷ c ∷ d ∷ e ∷ [])
five_are_all a b c d e first second third fourth fifth zero lt = (a, (0, omega arith, refl), first)
five_are_all a b c d e first second third fourth fifth (suc zero) lt = (b, (1, omega arith, refl), second)
five_are_all a b c d e first second third fourth fifth (suc (suc zero)) lt = (c, (2, omega arith, refl), third)
five_are_all a b c d e first second third fourth fifth (suc (suc (suc zero))) lt = (d, (3, omega arith, refl), fourth)
five_are_all a b c d e first second third fourth fifth (suc (suc (suc (suc zero)))) lt = (e, (4, omega arith, refl), fifth)
five_are_all a b c d e first second third fourth fifth (suc (suc (suc (suc (suc p))))) lt = absurd (omega arith)
