-- The seats of both parts.
use Rattle.std.proofs.Common.{◌≡◌, ℕ, zero, suc, List, [], ◌∷◌, ◌++◌, Some, arith}
use Rattle.std.proofs.lemmas.List.Elements.{Contains-append_left, Contains-push}
use Rattle.chronicle.specs.Seats.{Sight, AreAll}

pub both_are_all : {E : Type 0} (n : ℕ) (rest : List (Sight E)) (a b : Sight E) → n ≡ 2 → a.part ≡ Some 0 → b.part ≡ Some 1 → AreAll n ((rest ++ a ∷ []) ++ b ∷ [])
both_are_all n rest a b two first second zero lt =
    (a, Contains-append_left (rest ++ a ∷ []) (b ∷ []) a (Contains-push rest a), first)
both_are_all n rest a b two first second (suc zero) lt = (b, Contains-push (rest ++ a ∷ []) b, second)
both_are_all n rest a b two first second (suc (suc p)) lt = absurd (omega arith)
