-- Lists: what passes a test, fronts, and where an element stands.
use Rattle.std.specs.Prelude.{cond}
use Rattle.std.specs.List.{filter}
use Rattle.std.proofs.Common.{◌≡◌, Bool, true, false, List, [], ◌∷◌, ◌++◌, inl, inr, ⊎_elim, ap, sym, ◌∙◌, subst}
use mathlib.Core.List.{IsPrefix}
use Rattle.node_machine.specs.Same.{Among}
use Rattle.node_machine.specs.SameLaws.{among_left}

module _ {A : Type 0} where
  -- what stands in a front of a list stands in it
  pub among_on : (a b : List A) (x : A) → IsPrefix a b → Among a x → Among b x
  among_on a b x pre h = subst (λ (l : List A). Among l x) pre.1 (among_left a pre.0 x h)

  -- an element that passes stands among those that pass
  pub among_filter : (f : A → Bool) (xs : List A) (x : A) → Among xs x → f x ≡ true → Among (filter f xs) x
  among_filter f [] x among is = among
  among_filter f (y ∷ xs) x among is = ⊎_elim
      (λ (same : y ≡ x). subst (λ (b : Bool). Among (cond b (y ∷ filter f xs) (filter f xs)) x) (sym (ap f same ∙ is)) (inl same))
      (λ (later : Among xs x). by_case (f y) (among_filter f xs x later is))
      among
    where
      by_case : (b : Bool) → Among (filter f xs) x → Among (cond b (y ∷ filter f xs) (filter f xs)) x
      by_case true has = inr has
      by_case false has = has

pub among_split : {A : Type 0} (xs : List A) (x : A) → Among xs x → (front : List A) × (rest : List A) × (xs ≡ front ++ x ∷ rest)
among_split [] x among = absurd among
among_split (y ∷ xs) x among = ⊎_elim (λ (e : y ≡ x). ([], xs, ap (λ z. z ∷ xs) e)) (λ later. let s = among_split xs x later in (y ∷ s.0, s.1, ap (λ (l : List _). y ∷ l) s.2)) among
