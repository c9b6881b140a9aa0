-- The entries of a part in a list, and what stands in a front of one.
use Rattle.std.specs.Prelude.{◌==◌, cond}
use Rattle.std.specs.List.{filter}
use Rattle.std.proofs.Common.{◌≡◌, inl, inr, ⊎_elim, ℕ, Bool, true, false, List, [], ◌∷◌, ◌++◌, refl, ap, sym, ◌∙◌, subst, eqb-true}
use Rattle.std.proofs.lemmas.Bool.{eq-eqb}
use mathlib.Core.List.{IsPrefix}
use Rattle.chronicle.specs.Histories.{events_of}
use Rattle.node_machine.specs.Deeds.{Log}
use Rattle.node_machine.specs.Same.{Among}
use Rattle.node_machine.specs.SameLaws.{among_left, among_right}
use Rattle.node_machine.specs.declared.event.Event.{Event}

module _ {A : Type 0} where
  -- what stands in a front of a list stands in it
  pub among_on : (a b : List A) (x : A) → IsPrefix a b → Among a x → Among b x
  among_on a b x pre h = subst (λ (l : List A). Among l x) pre.1 (among_left a pre.0 x h)

  -- an element that passes stands among those that pass
  pub among_filter : (f : A → Bool) (xs : List A) (x : A) → Among xs x → f x ≡ true → Among (filter f xs) x
  among_filter f [] x among is = among
  among_filter f (y ∷ xs) x among is = ⊎_elim
      (λ (same : y ≡ x). subst (λ (b : Bool). Among (cond b (y ∷ filter f xs) (filter f xs)) x) (sym (ap f same ∙ is)) (inl same))
      (λ (later : Among xs x). by_case (f y) (among_filter f xs x later is))
      among
    where
      by_case : (b : Bool) → Among (filter f xs) x → Among (cond b (y ∷ filter f xs) (filter f xs)) x
      by_case true has = inr has
      by_case false has = has

pub in_middle : (log front rest : Log) (x : ℕ × Event) → log ≡ front ++ x ∷ rest → Among log x
in_middle log front rest x e = subst (λ (l : Log). Among l x) (sym e) (among_right front (x ∷ rest) x (inl refl))

pub event_among : (part : ℕ) (log : Log) (e : Event) → Among log (part, e) → Among (events_of part log) e
event_among part [] e among = among
event_among part (x ∷ log) e among = ⊎_elim
    (λ (same : x ≡ (part, e)).
    let here : (x.0 == part) ≡ true = eq-eqb x.0 part (ap (λ (y : ℕ × Event). y.0) same) in
    subst (λ (b : Bool). Among (cond b (x.1 ∷ events_of part log) (events_of part log)) e) (sym here) (inl (ap (λ (y : ℕ × Event). y.1) same)))
    (λ (later : Among log (part, e)). by_case (x.0 == part) (event_among part log e later))
    among
  where
    by_case : (b : Bool) → Among (events_of part log) e → Among (cond b (x.1 ∷ events_of part log) (events_of part log)) e
    by_case true has = inr has
    by_case false has = has

one_entry : (part : ℕ) (x : ℕ × Event) (log : Log) (e : Event) → (Among (events_of part log) e → Among log (part, e)) → (b : Bool) → (x.0 == part) ≡ b
    → Among (cond b (x.1 ∷ events_of part log) (events_of part log)) e → Among (x ∷ log) (part, e)
one_entry part x log e rest true at has =
    ⊎_elim (λ (same : x.1 ≡ e). let here : x.0 ≡ part = eqb-true x.0 part at in inl (λ i. (here i, same i))) (λ (later : Among (events_of part log) e). inr (rest later)) has
one_entry part x log e rest false at has = inr (rest has)

pub among_event : (part : ℕ) (log : Log) (e : Event) → Among (events_of part log) e → Among log (part, e)
among_event part [] e has = has
among_event part (x ∷ log) e has = one_entry part x log e (among_event part log e) (x.0 == part) refl has
