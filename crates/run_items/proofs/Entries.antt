-- The entries of a part in a list.
use Rattle.std.specs.Prelude.{◌≢◌, ◌==◌, cond}
use Rattle.std.proofs.Common.{◌≡◌, ◌≤◌, ◌+◌, inl, inr, ⊎_elim, ℕ, Bool, true, false, List, [], ◌∷◌, ◌++◌, length, length-append, refl, ap, sym, ◌∙◌, subst, arith, eqb-true, ne_eqb}
use Rattle.std.proofs.lemmas.Bool.{cases_eq, eq-eqb}
use mathlib.Core.List.{IsPrefix}
use Rattle.chronicle.specs.Histories.{events_of}
use Rattle.chronicle.proofs.Facts.{events_of-prefix}
use Rattle.node_machine.specs.Deeds.{Log, count_of}
use Rattle.node_machine.specs.Same.{Among}
use Rattle.node_machine.specs.declared.event.Event.{Event}

entry_here : (p : ℕ) (x : ℕ × Event) (xs : Log) → x.0 ≡ p → events_of p (x ∷ xs) ≡ x.1 ∷ events_of p xs
entry_here p x xs e = ap (λ (b : Bool). cond b (x.1 ∷ events_of p xs) (events_of p xs)) (eq-eqb x.0 p e)

entry_else : (p : ℕ) (x : ℕ × Event) (xs : Log) → x.0 ≢ p → events_of p (x ∷ xs) ≡ events_of p xs
entry_else p x xs e = ap (λ (b : Bool). cond b (x.1 ∷ events_of p xs) (events_of p xs)) (ne_eqb x.0 p e)

pub entries_append : (p : ℕ) (xs ys : Log) → events_of p (xs ++ ys) ≡ events_of p xs ++ events_of p ys
entries_append p [] ys = refl
entries_append p (x ∷ xs) ys =
    ⊎_elim
    (λ (is : x.0 ≡ p). entry_here p x (xs ++ ys) is ∙ ap (λ (l : List Event). x.1 ∷ l) (entries_append p xs ys) ∙ ap (λ (l : List Event). l ++ events_of p ys) (sym (entry_here p x xs is)))
    (λ (n : x.0 ≢ p). entry_else p x (xs ++ ys) n ∙ entries_append p xs ys ∙ ap (λ (l : List Event). l ++ events_of p ys) (sym (entry_else p x xs n)))
    (cases_eq x.0 p)

-- an event of the part stands in the list, between these others of the part
pub record Stands (p : ℕ) (before : List Event) (e : Event) (behind : List Event) (xs : Log) : Type 0 where
  pub front : Log
  pub rest : Log
  pub stands : xs ≡ front ++ (p, e) ∷ rest
  pub before_is : events_of p front ≡ before
  pub behind_is : events_of p rest ≡ behind

stands_here : (p : ℕ) (e : Event) (x : ℕ × Event) (xs : Log) (behind : List Event) → ((ds : List Event) → events_of p xs ≡ ds ++ e ∷ behind → Stands p ds e behind xs) → x.0 ≡ p → (before : List Event)
    → x.1 ∷ events_of p xs ≡ before ++ e ∷ behind → Stands p before e behind (x ∷ xs)
stands_here p e x xs behind more is [] h =
    let same : x.1 ≡ e = cc (h) in
    let both : x ≡ (p, e) = λ j. (is j, same j) in
    record { front = []; rest = xs; stands = ap (λ (y : ℕ × Event). y ∷ xs) both; before_is = refl; behind_is = cc (h) }
stands_here p e x xs behind more is (d ∷ ds) h =
    let first : x.1 ≡ d = cc (h) in
    let r = more ds (cc (h)) in
    record {
      front = x ∷ r.front;
      rest = r.rest;
      stands = ap (λ (l : Log). x ∷ l) r.stands;
      before_is = entry_here p x r.front is ∙ ap (λ (l : List Event). x.1 ∷ l) r.before_is ∙ ap (λ (y : Event). y ∷ ds) first;
      behind_is = r.behind_is;
    }

none_there : (e : Event) (before behind : List Event) → [] ≡ before ++ e ∷ behind → ⊥
none_there e [] behind h = cc (h)
none_there e (d ∷ ds) behind h = cc (h)

-- what a part's events are, the list has in that order
pub stands_between : (p : ℕ) (before : List Event) (e : Event) (behind : List Event) (xs : Log) → events_of p xs ≡ before ++ e ∷ behind → Stands p before e behind xs
stands_between p before e behind [] h = absurd (none_there e before behind h)
stands_between p before e behind (x ∷ xs) h =
    ⊎_elim
    (λ (is : x.0 ≡ p). stands_here p e x xs behind (λ ds k. stands_between p ds e behind xs k) is before (sym (entry_here p x xs is) ∙ h))
    (λ (n : x.0 ≢ p).
    let r = stands_between p before e behind xs (sym (entry_else p x xs n) ∙ h) in
    record { front = x ∷ r.front; rest = r.rest; stands = ap (λ (l : Log). x ∷ l) r.stands; before_is = entry_else p x r.front n ∙ r.before_is; behind_is = r.behind_is })
    (cases_eq x.0 p)

-- a list that goes on has no fewer events of a part
pub count_more : (p : ℕ) (xs ys : Log) → IsPrefix xs ys → count_of p xs ≤ count_of p ys
count_more p xs ys pre =
    let on = events_of-prefix p xs ys pre in
    let size : length (events_of p xs ++ on.0) ≡ length (events_of p xs) + length on.0 = length-append (events_of p xs) on.0 in
    let same : length (events_of p xs ++ on.0) ≡ length (events_of p ys) = ap (λ (l : List Event). length l) on.1 in
    omega (arith, size, same)

pub event_among : (part : ℕ) (log : Log) (e : Event) → Among log (part, e) → Among (events_of part log) e
event_among part [] e among = among
event_among part (x ∷ log) e among = ⊎_elim
    (λ (same : x ≡ (part, e)).
    let here : (x.0 == part) ≡ true = eq-eqb x.0 part (ap (λ (y : ℕ × Event). y.0) same) in
    subst (λ (b : Bool). Among (cond b (x.1 ∷ events_of part log) (events_of part log)) e) (sym here) (inl (ap (λ (y : ℕ × Event). y.1) same)))
    (λ (later : Among log (part, e)). by_case (x.0 == part) (event_among part log e later))
    among
  where
    by_case : (b : Bool) → Among (events_of part log) e → Among (cond b (x.1 ∷ events_of part log) (events_of part log)) e
    by_case true has = inr has
    by_case false has = has

one_entry : (part : ℕ) (x : ℕ × Event) (log : Log) (e : Event) → (Among (events_of part log) e → Among log (part, e)) → (b : Bool) → (x.0 == part) ≡ b
    → Among (cond b (x.1 ∷ events_of part log) (events_of part log)) e → Among (x ∷ log) (part, e)
one_entry part x log e rest true at has =
    ⊎_elim (λ (same : x.1 ≡ e). let here : x.0 ≡ part = eqb-true x.0 part at in inl (λ i. (here i, same i))) (λ (later : Among (events_of part log) e). inr (rest later)) has
one_entry part x log e rest false at has = inr (rest has)

pub among_event : (part : ℕ) (log : Log) (e : Event) → Among (events_of part log) e → Among log (part, e)
among_event part [] e has = has
among_event part (x ∷ log) e has = one_entry part x log e (among_event part log e) (x.0 == part) refl has
