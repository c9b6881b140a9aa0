-- The events of one part in a list of entries.
use Rattle.std.proofs.Common.{◌≡◌, ◌≢◌, ℕ, eq-eqb, ne_eqb, cond, List, [], ◌∷◌, ◌++◌, length, refl, ap, sym, ◌∙◌, ⊎_elim, arith, append_assoc, length-append}
use Rattle.std.proofs.lemmas.Bool.{cases_eq}
use Rattle.std.proofs.lemmas.List.{append-nil, append_cancel_left}
use mathlib.Core.List.{IsPrefix}
use Rattle.chronicle.specs.Histories.{events_of}

-- an event of the part itself
pub events_of_here : {E : Type 0} (p : ℕ) (x : ℕ × E) (xs : List (ℕ × E)) → x.0 ≡ p → events_of p (x ∷ xs) ≡ x.1 ∷ events_of p xs
events_of_here p x xs e = ap (λ b. cond b (x.1 ∷ events_of p xs) (events_of p xs)) (eq-eqb x.0 p e)

-- an event of another part
pub events_of_else : {E : Type 0} (p : ℕ) (x : ℕ × E) (xs : List (ℕ × E)) → x.0 ≢ p → events_of p (x ∷ xs) ≡ events_of p xs
events_of_else p x xs n = ap (λ b. cond b (x.1 ∷ events_of p xs) (events_of p xs)) (ne_eqb x.0 p n)

pub events_of-append : {E : Type 0} (p : ℕ) (xs ys : List (ℕ × E)) → events_of p (xs ++ ys) ≡ events_of p xs ++ events_of p ys
events_of-append p [] ys = refl
events_of-append p (x ∷ xs) ys =
    ⊎_elim
    (λ (e : x.0 ≡ p). events_of_here p x (xs ++ ys) e ∙ ap (λ zs. x.1 ∷ zs) (events_of-append p xs ys) ∙ ap (λ zs. zs ++ events_of p ys) (sym (events_of_here p x xs e)))
    (λ (n : x.0 ≢ p). events_of_else p x (xs ++ ys) n ∙ events_of-append p xs ys ∙ ap (λ zs. zs ++ events_of p ys) (sym (events_of_else p x xs n)))
    (cases_eq x.0 p)

-- an event of another part changes nothing of one's own
pub events_of-push_other : {E : Type 0} (q p : ℕ) (e : E) (log : List (ℕ × E)) → p ≢ q → events_of q (log ++ (p, e) ∷ []) ≡ events_of q log
events_of-push_other q p e log n = events_of-append q log ((p, e) ∷ []) ∙ ap (λ l. events_of q log ++ l) (events_of_else q (p, e) [] n) ∙ append-nil (events_of q log)

pub none_between : {E : Type 0} (p : ℕ) (xs ys : List (ℕ × E)) → events_of p (xs ++ ys) ≡ events_of p xs → events_of p ys ≡ []
none_between p xs ys e = append_cancel_left (events_of p xs) (events_of p ys) [] (sym (events_of-append p xs ys) ∙ e ∙ sym (append-nil (events_of p xs)))

-- what has seen all of a part's events goes on having seen them
pub sandwich : {E : Type 0} (p : ℕ) (xs ys log : List (ℕ × E)) → IsPrefix xs ys → IsPrefix ys log → events_of p log ≡ events_of p xs → events_of p log ≡ events_of p ys
sandwich {E = E} p xs ys log a b e =
    let more : xs ++ (a.0 ++ b.0) ≡ log = sym (append_assoc xs a.0 b.0) ∙ ap (λ (l : List (ℕ × E)). l ++ b.0) a.1 ∙ b.1 in
    let none : events_of p (a.0 ++ b.0) ≡ [] = none_between p xs (a.0 ++ b.0) (ap (events_of p) more ∙ e) in
    let split : events_of p a.0 ++ events_of p b.0 ≡ [] = sym (events_of-append p a.0 b.0) ∙ none in
    let size : length (events_of p b.0) ≡ 0 = omega (arith, sym (length-append (events_of p a.0) (events_of p b.0)) ∙ ap length split) in
    let empty : events_of p b.0 ≡ [] = length_none (events_of p b.0) size in
    ap (events_of p) (sym b.1) ∙ events_of-append p ys b.0 ∙ ap (λ (l : List E). events_of p ys ++ l) empty ∙ append-nil (events_of p ys)
  where
    length_none : (l : List E) → length l ≡ 0 → l ≡ []
    length_none [] z = refl
    length_none (y ∷ l) z = absurd (omega arith)

-- after entries of other parts alone, and then one of its own, the part has that one more
pub events_of-push : {E : Type 0} (p : ℕ) (seen between : List (ℕ × E)) (e : E) → events_of p between ≡ [] → events_of p ((seen ++ between) ++ (p, e) ∷ []) ≡ events_of p seen ++ e ∷ []
events_of-push p seen between e no_more =
    events_of-append p (seen ++ between) ((p, e) ∷ []) ∙ ap (λ l. l ++ events_of p ((p, e) ∷ [])) (events_of-append p seen between ∙ ap (λ l. events_of p seen ++ l) no_more ∙ append-nil (events_of p seen)) ∙ ap (λ l. events_of p seen ++ l) (events_of_here p (p, e) [] refl)
