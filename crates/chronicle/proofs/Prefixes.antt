-- Beginnings of lists.
use Rattle.std.proofs.Common.{◌≡◌, ◌⊎◌, ◌≤◌, ◌<◌, ltb, cond, List, [], ◌∷◌, ◌++◌, length, Bool, true, false, refl, ap, sym, ◌∙◌, subst, ⊎_elim, inl, inr, arith, append_assoc}
use Rattle.std.proofs.lemmas.Bool.{cases_lt, lt-ltb, le-ltb}
use mathlib.Core.List.{IsPrefix}
use Rattle.chronicle.specs.Views.{longer}
use Rattle.chronicle.specs.Seats.{IsUnion}

-- each list begins with itself
pub prefix_self : {A : Type 0} (xs : List A) → IsPrefix xs xs
prefix_self [] = ([], refl)
prefix_self (x ∷ xs) = (let r = prefix_self xs in r.0, ap (λ ys. x ∷ ys) (prefix_self xs).1)

pub prefix_trans : {A : Type 0} (xs ys zs : List A) → IsPrefix xs ys → IsPrefix ys zs → IsPrefix xs zs
prefix_trans xs ys zs p q = (p.0 ++ q.0, sym (append_assoc xs p.0 q.0) ∙ (ap (λ w. w ++ q.0) p.1 ∙ q.1))

-- of two beginnings of one list the shorter begins the longer
pub prefix_shorter : {A : Type 0} (xs ys zs : List A) → IsPrefix xs zs → IsPrefix ys zs → length xs ≤ length ys → IsPrefix xs ys
prefix_shorter [] ys zs p q le = (ys, refl)
prefix_shorter (x ∷ xs) [] zs p q le = absurd (omega arith)
prefix_shorter (x ∷ xs) (y ∷ ys) [] p q le = absurd (cc (p.1))
prefix_shorter (x ∷ xs) (y ∷ ys) (z ∷ zs) p q le =
    let heads : x ≡ y = cc (p.1, q.1) in
    let rest = prefix_shorter xs ys zs (p.0, cc (p.1)) (q.0, cc (q.1)) (omega arith) in
    (rest.0, cc (heads, rest.1))

abbrev Longer : {A : Type 0} → Bool → List A → List A → List A → Type 0
Longer t xs ys log = IsPrefix xs (cond t ys xs) × IsPrefix ys (cond t ys xs) × IsPrefix (cond t ys xs) log

pub longer_cases : {A : Type 0} (xs ys log : List A) → IsPrefix xs log → IsPrefix ys log → IsPrefix xs (longer xs ys) × IsPrefix ys (longer xs ys) × IsPrefix (longer xs ys) log
longer_cases xs ys log a b =
    ⊎_elim
    (λ (lt : length xs < length ys). subst (λ (t : Bool). Longer t xs ys log) (sym (lt-ltb (length xs) (length ys) lt)) (prefix_shorter xs ys log a b (omega arith), prefix_self ys, b))
    (λ (le : length ys ≤ length xs). subst (λ (t : Bool). Longer t xs ys log) (sym (le-ltb (length xs) (length ys) le)) (prefix_self xs, prefix_shorter ys xs log b a le, a))
    (cases_lt (length xs) (length ys))

-- the longer of two lists is one of them
pub longer_is_one : {A : Type 0} (xs ys : List A) → (longer xs ys ≡ xs) ⊎ (longer xs ys ≡ ys)
longer_is_one xs ys = cases (ltb (length xs) (length ys))
  where
    cases : (t : Bool) → (cond t ys xs ≡ xs) ⊎ (cond t ys xs ≡ ys)
    cases true = inr refl
    cases false = inl refl

-- two lists that begin each other are the same
pub prefix_both : {A : Type 0} (xs ys : List A) → IsPrefix xs ys → IsPrefix ys xs → xs ≡ ys
prefix_both [] [] p q = refl
prefix_both [] (y ∷ ys) p q = absurd (cc (q.1))
prefix_both (x ∷ xs) [] p q = absurd (cc (p.1))
prefix_both (x ∷ xs) (y ∷ ys) p q =
    let heads : x ≡ y = cc in
    let rest : xs ≡ ys = prefix_both xs ys (p.0, cc (p.1)) (q.0, cc (q.1)) in cc (heads, rest)

-- a list put together with what it has already given is no longer than that
pub union_twice : {A : Type 0} (xs ys mid last : List A) → IsUnion ys xs mid → IsUnion xs mid last → last ≡ mid
union_twice xs ys mid last u v = ⊎_elim (λ (e : last ≡ xs). e ∙ prefix_both xs mid u.second (subst (λ l. IsPrefix mid l) e v.second)) (λ (e : last ≡ mid). e) v.no_more

-- what was put behind a list leaves its beginning
pub prefix_appended : {A : Type 0} (xs between more ys : List A) → ys ≡ (xs ++ between) ++ more → IsPrefix xs ys
prefix_appended xs between more ys is = (between ++ more, sym (append_assoc xs between more) ∙ sym is)
