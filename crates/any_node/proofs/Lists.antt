-- Lists, what each of their elements is, and functions changed at one place.
use Rattle.std.proofs.Common.{◌≡◌, ◌≢◌, ◌⊎◌, ℕ, Bool, true, false, cond, List, [], ◌∷◌, ◌++◌, length, Option, Some, None, refl, ap, sym, ◌∙◌, subst, ⊎_elim, inl, inr, append_assoc, length-append, ◌+◌, ◌≤◌, arith}
use Rattle.std.proofs.lemmas.Bool.{cases_eq}
use mathlib.Core.List.{IsPrefix}
use Rattle.any_node.specs.Layout.{Equality, put}
use Rattle.any_node.specs.Value.{Among, Each}

pub is_false : (b : Bool) → (b ≡ true → ⊥) → b ≡ false
is_false true h = absurd (h refl)
is_false false h = refl

pub true_or_false : (b : Bool) → (b ≡ true) ⊎ (b ≡ false)
true_or_false true = inl refl
true_or_false false = inr refl

pub not_same : {T : Type 0} (E : Equality T) (a b : T) → a ≢ b → E.same a b ≡ false
not_same E a b n = is_false (E.same a b) (λ e. n (E.equal a b e))

pub same_or : {T : Type 0} (E : Equality T) (a b : T) → (a ≡ b) ⊎ (a ≢ b)
same_or E a b = ⊎_elim (λ (e : E.same a b ≡ true). inl (E.equal a b e)) (λ (e : E.same a b ≡ false). inr (λ i. (let both : true ≡ false = sym (E.reflexive a b i) ∙ e in cc (both)))) (true_or_false (E.same a b))

pub put_at : {T A : Type 0} (E : Equality T) (P : A → Type 0) (u : T) (a : A) (f : T → A) (t : T) → (t ≡ u → P a) → (t ≢ u → P (f t)) → P (put E u a f t)
put_at E P u a f t h k = ⊎_elim (λ (e : t ≡ u). subst (λ (b : Bool). P (cond b a (f t))) (sym (E.reflexive t u e)) (h e)) (λ (n : t ≢ u). subst (λ (b : Bool). P (cond b a (f t))) (sym (not_same E t u n)) (k n)) (same_or E t u)

pub put_here : {T A : Type 0} (E : Equality T) (t : T) (a : A) (f : T → A) → put E t a f t ≡ a
put_here E t a f = ap (λ b. cond b a (f t)) (E.reflexive t t refl)

pub put_else : {T A : Type 0} (E : Equality T) (t : T) (a : A) (f : T → A) (u : T) → u ≢ t → put E t a f u ≡ f u
put_else E t a f u n = ap (λ b. cond b a (f u)) (not_same E u t n)

pub some≢none : {A : Type 0} (x : A) → Some x ≡ None → ⊥
some≢none x e = cc (e)

pub some_is : {A : Type 0} (x y : A) → Some x ≡ Some y → x ≡ y
some_is x y e = cc (e)

pub none_or_some : {A : Type 0} (o : Option A) → (o ≡ None) ⊎ ((x : A) × (o ≡ Some x))
none_or_some None = inl refl
none_or_some (Some x) = inr (x, refl)

pub nothing_or : {A : Type 0} (xs : List A) → (xs ≡ []) ⊎ (xs ≢ [])
nothing_or [] = inl refl
nothing_or (x ∷ xs) = inr (λ e. cc (e))

pub front_more : {A : Type 0} (rs xs ys : List A) → IsPrefix rs xs → IsPrefix rs (xs ++ ys)
front_more rs xs ys p = (p.0 ++ ys, sym (append_assoc rs p.0 ys) ∙ ap (λ w. w ++ ys) p.1)

pub no_front : {A : Type 0} (xs ys : List A) → xs ++ ys ≡ [] → xs ≡ []
no_front [] ys e = refl
no_front (x ∷ xs) ys e = absurd (cc (e))

pub same_rest : {A : Type 0} (P xs ys : List A) → P ++ xs ≡ P ++ ys → xs ≡ ys
same_rest [] xs ys e = e
same_rest (p ∷ P) xs ys e = same_rest P xs ys (cc (e))

pub among_left : {A : Type 0} (xs ys : List A) (x : A) → Among xs x → Among (xs ++ ys) x
among_left [] ys x has = absurd has
among_left (y ∷ xs) ys x has = ⊎_elim (λ (e : y ≡ x). inl e) (λ h. inr (among_left xs ys x h)) has

pub among_right : {A : Type 0} (xs ys : List A) (x : A) → Among ys x → Among (xs ++ ys) x
among_right [] ys x has = has
among_right (y ∷ xs) ys x has = inr (among_right xs ys x has)

pub among_append : {A : Type 0} (xs ys : List A) (x : A) → Among (xs ++ ys) x → Among xs x ⊎ Among ys x
among_append [] ys x has = inr has
among_append (y ∷ xs) ys x has = ⊎_elim (λ (e : y ≡ x). inl (inl e)) (λ h. ⊎_elim (λ (a : Among xs x). inl (inr a)) (λ (b : Among ys x). inr b) (among_append xs ys x h)) has

pub among_last : {A : Type 0} (xs : List A) (y x : A) → Among (xs ++ y ∷ []) x → Among xs x ⊎ (y ≡ x)
among_last xs y x has = ⊎_elim (λ (a : Among xs x). inl a) (λ (b : (y ≡ x) ⊎ ⊥). ⊎_elim (λ (e : y ≡ x). inr e) (λ gone. absurd gone) b) (among_append xs (y ∷ []) x has)

pub each_append : {A : Type 0} (P : A → Type 0) (xs ys : List A) → Each P xs → Each P ys → Each P (xs ++ ys)
each_append P [] ys p q = q
each_append P (x ∷ xs) ys p q = (p.0, each_append P xs ys p.1 q)

pub each_left : {A : Type 0} (P : A → Type 0) (xs ys : List A) → Each P (xs ++ ys) → Each P xs
each_left P [] ys p = tt
each_left P (x ∷ xs) ys p = (p.0, each_left P xs ys p.1)

pub each_right : {A : Type 0} (P : A → Type 0) (xs ys : List A) → Each P (xs ++ ys) → Each P ys
each_right P [] ys p = p
each_right P (x ∷ xs) ys p = each_right P xs ys p.1

pub each_map : {A : Type 0} (P Q : A → Type 0) (xs : List A) → ((x : A) → P x → Q x) → Each P xs → Each Q xs
each_map P Q [] f p = tt
each_map P Q (x ∷ xs) f p = (f x p.0, each_map P Q xs f p.1)

pub each_from : {A : Type 0} (P : A → Type 0) (xs : List A) → ((x : A) → Among xs x → P x) → Each P xs
each_from P [] f = tt
each_from P (x ∷ xs) f = (f x (inl refl), each_from P xs (λ y has. f y (inr has)))

pub each_at : {A : Type 0} (P : A → Type 0) (xs : List A) (x : A) → Each P xs → Among xs x → P x
each_at P [] x p has = absurd has
each_at P (y ∷ ys) x p has = ⊎_elim (λ (e : y ≡ x). subst (λ z. P z) e p.0) (λ h. each_at P ys x p.1 h) has

pub each_both : {A : Type 0} (P Q : A → Type 0) (xs : List A) → Each P xs → Each Q xs → Each (λ x. P x × Q x) xs
each_both P Q [] p q = tt
each_both P Q (x ∷ xs) p q = ((p.0, q.0), each_both P Q xs p.1 q.1)

-- two cuts of one list: one front begins the other
pub two_cuts : {A : Type 0} (P R ys zs : List A) → P ++ R ≡ ys ++ zs → ((U : List A) × (ys ≡ P ++ U) × (R ≡ U ++ zs)) ⊎ ((r : A) × (U : List A) × (P ≡ ys ++ r ∷ U) × (zs ≡ (r ∷ U) ++ R))
two_cuts [] R ys zs e = inl (ys, refl, e)
two_cuts (p ∷ P) R [] zs e = inr (p, P, refl, sym e)
two_cuts {A} (p ∷ P) R (y ∷ ys) zs e =
    let heads : p ≡ y = cc (e) in
    ⊎_elim
    (λ (a : (U : List A) × (ys ≡ P ++ U) × (R ≡ U ++ zs)). inl (a.0, cc (heads, a.1), a.2))
    (λ (b : (r : A) × (U : List A) × (P ≡ ys ++ r ∷ U) × (zs ≡ (r ∷ U) ++ R)). inr (b.0, b.1, cc (heads, b.2), b.3))
    (two_cuts P R ys zs (cc (e)))

-- a list with one more at its end, cut in two
pub split_last : {A : Type 0} (xs : List A) (r : A) (P R : List A) → xs ++ r ∷ [] ≡ P ++ R → ((R ≡ []) × (P ≡ xs ++ r ∷ [])) ⊎ ((Q : List A) × (R ≡ Q ++ r ∷ []) × (xs ≡ P ++ Q))
split_last xs r [] R e = inr (xs, sym e, refl)
split_last [] r (p ∷ P) R e = inl (nothing_behind P R (cc (e)), (let heads : r ≡ p = cc (e) in let rest : [] ≡ P ++ R = cc (e) in cc (heads, nothing_before P R rest)))
  where
    nothing_behind : {A : Type 0} (P R : List A) → [] ≡ P ++ R → R ≡ []
    nothing_behind [] R e = sym e
    nothing_behind (p ∷ P) R e = absurd (cc (e))

    nothing_before : {A : Type 0} (P R : List A) → [] ≡ P ++ R → P ≡ []
    nothing_before [] R e = refl
    nothing_before (p ∷ P) R e = absurd (cc (e))
split_last {A} (x ∷ xs) r (p ∷ P) R e =
    let heads : x ≡ p = cc (e) in
    ⊎_elim
    (λ (a : (R ≡ []) × (P ≡ xs ++ r ∷ [])). inl (a.0, cc (heads, a.1)))
    (λ (b : (Q : List A) × (R ≡ Q ++ r ∷ []) × (xs ≡ P ++ Q)). inr (b.0, b.1, cc (heads, b.2)))
    (split_last xs r P R (cc (e)))

pub last_of : {A : Type 0} (r : A) (rs : List A) → (xs : List A) × (l : A) × (r ∷ rs ≡ xs ++ l ∷ []) × Among (r ∷ rs) l
last_of r [] = ([], r, refl, inl refl)
last_of r (x ∷ xs) = (let l = last_of x xs in (r ∷ l.0, l.1, ap (λ us. r ∷ us) l.2, inr l.3))

pub or_assoc : (a b c : Bool) → cond (cond a true b) true c ≡ cond a true (cond b true c)
or_assoc true b c = refl
or_assoc false b c = refl

pub or_false : (b : Bool) → cond b true false ≡ b
or_false true = refl
or_false false = refl

pub or_true : (b : Bool) → cond b true true ≡ true
or_true true = refl
or_true false = refl

pub or_left : (a b : Bool) → cond a true b ≡ false → a ≡ false
or_left true b e = e
or_left false b e = refl

pub or_right : (a b : Bool) → cond a true b ≡ false → b ≡ false
or_right true b e = absurd (cc (e))
or_right false b e = e

-- of two fronts of a list the shorter begins the other
pub prefix_shorter : {A : Type 0} (xs ys zs : List A) → IsPrefix xs zs → IsPrefix ys zs → length xs ≤ length ys → IsPrefix xs ys
prefix_shorter {A} xs ys zs p q le =
    ⊎_elim
    (λ (a : (U : List A) × (ys ≡ xs ++ U) × (p.0 ≡ U ++ q.0)). (a.0, sym a.1))
    (λ (b : (r : A) × (U : List A) × (xs ≡ ys ++ r ∷ U) × (q.0 ≡ (r ∷ U) ++ p.0)). (let e : length xs ≡ length ys + length (b.0 ∷ b.1) = ap length b.2 ∙ length-append ys (b.0 ∷ b.1) in absurd (omega (arith, e, le))))
    (two_cuts xs p.0 ys q.0 (p.1 ∙ sym q.1))

-- a number is in a list or not
pub among_or : (d : ℕ) (xs : List ℕ) → Among xs d ⊎ (Among xs d → ⊥)
among_or d [] = inr (λ has. has)
among_or d (x ∷ xs) = ⊎_elim
    (λ (e : x ≡ d). inl (inl e))
    (λ (n : x ≢ d). ⊎_elim (λ (has : Among xs d). inl (inr has)) (λ (none : Among xs d → ⊥). inr (λ h. ⊎_elim n none h)) (among_or d xs))
    (cases_eq x d)
