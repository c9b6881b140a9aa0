-- Records at positions that rise by one.
use Rattle.std.proofs.Common.{◌≡◌, ◌⊎◌, ℕ, zero, suc, ◌+◌, ◌≤◌, ◌<◌, nat_le, Bool, true, false, cond, List, [], ◌∷◌, ◌++◌, length, refl, ap, sym, ◌∙◌, subst, ⊎_elim, inl, inr, arith, append-nil}
use Rattle.std.proofs.lemmas.Bool.{le-leb, leb-true}
use Rattle.any_node.specs.Layout.{Layout}
use Rattle.any_node.specs.Value.{AuditRecord, Among, Each, kept, up_to}
use Rattle.any_node.specs.Opening.{AreFrom}
use Rattle.any_node.proofs.Lists.{is_false}

pub le_test : (a b : ℕ) → a ≤ b → nat_le a b ≡ true
le_test a b h = le-leb a b h

pub gt_test : (a b : ℕ) → b < a → nat_le a b ≡ false
gt_test a b h = is_false (nat_le a b) (λ e. (let le : a ≤ b = leb-true a b e in absurd (omega (arith, h, le))))

pub here_or : (a b : ℕ) → a ≤ b → (a ≡ b) ⊎ (a + 1 ≤ b)
here_or zero zero le = inl refl
here_or zero (suc b) le = inr (omega arith)
here_or (suc a) zero le = absurd (omega (arith, le))
here_or (suc a) (suc b) le = ⊎_elim (λ (e : a ≡ b). inl (omega (arith, e))) (λ (h : a + 1 ≤ b). inr (omega (arith, h))) (here_or a b (omega (arith, le)))

pub grow : {A : Type 0} (b : Bool) (r : A) (us vs ws : List A) → us ≡ vs ++ ws → cond b (r ∷ us) us ≡ cond b (r ∷ vs) vs ++ ws
grow true r us vs ws e = ap (λ xs. r ∷ xs) e
grow false r us vs ws e = e

-- a list has no two fronts of one length
pub same_front : {A : Type 0} (P R F S : List A) → P ++ R ≡ F ++ S → length P ≡ length F → P ≡ F
same_front [] R [] S e l = refl
same_front [] R (f ∷ F) S e l = absurd (omega (arith, l))
same_front (p ∷ P) R [] S e l = absurd (omega (arith, l))
same_front (p ∷ P) R (f ∷ F) S e l = (let heads : p ≡ f = cc (e) in let tails : P ≡ F = same_front P R F S (cc (e)) (omega (arith, l)) in cc (heads, tails))

module _ {N : Layout} where
  pub from_left : (n : ℕ) (P R : List (AuditRecord N)) → AreFrom n (P ++ R) → AreFrom n P
  from_left n [] R a = tt
  from_left n (r ∷ P) R a = (a.0, from_left (n + 1) P R a.1)

  pub from_right : (n : ℕ) (P R : List (AuditRecord N)) → AreFrom n (P ++ R) → AreFrom (n + length P) R
  from_right n [] R a = subst (λ (m : ℕ). AreFrom m R) (omega arith) a
  from_right n (r ∷ P) R a = (let e : n + 1 + length P ≡ n + length (r ∷ P) = omega arith in subst (λ (m : ℕ). AreFrom m R) e (from_right (n + 1) P R a.1))

  pub from_append : (n : ℕ) (P R : List (AuditRecord N)) → AreFrom n P → AreFrom (n + length P) R → AreFrom n (P ++ R)
  from_append n [] R a b = subst (λ (m : ℕ). AreFrom m R) (omega arith) b
  from_append n (r ∷ P) R a b = (a.0, from_append (n + 1) P R a.1 (let e : n + length (r ∷ P) ≡ n + 1 + length P = omega arith in subst (λ (m : ℕ). AreFrom m R) e b))

  pub from_least : (n : ℕ) (rs : List (AuditRecord N)) → AreFrom n rs → Each (λ r. n ≤ r.position) rs
  from_least n [] a = tt
  from_least n (r ∷ rs) a = ((let e : r.position ≡ n = a.0 in omega (arith, e)), up rs (from_least (n + 1) rs a.1)) where
    up : (rs : List (AuditRecord N)) → Each (λ r. n + 1 ≤ r.position) rs → Each (λ r. n ≤ r.position) rs
    up [] p = tt
    up (x ∷ xs) p = ((let h : n + 1 ≤ x.position = p.0 in omega (arith, h)), up xs p.1)

  pub from_most : (n : ℕ) (rs : List (AuditRecord N)) → AreFrom n rs → Each (λ r. r.position < n + length rs) rs
  from_most n [] a = tt
  from_most n (r ∷ rs) a = ((let e : r.position ≡ n = a.0 in omega (arith, e)), up rs (n + 1 + length rs) (n + length (r ∷ rs)) (omega arith) (from_most (n + 1) rs a.1)) where
    up : (us : List (AuditRecord N)) (a b : ℕ) → a ≤ b → Each (λ r. r.position < a) us → Each (λ r. r.position < b) us
    up [] a b le p = tt
    up (x ∷ xs) a b le p = ((let h : x.position < a = p.0 in omega (arith, h, le)), up xs a b le p.1)

  -- each position up to the end has its record
  pub from_at : (n : ℕ) (rs : List (AuditRecord N)) (p : ℕ) → AreFrom n rs → n ≤ p → p < n + length rs → (r : AuditRecord N) × Among rs r × (r.position ≡ p)
  from_at n [] p a le lt = absurd (omega (arith, le, lt))
  from_at n (r ∷ rs) p a le lt = ⊎_elim
      (λ (e : n ≡ p). (r, inl refl, a.0 ∙ e))
      (λ (h : n + 1 ≤ p). (let f = from_at (n + 1) rs p a.1 h (omega (arith, lt)) in (f.0, inr f.1, f.2)))
      (here_or n p le)

  -- the list cut at a position
  pub cut : (n s : ℕ) (rs : List (AuditRecord N)) → n ≤ s → s ≤ n + length rs → (P : List (AuditRecord N)) × (R : List (AuditRecord N)) × (rs ≡ P ++ R) × (n + length P ≡ s)
  cut n s [] le to = ([], [], refl, omega (arith, le, to))
  cut n s (r ∷ rs) le to = ⊎_elim
      (λ (e : n ≡ s). ([], r ∷ rs, refl, omega (arith, e)))
      (λ (h : n + 1 ≤ s). (let c = cut (n + 1) s rs h (omega (arith, to)) in let size : n + 1 + length c.0 ≡ s = c.3 in (r ∷ c.0, c.1, ap (λ us. r ∷ us) c.2, omega (arith, size))))
      (here_or n s le)

  pub kept-append : (s : ℕ) (xs ys : List (AuditRecord N)) → kept s (xs ++ ys) ≡ kept s xs ++ kept s ys
  kept-append s [] ys = refl
  kept-append s (x ∷ xs) ys = grow (nat_le s x.position) x (kept s (xs ++ ys)) (kept s xs) (kept s ys) (kept-append s xs ys)

  pub kept_none : (s : ℕ) (xs : List (AuditRecord N)) → Each (λ r. r.position < s) xs → kept s xs ≡ []
  kept_none s [] p = refl
  kept_none s (x ∷ xs) p = ap (λ b. cond b (x ∷ kept s xs) (kept s xs)) (gt_test s x.position p.0) ∙ kept_none s xs p.1

  pub kept_all : (s : ℕ) (xs : List (AuditRecord N)) → Each (λ r. s ≤ r.position) xs → kept s xs ≡ xs
  kept_all s [] p = refl
  kept_all s (x ∷ xs) p = ap (λ b. cond b (x ∷ kept s xs) (kept s xs)) (le_test s x.position p.0) ∙ ap (λ us. x ∷ us) (kept_all s xs p.1)

  -- from the cut on
  pub kept_cut : (n s : ℕ) (P R : List (AuditRecord N)) → AreFrom n (P ++ R) → n + length P ≡ s → kept s (P ++ R) ≡ R
  kept_cut n s P R a e =
      kept-append s P R
      ∙ ap (λ us. us ++ kept s R) (kept_none s P (subst (λ (m : ℕ). Each (λ r. r.position < m) P) e (from_most n P (from_left n P R a))))
      ∙ kept_all s R (subst (λ (m : ℕ). Each (λ r. m ≤ r.position) R) e (from_least (n + length P) R (from_right n P R a)))

  pub up_to_all : (n : ℕ) (xs : List (AuditRecord N)) → Each (λ r. r.position < n + 1) xs → up_to n xs ≡ xs
  up_to_all n [] p = refl
  up_to_all n (x ∷ xs) p = ap (λ b. cond b (x ∷ up_to n xs) (up_to n xs)) (le_test x.position n (let h : x.position < n + 1 = p.0 in omega (arith, h))) ∙ ap (λ us. x ∷ us) (up_to_all n xs p.1)

  pub up_to_none : (n : ℕ) (xs : List (AuditRecord N)) → Each (λ r. n + 1 ≤ r.position) xs → up_to n xs ≡ []
  up_to_none n [] p = refl
  up_to_none n (x ∷ xs) p = ap (λ b. cond b (x ∷ up_to n xs) (up_to n xs)) (gt_test x.position n (let h : n + 1 ≤ x.position = p.0 in omega (arith, h))) ∙ up_to_none n xs p.1

  pub up_to-append : (n : ℕ) (xs ys : List (AuditRecord N)) → up_to n (xs ++ ys) ≡ up_to n xs ++ up_to n ys
  up_to-append n [] ys = refl
  up_to-append n (x ∷ xs) ys = grow (nat_le x.position n) x (up_to n (xs ++ ys)) (up_to n xs) (up_to n ys) (up_to-append n xs ys)

  -- up to the cut
  pub up_to_cut : (f n : ℕ) (F R : List (AuditRecord N)) → AreFrom f (F ++ R) → n + 1 ≡ f + length F → up_to n (F ++ R) ≡ F
  up_to_cut f n F R a e =
      up_to-append n F R
      ∙ ap (λ us. us ++ up_to n R) (up_to_all n F (subst (λ (m : ℕ). Each (λ r. r.position < m) F) (sym e) (from_most f F (from_left f F R a))))
      ∙ ap (λ us. F ++ us) (up_to_none n R (subst (λ (m : ℕ). Each (λ r. m ≤ r.position) R) (sym e) (from_least (f + length F) R (from_right f F R a))))
      ∙ append-nil F
