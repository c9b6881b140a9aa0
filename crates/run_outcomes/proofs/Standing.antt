-- Lists that stand in others.
use Rattle.std.specs.Prelude.{◌≡◌, ◌+◌, ◌≤◌, Bool, true, false, cond, List, [], ◌∷◌, ◌++◌, length}
use Rattle.std.specs.List.{filter}
use Rattle.std.proofs.Common.{sym, ap, subst, ◌∙◌, arith, inl, inr, ⊎_elim, refl}
use Rattle.node_machine.specs.Acts.{StandIn}
use Rattle.node_machine.specs.Same.{Among}

module _ {A : Type 0} where
  pub stand_behind : (xs ys zs : List A) → StandIn xs ys → StandIn xs (ys ++ zs)
  stand_behind [] ys zs s = tt
  stand_behind (x ∷ xs) [] zs s = absurd s
  stand_behind (x ∷ xs) (y ∷ ys) zs s =
      ⊎_elim (λ (h : (x ≡ y) × StandIn xs ys). inl (h.0, stand_behind xs ys zs h.1)) (λ (h : StandIn (x ∷ xs) ys). inr (stand_behind (x ∷ xs) ys zs h)) s

  pub stand_fewer : (xs ys : List A) → StandIn xs ys → length xs ≤ length ys
  stand_fewer [] ys s = omega arith
  stand_fewer (x ∷ xs) [] s = absurd s
  stand_fewer (x ∷ xs) (y ∷ ys) s =
      ⊎_elim (λ (h : (x ≡ y) × StandIn xs ys). let less = stand_fewer xs ys h.1 in omega (arith, less)) (λ (h : StandIn (x ∷ xs) ys). let less = stand_fewer (x ∷ xs) ys h in omega (arith, less)) s

  -- what stands in a list that is no longer is that list
  pub stand_all : (xs ys : List A) → StandIn xs ys → length xs ≡ length ys → xs ≡ ys
  stand_all [] [] s many = refl
  stand_all [] (y ∷ ys) s many = absurd (omega (arith, many))
  stand_all (x ∷ xs) [] s many = absurd s
  stand_all (x ∷ xs) (y ∷ ys) s many =
      ⊎_elim
      (λ (h : (x ≡ y) × StandIn xs ys). let rest = stand_all xs ys h.1 (omega (arith, many)) in cc (h.0, rest))
      (λ (h : StandIn (x ∷ xs) ys). absurd (let less = stand_fewer (x ∷ xs) ys h in omega (arith, less, many)))
      s

  pub filter_fewer : (f : A → Bool) (xs : List A) → length (filter f xs) ≤ length xs
  filter_fewer f [] = omega arith
  filter_fewer f (x ∷ xs) = by_case (f x) (filter_fewer f xs) where
    by_case : (b : Bool) → length (filter f xs) ≤ length xs → length (cond b (x ∷ filter f xs) (filter f xs)) ≤ length (x ∷ xs)
    by_case true less = omega (arith, less)
    by_case false less = omega (arith, less)

  -- where all pass, the first one does, and so do the others
  pub all_pass : (f : A → Bool) (x : A) (xs : List A) → filter f (x ∷ xs) ≡ x ∷ xs → (f x ≡ true) × (filter f xs ≡ xs)
  all_pass f x xs all = by_case (f x) refl all where
    by_case : (b : Bool) → f x ≡ b → cond b (x ∷ filter f xs) (filter f xs) ≡ x ∷ xs → (f x ≡ true) × (filter f xs ≡ xs)
    by_case true e same = (e, cc (same))
    by_case false e same = absurd (let less = filter_fewer f xs in let long : length (filter f xs) ≡ length (x ∷ xs) = ap length same in omega (arith, less, long))

  pub stand_filtered : (f : A → Bool) (xs ys : List A) → StandIn xs ys → filter f xs ≡ xs → StandIn xs (filter f ys)
  stand_filtered f [] ys s all = tt
  stand_filtered f (x ∷ xs) [] s all = absurd s
  stand_filtered f (x ∷ xs) (y ∷ ys) s all =
      ⊎_elim
      (λ (h : (x ≡ y) × StandIn xs ys).
      let first = all_pass f x xs all in
      let passes : f y ≡ true = ap f (sym h.0) ∙ first.0 in
      subst (λ (b : Bool). StandIn (x ∷ xs) (cond b (y ∷ filter f ys) (filter f ys))) (sym passes) (inl (h.0, stand_filtered f xs ys h.1 first.1)))
      (λ (h : StandIn (x ∷ xs) ys). by_case (f y) (stand_filtered f (x ∷ xs) ys h all))
      s
    where
      by_case : (b : Bool) → StandIn (x ∷ xs) (filter f ys) → StandIn (x ∷ xs) (cond b (y ∷ filter f ys) (filter f ys))
      by_case true h = inr h
      by_case false h = h

  pub length_cond : (b : Bool) (x : A) (xs : List A) → length (cond b (x ∷ xs) xs) ≡ cond b 1 0 + length xs
  length_cond true x xs = omega arith
  length_cond false x xs = omega arith

  pub stand_one : (x : A) (ys : List A) → Among ys x → StandIn (x ∷ []) ys
  stand_one x [] among = absurd among
  stand_one x (y ∷ ys) among = ⊎_elim (λ (e : y ≡ x). inl (sym e, tt)) (λ (more : Among ys x). inr (stand_one x ys more)) among

  -- what stands behind a list stands behind whatever is put before that
  stand_before : (xs ys zs : List A) → StandIn xs zs → StandIn xs (ys ++ zs)
  stand_before [] ys zs s = tt
  stand_before (x ∷ xs) [] zs s = s
  stand_before (x ∷ xs) (y ∷ ys) zs s = inr (stand_before (x ∷ xs) ys zs s)

  pub stand_appended : (xs ys zs ws : List A) → StandIn xs ys → StandIn zs ws → StandIn (xs ++ zs) (ys ++ ws)
  stand_appended [] ys zs ws s t = stand_before zs ys ws t
  stand_appended (x ∷ xs) [] zs ws s t = absurd s
  stand_appended (x ∷ xs) (y ∷ ys) zs ws s t =
      ⊎_elim (λ (h : (x ≡ y) × StandIn xs ys). inl (h.0, stand_appended xs ys zs ws h.1 t)) (λ (h : StandIn (x ∷ xs) ys). inr (stand_appended (x ∷ xs) ys zs ws h t)) s
