-- A list split at one of its items, and its fronts.
use Rattle.std.specs.Prelude.{◌⊎◌, ◌≤◌, ◌+◌}
use Rattle.std.proofs.lemmas.List.{append_cancel_left}
use Rattle.node_machine.specs.SameLaws.{among_right}
use Rattle.std.proofs.Common.{◌≡◌, inl, inr, ⊎_elim, List, [], ◌∷◌, ◌++◌, length, length-append, append_assoc, append-nil, refl, ap, sym, ◌∙◌, subst, arith}
use mathlib.Core.List.{IsPrefix}
use Rattle.node_machine.specs.Same.{Among}

module _ {A : Type 0} where
  -- where an item stands in neither front, the two fronts of it are one
  pub same_front : (xs ys rest more : List A) (x : A) → xs ++ x ∷ rest ≡ ys ++ x ∷ more → (Among xs x → ⊥) → (Among ys x → ⊥) → xs ≡ ys
  same_front [] [] rest more x is no_x no_y = refl
  same_front [] (y ∷ ys) rest more x is no_x no_y = (let same : x ≡ y = cc (is) in absurd (no_y (inl (sym same))))
  same_front (z ∷ xs) [] rest more x is no_x no_y = (let same : z ≡ x = cc (is) in absurd (no_x (inl same)))
  same_front (z ∷ xs) (y ∷ ys) rest more x is no_x no_y =
      let same : z ≡ y = cc (is) in
      let rest = same_front xs ys rest more x (cc (is)) (λ h. no_x (inr h)) (λ h. no_y (inr h)) in
      ap (λ (w : A). w ∷ xs) same ∙ ap (λ (l : List A). y ∷ l) rest

  cons_prefix : (x y : A) (xs ys : List A) → x ≡ y → IsPrefix xs ys → IsPrefix (x ∷ xs) (y ∷ ys)
  cons_prefix x y xs ys same pre = (pre.0, ap (λ (l : List A). x ∷ l) pre.1 ∙ ap (λ (w : A). w ∷ ys) same)

  -- of two fronts of a list one begins with the other
  pub either_front : (xs ys rest more : List A) → xs ++ rest ≡ ys ++ more → IsPrefix xs ys ⊎ IsPrefix ys xs
  either_front [] ys rest more is = inl (ys, refl)
  either_front (x ∷ xs) [] rest more is = inr (x ∷ xs, refl)
  either_front (x ∷ xs) (y ∷ ys) rest more is =
      let same : x ≡ y = cc (is) in
      ⊎_elim (λ (p : IsPrefix xs ys). inl (cons_prefix x y xs ys same p)) (λ (p : IsPrefix ys xs). inr (cons_prefix y x ys xs (sym same) p)) (either_front xs ys rest more (cc (is)))

  -- a front that lacks the item stands within the front of the item
  pub front_within : (xs ys rest more : List A) (x : A) → xs ++ rest ≡ ys ++ x ∷ more → (Among xs x → ⊥) → IsPrefix xs ys
  front_within [] ys rest more x is none = (ys, refl)
  front_within (z ∷ xs) [] rest more x is none = (let same : z ≡ x = cc (is) in absurd (none (inl same)))
  front_within (z ∷ xs) (y ∷ ys) rest more x is none = (let same : z ≡ y = cc (is) in cons_prefix z y xs ys same (front_within xs ys rest more x (cc (is)) (λ h. none (inr h))))

  -- two places of a list: they are one; or the second stands in front of the first, or behind it
  pub two_places : (xs ys rest more : List A) (x y : A) → xs ++ x ∷ rest ≡ ys ++ y ∷ more
      → ((ys ≡ xs) × (x ≡ y) × (rest ≡ more)) ⊎ Among xs y ⊎ ((between : List A) × (ys ≡ xs ++ x ∷ between) × (rest ≡ between ++ y ∷ more))
  two_places [] [] rest more x y is = inl (refl, cc (is), cc (is))
  two_places [] (z ∷ ys) rest more x y is =
      let same : x ≡ z = cc (is) in
      inr (inr (ys, ap (λ (w : A). w ∷ ys) (sym same), cc (is)))
  two_places (z ∷ xs) [] rest more x y is = (let same : z ≡ y = cc (is) in inr (inl (inl same)))
  two_places (z ∷ xs) (w ∷ ys) rest more x y is =
      let same : z ≡ w = cc (is) in
      ⊎_elim
      (λ (e : (ys ≡ xs) × (x ≡ y) × (rest ≡ more)). inl (ap (λ (l : List A). w ∷ l) e.0 ∙ ap (λ (v : A). v ∷ xs) (sym same), e.1, e.2))
      (λ (o : Among xs y ⊎ ((between : List A) × (ys ≡ xs ++ x ∷ between) × (rest ≡ between ++ y ∷ more))).
      ⊎_elim
      (λ (front : Among xs y). inr (inl (inr front)))
      (λ (b : (between : List A) × (ys ≡ xs ++ x ∷ between) × (rest ≡ between ++ y ∷ more)).
      inr (inr (b.0, ap (λ (l : List A). w ∷ l) b.1 ∙ ap (λ (v : A). v ∷ (xs ++ x ∷ b.0)) (sym same), b.2)))
      o)
      (two_places xs ys rest more x y (cc (is)))

  -- a place in two lists in a row is in the first, or in the second
  pub place_behind : (xs ys front more : List A) (y : A) → xs ++ ys ≡ front ++ y ∷ more → Among xs y ⊎ ((between : List A) × (front ≡ xs ++ between) × (ys ≡ between ++ y ∷ more))
  place_behind [] ys front more y is = inr (front, refl, is)
  place_behind (x ∷ xs) ys [] more y is = (let same : x ≡ y = cc (is) in inl (inl same))
  place_behind (x ∷ xs) ys (z ∷ front) more y is =
      let same : x ≡ z = cc (is) in
      ⊎_elim
      (λ (f : Among xs y). inl (inr f))
      (λ (b : (between : List A) × (front ≡ xs ++ between) × (ys ≡ between ++ y ∷ more)). inr (b.0, ap (λ (l : List A). z ∷ l) b.1 ∙ ap (λ (v : A). v ∷ (xs ++ b.0)) (sym same), b.2))
      (place_behind xs ys front more y (cc (is)))

  -- what stands behind an item that the front has, and that nothing before it is
  pub behind_item : (xs ys front more : List A) (b x : A) → xs ++ b ∷ ys ≡ front ++ x ∷ more → (Among xs b → ⊥) → Among front b → Among ys x
  behind_item [] ys [] more b x is none has = absurd has
  behind_item [] ys (z ∷ front) more b x is none has =
      let rest : ys ≡ front ++ x ∷ more = cc (is) in
      subst (λ (l : List A). Among l x) (sym rest) (among_right front (x ∷ more) x (inl refl))
  behind_item (y ∷ xs) ys [] more b x is none has = absurd has
  behind_item (y ∷ xs) ys (z ∷ front) more b x is none has =
      let same : y ≡ z = cc (is) in
      ⊎_elim
      (λ (e : z ≡ b). absurd (none (inl (same ∙ e))))
      (λ (later : Among front b). behind_item xs ys front more b x (cc (is)) (λ h. none (inr h)) later)
      has

  -- a place of two lists in a row, of which the second has one item at most: what stands in front of it is of the first
  pub front_in_first : (xs front more last : List A) (x : A) → front ++ x ∷ more ≡ xs ++ last → length last ≤ 1 → IsPrefix front xs
  front_in_first xs front more last x is few =
      ⊎_elim
      (λ (p : IsPrefix front xs). p)
      (λ (p : IsPrefix xs front). empty p.0 p.1)
      (either_front front xs (x ∷ more) last is)
    where
      empty : (d : List A) → xs ++ d ≡ front → IsPrefix front xs
      empty [] e = ([], append-nil front ∙ sym e ∙ append-nil xs)
      empty (y ∷ d) e =
          let whole : xs ++ ((y ∷ d) ++ x ∷ more) ≡ xs ++ last = sym (append_assoc xs (y ∷ d) (x ∷ more)) ∙ ap (λ (l : List A). l ++ x ∷ more) e ∙ is in
          let rest : (y ∷ d) ++ x ∷ more ≡ last = append_cancel_left xs ((y ∷ d) ++ x ∷ more) last whole in
          let size : length ((y ∷ d) ++ x ∷ more) ≡ length (y ∷ d) + length (x ∷ more) = length-append (y ∷ d) (x ∷ more) in
          let same : length ((y ∷ d) ++ x ∷ more) ≡ length last = ap (λ (l : List A). length l) rest in
          absurd (omega (arith, size, same, few))
