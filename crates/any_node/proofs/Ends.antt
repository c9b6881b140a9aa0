-- What the devices' images show at a moment of a history, of one disc.
use Rattle.std.proofs.Common.{◌≡◌, ◌⊎◌, ℕ, ◌==◌, ◌+◌, ◌≤◌, ◌<◌, eqb-true, Bool, true, false, cond, List, [], ◌∷◌, ◌++◌, length, Option, Some, None, refl, ap, sym, ◌∙◌, subst, ⊎_elim, inl, inr, arith, append-nil, length-append}
use Rattle.any_node.specs.Layout.{Layout}
use Rattle.any_node.specs.Value.{AuditRecord, Among, Each, own, kept}
use Rattle.any_node.specs.Stands.{Base, next_position, last_position, or_one, IsKept}
use Rattle.any_node.specs.Opening.{AreFrom}
use Rattle.any_node.proofs.Lists.{each_at, among_append}
use Rattle.any_node.proofs.Positions.{from_right, kept-append, kept_none, here_or}

module _ {N : Layout} where
  pub among_own : (d : ℕ) (rows : List (ℕ × AuditRecord N)) (r : AuditRecord N) → Among (own d rows) r → (x : ℕ × AuditRecord N) × Among rows x × (x.1 ≡ r) × (r.disc ≡ d)
  among_own d [] r has = absurd has
  among_own d (x ∷ rows) r has = pick (x.1.disc == d) refl (among_own d rows r) has where
    pick : (b : Bool) → (x.1.disc == d) ≡ b → (Among (own d rows) r → (y : ℕ × AuditRecord N) × Among rows y × (y.1 ≡ r) × (r.disc ≡ d)) → Among (cond b (x.1 ∷ own d rows) (own d rows)) r → (y : ℕ × AuditRecord N) × Among (x ∷ rows) y × (y.1 ≡ r) × (r.disc ≡ d)
    pick true e rest h = ⊎_elim (λ (i : x.1 ≡ r). (x, inl refl, i, ap (λ (z : AuditRecord N). z.disc) (sym i) ∙ eqb-true x.1.disc d e)) (λ (j : Among (own d rows) r). (let a = rest j in (a.0, inr a.1, a.2, a.3))) h
    pick false e rest h = (let a = rest h in (a.0, inr a.1, a.2, a.3))

  pub last_from : (n p : ℕ) (rs : List (AuditRecord N)) → p ≡ n → AreFrom (n + 1) rs → last_position p rs + 1 ≡ n + 1 + length rs
  last_from n p [] e a = omega (arith, e)
  last_from n p (r ∷ rs) e a = (let h : last_position r.position rs + 1 ≡ n + 1 + 1 + length rs = last_from (n + 1) r.position rs a.0 a.1 in h ∙ omega arith)

  -- the records of the opening stand right before the next position
  pub opening_from : (n first : ℕ) (audit : List (AuditRecord N)) (volume dump : Option (Base N)) → AreFrom n audit → first ≡ next_position audit volume dump → (n1 : ℕ) × AreFrom n1 audit × (n1 + length audit ≡ first)
  opening_from n first [] volume dump a e = (first, tt, omega arith)
  opening_from n first (r ∷ rs) volume dump a e = (n, a, (let h : last_position r.position rs + 1 ≡ n + 1 + length rs = last_from n r.position rs a.0 a.1 in omega (arith, e, h)))

  -- A position of an image: the disc has reached it, what the image lacks stands below it, and all from it on was there.
  pub record IsReached (full lacks : List (AuditRecord N)) (end y : ℕ) : Type 0 where
    pub reached : y ≤ end
    pub lacks_below : Each (λ r. r.position < y) lacks
    pub there : (n : ℕ) → y ≤ n → n < end → (r : AuditRecord N) × Among full r × (r.position ≡ n)

  -- what there is of these is at such positions
  abbrev pub IsReachedBy : List (AuditRecord N) → List (AuditRecord N) → ℕ → Option (Base N) → Type 0
  IsReachedBy full lacks end None = Unit {0}
  IsReachedBy full lacks end (Some b) = IsReached full lacks end b.position

  module _ (full lacks audit : List (AuditRecord N)) (n end : ℕ) (parts : full ≡ lacks ++ audit) (from : AreFrom n full) (size : n + length full ≡ end) (positive : 1 ≤ end) where
    -- where the image has no record, the position is the end
    at_end : (y : ℕ) → audit ≡ [] → IsReached full lacks end y → y ≡ end
    at_end y none h = ⊎_elim
        (λ (e : y ≡ end). e)
        (λ (lt : y + 1 ≤ end).
        (let f = h.there y (omega arith) (omega (arith, lt)) in
        let in_lacks : Among lacks f.0 = subst (λ (us : List (AuditRecord N)). Among us f.0) (parts ∙ ap (λ us. lacks ++ us) none ∙ nil lacks) f.1 in
        let below : f.0.position < y = each_at (λ r. r.position < y) lacks f.0 h.lacks_below in_lacks in
        absurd (let at : f.0.position ≡ y = f.2 in omega (arith, below, at))))
        (here_or y end h.reached)
      where
        nil : (us : List (AuditRecord N)) → us ++ [] ≡ us
        nil us = append-nil us

    one_or_end : (b : Option (Base N)) → audit ≡ [] → IsReachedBy full lacks end b → (or_one b ≡ end) ⊎ (or_one b ≡ 1)
    one_or_end None none h = inr refl
    one_or_end (Some b) none h = inl (at_end b.position none h)

    -- the next position is the end
    next_is : (us : List (AuditRecord N)) → audit ≡ us → (volume dump : Option (Base N)) → IsReachedBy full lacks end volume → IsReachedBy full lacks end dump → (or_one volume ≡ end) ⊎ (or_one dump ≡ end) ⊎ ((us ≡ []) → ⊥) → next_position us volume dump ≡ end
    next_is [] e volume dump hv hd some =
        ⊎_elim
        (λ (a : or_one volume ≡ end). ⊎_elim (λ (b : or_one dump ≡ end). omega (arith, a, b)) (λ (b : or_one dump ≡ 1). omega (arith, a, b, positive)) (one_or_end dump e hd))
        (λ (x : (or_one dump ≡ end) ⊎ (([] ≡ []) → ⊥)). ⊎_elim (λ (b : or_one dump ≡ end). ⊎_elim (λ (a : or_one volume ≡ end). omega (arith, a, b)) (λ (a : or_one volume ≡ 1). omega (arith, a, b, positive)) (one_or_end volume e hv)) (λ (f : ([] ≡ []) → ⊥). absurd (f refl)) x)
        some
    next_is (r ∷ rs) e volume dump hv hd some =
        let num : AreFrom (n + length lacks) (r ∷ rs) = subst (λ (us : List (AuditRecord N)). AreFrom (n + length lacks) us) e (from_right n lacks audit (subst (λ (us : List (AuditRecord N)). AreFrom n us) parts from)) in
        let h : last_position r.position rs + 1 ≡ n + length lacks + 1 + length rs = last_from (n + length lacks) r.position rs num.0 num.1 in
        let l : length full ≡ length lacks + length (r ∷ rs) = ap length parts ∙ length-append lacks audit ∙ ap (λ us. length lacks + length us) e in
        omega (arith, h, l, size)

    kept_at : (volume dump : Option (Base N)) → IsReachedBy full lacks end volume → IsReachedBy full lacks end dump → (b : Base N) → IsReached full lacks end b.position → (or_one volume ≡ b.position) ⊎ (or_one dump ≡ b.position) → IsKept audit (next_position audit volume dump) (Some b)
    kept_at volume dump hv hd b h is =
        let next : next_position audit volume dump ≡ end = next_is audit refl volume dump hv hd (some audit refl) in
        let le : b.position ≤ end = h.reached in (
          omega (arith, next, le),
          (λ p from_p below.
              (let f = h.there p from_p (omega (arith, next, below)) in
              ⊎_elim
              (λ (a : Among lacks f.0). (let lt : f.0.position < b.position = each_at (λ r. r.position < b.position) lacks f.0 h.lacks_below a in let at : f.0.position ≡ p = f.2 in absurd (omega (arith, lt, at, from_p))))
              (λ (a : Among audit f.0). (f.0, a, f.2))
              (among_append lacks audit f.0 (subst (λ (us : List (AuditRecord N)). Among us f.0) parts f.1)))),
        )
      where
        some : (us : List (AuditRecord N)) → audit ≡ us → (or_one volume ≡ end) ⊎ (or_one dump ≡ end) ⊎ ((audit ≡ []) → ⊥)
        some [] e = (let at : b.position ≡ end = at_end b.position e h in ⊎_elim (λ (a : or_one volume ≡ b.position). inl (a ∙ at)) (λ (a : or_one dump ≡ b.position). inr (inl (a ∙ at))) is)
        some (r ∷ rs) e = inr (inr (λ none. (let both : r ∷ rs ≡ [] = sym e ∙ none in cc (both))))

    pub all_kept : (volume dump : Option (Base N)) → IsReachedBy full lacks end volume → IsReachedBy full lacks end dump → IsKept audit (next_position audit volume dump) volume × IsKept audit (next_position audit volume dump) dump
    all_kept None None hv hd = (tt, tt)
    all_kept None (Some b) hv hd = (tt, kept_at None (Some b) hv hd b hd (inr refl))
    all_kept (Some a) None hv hd = (kept_at (Some a) None hv hd a hv (inl refl), tt)
    all_kept (Some a) (Some b) hv hd = (kept_at (Some a) (Some b) hv hd a hv (inl refl), kept_at (Some a) (Some b) hv hd b hd (inr refl))

    -- what the image has from such a position on is all that there was
    pub kept_whole : (y : ℕ) → Each (λ r. r.position < y) lacks → kept y audit ≡ kept y full
    kept_whole y below = sym (ap (λ us. kept y us) parts ∙ kept-append y lacks audit ∙ ap (λ us. us ++ kept y audit) (kept_none y lacks below))
