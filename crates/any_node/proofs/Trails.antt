-- What holds of a trail through a history: its records are made, its files do not fall, and what a Purge takes is below a floor.
use Rattle.std.proofs.Common.{◌≡◌, ◌≢◌, ◌⊎◌, ℕ, ◌≤◌, ◌<◌, nat_le, max, true, false, cond, List, [], ◌∷◌, ◌++◌, refl, ap, sym, ◌∙◌, subst, ⊎_elim, inl, inr, arith, append_assoc, append-nil}
use Rattle.std.proofs.lemmas.Bool.{leb-true, leb-false}
use Rattle.any_node.specs.Layout.{Layout}
use Rattle.any_node.specs.Value.{AuditRecord, Among, Each, own, filed}
use Rattle.any_node.specs.Node.{Trail, Event, Fact, allows_trail, asks_trail, step_trail}
use Rattle.any_node.specs.Opening.{AreInOrder}
use Rattle.any_node.specs.Shows.{from_file}
use Rattle.any_node.specs.Node.Event.{OfferAudit, Land, Purge, Failed}
use Rattle.any_node.specs.Node.Fact.{Made, Floor}
use Rattle.any_node.proofs.Lists.{nothing_or, among_append, true_or_false}
use Rattle.any_node.proofs.Facts.{own-append}
use Rattle.any_node.proofs.Positions.{le_test}

max_or : (a b n : ℕ) → n < max a b → (n < a) ⊎ (n < b)
max_or a b n lt = pick (true_or_false (nat_le a b)) where
  pick : (nat_le a b ≡ true) ⊎ (nat_le a b ≡ false) → (n < a) ⊎ (n < b)
  pick (inl e) = (let le : a ≤ b = leb-true a b e in inr (omega (arith, lt, le)))
  pick (inr e) = (let gt : b < a = leb-false a b e in inl (omega (arith, lt, gt)))

module _ {N : Layout} where
  pub order_more : (f g h : ℕ) (rows : List (ℕ × AuditRecord N)) (rs : List (AuditRecord N)) → AreInOrder f rows g → g ≤ h → AreInOrder f (rows ++ filed h rs) h
  order_more f g h [] [] a le = (let b : f ≤ g = a in omega (arith, b, le))
  order_more f g h [] (r ∷ rs) a le = (let b : f ≤ g = a in (omega (arith, b, le), order_more h h h [] rs (omega arith) (omega arith)))
  order_more f g h (x ∷ rows) rs a le = (a.0, order_more x.0 g h rows rs a.1 le)

  pub order_last : (f g h : ℕ) (rows : List (ℕ × AuditRecord N)) → AreInOrder f rows g → g ≤ h → AreInOrder f rows h
  order_last f g h [] a le = (let b : f ≤ g = a in omega (arith, b, le))
  order_last f g h (x ∷ rows) a le = (a.0, order_last x.0 g h rows a.1 le)

  -- rows of which none is below f
  pub order_least : (f g : ℕ) (rows : List (ℕ × AuditRecord N)) → AreInOrder f rows g → Each (λ x. f ≤ x.0) rows
  order_least f g [] a = tt
  order_least f g (x ∷ rows) a = (a.0, up f x.0 rows a.0 (order_least x.0 g rows a.1)) where
    up : (f h : ℕ) (us : List (ℕ × AuditRecord N)) → f ≤ h → Each (λ x. h ≤ x.0) us → Each (λ x. f ≤ x.0) us
    up f h [] le p = tt
    up f h (y ∷ us) le p = ((let b : h ≤ y.0 = p.0 in omega (arith, b, le)), up f h us le p.1)

  file_all : (f : ℕ) (rows : List (ℕ × AuditRecord N)) → Each (λ x. f ≤ x.0) rows → from_file f rows ≡ rows
  file_all f [] p = refl
  file_all f (x ∷ rows) p = ap (λ b. cond b (x ∷ from_file f rows) (from_file f rows)) (le_test f x.0 p.0) ∙ ap (λ us. x ∷ us) (file_all f rows p.1)

  -- what an image without the files below f lacks are the first rows
  pub split_file : (f g h : ℕ) (rows : List (ℕ × AuditRecord N)) → AreInOrder g rows h → (A : List (ℕ × AuditRecord N)) × (B : List (ℕ × AuditRecord N)) × (rows ≡ A ++ B) × Each (λ x. x.0 < f) A × (from_file f rows ≡ B)
  split_file f g h [] a = ([], [], refl, tt, refl)
  split_file f g h (x ∷ rows) a = ⊎_elim
      (λ (e : nat_le f x.0 ≡ true).
      let le : f ≤ x.0 = leb-true f x.0 e in
      ([], x ∷ rows, refl, tt, file_all f (x ∷ rows) (le, up x.0 rows le (order_least x.0 h rows a.1))))
      (λ (e : nat_le f x.0 ≡ false).
      let rest = split_file f x.0 h rows a.1 in
      let lt : x.0 < f = leb-false f x.0 e in
      (x ∷ rest.0, rest.1, ap (λ us. x ∷ us) rest.2, (lt, rest.3), ap (λ b. cond b (x ∷ from_file f rows) (from_file f rows)) e ∙ rest.4))
      (true_or_false (nat_le f x.0))
    where
      up : (m : ℕ) (us : List (ℕ × AuditRecord N)) → f ≤ m → Each (λ x. m ≤ x.0) us → Each (λ x. f ≤ x.0) us
      up m [] le p = tt
      up m (y ∷ us) le p = ((let b : m ≤ y.0 = p.0 in omega (arith, b, le)), up m us le p.1)

  among_filed : (f : ℕ) (rs : List (AuditRecord N)) (x : ℕ × AuditRecord N) → Among (filed f rs) x → x.0 ≡ f
  among_filed f [] x has = absurd has
  among_filed f (r ∷ rs) x has = ⊎_elim (λ (e : (f, r) ≡ x). sym (ap (λ (y : ℕ × AuditRecord N). y.0) e)) (λ (h : Among (filed f rs) x). among_filed f rs x h) has

  -- all that the trail spells
  abbrev pub rows_of : Trail N → List (ℕ × AuditRecord N)
  rows_of s = s.before ++ (s.landed ++ s.offered)

  pub record IsFiled (T : Fact N → Type 0) (s : Trail N) : Type 0 where
    pub spelled : (d : ℕ) → own d (s.landed ++ s.offered) ≢ [] → (n : ℕ) × T (Made d n (own d (s.landed ++ s.offered)))
    pub order : AreInOrder 0 (rows_of s) s.present
    pub named : s.purged ≤ s.present
    pub floors : (x : ℕ × AuditRecord N) → Among (rows_of s) x → x.0 < s.purged → (bound : ℕ) × T (Floor x.1.disc bound) × (x.1.position < bound)

  pub filed_more : (T U : Fact N → Type 0) (s : Trail N) → ((f : Fact N) → T f → U f) → IsFiled T s → IsFiled U s
  filed_more T U s up t = record {
    spelled = λ d some. (let x = t.spelled d some in (x.0, up (Made d x.0 (own d (s.landed ++ s.offered))) x.1));
    order = t.order;
    named = t.named;
    floors = λ x has lt. (let b = t.floors x has lt in (b.0, up (Floor x.1.disc b.0) b.1, b.2));
  }

module _ (N : Layout) (T : Fact N → Type 0) where
  offer_spelled : (s : Trail N) (f : ℕ) (rs : List (AuditRecord N)) → s.offered ≡ [] → asks_trail N T s (OfferAudit f rs) → IsFiled T s → (d : ℕ) → own d (s.landed ++ filed f rs) ≢ [] → (n : ℕ) × T (Made d n (own d (s.landed ++ filed f rs)))
  offer_spelled s f rs none asked t d some =
      ⊎_elim
      (λ (nothing : own d (filed f rs) ≡ []).
      let now : own d (s.landed ++ filed f rs) ≡ own d s.landed = own-append d s.landed (filed f rs) ∙ ap (λ xs. own d s.landed ++ xs) nothing ∙ append-nil (own d s.landed) in
      let then : own d (s.landed ++ s.offered) ≡ own d s.landed = ap (λ xs. own d (s.landed ++ xs)) none ∙ ap (λ xs. own d xs) (append-nil s.landed) in
      subst (λ (xs : List (AuditRecord N)). (n : ℕ) × T (Made d n xs)) (then ∙ sym now) (t.spelled d (λ e. some (now ∙ sym then ∙ e))))
      (λ (has : own d (filed f rs) ≢ []). asked d has)
      (nothing_or (own d (filed f rs)))

  pub filed_step : (s : Trail N) (e : Event N) → allows_trail N s e → asks_trail N T s e → IsFiled T s → IsFiled T (step_trail N s e)
  filed_step s (OfferAudit f rs) may asked t =
      let old : s.before ++ (s.landed ++ s.offered) ≡ s.before ++ s.landed = ap (λ us. s.before ++ (s.landed ++ us)) may.0 ∙ ap (λ us. s.before ++ us) (append-nil s.landed) in
      let new : (s.before ++ s.landed) ++ filed f rs ≡ s.before ++ (s.landed ++ filed f rs) = append_assoc s.before s.landed (filed f rs) in
      record {
        spelled = offer_spelled s f rs may.0 asked t;
        order = subst (λ (us : List (ℕ × AuditRecord N)). AreInOrder 0 us f) new (order_more 0 s.present f (s.before ++ s.landed) rs (subst (λ (us : List (ℕ × AuditRecord N)). AreInOrder 0 us s.present) old t.order) may.1);
        named = (let n : s.purged ≤ s.present = t.named in omega (arith, n, may.1));
        floors = λ x has lt. ⊎_elim
            (λ (a : Among (s.before ++ s.landed) x). t.floors x (subst (λ (us : List (ℕ × AuditRecord N)). Among us x) (sym old) a) lt)
            (λ (b : Among (filed f rs) x). (let e : x.0 ≡ f = among_filed f rs x b in let n : s.purged ≤ s.present = t.named in absurd (omega (arith, e, n, may.1, lt))))
            (among_append (s.before ++ s.landed) (filed f rs) x (subst (λ (us : List (ℕ × AuditRecord N)). Among us x) (sym new) has));
      }
  filed_step s Land may asked t =
      let same : s.before ++ (s.landed ++ s.offered) ≡ s.before ++ ((s.landed ++ s.offered) ++ []) = ap (λ us. s.before ++ us) (sym (append-nil (s.landed ++ s.offered))) in
      record {
        spelled = λ d. subst (λ (xs : List (ℕ × AuditRecord N)). own d xs ≢ [] → (n : ℕ) × T (Made d n (own d xs))) (sym (append-nil (s.landed ++ s.offered))) (t.spelled d);
        order = subst (λ (us : List (ℕ × AuditRecord N)). AreInOrder 0 us s.present) same t.order;
        named = t.named;
        floors = λ x has. t.floors x (subst (λ (us : List (ℕ × AuditRecord N)). Among us x) (sym same) has);
      }
  filed_step s (Purge f present) may asked t = record {
    spelled = t.spelled;
    order = order_last 0 s.present present (rows_of s) t.order may.0;
    named = max_least s.purged f present (let n : s.purged ≤ s.present = t.named in omega (arith, n, may.0)) may.1;
    floors = λ x has lt. ⊎_elim
        (λ (a : x.0 < s.purged). t.floors x has a)
        (λ (b : x.0 < f). asked x has b)
        (max_or s.purged f x.0 lt);
  }
    where
      max_least : (a b c : ℕ) → a ≤ c → b ≤ c → max a b ≤ c
      max_least a b c x y = omega (arith, x, y)
  filed_step s (Failed by) may asked t = t
  filed_step s _ may asked t = absurd may
