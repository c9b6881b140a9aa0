-- Facts on one key's records.
use Rattle.std.proofs.Common.{◌≡◌, ◌≢◌, ◌⊎◌, Bool, true, false, cond, List, [], ◌∷◌, ◌++◌, Option, refl, ap, sym, ◌∙◌, subst, ⊎_elim, inl, inr, append_assoc, append-nil, reverse}
use Rattle.std.proofs.lemmas.List.{reverse-append}
use Rattle.any_node.specs.Layout.{Layout}
use Rattle.any_node.specs.Value.{AuditRecord, Ending, Among, Each, on, hit, commits, undo, redo, value, folded, latest}
use Rattle.any_node.proofs.Lists.{not_same, each_map, or_assoc, or_false, or_true, or_left, or_right}

module _ {N : Layout} where
  pub on_or : (b : Bool) (x : AuditRecord N) (xs ys zs : List (AuditRecord N)) → zs ≡ xs ++ ys → cond b (x ∷ zs) zs ≡ cond b (x ∷ xs) xs ++ ys
  on_or true x xs ys zs e = ap (λ us. x ∷ us) e
  on_or false x xs ys zs e = e

  pub on-append : (k : N.Key) (xs ys : List (AuditRecord N)) → on k (xs ++ ys) ≡ on k xs ++ on k ys
  on-append k [] ys = refl
  on-append k (x ∷ xs) ys = on_or (N.keys.same x.key k) x (on k xs) (on k ys) (on k (xs ++ ys)) (on-append k xs ys)

  pub redo-append : (c : N.Tx → Bool) (v : Option N.Val) (xs ys : List (AuditRecord N)) → redo c v (xs ++ ys) ≡ redo c (redo c v xs) ys
  redo-append c v [] ys = refl
  redo-append c v (x ∷ xs) ys = redo-append c (cond (c x.tx) x.after v) xs ys

  pub redo_none : (c : N.Tx → Bool) (v : Option N.Val) (rs : List (AuditRecord N)) → Each (λ r. c r.tx ≡ false) rs → redo c v rs ≡ v
  redo_none c v [] p = refl
  redo_none c v (r ∷ rs) p = redo_none c (cond (c r.tx) r.after v) rs p.1 ∙ ap (λ b. cond b r.after v) p.0

  pub redo_same : (c d : N.Tx → Bool) (v : Option N.Val) (rs : List (AuditRecord N)) → Each (λ r. c r.tx ≡ d r.tx) rs → redo c v rs ≡ redo d v rs
  redo_same c d v [] p = refl
  redo_same c d v (r ∷ rs) p = redo_same c d (cond (c r.tx) r.after v) rs p.1 ∙ ap (λ b. redo d (cond b r.after v) rs) p.0

  pub commits-append : (xs ys : List (Ending N)) (t : N.Tx) → commits (xs ++ ys) t ≡ cond (commits xs t) true (commits ys t)
  commits-append [] ys t = refl
  commits-append (x ∷ xs) ys t = ap (λ b. cond (hit x t) true b) (commits-append xs ys t) ∙ sym (or_assoc (hit x t) (commits xs t) (commits ys t))

  pub commits_or : (xs ys : List (Ending N)) (t : N.Tx) → commits xs t ≡ false → commits (xs ++ ys) t ≡ commits ys t
  commits_or xs ys t e = commits-append xs ys t ∙ ap (λ b. cond b true (commits ys t)) e

  pub commits_else : (xs : List (Ending N)) (x : Ending N) (t : N.Tx) → hit x t ≡ false → commits (xs ++ x ∷ []) t ≡ commits xs t
  commits_else xs x t e = commits-append xs (x ∷ []) t ∙ ap (λ b. cond (commits xs t) true (cond b true false)) e ∙ or_false (commits xs t)

  pub commits_hit : (xs : List (Ending N)) (x : Ending N) (t : N.Tx) → hit x t ≡ true → commits (xs ++ x ∷ []) t ≡ true
  commits_hit xs x t e = commits-append xs (x ∷ []) t ∙ ap (λ b. cond (commits xs t) true (cond b true false)) e ∙ or_true (commits xs t)

  -- no record there is of a transaction that x commits, or the last one is
  abbrev pub Ends : Ending N → List (AuditRecord N) → Type 0
  Ends x rs = Each (λ r. hit x r.tx ≡ false) rs ⊎ ((ys : List (AuditRecord N)) × (r : AuditRecord N) × (rs ≡ ys ++ r ∷ []) × (hit x r.tx ≡ true))

  pub redo_last : (c : N.Tx → Bool) (v : Option N.Val) (ys : List (AuditRecord N)) (r : AuditRecord N) → c r.tx ≡ true → redo c v (ys ++ r ∷ []) ≡ r.after
  redo_last c v ys r e = redo-append c v ys (r ∷ []) ∙ ap (λ b. cond b r.after (redo c v ys)) e

  pub one : (old : List (Ending N)) (x : Ending N) (v : Option N.Val) (rs : List (AuditRecord N)) → Ends x rs → redo (commits (old ++ x ∷ [])) v rs ≡ redo (hit x) (redo (commits old) v rs) rs
  one old x v rs h =
      ⊎_elim
      (λ (no : Each (λ r. hit x r.tx ≡ false) rs).
      redo_same (commits (old ++ x ∷ [])) (commits old) v rs (each_map (λ r. hit x r.tx ≡ false) (λ r. commits (old ++ x ∷ []) r.tx ≡ commits old r.tx) rs (λ r e. commits_else old x r.tx e) no)
      ∙ sym (redo_none (hit x) (redo (commits old) v rs) rs no))
      (λ (yes : (ys : List (AuditRecord N)) × (r : AuditRecord N) × (rs ≡ ys ++ r ∷ []) × (hit x r.tx ≡ true)).
      subst (λ (us : List (AuditRecord N)). redo (commits (old ++ x ∷ [])) v us ≡ redo (hit x) (redo (commits old) v us) us) (sym yes.2)
      (redo_last (commits (old ++ x ∷ [])) v yes.0 yes.1 (commits_hit old x yes.1.tx yes.3) ∙ sym (redo_last (hit x) (redo (commits old) v (yes.0 ++ yes.1 ∷ [])) yes.0 yes.1 yes.3)))
      h

  pub settle : (rs : List (AuditRecord N)) (old new : List (Ending N)) (v : Option N.Val) → Each (λ x. Ends x rs) new → redo (commits (old ++ new)) v rs ≡ folded rs new (redo (commits old) v rs)
  settle rs old [] v h = ap (λ ms. redo (commits ms) v rs) (append-nil old)
  settle rs old (x ∷ xs) v h =
      ap (λ ms. redo (commits ms) v rs) (sym (append_assoc old (x ∷ []) xs))
      ∙ settle rs (old ++ x ∷ []) xs v h.1
      ∙ ap (λ w. folded rs xs w) (one old x v rs h.0)

  pub folded-append : (rs : List (AuditRecord N)) (xs ys : List (Ending N)) (v : Option N.Val) → folded rs (xs ++ ys) v ≡ folded rs ys (folded rs xs v)
  folded-append rs [] ys v = refl
  folded-append rs (x ∷ xs) ys v = folded-append rs xs ys (redo (hit x) v rs)

  -- a record of a transaction that is not committed there changes nothing of the fold
  pub folded_more : (rs : List (AuditRecord N)) (r : AuditRecord N) (xs : List (Ending N)) (v : Option N.Val) → commits xs r.tx ≡ false → folded (rs ++ r ∷ []) xs v ≡ folded rs xs v
  folded_more rs r [] v e = refl
  folded_more rs r (x ∷ xs) v e =
      folded_more rs r xs (redo (hit x) v (rs ++ r ∷ [])) (or_right (hit x r.tx) (commits xs r.tx) e)
      ∙ ap (λ w. folded rs xs w) (redo-append (hit x) v rs (r ∷ []) ∙ ap (λ b. cond b r.after (redo (hit x) v rs)) (or_left (hit x r.tx) (commits xs r.tx) e))

  -- the same of the value
  pub redo_more : (c : N.Tx → Bool) (rs : List (AuditRecord N)) (r : AuditRecord N) (v : Option N.Val) → c r.tx ≡ false → redo c v (rs ++ r ∷ []) ≡ redo c v rs
  redo_more c rs r v e = redo-append c v rs (r ∷ []) ∙ ap (λ b. cond b r.after (redo c v rs)) e

  pub undo-append : (b : Option N.Val) (xs ys : List (AuditRecord N)) → undo b (xs ++ ys) ≡ undo (undo b ys) xs
  undo-append b [] ys = refl
  undo-append b (x ∷ xs) ys = refl

  -- the image's records are the opening ones and a front of those made; what is behind the front is not committed
  pub image : (b base : Option N.Val) (old front rest : List (AuditRecord N)) (before mons : List (Ending N)) →
      value b old before ≡ base → undo base (front ++ rest) ≡ base →
      Each (λ r. commits mons r.tx ≡ false) old → Each (λ r. commits before r.tx ≡ false) front → Each (λ r. commits mons r.tx ≡ false) rest →
      value b (old ++ front) (before ++ mons) ≡ redo (commits mons) base (front ++ rest)
  image b base [] [] rest before mons opens first now then late =
      opens ∙ sym (redo_none (commits mons) base rest late)
  image b base [] (r ∷ front) rest before mons opens first now then late =
      redo_same (commits (before ++ mons)) (commits mons) r.before (r ∷ front) (each_map (λ r. commits before r.tx ≡ false) (λ r. commits (before ++ mons) r.tx ≡ commits mons r.tx) (r ∷ front) (λ r e. commits_or before mons r.tx e) then)
      ∙ ap (λ v. redo (commits mons) v (r ∷ front)) first
      ∙ sym (redo-append (commits mons) base (r ∷ front) rest ∙ redo_none (commits mons) (redo (commits mons) base (r ∷ front)) rest late)
  image b base (o ∷ old) front rest before mons opens first now then late =
      redo-append (commits (before ++ mons)) o.before (o ∷ old) front
      ∙ redo_same (commits (before ++ mons)) (commits mons) (redo (commits (before ++ mons)) o.before (o ∷ old)) front (each_map (λ r. commits before r.tx ≡ false) (λ r. commits (before ++ mons) r.tx ≡ commits mons r.tx) front (λ r e. commits_or before mons r.tx e) then)
      ∙ ap (λ v. redo (commits mons) v front) (redo_same (commits (before ++ mons)) (commits before) o.before (o ∷ old) (each_map (λ r. commits mons r.tx ≡ false) (λ r. commits (before ++ mons) r.tx ≡ commits before r.tx) (o ∷ old) (λ r e. commits-append before mons r.tx ∙ ap (λ b. cond (commits before r.tx) true b) e ∙ or_false (commits before r.tx)) now) ∙ opens)
      ∙ sym (redo-append (commits mons) base front rest ∙ redo_none (commits mons) (redo (commits mons) base front) rest late)

  pub on_each : (P : AuditRecord N → Type 0) (k : N.Key) (rs : List (AuditRecord N)) → Each P rs → Each P (on k rs)
  on_each P k [] p = tt
  on_each P k (r ∷ rs) p = pick (N.keys.same r.key k) (on_each P k rs p.1) where
    pick : (b : Bool) → Each P (on k rs) → Each P (cond b (r ∷ on k rs) (on k rs))
    pick true q = (p.0, q)
    pick false q = q

  find_here : (P : Ending N → Type 0) (x : Ending N) (xs : List (Ending N)) (t : N.Tx) (c b : Bool) → x.commit ≡ c → (N.txs.same t x.tx) ≡ b → P x → (commits xs t ≡ true → (y : Ending N) × Among xs y × P y × (y.commit ≡ true) × (t ≡ y.tx)) →
      cond (cond c b false) true (commits xs t) ≡ true → (y : Ending N) × Among (x ∷ xs) y × P y × (y.commit ≡ true) × (t ≡ y.tx)
  find_here P x xs t true true is same p more h = (x, inl refl, p, is, N.txs.equal t x.tx same)
  find_here P x xs t true false is same p more h = ((more h).0, inr (more h).1, (more h).2, (more h).3, (more h).4)
  find_here P x xs t false b is same p more h = ((more h).0, inr (more h).1, (more h).2, (more h).3, (more h).4)

  pub commits_find : (P : Ending N → Type 0) (xs : List (Ending N)) (t : N.Tx) → Each P xs → commits xs t ≡ true → (x : Ending N) × Among xs x × P x × (x.commit ≡ true) × (t ≡ x.tx)
  commits_find P [] t p e = absurd (cc (e))
  commits_find P (x ∷ xs) t p e = find_here P x xs t x.commit (N.txs.same t x.tx) refl refl p.0 (λ h. commits_find P xs t p.1 h) e

  pub commits_has : (xs : List (Ending N)) (t : N.Tx) → Among xs (record { tx = t; commit = true }) → commits xs t ≡ true
  commits_has [] t has = absurd has
  commits_has (x ∷ xs) t has =
      ⊎_elim
      (λ (e : x ≡ record { tx = t; commit = true }). subst (λ (y : Ending N). cond (hit y t) true (commits xs t) ≡ true) (sym e) (ap (λ b. cond b true (commits xs t)) (N.txs.reflexive t t refl)))
      (λ (h : Among xs (record { tx = t; commit = true })). ap (λ b. cond (hit x t) true b) (commits_has xs t h) ∙ or_true (hit x t))
      has

  pub hit_abort : (x : Ending N) (t : N.Tx) → x.commit ≡ false → hit x t ≡ false
  hit_abort x t e = ap (λ c. cond c (N.txs.same t x.tx) false) e

  pub hit_else : (x : Ending N) (t : N.Tx) → t ≢ x.tx → hit x t ≡ false
  hit_else x t n = ap (λ b. cond x.commit b false) (not_same N.txs t x.tx n) ∙ both x.commit where
    both : (b : Bool) → cond b false false ≡ false
    both true = refl
    both false = refl

  pub hit_it : (x : Ending N) (t : N.Tx) → x.commit ≡ true → t ≡ x.tx → hit x t ≡ true
  hit_it x t c e = ap (λ b. cond b (N.txs.same t x.tx) false) c ∙ N.txs.reflexive t x.tx e

  -- no transaction stands there twice
  abbrev pub Once : List (Ending N) → Type 0
  Once [] = Unit {0}
  Once (x ∷ xs) = Each (λ y. y.tx ≢ x.tx) xs × Once xs

  -- no record there is of t
  abbrev pub Absent : N.Tx → List (AuditRecord N) → Type 0
  Absent t rs = Each (λ r. r.tx ≢ t) rs

  -- the last record there is of t
  abbrev pub Last : N.Tx → List (AuditRecord N) → Type 0
  Last t rs = (ys : List (AuditRecord N)) × (r : AuditRecord N) × (rs ≡ ys ++ r ∷ []) × (r.tx ≡ t)

  pub on_here : (k : N.Key) (xs : List (AuditRecord N)) (r : AuditRecord N) → r.key ≡ k → on k (xs ++ r ∷ []) ≡ on k xs ++ r ∷ []
  on_here k xs r e = on-append k xs (r ∷ []) ∙ ap (λ b. on k xs ++ cond b (r ∷ []) []) (N.keys.reflexive r.key k e)

  pub on_else : (k : N.Key) (xs : List (AuditRecord N)) (r : AuditRecord N) → r.key ≢ k → on k (xs ++ r ∷ []) ≡ on k xs
  on_else k xs r n = on-append k xs (r ∷ []) ∙ ap (λ b. on k xs ++ cond b (r ∷ []) []) (not_same N.keys r.key k n) ∙ append-nil (on k xs)

  -- those of t
  abbrev pub by : N.Tx → List (AuditRecord N) → List (AuditRecord N)
  by t [] = []
  by t (r ∷ rs) = cond (N.txs.same r.tx t) (r ∷ by t rs) (by t rs)

  pub by_snoc_it : (t : N.Tx) (rs : List (AuditRecord N)) (r : AuditRecord N) → r.tx ≡ t → by t (rs ++ r ∷ []) ≡ by t rs ++ r ∷ []
  by_snoc_it t [] r e = ap (λ b. cond b (r ∷ []) []) (N.txs.reflexive r.tx t e)
  by_snoc_it t (x ∷ xs) r e = grow (N.txs.same x.tx t) x (by t (xs ++ r ∷ [])) (by t xs) r (by_snoc_it t xs r e) where
    grow : (b : Bool) (x : AuditRecord N) (us vs : List (AuditRecord N)) (r : AuditRecord N) → us ≡ vs ++ r ∷ [] → cond b (x ∷ us) us ≡ cond b (x ∷ vs) vs ++ r ∷ []
    grow true x us vs r e = ap (λ ws. x ∷ ws) e
    grow false x us vs r e = e

  pub by_snoc_else : (t : N.Tx) (rs : List (AuditRecord N)) (r : AuditRecord N) → r.tx ≢ t → by t (rs ++ r ∷ []) ≡ by t rs
  by_snoc_else t [] r n = ap (λ b. cond b (r ∷ []) []) (not_same N.txs r.tx t n)
  by_snoc_else t (x ∷ xs) r n = ap (λ us. cond (N.txs.same x.tx t) (x ∷ us) us) (by_snoc_else t xs r n)

  pub by_none : (t : N.Tx) (rs : List (AuditRecord N)) → Absent t rs → by t rs ≡ []
  by_none t [] p = refl
  by_none t (r ∷ rs) p = ap (λ b. cond b (r ∷ by t rs) (by t rs)) (not_same N.txs r.tx t p.0) ∙ by_none t rs p.1

  pub first_here : (k : N.Key) (r : AuditRecord N) (rs : List (AuditRecord N)) → r.key ≡ k → on k (r ∷ rs) ≡ r ∷ on k rs
  first_here k r rs e = ap (λ b. cond b (r ∷ on k rs) (on k rs)) (N.keys.reflexive r.key k e)

  pub first_else : (k : N.Key) (r : AuditRecord N) (rs : List (AuditRecord N)) → r.key ≢ k → on k (r ∷ rs) ≡ on k rs
  first_else k r rs n = ap (λ b. cond b (r ∷ on k rs) (on k rs)) (not_same N.keys r.key k n)

  pub on_none : (k : N.Key) (rs : List (AuditRecord N)) → ((r : AuditRecord N) → Among rs r → r.key ≢ k) → on k rs ≡ []
  on_none k [] f = refl
  on_none k (r ∷ rs) f = first_else k r rs (f r (inl refl)) ∙ on_none k rs (λ x has. f x (inr has))

  pub reverse_snoc : (xs : List (AuditRecord N)) (r : AuditRecord N) → reverse (xs ++ r ∷ []) ≡ r ∷ reverse xs
  reverse_snoc xs r = reverse-append xs (r ∷ [])

  pub latest-append : (v : Option N.Val) (xs ys : List (AuditRecord N)) → latest v (xs ++ ys) ≡ latest (latest v xs) ys
  latest-append v [] ys = refl
  latest-append v (x ∷ xs) ys = latest-append x.after xs ys

  -- each record found what the one before it left
  abbrev pub Linked : Option N.Val → List (AuditRecord N) → Type 0
  Linked v [] = Unit {0}
  Linked v (r ∷ rs) = (r.before ≡ v) × Linked r.after rs

  pub linked_snoc : (v : Option N.Val) (xs : List (AuditRecord N)) (r : AuditRecord N) → Linked v xs → r.before ≡ latest v xs → Linked v (xs ++ r ∷ [])
  linked_snoc v [] r l e = (e, tt)
  linked_snoc v (x ∷ xs) r l e = (l.0, linked_snoc x.after xs r l.1 e)

  pub linked_at : (v : Option N.Val) (xs : List (AuditRecord N)) (r : AuditRecord N) (ys : List (AuditRecord N)) → Linked v (xs ++ r ∷ ys) → r.before ≡ latest v xs
  linked_at v [] r ys l = l.0
  linked_at v (x ∷ xs) r ys l = linked_at x.after xs r ys l.1

  pub by_has : (t : N.Tx) (xs : List (AuditRecord N)) (r : AuditRecord N) → Among xs r → r.tx ≡ t → by t xs ≡ [] → ⊥
  by_has t [] r has e none = has
  by_has t (x ∷ xs) r has e none =
      ⊎_elim
      (λ (i : x ≡ r). (let it : (N.txs.same x.tx t) ≡ true = N.txs.reflexive x.tx t (ap (λ (z : AuditRecord N). z.tx) i ∙ e) in
      let some : x ∷ by t xs ≡ [] = sym (ap (λ b. cond b (x ∷ by t xs) (by t xs)) it) ∙ none in cc (some)))
      (λ (h : Among xs r). by_has t xs r h e (tail_none (N.txs.same x.tx t) x (by t xs) none))
      has
    where
      tail_none : (b : Bool) (x : AuditRecord N) (us : List (AuditRecord N)) → cond b (x ∷ us) us ≡ [] → us ≡ []
      tail_none true x us e = absurd (cc (e))
      tail_none false x us e = e

  pub on_among : (k : N.Key) (rs : List (AuditRecord N)) (r : AuditRecord N) → Among (on k rs) r → Among rs r
  on_among k [] r has = has
  on_among k (x ∷ xs) r has = pick (N.keys.same x.key k) (on_among k xs r) has where
    pick : (b : Bool) → (Among (on k xs) r → Among xs r) → Among (cond b (x ∷ on k xs) (on k xs)) r → Among (x ∷ xs) r
    pick true f h = ⊎_elim (λ (e : x ≡ r). inl e) (λ (i : Among (on k xs) r). inr (f i)) h
    pick false f h = inr (f h)
