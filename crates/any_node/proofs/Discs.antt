-- What holds of a disc's state through a history.
use Rattle.std.proofs.Common.{◌≡◌, ◌≢◌, ◌⊎◌, ℕ, ◌≤◌, ◌<◌, true, false, cond, List, [], ◌∷◌, ◌++◌, Option, Some, None, refl, ap, sym, ◌∙◌, subst, ⊎_elim, inl, inr, arith}
use Rattle.any_node.specs.Layout.{Layout, put}
use Rattle.any_node.specs.Value.{AuditRecord, Among, Each, on, undo}
use Rattle.any_node.specs.Node.{Disc, Cause, Event, Fact, allows_disc, asks_disc, step_disc, undoing, undo_record, holding, IsFree, freed, next}
use Rattle.any_node.specs.Node.Event.{Write, Read, Lock, Turn, Dumping, Undo, Close, Release, Draw, Drawn, Low, Lowered, Start, Raise, Failed}
use Rattle.any_node.specs.Node.Cause.{Busy, BusyFile, Full, Refused}
use Rattle.any_node.specs.Node.Fact.{Enlisted, Decided, Committed}
use Rattle.any_node.specs.Opening.{AreFrom}
use Rattle.any_node.proofs.Lists.{is_false, not_same, same_or, put_at, put_here, put_else, some≢none, among_last, each_append, each_left, each_right, each_map, each_at}
use Rattle.any_node.proofs.Values.{Absent, Last, on-append, undo-append, on_here, on_else, on_each}
use Rattle.any_node.proofs.Positions.{from_append, from_most}

module _ {N : Layout} where
  -- a transaction is not decided both ways
  abbrev pub OneClose : (Fact N → Type 0) → Type 0
  OneClose T = (t : N.Tx) (ds es : List ℕ) → T (Decided t true ds) → T (Decided t false es) → ⊥

  -- what is committed was decided so
  abbrev pub IsKnown : (Fact N → Type 0) → Type 0
  IsKnown T = (t : N.Tx) (p : ℕ) → T (Committed t p) → (ds : List ℕ) × T (Decided t true ds)

  pub record IsGood (T : Fact N → Type 0) (s : Disc N) : Type 0 where
    pub kept : (t : N.Tx) (k : N.Key) → s.released t ≡ false → Absent t (on k s.made) ⊎ ((s.held k ≡ Some t) × Last t (on k s.made))
    pub first : (k : N.Key) → undo (s.map k) (on k s.made) ≡ s.base k
    pub listed : Each (λ r. T (Enlisted r.tx s.number)) s.made
    pub numbered : AreFrom s.first s.made
    pub behind : (t : N.Tx) → s.undone t ≡ false → (r : AuditRecord N) → Among s.made r → r.tx ≡ t → r.position ≤ s.last t
    pub backed : (t : N.Tx) → s.undone t ≡ true → (ds : List ℕ) × T (Decided t false ds)
    pub let_go : (t : N.Tx) → s.released t ≡ true → ((p : ℕ) × T (Committed t p)) ⊎ (((ds : List ℕ) × T (Decided t false ds)) × (s.left t ≡ []))
    pub stack : (t : N.Tx) (r : AuditRecord N) → Among (s.left t) r → Absent t (on r.key s.made) → ⊥

  -- the state with one more record
  pub add_kept : (s : Disc N) (t : N.Tx) (r : AuditRecord N) (held : N.Key → Option N.Tx) → r.tx ≡ t → held r.key ≡ Some t → ((k : N.Key) → k ≢ r.key → held k ≡ s.held k) → ((u : N.Tx) → u ≢ t → s.held r.key ≡ Some u → ⊥) →
      ((u : N.Tx) (k : N.Key) → s.released u ≡ false → Absent u (on k s.made) ⊎ ((s.held k ≡ Some u) × Last u (on k s.made))) →
      (u : N.Tx) (k : N.Key) → s.released u ≡ false → Absent u (on k (s.made ++ r ∷ [])) ⊎ ((held k ≡ Some u) × Last u (on k (s.made ++ r ∷ [])))
  add_kept s t r held of has same apart kept u k live =
      ⊎_elim
      (λ (e : r.key ≡ k).
      subst (λ (rs : List (AuditRecord N)). Absent u rs ⊎ ((held k ≡ Some u) × Last u rs)) (sym (on_here k s.made r e))
      (⊎_elim
      (λ (here : u ≡ t). inr (subst (λ (j : N.Key). held j ≡ Some u) e (has ∙ ap (λ v. Some v) (sym here)), (on k s.made, r, refl, of ∙ sym here)))
      (λ (else : u ≢ t).
      ⊎_elim
      (λ (no : Absent u (on k s.made)). inl (each_append (λ x. x.tx ≢ u) (on k s.made) (r ∷ []) no ((λ same. else (sym same ∙ of)), tt)))
      (λ (yes : (s.held k ≡ Some u) × Last u (on k s.made)). absurd (apart u else (subst (λ (j : N.Key). s.held j ≡ Some u) (sym e) yes.0)))
      (kept u k live))
      (same_or N.txs u t)))
      (λ (n : r.key ≢ k).
      subst (λ (rs : List (AuditRecord N)). Absent u rs ⊎ ((held k ≡ Some u) × Last u rs)) (sym (on_else k s.made r n))
      (subst (λ (o : Option N.Tx). Absent u (on k s.made) ⊎ ((o ≡ Some u) × Last u (on k s.made))) (sym (same k (λ e. n (sym e)))) (kept u k live)))
      (same_or N.keys r.key k)

  pub add_first : (s : Disc N) (r : AuditRecord N) → r.before ≡ s.map r.key → ((k : N.Key) → undo (s.map k) (on k s.made) ≡ s.base k) →
      (k : N.Key) → undo (put N.keys r.key r.after s.map k) (on k (s.made ++ r ∷ [])) ≡ s.base k
  add_first s r was first k =
      ⊎_elim
      (λ (e : r.key ≡ k).
      ap (λ rs. undo (put N.keys r.key r.after s.map k) rs) (on_here k s.made r e)
      ∙ undo-append (put N.keys r.key r.after s.map k) (on k s.made) (r ∷ [])
      ∙ ap (λ v. undo v (on k s.made)) (was ∙ ap s.map e)
      ∙ first k)
      (λ (n : r.key ≢ k).
      ap (λ rs. undo (put N.keys r.key r.after s.map k) rs) (on_else k s.made r n)
      ∙ ap (λ v. undo v (on k s.made)) (put_else N.keys r.key r.after s.map k (λ e. n (sym e)))
      ∙ first k)
      (same_or N.keys r.key k)

  -- still there with one more record
  add_stack : (u : N.Tx) (k : N.Key) (rs : List (AuditRecord N)) (r : AuditRecord N) → (Absent u (on k rs) → ⊥) → Absent u (on k (rs ++ r ∷ [])) → ⊥
  add_stack u k rs r has gone = has (each_left (λ x. x.tx ≢ u) (on k rs) (on k (r ∷ [])) (subst (λ (xs : List (AuditRecord N)). Absent u xs) (on-append k rs (r ∷ [])) gone))

  new_stack : (u : N.Tx) (rs : List (AuditRecord N)) (r : AuditRecord N) → r.tx ≡ u → Absent u (on r.key (rs ++ r ∷ [])) → ⊥
  new_stack u rs r of gone =
      let here : Absent u (on r.key rs ++ r ∷ []) = subst (λ (xs : List (AuditRecord N)). Absent u xs) (on_here r.key rs r refl) gone in
      (each_right (λ x. x.tx ≢ u) (on r.key rs) (r ∷ []) here).0 of

  pub good_more : (T U : Fact N → Type 0) (s : Disc N) → ((f : Fact N) → T f → U f) → IsGood T s → IsGood U s
  good_more T U s more g =
      record {
        kept = g.kept;
        first = g.first;
        listed = each_map (λ r. T (Enlisted r.tx s.number)) (λ r. U (Enlisted r.tx s.number)) s.made (λ r x. more (Enlisted r.tx s.number) x) g.listed;
        numbered = g.numbered;
        behind = g.behind;
        backed = λ t e. (let b = g.backed t e in b.0, more (Decided t false (g.backed t e).0) (g.backed t e).1);
        let_go = λ t e. ⊎_elim (λ (x : (p : ℕ) × T (Committed t p)). inl (x.0, more (Committed t x.0) x.1)) (λ (x : ((ds : List ℕ) × T (Decided t false ds)) × (s.left t ≡ [])). inr ((x.0.0, more (Decided t false x.0.0) x.0.1), x.1)) (g.let_go t e);
        stack = g.stack;
      }

  -- one more record has the next position
  add_numbered : (s : Disc N) (r : AuditRecord N) → r.position ≡ next s → AreFrom s.first s.made → AreFrom s.first (s.made ++ r ∷ [])
  add_numbered s r e a = from_append s.first s.made (r ∷ []) a (e, tt)

  -- a record of another
  add_behind : (u t : N.Tx) (n : ℕ) (rs : List (AuditRecord N)) (r : AuditRecord N) → r.tx ≡ t → u ≢ t → ((x : AuditRecord N) → Among rs x → x.tx ≡ u → x.position ≤ n) → (x : AuditRecord N) → Among (rs ++ r ∷ []) x → x.tx ≡ u → x.position ≤ n
  add_behind u t n rs r of else old x has e = ⊎_elim (λ (a : Among rs x). old x a e) (λ (i : r ≡ x). absurd (else (sym e ∙ ap (λ (z : AuditRecord N). z.tx) (sym i) ∙ of))) (among_last rs r x has)

module _ (N : Layout) (T : Fact N → Type 0) (s : Disc N) where
  pub good_write : (t : N.Tx) (r : AuditRecord N) → allows_disc N s (Write t r) → T (Enlisted t s.number) → IsGood T s → IsGood T (step_disc N s (Write t r))
  good_write t r may listed g =
      record {
        kept = add_kept s t r (put N.keys r.key (Some t) s.held) may.2 (put_here N.keys r.key (Some t) s.held) (λ k n. put_else N.keys r.key (Some t) s.held k n)
            (λ u n has. ⊎_elim (λ (e : s.held r.key ≡ None). some≢none u (sym has ∙ e)) (λ (e : s.held r.key ≡ Some t). n (let same : Some u ≡ Some t = sym has ∙ e in cc (same))) may.1.0) g.kept;
        first = add_first s r may.3 g.first;
        listed = each_append (λ x. T (Enlisted x.tx s.number)) s.made (r ∷ []) g.listed (subst (λ (u : N.Tx). T (Enlisted u s.number)) (sym may.2) listed, tt);
        numbered = add_numbered s r may.7 g.numbered;
        behind = λ u e. put_at N.txs (λ n. (x : AuditRecord N) → Among (s.made ++ r ∷ []) x → x.tx ≡ u → x.position ≤ n) t r.position s.last u
            (λ here x has is. ⊎_elim
            (λ (a : Among s.made x). (let lt : x.position < next s = each_at (λ z. z.position < next s) s.made x (from_most s.first s.made g.numbered) a in let at : r.position ≡ next s = may.7 in omega (arith, lt, at)))
            (λ (i : r ≡ x). (let same : r.position ≡ x.position = ap (λ (z : AuditRecord N). z.position) i in omega (arith, same)))
            (among_last s.made r x has))
            (λ else. add_behind u t (s.last u) s.made r may.2 else (g.behind u e));
        backed = g.backed;
        let_go = λ u e. ⊎_elim (λ (x : (p : ℕ) × T (Committed u p)). inl x) (λ (x : ((ds : List ℕ) × T (Decided u false ds)) × (s.left u ≡ [])). inr (x.0, put_at N.txs (λ xs. xs ≡ []) t (r ∷ s.left t) s.left u (λ here. absurd (cc (e, ap s.released here, may.0.2))) (λ else. x.1))) (g.let_go u e);
        stack = λ u x. put_at N.txs (λ xs. Among xs x → Absent u (on x.key (s.made ++ r ∷ [])) → ⊥) t (r ∷ s.left t) s.left u
            (λ here has. ⊎_elim
            (λ (e : r ≡ x). subst (λ (y : AuditRecord N). Absent u (on y.key (s.made ++ r ∷ [])) → ⊥) e (new_stack u s.made r (may.2 ∙ sym here)))
            (λ (in_left : Among (s.left t) x). add_stack u x.key s.made r (g.stack u x (subst (λ (v : N.Tx). Among (s.left v) x) (sym here) in_left)))
            has)
            (λ else has. add_stack u x.key s.made r (g.stack u x has));
      }

  pub good_hold : (t : N.Tx) (k : N.Key) → IsFree (s.held k) t → IsGood T s → IsGood T (holding N t k s)
  good_hold t k free g =
      record {
        kept = λ u j live. ⊎_elim
            (λ (no : Absent u (on j s.made)). inl no)
            (λ (yes : (s.held j ≡ Some u) × Last u (on j s.made)).
            inr (
              put_at N.keys (λ o. o ≡ Some u) k (Some t) s.held j
                  (λ here. ⊎_elim (λ (e : s.held k ≡ None). absurd (some≢none u (sym yes.0 ∙ ap s.held here ∙ e))) (λ (e : s.held k ≡ Some t). sym e ∙ ap s.held (sym here) ∙ yes.0) free)
                  (λ else. yes.0),
              yes.1,
            ))
            (g.kept u j live);
        first = g.first;
        listed = g.listed;
        numbered = g.numbered;
        behind = g.behind;
        backed = g.backed;
        let_go = g.let_go;
        stack = g.stack;
      }

  still_held : (t u : N.Tx) (o : Option N.Tx) → o ≡ Some u → u ≢ t → freed N.txs t o ≡ Some u
  still_held t u None e n = e
  still_held t u (Some h) e n = let same : h ≡ u = cc (e) in ap (λ b. cond b None (Some h)) (not_same N.txs h t (λ x. n (sym same ∙ x))) ∙ e

  pub good_release : (t : N.Tx) → asks_disc N T s (Release t) → IsGood T s → IsGood T (step_disc N s (Release t))
  good_release t asked g =
      record {
        kept = λ u k. put_at N.txs (λ b. b ≡ false → Absent u (on k s.made) ⊎ ((freed N.txs t (s.held k) ≡ Some u) × Last u (on k s.made))) t true s.released u
            (λ here live. absurd (cc (live)))
            (λ else live. ⊎_elim (λ (no : Absent u (on k s.made)). inl no) (λ (yes : (s.held k ≡ Some u) × Last u (on k s.made)). inr (still_held t u (s.held k) yes.0 else, yes.1)) (g.kept u k live));
        first = g.first;
        listed = g.listed;
        numbered = g.numbered;
        behind = g.behind;
        backed = g.backed;
        let_go = λ u. put_at N.txs (λ b. b ≡ true → ((p : ℕ) × T (Committed u p)) ⊎ (((ds : List ℕ) × T (Decided u false ds)) × (s.left u ≡ []))) t true s.released u
            (λ here _. subst (λ (v : N.Tx). ((p : ℕ) × T (Committed v p)) ⊎ (((ds : List ℕ) × T (Decided v false ds)) × (s.left v ≡ []))) (sym here) asked)
            (λ else e. g.let_go u e);
        stack = g.stack;
      }

  -- what a transaction with something left to undo holds
  pub holds_left : OneClose T → IsKnown T → IsGood T s →
      (t : N.Tx) (r : AuditRecord N) (rs : List (AuditRecord N)) → s.left t ≡ r ∷ rs → (ds : List ℕ) × T (Decided t false ds) → s.held r.key ≡ Some t
  holds_left clash known g t r rs is abort =
      let live : s.released t ≡ false = is_false (s.released t) (λ e. ⊎_elim (λ (x : (p : ℕ) × T (Committed t p)). clash t (known t x.0 x.1).0 abort.0 (known t x.0 x.1).1 abort.1) (λ (x : ((ds : List ℕ) × T (Decided t false ds)) × (s.left t ≡ [])). (let no : r ∷ rs ≡ [] = sym is ∙ x.1 in absurd (cc (no)))) (g.let_go t e)) in
      ⊎_elim
      (λ (no : Absent t (on r.key s.made)). absurd (g.stack t r (subst (λ (xs : List (AuditRecord N)). Among xs r) (sym is) (inl refl)) no))
      (λ (yes : (s.held r.key ≡ Some t) × Last t (on r.key s.made)). yes.0)
      (g.kept t r.key live)

  pub good_undo : OneClose T → IsKnown T →
      (t : N.Tx) (r : AuditRecord N) (rs : List (AuditRecord N)) → s.left t ≡ r ∷ rs → (ds : List ℕ) × T (Decided t false ds) → T (Enlisted t s.number) → IsGood T s → IsGood T (undoing N t s (r ∷ rs))
  good_undo clash known t r rs is abort listed g =
      let has = holds_left clash known g t r rs is abort in
      let new : AuditRecord N = undo_record N t s r in
      record {
        kept = add_kept s t new s.held refl has (λ k n. refl) (λ u n other. n (let same : Some u ≡ Some t = sym other ∙ has in cc (same))) g.kept;
        first = add_first s new refl g.first;
        listed = each_append (λ x. T (Enlisted x.tx s.number)) s.made (new ∷ []) g.listed (listed, tt);
        numbered = add_numbered s new refl g.numbered;
        behind = λ u. put_at N.txs (λ b. b ≡ false → (x : AuditRecord N) → Among (s.made ++ new ∷ []) x → x.tx ≡ u → x.position ≤ s.last u) t true s.undone u
            (λ here live. absurd (cc (live)))
            (λ else live. add_behind u t (s.last u) s.made new refl else (g.behind u live));
        backed = λ u. put_at N.txs (λ b. b ≡ true → (ds : List ℕ) × T (Decided u false ds)) t true s.undone u
            (λ here _. subst (λ (v : N.Tx). (ds : List ℕ) × T (Decided v false ds)) (sym here) abort)
            (λ else e. g.backed u e);
        let_go = λ u e. ⊎_elim (λ (x : (p : ℕ) × T (Committed u p)). inl x) (λ (x : ((ds : List ℕ) × T (Decided u false ds)) × (s.left u ≡ [])). inr (x.0, put_at N.txs (λ xs. xs ≡ []) t rs s.left u (λ here. (let no : r ∷ rs ≡ [] = sym is ∙ ap s.left (sym here) ∙ x.1 in absurd (cc (no)))) (λ else. x.1))) (g.let_go u e);
        stack = λ u x. put_at N.txs (λ xs. Among xs x → Absent u (on x.key (s.made ++ new ∷ [])) → ⊥) t rs s.left u
            (λ here has_it. add_stack u x.key s.made new (g.stack u x (subst (λ (v : N.Tx). Among (s.left v) x) (sym here) (subst (λ (xs : List (AuditRecord N)). Among xs x) (sym is) (inr has_it)))))
            (λ else has_it. add_stack u x.key s.made new (g.stack u x has_it));
      }

  -- a transaction that is backed out with something left has not released
  pub live_left : OneClose T → IsKnown T → IsGood T s → (t : N.Tx) (r : AuditRecord N) (rs : List (AuditRecord N)) → s.left t ≡ r ∷ rs → (ds : List ℕ) × T (Decided t false ds) → s.released t ≡ false
  live_left clash known g t r rs is abort =
      is_false (s.released t) (λ e. ⊎_elim (λ (x : (p : ℕ) × T (Committed t p)). clash t (known t x.0 x.1).0 abort.0 (known t x.0 x.1).1 abort.1) (λ (x : ((ds : List ℕ) × T (Decided t false ds)) × (s.left t ≡ [])). (let both : r ∷ rs ≡ [] = sym is ∙ x.1 in absurd (cc (both)))) (g.let_go t e))

  pub enlisted_left : IsGood T s → (t : N.Tx) (r : AuditRecord N) (rs : List (AuditRecord N)) → s.left t ≡ r ∷ rs → s.released t ≡ false → T (Enlisted t s.number)
  enlisted_left g t r rs is live =
      ⊎_elim
      (λ (gone : Absent t (on r.key s.made)). absurd (g.stack t r (subst (λ (xs : List (AuditRecord N)). Among xs r) (sym is) (inl refl)) gone))
      (λ (yes : (s.held r.key ≡ Some t) × Last t (on r.key s.made)).
      let all : Each (λ x. T (Enlisted x.tx s.number)) (yes.1.0 ++ yes.1.1 ∷ []) = subst (λ (xs : List (AuditRecord N)). Each (λ x. T (Enlisted x.tx s.number)) xs) yes.1.2 (on_each (λ x. T (Enlisted x.tx s.number)) r.key s.made g.listed) in
      subst (λ (u : N.Tx). T (Enlisted u s.number)) yes.1.3 (each_right (λ x. T (Enlisted x.tx s.number)) yes.1.0 (yes.1.1 ∷ []) all).0)
      (g.kept t r.key live)

  good_turn : (t : N.Tx) (why : Cause N) → allows_disc N s (Turn t why) → IsGood T s → IsGood T (step_disc N s (Turn t why))
  good_turn t (Busy k h) may g = g
  good_turn t (BusyFile f h) may g = g
  good_turn t (Full k o) may g = good_hold t k may.1.0 g
  good_turn t (Refused k o) may g = good_hold t k may.1.0 g

  pub good_step : OneClose T → IsKnown T → (e : Event N) → allows_disc N s e → asks_disc N T s e → IsGood T s → IsGood T (step_disc N s e)
  good_step clash known (Write t r) may asked g = good_write t r may asked g
  good_step clash known (Read t k v) may asked g = good_hold t k may.1.0 g
  good_step clash known (Lock t f) may asked g = record { kept = g.kept; first = g.first; listed = g.listed; numbered = g.numbered; behind = g.behind; backed = g.backed; let_go = g.let_go; stack = g.stack }
  good_step clash known (Turn t why) may asked g = good_turn t why may g
  good_step clash known (Dumping by) may asked g = g
  good_step clash known (Undo t) may asked g =
      let live = live_left clash known g t may.0 may.1 may.2 asked in
      subst (λ (rs : List (AuditRecord N)). IsGood T (undoing N t s rs)) (sym may.2) (good_undo clash known t may.0 may.1 may.2 asked (enlisted_left g t may.0 may.1 may.2 live) g)
  good_step clash known (Release t) may asked g = good_release t asked g
  good_step clash known (Failed by) may asked g = g
  good_step clash known (Close t) may asked g = record { kept = g.kept; first = g.first; listed = g.listed; numbered = g.numbered; behind = g.behind; backed = g.backed; let_go = g.let_go; stack = g.stack }
  good_step clash known (Draw b n) may asked g = record { kept = g.kept; first = g.first; listed = g.listed; numbered = g.numbered; behind = g.behind; backed = g.backed; let_go = g.let_go; stack = g.stack }
  good_step clash known (Drawn b) may asked g = record { kept = g.kept; first = g.first; listed = g.listed; numbered = g.numbered; behind = g.behind; backed = g.backed; let_go = g.let_go; stack = g.stack }
  good_step clash known (Low by l) may asked g = record { kept = g.kept; first = g.first; listed = g.listed; numbered = g.numbered; behind = g.behind; backed = g.backed; let_go = g.let_go; stack = g.stack }
  good_step clash known Lowered may asked g = record { kept = g.kept; first = g.first; listed = g.listed; numbered = g.numbered; behind = g.behind; backed = g.backed; let_go = g.let_go; stack = g.stack }
  good_step clash known (Start by i l) may asked g = record { kept = g.kept; first = g.first; listed = g.listed; numbered = g.numbered; behind = g.behind; backed = g.backed; let_go = g.let_go; stack = g.stack }
  good_step clash known (Raise i r) may asked g = record { kept = g.kept; first = g.first; listed = g.listed; numbered = g.numbered; behind = g.behind; backed = g.backed; let_go = g.let_go; stack = g.stack }
  good_step clash known _ may asked g = absurd may
