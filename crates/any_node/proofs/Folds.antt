-- The fold by operations is the fold by records.
use Rattle.std.proofs.Common.{◌≡◌, ◌≢◌, ◌⊎◌, ℕ, Bool, true, false, cond, List, [], ◌∷◌, ◌++◌, Option, Some, None, slice_get, refl, ap, sym, ◌∙◌, subst, ⊎_elim, inl, inr, append_assoc, append-nil, reverse}
use Rattle.any_node.specs.Layout.{Layout, put}
use Rattle.any_node.specs.Value.{AuditRecord, Ending, Each, on, hit, commits, redo, folded}
use Rattle.any_node.specs.Node.{Disc, Monitor, Cause, State, Event, Fact, Backed, allows_disc, allows_turn, asks_disc, asks_turn, step_disc, step_turn, step_monitor, undoing, undo_record}
use Rattle.any_node.specs.Node.State.{disc, monitor}
use Rattle.any_node.specs.Node.Cause.{Busy, BusyFile, Full, Refused}
use Rattle.any_node.specs.Node.Event.{Write, Read, Turn, Undo, Release, OfferCar, Land}
use Rattle.any_node.specs.Node.Fact.{Decided, Committed}
use Rattle.any_node.proofs.Lists.{is_false, true_or_false, same_or, put_at, put_here, put_else, each_left, each_right, each_from}
use Rattle.any_node.proofs.Values.{Absent, Last, Once, by, by_snoc_it, by_snoc_else, on_here, on_else, first_here, first_else, on_none, reverse_snoc, redo-append, redo_none, folded-append, commits_else, commits_hit, commits_has, hit_abort, hit_else, hit_it}
use Rattle.any_node.proofs.Facts.{turn_cases}
use Rattle.any_node.proofs.Parts.{True, clash, committed_here}
use Rattle.any_node.proofs.Discs.{IsGood, holds_left}
use Rattle.any_node.proofs.Monitors.{IsFair, uncommitted, not_both}
use Rattle.any_node.proofs.Invariant.{Inv, knows}
use Rattle.any_node.proofs.Chains.{waiting, Back, run_ops, Runs, IsFine, IsStacked, back_runs, runs_append, runs_none, fine_write, fine_undo, fine_hold, fine_release}

module _ (N : Layout) where
  by_same : (u : N.Tx) (k : N.Key) (rs : List (AuditRecord N)) (r : AuditRecord N) → r.tx ≢ u → by u (on k (rs ++ r ∷ [])) ≡ by u (on k rs)
  by_same u k rs r n = ⊎_elim
      (λ (e : r.key ≡ k). ap (λ us. by u us) (on_here k rs r e) ∙ by_snoc_else u (on k rs) r n)
      (λ (d : r.key ≢ k). ap (λ us. by u us) (on_else k rs r d))
      (same_or N.keys r.key k)

  pub stacked_step : (T : Fact N → Type 0) (s : Disc N) (e : Event N) → allows_disc N s e → IsStacked N s → IsStacked N (step_disc N s e)
  stacked_step T s (Write t r) may h = λ u k live.
      put_at N.txs (λ us. on k us ≡ reverse (by u (on k (s.made ++ r ∷ [])))) t (r ∷ s.left t) s.left u
      (λ here. ⊎_elim
      (λ (e : r.key ≡ k).
      first_here k r (s.left t) e ∙ ap (λ us. r ∷ us) (ap (λ v. on k (s.left v)) (sym here) ∙ h u k live)
      ∙ sym (ap (λ us. reverse (by u us)) (on_here k s.made r e) ∙ ap reverse (by_snoc_it u (on k s.made) r (may.2 ∙ sym here)) ∙ reverse_snoc (by u (on k s.made)) r))
      (λ (n : r.key ≢ k).
      first_else k r (s.left t) n ∙ ap (λ v. on k (s.left v)) (sym here) ∙ h u k live ∙ sym (ap (λ us. reverse (by u us)) (on_else k s.made r n)))
      (same_or N.keys r.key k))
      (λ else. h u k live ∙ sym (ap reverse (by_same u k s.made r (λ e. else (sym e ∙ may.2)))))
  stacked_step T s (Undo t) may h =
      subst (λ (xs : List (AuditRecord N)). IsStacked N (undoing N t s xs)) (sym may.2)
      (λ u k live. ⊎_elim
      (λ (e : u ≡ t). (let both : true ≡ false = sym (put_here N.txs t true s.undone) ∙ ap (λ v. put N.txs t true s.undone v) (sym e) ∙ live in absurd (cc (both))))
      (λ (n : u ≢ t).
      ap (λ us. on k us) (put_else N.txs t may.1 s.left u n)
      ∙ h u k (sym (put_else N.txs t true s.undone u n) ∙ live)
      ∙ sym (ap reverse (by_same u k s.made (undo_record N t s may.0) (λ e. n (sym e)))))
      (same_or N.txs u t))
  stacked_step T s (Turn t why) may h = turn_cases N (λ z. IsStacked N z) t why s h (λ k. h)
  stacked_step T s _ may h = h

  -- what is so of an offered record at one key
  abbrev pub Settles : Disc N → N.Key → Ending N → Type 0
  Settles s k x = x.commit ≡ true → (Absent x.tx (on k s.made) × (on k (s.left x.tx) ≡ [])) ⊎ ((s.held k ≡ Some x.tx) × Last x.tx (on k s.made) × (on k (s.left x.tx) ≡ reverse (by x.tx (on k s.made))))

  pub settles : (ss : List (State N)) → Inv N ss → (q r : ℕ) (s : Disc N) (m : Monitor N) → slice_get ss q ≡ Some (disc s) → slice_get ss r ≡ Some (monitor m) → IsStacked N s → (k : N.Key) (x : Ending N) → Backed N (True N ss) x → commits m.landed x.tx ≡ false → Settles s k x
  settles ss inv q r s m at at_m stacked k x b fresh = λ c.
      let g : IsGood (True N ss) s = inv.discs q s at in
      let close : True N ss (Decided x.tx true b.0) = subst (λ (c : Bool). True N ss (Decided x.tx c b.0)) c b.1 in
      let live : s.released x.tx ≡ false = is_false (s.released x.tx) (λ e. ⊎_elim
      (λ (y : (p : ℕ) × True N ss (Committed x.tx p)). (let both : true ≡ false = sym (commits_has m.landed x.tx (committed_here N ss inv.apart r m at_m x.tx y.0 y.1)) ∙ fresh in cc (both)))
      (λ (y : ((ds : List ℕ) × True N ss (Decided x.tx false ds)) × (s.left x.tx ≡ [])). clash N ss inv.apart x.tx b.0 y.0.0 close y.0.1)
      (g.let_go x.tx e)) in
      let fine : s.undone x.tx ≡ false = is_false (s.undone x.tx) (λ u. clash N ss inv.apart x.tx b.0 (g.backed x.tx u).0 close (g.backed x.tx u).1) in
      ⊎_elim
      (λ (gone : Absent x.tx (on k s.made)). inl (gone, on_none k (s.left x.tx) (λ y has e. g.stack x.tx y has (subst (λ (j : N.Key). Absent x.tx (on j s.made)) (sym e) gone))))
      (λ (yes : (s.held k ≡ Some x.tx) × Last x.tx (on k s.made)). inr (yes.0, yes.1, stacked x.tx k fine))
      (g.kept x.tx k live)

  pub fresh_more : (xs ys : List (Ending N)) (x : Ending N) → Each (λ y. commits xs y.tx ≡ false) ys → Each (λ y. y.tx ≢ x.tx) ys → Each (λ y. commits (xs ++ x ∷ []) y.tx ≡ false) ys
  fresh_more xs [] x p q = tt
  fresh_more xs (y ∷ ys) x p q = (commits_else xs x y.tx (hit_else x y.tx q.0) ∙ p.0, fresh_more xs ys x p.1 q.1)

  waiting_more : (xs : List (Ending N)) (x : Ending N) (left : N.Tx → List (AuditRecord N)) (k : N.Key) (o : Option N.Tx) → ((h : N.Tx) → (hit x h ≡ true) → on k (left h) ≡ []) → waiting (xs ++ x ∷ []) left k o ≡ waiting xs left k o
  waiting_more xs x left k None f = refl
  waiting_more xs x left k (Some h) f =
      ⊎_elim
      (λ (e : hit x h ≡ true). ap (λ us. cond (commits (xs ++ x ∷ []) h) [] us) (f h e) ∙ either (commits (xs ++ x ∷ []) h) (commits xs h) ∙ sym (ap (λ us. cond (commits xs h) [] us) (f h e)))
      (λ (e : hit x h ≡ false). ap (λ b. cond b [] (on k (left h))) (commits_else xs x h e))
      (true_or_false (hit x h))
    where
      either : (a b : Bool) → cond {A = List (AuditRecord N)} a [] [] ≡ cond {A = List (AuditRecord N)} b [] []
      either true true = refl
      either true false = refl
      either false true = refl
      either false false = refl

  hit_tx : (x : Ending N) (h : N.Tx) → hit x h ≡ true → (x.commit ≡ true) × (h ≡ x.tx)
  hit_tx x h e = pick x.commit (N.txs.same h x.tx) refl refl e where
    pick : (a b : Bool) → x.commit ≡ a → (N.txs.same h x.tx) ≡ b → cond a b false ≡ true → (x.commit ≡ true) × (h ≡ x.tx)
    pick true true p q e = (p, N.txs.equal h x.tx q)
    pick true false p q e = absurd (cc (e))
    pick false b p q e = absurd (cc (e))

  -- a record of a car at one key
  pub land_one : (s : Disc N) (k : N.Key) (old : List (Ending N)) (x : Ending N) (v : Option N.Val) → Settles s k x → commits old x.tx ≡ false → Back N v (waiting old s.left k (s.held k)) (s.map k) →
      (x.commit ≡ true → run_ops N (by x.tx (on k s.made)) v ≡ Some (redo (hit x) v (on k s.made))) × Back N (redo (hit x) v (on k s.made)) (waiting (old ++ x ∷ []) s.left k (s.held k)) (s.map k)
  land_one s k old x v st fresh b =
      ⊎_elim
      (λ (c : x.commit ≡ true).
      ⊎_elim
      (λ (gone : Absent x.tx (on k s.made) × (on k (s.left x.tx) ≡ [])).
      let one = runs_none N x (on k s.made) v gone.0 in
      let w : waiting (old ++ x ∷ []) s.left k (s.held k) ≡ waiting old s.left k (s.held k) = waiting_more old x s.left k (s.held k) (λ h e. ap (λ u. on k (s.left u)) (hit_tx x h e).1 ∙ gone.1) in
      together (λ _. one.0 ∙ ap (λ y. Some y) (sym one.1)) (subst (λ (us : List (AuditRecord N)). Back N (redo (hit x) v (on k s.made)) us (s.map k)) (sym w) (subst (λ (y : Option N.Val). Back N y (waiting old s.left k (s.held k)) (s.map k)) (sym one.1) b)))
      (λ (yes : (s.held k ≡ Some x.tx) × Last x.tx (on k s.made) × (on k (s.left x.tx) ≡ reverse (by x.tx (on k s.made)))).
      let w_old : waiting old s.left k (s.held k) ≡ reverse (by x.tx (on k s.made)) = ap (λ o. waiting old s.left k o) yes.0 ∙ ap (λ b. cond b [] (on k (s.left x.tx))) fresh ∙ yes.2 in
      let w_new : waiting (old ++ x ∷ []) s.left k (s.held k) ≡ [] = ap (λ o. waiting (old ++ x ∷ []) s.left k o) yes.0 ∙ ap (λ b. cond b [] (on k (s.left x.tx))) (commits_hit old x x.tx (hit_it x x.tx c refl)) in
      let b_old : Back N v (reverse (by x.tx (on k s.made))) (s.map k) = subst (λ (us : List (AuditRecord N)). Back N v us (s.map k)) w_old b in
      let top : reverse (by x.tx (on k s.made)) ≡ yes.1.1 ∷ reverse (by x.tx yes.1.0) = ap (λ us. reverse (by x.tx us)) yes.1.2 ∙ ap reverse (by_snoc_it x.tx yes.1.0 yes.1.1 yes.1.3) ∙ reverse_snoc (by x.tx yes.1.0) yes.1.1 in
      let b_top : Back N v (yes.1.1 ∷ reverse (by x.tx yes.1.0)) (s.map k) = subst (λ (us : List (AuditRecord N)). Back N v us (s.map k)) top b_old in
      let last : redo (hit x) v (on k s.made) ≡ s.map k =
      ap (λ us. redo (hit x) v us) yes.1.2 ∙ redo-append (hit x) v yes.1.0 (yes.1.1 ∷ []) ∙ ap (λ d. cond d yes.1.1.after (redo (hit x) v yes.1.0)) (hit_it x yes.1.1.tx c yes.1.3) ∙ b_top.0 in
      together (λ _. back_runs N (by x.tx (on k s.made)) v (s.map k) b_old ∙ ap (λ y. Some y) (sym last)) (subst (λ (us : List (AuditRecord N)). Back N (redo (hit x) v (on k s.made)) us (s.map k)) (sym w_new) last))
      (st c))
      (λ (a : x.commit ≡ false).
      let same : redo (hit x) v (on k s.made) ≡ v = redo_none (hit x) v (on k s.made) (each_from (λ r. hit x r.tx ≡ false) (on k s.made) (λ r _. hit_abort x r.tx a)) in
      let w : waiting (old ++ x ∷ []) s.left k (s.held k) ≡ waiting old s.left k (s.held k) = waiting_more old x s.left k (s.held k) (λ h e. (let both : true ≡ false = sym e ∙ hit_abort x h a in absurd (cc (both)))) in
      together (λ c. (let both : true ≡ false = sym c ∙ a in absurd (cc (both)))) (subst (λ (us : List (AuditRecord N)). Back N (redo (hit x) v (on k s.made)) us (s.map k)) (sym w) (subst (λ (y : Option N.Val). Back N y (waiting old s.left k (s.held k)) (s.map k)) (sym same) b)))
      (true_or_false x.commit)
    where
      together : (x.commit ≡ true → run_ops N (by x.tx (on k s.made)) v ≡ Some (redo (hit x) v (on k s.made))) → Back N (redo (hit x) v (on k s.made)) (waiting (old ++ x ∷ []) s.left k (s.held k)) (s.map k) →
          (x.commit ≡ true → run_ops N (by x.tx (on k s.made)) v ≡ Some (redo (hit x) v (on k s.made))) × Back N (redo (hit x) v (on k s.made)) (waiting (old ++ x ∷ []) s.left k (s.held k)) (s.map k)
      together p q = (p, q)

  -- the records of a car, one after another
  landing : (s : Disc N) (k : N.Key) (old xs : List (Ending N)) (v : Option N.Val) → Each (Settles s k) xs → Each (λ x. commits old x.tx ≡ false) xs → Once xs → Back N v (waiting old s.left k (s.held k)) (s.map k) →
      Runs N (on k s.made) xs v × Back N (folded (on k s.made) xs v) (waiting (old ++ xs) s.left k (s.held k)) (s.map k)
  landing s k old [] v st fresh once b = (tt, subst (λ (ms : List (Ending N)). Back N v (waiting ms s.left k (s.held k)) (s.map k)) (sym (append-nil old)) b)
  landing s k old (x ∷ xs) v st fresh once b =
      let o = land_one s k old x v st.0 fresh.0 b in
      let rest = landing s k (old ++ x ∷ []) xs (redo (hit x) v (on k s.made)) st.1 (fresh_more old xs x fresh.1 once.0) once.1 o.1 in
      ((o.0, rest.0), subst (λ (ms : List (Ending N)). Back N (folded (on k s.made) xs (redo (hit x) v (on k s.made))) (waiting ms s.left k (s.held k)) (s.map k)) (append_assoc old (x ∷ []) xs) rest.1)

  pub settle_all : (ss : List (State N)) → Inv N ss → (q r : ℕ) (s : Disc N) (m : Monitor N) → slice_get ss q ≡ Some (disc s) → slice_get ss r ≡ Some (monitor m) → IsStacked N s → (k : N.Key) (xs : List (Ending N)) → Each (Backed N (True N ss)) xs → Each (λ x. commits m.landed x.tx ≡ false) xs → Each (Settles s k) xs
  settle_all ss inv q r s m at at_m stacked k [] b f = tt
  settle_all ss inv q r s m at at_m stacked k (x ∷ xs) b f = (settles ss inv q r s m at at_m stacked k x b.0 f.0, settle_all ss inv q r s m at at_m stacked k xs b.1 f.1)

  -- after a car has landed, and before
  pub landed : (ss : List (State N)) → Inv N ss → (q r : ℕ) (s : Disc N) (m : Monitor N) → slice_get ss q ≡ Some (disc s) → slice_get ss r ≡ Some (monitor m) → IsStacked N s → IsFine N s m → (k : N.Key) →
      Runs N (on k s.made) (m.landed ++ m.offered) (s.base k) × Back N (folded (on k s.made) (m.landed ++ m.offered) (s.base k)) (waiting (m.landed ++ m.offered) s.left k (s.held k)) (s.map k)
  landed ss inv q r s m at at_m stacked fine k =
      let fair : IsFair N (True N ss) m = inv.mons r m at_m in
      let l = landing s k m.landed m.offered (folded (on k s.made) m.landed (s.base k)) (settle_all ss inv q r s m at at_m stacked k m.offered (each_right (Backed N (True N ss)) m.landed m.offered fair.backed) fair.fresh) fair.fresh fair.once (fine.chain k) in (
        runs_append N (on k s.made) m.landed m.offered (s.base k) (fine.runs k) l.0,
        subst (λ (v : Option N.Val). Back N v (waiting (m.landed ++ m.offered) s.left k (s.held k)) (s.map k)) (sym (folded-append (on k s.made) m.landed m.offered (s.base k))) l.1,
      )

  pub fine_monitor : (ss : List (State N)) → Inv N ss → (q r : ℕ) (s : Disc N) (m : Monitor N) (e : Event N) → slice_get ss q ≡ Some (disc s) → slice_get ss r ≡ Some (monitor m) → IsStacked N s → IsFine N s m → IsFine N s (step_monitor N m e)
  fine_monitor ss inv q r s m Land at at_m stacked fine = record { chain = λ k. (landed ss inv q r s m at at_m stacked fine k).1; runs = λ k. (landed ss inv q r s m at at_m stacked fine k).0 }
  fine_monitor ss inv q r s m (OfferCar xs) at at_m stacked fine = record { chain = fine.chain; runs = fine.runs }
  fine_monitor ss inv q r s m _ at at_m stacked fine = fine

  fine_turn : (ss : List (State N)) → Inv N ss → (q r : ℕ) (s : Disc N) (m : Monitor N) (t : N.Tx) (why : Cause N) → slice_get ss q ≡ Some (disc s) → slice_get ss r ≡ Some (monitor m) → allows_turn N s t why → asks_turn N (True N ss) s t why → IsFine N s m → IsFine N (step_turn N t why s) m
  fine_turn ss inv q r s m t (Busy k h) at at_m may asked fine = fine
  fine_turn ss inv q r s m t (BusyFile f h) at at_m may asked fine = fine
  fine_turn ss inv q r s m t (Full k o) at at_m may asked fine =
      fine_hold N (True N ss) s m t k may.0 may.1.0 (uncommitted N ss inv.apart q s at m.landed t (each_left (Backed N (True N ss)) m.landed m.offered (inv.mons r m at_m).backed) asked may.0.0) (inv.discs q s at) fine
  fine_turn ss inv q r s m t (Refused k o) at at_m may asked fine =
      fine_hold N (True N ss) s m t k may.0 may.1.0 (uncommitted N ss inv.apart q s at m.landed t (each_left (Backed N (True N ss)) m.landed m.offered (inv.mons r m at_m).backed) asked may.0.0) (inv.discs q s at) fine

  pub fine_disc : (ss : List (State N)) → Inv N ss → (q r : ℕ) (s : Disc N) (m : Monitor N) (e : Event N) → slice_get ss q ≡ Some (disc s) → slice_get ss r ≡ Some (monitor m) → allows_disc N s e → asks_disc N (True N ss) s e → IsFine N s m → IsFine N (step_disc N s e) m
  fine_disc ss inv q r s m (Write t rec) at at_m may asked fine =
      fine_write N (True N ss) s m t rec may (uncommitted N ss inv.apart q s at m.landed t (each_left (Backed N (True N ss)) m.landed m.offered (inv.mons r m at_m).backed) asked may.0.0) (inv.discs q s at) fine
  fine_disc ss inv q r s m (Read t j v) at at_m may asked fine =
      fine_hold N (True N ss) s m t j may.0 may.1.0 (uncommitted N ss inv.apart q s at m.landed t (each_left (Backed N (True N ss)) m.landed m.offered (inv.mons r m at_m).backed) asked may.0.0) (inv.discs q s at) fine
  fine_disc ss inv q r s m (Undo t) at at_m may asked fine =
      subst (λ (xs : List (AuditRecord N)). IsFine N (undoing N t s xs) m) (sym may.2)
      (fine_undo N (True N ss) s m t may.0 may.1 may.2 (holds_left N (True N ss) s (clash N ss inv.apart) (knows N ss inv) (inv.discs q s at) t may.0 may.1 may.2 asked) (not_both N ss inv.apart m.landed t (each_left (Backed N (True N ss)) m.landed m.offered (inv.mons r m at_m).backed) asked.0 asked.1) fine)
  fine_disc ss inv q r s m (Release t) at at_m may asked fine =
      fine_release N (True N ss) s m t (⊎_elim (λ (c : (p : ℕ) × True N ss (Committed t p)). inl (commits_has m.landed t (committed_here N ss inv.apart r m at_m t c.0 c.1))) (λ (a : ((ds : List ℕ) × True N ss (Decided t false ds)) × (s.left t ≡ [])). inr a.1) asked) fine
  fine_disc ss inv q r s m (Turn t why) at at_m may asked fine = fine_turn ss inv q r s m t why at at_m may asked fine
  fine_disc ss inv q r s m _ at at_m may asked fine = record { chain = fine.chain; runs = fine.runs }
