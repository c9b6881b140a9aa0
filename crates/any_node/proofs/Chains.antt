-- A key's records chain: each operation meets the value that the commits before it left.
use Rattle.std.proofs.Common.{◌≡◌, ◌≢◌, ◌⊎◌, Bool, true, false, cond, List, [], ◌∷◌, ◌++◌, Option, Some, None, refl, ap, sym, ◌∙◌, subst, ⊎_elim, reverse}
use Rattle.std.proofs.lemmas.List.{reverse-append}
use Rattle.any_node.specs.Layout.{Layout, put}
use Rattle.any_node.specs.Value.{AuditRecord, Ending, on, hit, commits, redo, folded}
use Rattle.any_node.specs.Node.{Disc, Monitor, Fact, allows_disc, step_disc, undoing, undo_record, holding, MayAct, IsFree, freed, given}
use Rattle.any_node.specs.Node.Event.{Write, Release}
use Rattle.any_node.proofs.Lists.{not_same, same_or, put_at, put_here, put_else, some≢none, each_map, or_left, or_right}
use Rattle.any_node.proofs.Values.{Absent, Last, by, by_snoc_else, by_none, on_here, on_else, first_here, first_else, on_none, redo_none, redo_more, folded_more, hit_else, hit_it}
use Rattle.any_node.proofs.Discs.{IsGood}

module _ {N : Layout} where
  -- what a holder has on a key that may still be undone, newest first
  abbrev pub waiting : List (Ending N) → (N.Tx → List (AuditRecord N)) → N.Key → Option N.Tx → List (AuditRecord N)
  waiting xs left k None = []
  waiting xs left k (Some h) = cond (commits xs h) [] (on k (left h))

  waiting_same : (xs : List (Ending N)) (left : N.Tx → List (AuditRecord N)) (t : N.Tx) (rs : List (AuditRecord N)) (k : N.Key) (o : Option N.Tx) → on k rs ≡ on k (left t) → waiting xs (put N.txs t rs left) k o ≡ waiting xs left k o
  waiting_same xs left t rs k None e = refl
  waiting_same xs left t rs k (Some h) e = ap (λ us. cond (commits xs h) [] us) (put_at N.txs (λ us. on k us ≡ on k (left h)) t rs left h (λ here. e ∙ ap (λ u. on k (left u)) (sym here)) (λ else. refl))

module _ (N : Layout) where
  -- from v to c, newest first
  abbrev pub Back : Option N.Val → List (AuditRecord N) → Option N.Val → Type 0
  Back v [] c = v ≡ c
  Back v (r ∷ rs) c = (r.after ≡ c) × (given r r.before ≡ Some r.after) × Back v rs r.before

  -- the value after these operations, unless one has a reason
  abbrev pub run_ops : List (AuditRecord N) → Option N.Val → Option (Option N.Val)
  run_ops [] v = Some v
  run_ops (r ∷ rs) v = elim (given r v) [ None ↦ None | Some u ↦ run_ops rs u ]

  -- each commit's operations come to what its records say
  abbrev pub Runs : List (AuditRecord N) → List (Ending N) → Option N.Val → Type 0
  Runs rs [] v = Unit {0}
  Runs rs (x ∷ xs) v = (x.commit ≡ true → run_ops (by x.tx rs) v ≡ Some (redo (hit x) v rs)) × Runs rs xs (redo (hit x) v rs)

  pub record IsFine (s : Disc N) (m : Monitor N) : Type 0 where
    pub chain : (k : N.Key) → Back (folded (on k s.made) m.landed (s.base k)) (waiting m.landed s.left k (s.held k)) (s.map k)
    pub runs : (k : N.Key) → Runs (on k s.made) m.landed (s.base k)

  abbrev pub IsStacked : Disc N → Type 0
  IsStacked s = (t : N.Tx) (k : N.Key) → s.undone t ≡ false → on k (s.left t) ≡ reverse (by t (on k s.made))

  -- the chain, oldest first
  back_snoc : (v c : Option N.Val) (xs : List (AuditRecord N)) (r : AuditRecord N) → Back v (xs ++ r ∷ []) c → (v ≡ r.before) × (given r r.before ≡ Some r.after) × Back r.after xs c
  back_snoc v c [] r b = (b.2, b.1, b.0)
  back_snoc v c (x ∷ xs) r b = (let rest = back_snoc v x.before xs r b.2 in rest.0, (back_snoc v x.before xs r b.2).1, (b.0, b.1, (back_snoc v x.before xs r b.2).2))

  pub back_runs : (bs : List (AuditRecord N)) (v c : Option N.Val) → Back v (reverse bs) c → run_ops bs v ≡ Some c
  back_runs [] v c b = ap (λ x. Some x) b
  back_runs (r ∷ bs) v c b =
      let s = back_snoc v c (reverse bs) r (subst (λ (us : List (AuditRecord N)). Back v us c) (reverse-append (r ∷ []) bs) b) in
      let gives : given r v ≡ Some r.after = ap (λ w. given r w) s.0 ∙ s.1 in
      subst (λ (o : Option (Option N.Val)). elim o [ None ↦ None | Some u ↦ run_ops bs u ] ≡ Some c) (sym gives) (back_runs bs r.after c s.2)

  pub runs_more : (rs : List (AuditRecord N)) (r : AuditRecord N) (xs : List (Ending N)) (v : Option N.Val) → commits xs r.tx ≡ false → Runs rs xs v → Runs (rs ++ r ∷ []) xs v
  runs_more rs r [] v e h = tt
  runs_more rs r (x ∷ xs) v e h =
      let here : hit x r.tx ≡ false = or_left (hit x r.tx) (commits xs r.tx) e in
      let same : redo (hit x) v (rs ++ r ∷ []) ≡ redo (hit x) v rs = redo_more (hit x) rs r v here in (
        (λ c. (let n : r.tx ≢ x.tx = (λ i. (let both : true ≡ false = sym (hit_it x r.tx c i) ∙ here in cc (both))) in
            ap (λ us. run_ops us v) (by_snoc_else x.tx rs r n) ∙ h.0 c ∙ ap (λ w. Some w) (sym same))),
        subst (λ (w : Option N.Val). Runs (rs ++ r ∷ []) xs w) (sym same) (runs_more rs r xs (redo (hit x) v rs) (or_right (hit x r.tx) (commits xs r.tx) e) h.1),
      )

  pub runs_append : (rs : List (AuditRecord N)) (xs ys : List (Ending N)) (v : Option N.Val) → Runs rs xs v → Runs rs ys (folded rs xs v) → Runs rs (xs ++ ys) v
  runs_append rs [] ys v h k = k
  runs_append rs (x ∷ xs) ys v h k = (h.0, runs_append rs xs ys (redo (hit x) v rs) h.1 k)

  -- where it has no record on the key
  pub runs_none : (x : Ending N) (rs : List (AuditRecord N)) (v : Option N.Val) → Absent x.tx rs → (run_ops (by x.tx rs) v ≡ Some v) × (redo (hit x) v rs ≡ v)
  runs_none x rs v gone = (ap (λ us. run_ops us v) (by_none x.tx rs gone), redo_none (hit x) v rs (each_map (λ r. r.tx ≢ x.tx) (λ r. hit x r.tx ≡ false) rs (λ r n. hit_else x r.tx n) gone))

  pub empty_left : (T : Fact N → Type 0) (s : Disc N) → IsGood T s → (t : N.Tx) (k : N.Key) → s.released t ≡ false → (s.held k ≡ Some t → ⊥) → on k (s.left t) ≡ []
  empty_left T s g t k live free =
      ⊎_elim
      (λ (gone : Absent t (on k s.made)). on_none k (s.left t) (λ r has e. g.stack t r has (subst (λ (j : N.Key). Absent t (on j s.made)) (sym e) gone)))
      (λ (yes : (s.held k ≡ Some t) × Last t (on k s.made)). absurd (free yes.0))
      (g.kept t k live)

  pub none_or : (o : Option N.Tx) (t : N.Tx) → (o ≡ None) ⊎ (o ≡ Some t) → (o ≡ None → ⊥) → o ≡ Some t
  none_or o t h n = ⊎_elim (λ (e : o ≡ None). absurd (n e)) (λ (e : o ≡ Some t). e) h

  -- what t has waiting on a key that is its, if it is not committed
  pub waits : (T : Fact N → Type 0) (s : Disc N) → IsGood T s → (xs : List (Ending N)) (t : N.Tx) (k : N.Key) → s.released t ≡ false → commits xs t ≡ false → IsFree (s.held k) t → waiting xs s.left k (s.held k) ≡ on k (s.left t)
  waits T s g xs t k live un free =
      ⊎_elim
      (λ (e : s.held k ≡ None). ap (λ o. waiting xs s.left k o) e ∙ sym (empty_left T s g t k live (λ i. some≢none t (sym i ∙ e))))
      (λ (e : s.held k ≡ Some t). ap (λ o. waiting xs s.left k o) e ∙ ap (λ b. cond b [] (on k (s.left t))) un)
      free

  module _ (T : Fact N → Type 0) (s : Disc N) (m : Monitor N) where
    fine_runs : (r : AuditRecord N) → commits m.landed r.tx ≡ false → IsFine s m → (k : N.Key) → Runs (on k (s.made ++ r ∷ [])) m.landed (s.base k)
    fine_runs r un fine k =
        ⊎_elim
        (λ (e : r.key ≡ k). subst (λ (rs : List (AuditRecord N)). Runs rs m.landed (s.base k)) (sym (on_here k s.made r e)) (runs_more (on k s.made) r m.landed (s.base k) un (fine.runs k)))
        (λ (n : r.key ≢ k). subst (λ (rs : List (AuditRecord N)). Runs rs m.landed (s.base k)) (sym (on_else k s.made r n)) (fine.runs k))
        (same_or N.keys r.key k)

    pub same_fold : (r : AuditRecord N) → commits m.landed r.tx ≡ false → (k : N.Key) → folded (on k (s.made ++ r ∷ [])) m.landed (s.base k) ≡ folded (on k s.made) m.landed (s.base k)
    same_fold r un k =
        ⊎_elim
        (λ (e : r.key ≡ k). ap (λ rs. folded rs m.landed (s.base k)) (on_here k s.made r e) ∙ folded_more (on k s.made) r m.landed (s.base k) un)
        (λ (n : r.key ≢ k). ap (λ rs. folded rs m.landed (s.base k)) (on_else k s.made r n))
        (same_or N.keys r.key k)

    pub fine_write : (t : N.Tx) (r : AuditRecord N) → allows_disc N s (Write t r) → commits m.landed t ≡ false → IsGood T s → IsFine s m → IsFine (step_disc N s (Write t r)) m
    fine_write t r may un g fine =
        let un_r : commits m.landed r.tx ≡ false = ap (λ u. commits m.landed u) may.2 ∙ un in
        record {
          chain = λ k. subst (λ (v : Option N.Val). Back v (waiting m.landed (put N.txs t (r ∷ s.left t) s.left) k (put N.keys r.key (Some t) s.held k)) (put N.keys r.key r.after s.map k)) (sym (same_fold r un_r k))
              (⊎_elim
              (λ (e : r.key ≡ k).
              let w : waiting m.landed (put N.txs t (r ∷ s.left t) s.left) k (put N.keys r.key (Some t) s.held k) ≡ r ∷ on k (s.left t) =
              ap (λ o. waiting m.landed (put N.txs t (r ∷ s.left t) s.left) k o) (ap (λ j. put N.keys r.key (Some t) s.held j) (sym e) ∙ put_here N.keys r.key (Some t) s.held)
              ∙ ap (λ b. cond b [] (on k (put N.txs t (r ∷ s.left t) s.left t))) un
              ∙ ap (λ us. on k us) (put_here N.txs t (r ∷ s.left t) s.left)
              ∙ first_here k r (s.left t) e in
              let now : put N.keys r.key r.after s.map k ≡ r.after = ap (λ j. put N.keys r.key r.after s.map j) (sym e) ∙ put_here N.keys r.key r.after s.map in
              let free : IsFree (s.held k) t = subst (λ (j : N.Key). IsFree (s.held j) t) e may.1.0 in
              let old : Back (folded (on k s.made) m.landed (s.base k)) (on k (s.left t)) (s.map k) = subst (λ (us : List (AuditRecord N)). Back (folded (on k s.made) m.landed (s.base k)) us (s.map k)) (waits T s g m.landed t k may.0.2 un free) (fine.chain k) in
              let was : s.map k ≡ r.before = ap s.map (sym e) ∙ sym may.3 in
              subst (λ (us : List (AuditRecord N)). Back (folded (on k s.made) m.landed (s.base k)) us (put N.keys r.key r.after s.map k)) (sym w)
              (sym now, may.4, subst (λ (c : Option N.Val). Back (folded (on k s.made) m.landed (s.base k)) (on k (s.left t)) c) was old))
              (λ (n : r.key ≢ k).
              let w : waiting m.landed (put N.txs t (r ∷ s.left t) s.left) k (put N.keys r.key (Some t) s.held k) ≡ waiting m.landed s.left k (s.held k) =
              ap (λ o. waiting m.landed (put N.txs t (r ∷ s.left t) s.left) k o) (put_else N.keys r.key (Some t) s.held k (λ i. n (sym i)))
              ∙ waiting_same m.landed s.left t (r ∷ s.left t) k (s.held k) (first_else k r (s.left t) n) in
              subst (λ (us : List (AuditRecord N)). Back (folded (on k s.made) m.landed (s.base k)) us (put N.keys r.key r.after s.map k)) (sym w)
              (subst (λ (c : Option N.Val). Back (folded (on k s.made) m.landed (s.base k)) (waiting m.landed s.left k (s.held k)) c) (sym (put_else N.keys r.key r.after s.map k (λ i. n (sym i)))) (fine.chain k)))
              (same_or N.keys r.key k));
          runs = fine_runs r un_r fine;
        }

    pub fine_undo : (t : N.Tx) (r : AuditRecord N) (rs : List (AuditRecord N)) → s.left t ≡ r ∷ rs → s.held r.key ≡ Some t → commits m.landed t ≡ false → IsFine s m → IsFine (undoing N t s (r ∷ rs)) m
    fine_undo t r rs is has un fine =
        let new : AuditRecord N = undo_record N t s r in
        record {
          chain = λ k. subst (λ (v : Option N.Val). Back v (waiting m.landed (put N.txs t rs s.left) k (s.held k)) (put N.keys r.key r.before s.map k)) (sym (same_fold new un k))
              (⊎_elim
              (λ (e : r.key ≡ k).
              let holds : s.held k ≡ Some t = ap s.held (sym e) ∙ has in
              let w : waiting m.landed (put N.txs t rs s.left) k (s.held k) ≡ on k rs =
              ap (λ o. waiting m.landed (put N.txs t rs s.left) k o) holds
              ∙ ap (λ b. cond b [] (on k (put N.txs t rs s.left t))) un
              ∙ ap (λ us. on k us) (put_here N.txs t rs s.left) in
              let then : waiting m.landed s.left k (s.held k) ≡ r ∷ on k rs =
              ap (λ o. waiting m.landed s.left k o) holds ∙ ap (λ b. cond b [] (on k (s.left t))) un ∙ ap (λ us. on k us) is ∙ first_here k r rs e in
              let old : Back (folded (on k s.made) m.landed (s.base k)) (r ∷ on k rs) (s.map k) = subst (λ (us : List (AuditRecord N)). Back (folded (on k s.made) m.landed (s.base k)) us (s.map k)) then (fine.chain k) in
              let now : put N.keys r.key r.before s.map k ≡ r.before = ap (λ j. put N.keys r.key r.before s.map j) (sym e) ∙ put_here N.keys r.key r.before s.map in
              subst (λ (us : List (AuditRecord N)). Back (folded (on k s.made) m.landed (s.base k)) us (put N.keys r.key r.before s.map k)) (sym w)
              (subst (λ (c : Option N.Val). Back (folded (on k s.made) m.landed (s.base k)) (on k rs) c) (sym now) old.2))
              (λ (n : r.key ≢ k).
              let w : waiting m.landed (put N.txs t rs s.left) k (s.held k) ≡ waiting m.landed s.left k (s.held k) =
              waiting_same m.landed s.left t rs k (s.held k) (sym (first_else k r rs n) ∙ ap (λ us. on k us) (sym is)) in
              subst (λ (us : List (AuditRecord N)). Back (folded (on k s.made) m.landed (s.base k)) us (put N.keys r.key r.before s.map k)) (sym w)
              (subst (λ (c : Option N.Val). Back (folded (on k s.made) m.landed (s.base k)) (waiting m.landed s.left k (s.held k)) c) (sym (put_else N.keys r.key r.before s.map k (λ i. n (sym i)))) (fine.chain k)))
              (same_or N.keys r.key k));
          runs = fine_runs new un fine;
        }

    pub fine_hold : (t : N.Tx) (j : N.Key) → MayAct s t → IsFree (s.held j) t → commits m.landed t ≡ false → IsGood T s → IsFine s m → IsFine (holding N t j s) m
    fine_hold t j may freely un g fine = record {
      chain = λ k. put_at N.keys (λ o. Back (folded (on k s.made) m.landed (s.base k)) (waiting m.landed s.left k o) (s.map k)) j (Some t) s.held k
          (λ here. (let free : IsFree (s.held k) t = subst (λ (i : N.Key). IsFree (s.held i) t) (sym here) freely in
          subst (λ (us : List (AuditRecord N)). Back (folded (on k s.made) m.landed (s.base k)) us (s.map k)) (waits T s g m.landed t k may.2 un free ∙ sym (ap (λ b. cond b [] (on k (s.left t))) un)) (fine.chain k)))
          (λ else. fine.chain k);
      runs = fine.runs;
    }

    freed_waiting : (t : N.Tx) (k : N.Key) (o : Option N.Tx) → (cond (commits m.landed t) [] (on k (s.left t)) ≡ []) → waiting m.landed s.left k (freed N.txs t o) ≡ waiting m.landed s.left k o
    freed_waiting t k None e = refl
    freed_waiting t k (Some h) e =
        ⊎_elim
        (λ (i : h ≡ t). ap (λ b. waiting m.landed s.left k (cond b None (Some h))) (N.txs.reflexive h t i) ∙ sym (ap (λ u. cond (commits m.landed u) [] (on k (s.left u))) i ∙ e))
        (λ (n : h ≢ t). ap (λ b. waiting m.landed s.left k (cond b None (Some h))) (not_same N.txs h t n))
        (same_or N.txs h t)

    pub fine_release : (t : N.Tx) → ((commits m.landed t ≡ true) ⊎ (s.left t ≡ [])) → IsFine s m → IsFine (step_disc N s (Release t)) m
    fine_release t h fine = record {
      chain = λ k. subst (λ (us : List (AuditRecord N)). Back (folded (on k s.made) m.landed (s.base k)) us (s.map k))
          (sym (freed_waiting t k (s.held k) (⊎_elim (λ (c : commits m.landed t ≡ true). ap (λ b. cond b [] (on k (s.left t))) c) (λ (e : s.left t ≡ []). ap (λ us. cond (commits m.landed t) [] (on k us)) e ∙ either (commits m.landed t)) h)))
          (fine.chain k);
      runs = fine.runs;
    }
      where
        either : (b : Bool) → cond {A = List (AuditRecord N)} b [] [] ≡ []
        either true = refl
        either false = refl
