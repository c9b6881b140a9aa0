-- Quiet positions: the first records of a disc come to what the commits say.
use Rattle.std.proofs.Common.{◌≡◌, ◌≢◌, ◌⊎◌, Bool, true, false, cond, List, [], ◌∷◌, ◌++◌, Some, None, refl, ap, sym, ◌∙◌, subst, ⊎_elim, inl, append_assoc, append-nil, reverse}
use Rattle.std.proofs.lemmas.List.{reverse-reverse}
use Rattle.any_node.specs.Layout.{Layout, put}
use Rattle.any_node.specs.Value.{AuditRecord, Among, Each, on, commits, redo, folded, latest}
use Rattle.any_node.specs.Node.{Disc, Monitor, Fact, allows_disc, step_disc, undoing, undo_record}
use Rattle.any_node.specs.Node.Event.{Write, Release}
use Rattle.any_node.proofs.Lists.{true_or_false, same_or, put_at, put_here, put_else, some≢none, each_append, each_left, each_right, each_at, among_left, among_right, two_cuts, split_last, last_of}
use Rattle.any_node.proofs.Values.{Absent, Last, by, by_has, on_here, on_else, redo_last, latest-append, Linked, linked_snoc}
use Rattle.any_node.proofs.Discs.{IsGood}
use Rattle.any_node.proofs.Chains.{waiting, Back, IsFine, IsStacked}

module _ (N : Layout) where
  pub record IsRun (s : Disc N) : Type 0 where
    pub tail : (t : N.Tx) (k : N.Key) → s.released t ≡ false → (ys : List (AuditRecord N)) × (zs : List (AuditRecord N)) × (on k s.made ≡ ys ++ zs) × Absent t ys × Each (λ r. r.tx ≡ t) zs
    pub linked : (k : N.Key) → Linked (s.base k) (on k s.made)
    pub ends : (k : N.Key) → latest (s.base k) (on k s.made) ≡ s.map k

  -- all of P's transactions have released, and those that were backed out have nothing in R
  abbrev pub IsDone : Disc N → List (AuditRecord N) → List (AuditRecord N) → Type 0
  IsDone s P R = (r : AuditRecord N) → Among P r → (s.released r.tx ≡ true) × (s.undone r.tx ≡ true → (x : AuditRecord N) → Among R x → x.tx ≢ r.tx)

  -- what is done comes to what the commits say
  abbrev pub IsEven : Disc N → Monitor N → Type 0
  IsEven s m = (k : N.Key) (P R : List (AuditRecord N)) → on k s.made ≡ P ++ R → IsDone s P R → latest (s.base k) P ≡ redo (commits m.landed) (s.base k) P

  add_tail : (s : Disc N) (t : N.Tx) (r : AuditRecord N) → r.tx ≡ t → ((u : N.Tx) → u ≢ t → s.held r.key ≡ Some u → ⊥) → ((u : N.Tx) (k : N.Key) → s.released u ≡ false → Absent u (on k s.made) ⊎ ((s.held k ≡ Some u) × Last u (on k s.made))) → IsRun s →
      (u : N.Tx) (k : N.Key) → s.released u ≡ false → (ys : List (AuditRecord N)) × (zs : List (AuditRecord N)) × (on k (s.made ++ r ∷ []) ≡ ys ++ zs) × Absent u ys × Each (λ r. r.tx ≡ u) zs
  add_tail s t r of only kept run u k live =
      ⊎_elim
      (λ (e : r.key ≡ k).
      ⊎_elim
      (λ (here : u ≡ t).
      (let old = run.tail u k live in
      (old.0, old.1 ++ r ∷ [], on_here k s.made r e ∙ ap (λ us. us ++ r ∷ []) old.2 ∙ append_assoc old.0 old.1 (r ∷ []), old.3, each_append (λ x. x.tx ≡ u) old.1 (r ∷ []) old.4 (of ∙ sym here, tt))))
      (λ (else : u ≢ t).
      ⊎_elim
      (λ (gone : Absent u (on k s.made)). (on k s.made ++ r ∷ [], [], on_here k s.made r e ∙ sym (append-nil (on k s.made ++ r ∷ [])), each_append (λ x. x.tx ≢ u) (on k s.made) (r ∷ []) gone ((λ i. else (sym i ∙ of)), tt), tt))
      (λ (yes : (s.held k ≡ Some u) × Last u (on k s.made)). absurd (only u else (ap s.held e ∙ yes.0)))
      (kept u k live))
      (same_or N.txs u t))
      (λ (n : r.key ≢ k). (let old = run.tail u k live in (old.0, old.1, on_else k s.made r n ∙ old.2, old.3, old.4)))
      (same_or N.keys r.key k)

  add_linked : (s : Disc N) (r : AuditRecord N) → r.before ≡ s.map r.key → IsRun s → (k : N.Key) → Linked (s.base k) (on k (s.made ++ r ∷ []))
  add_linked s r was run k =
      ⊎_elim
      (λ (e : r.key ≡ k). subst (λ (xs : List (AuditRecord N)). Linked (s.base k) xs) (sym (on_here k s.made r e)) (linked_snoc (s.base k) (on k s.made) r (run.linked k) (was ∙ ap s.map e ∙ sym (run.ends k))))
      (λ (n : r.key ≢ k). subst (λ (xs : List (AuditRecord N)). Linked (s.base k) xs) (sym (on_else k s.made r n)) (run.linked k))
      (same_or N.keys r.key k)

  add_ends : (s : Disc N) (r : AuditRecord N) → IsRun s → (k : N.Key) → latest (s.base k) (on k (s.made ++ r ∷ [])) ≡ put N.keys r.key r.after s.map k
  add_ends s r run k =
      ⊎_elim
      (λ (e : r.key ≡ k). ap (λ xs. latest (s.base k) xs) (on_here k s.made r e) ∙ latest-append (s.base k) (on k s.made) (r ∷ []) ∙ sym (put_here N.keys r.key r.after s.map) ∙ ap (λ j. put N.keys r.key r.after s.map j) e)
      (λ (n : r.key ≢ k). ap (λ xs. latest (s.base k) xs) (on_else k s.made r n) ∙ run.ends k ∙ sym (put_else N.keys r.key r.after s.map k (λ e. n (sym e))))
      (same_or N.keys r.key k)

  pub run_write : (T : Fact N → Type 0) (s : Disc N) (t : N.Tx) (r : AuditRecord N) → allows_disc N s (Write t r) → IsGood T s → IsRun s → IsRun (step_disc N s (Write t r))
  run_write T s t r may g run = record {
    tail = add_tail s t r may.2 (λ u n has. ⊎_elim (λ (e : s.held r.key ≡ None). some≢none u (sym has ∙ e)) (λ (e : s.held r.key ≡ Some t). n (let same : Some u ≡ Some t = sym has ∙ e in cc (same))) may.1.0) g.kept run;
    linked = add_linked s r may.3 run;
    ends = add_ends s r run;
  }

  pub run_undo : (T : Fact N → Type 0) (s : Disc N) (t : N.Tx) (r : AuditRecord N) (rs : List (AuditRecord N)) → s.held r.key ≡ Some t → IsGood T s → IsRun s → IsRun (undoing N t s (r ∷ rs))
  run_undo T s t r rs has g run =
      let new : AuditRecord N = undo_record N t s r in
      record {
        tail = add_tail s t new refl (λ u n other. n (let same : Some u ≡ Some t = sym other ∙ has in cc (same))) g.kept run;
        linked = add_linked s new refl run;
        ends = add_ends s new run;
      }

  pub run_release : (s : Disc N) (t : N.Tx) → IsRun s → IsRun (step_disc N s (Release t))
  run_release s t run = record {
    tail = λ u k. put_at N.txs (λ b. b ≡ false → (ys : List (AuditRecord N)) × (zs : List (AuditRecord N)) × (on k s.made ≡ ys ++ zs) × Absent u ys × Each (λ r. r.tx ≡ u) zs) t true s.released u (λ here live. absurd (cc (live))) (λ else live. run.tail u k live);
    linked = run.linked;
    ends = run.ends;
  }

  -- one more record, of a transaction that has not released
  pub even_add : (s : Disc N) (m : Monitor N) (r : AuditRecord N) (undone : N.Tx → Bool) → ((u : N.Tx) → s.undone u ≡ true → undone u ≡ true) → s.released r.tx ≡ false → IsEven s m →
      (k : N.Key) (P R : List (AuditRecord N)) → on k (s.made ++ r ∷ []) ≡ P ++ R → ((x : AuditRecord N) → Among P x → (s.released x.tx ≡ true) × (undone x.tx ≡ true → (y : AuditRecord N) → Among R y → y.tx ≢ x.tx)) → latest (s.base k) P ≡ redo (commits m.landed) (s.base k) P
  even_add s m r undone up live even k P R e done =
      ⊎_elim
      (λ (i : r.key ≡ k).
      ⊎_elim
      (λ (a : (R ≡ []) × (P ≡ on k s.made ++ r ∷ [])).
      (let has : Among P r = subst (λ (xs : List (AuditRecord N)). Among xs r) (sym a.1) (among_right (on k s.made) (r ∷ []) r (inl refl)) in
      let both : true ≡ false = sym (done r has).0 ∙ live in absurd (cc (both))))
      (λ (b : (Q : List (AuditRecord N)) × (R ≡ Q ++ r ∷ []) × (on k s.made ≡ P ++ Q)).
      even k P b.0 b.2 (λ x has. ((done x has).0, λ u y in_q. (done x has).1 (up x.tx u) y (subst (λ (xs : List (AuditRecord N)). Among xs y) (sym b.1) (among_left b.0 (r ∷ []) y in_q)))))
      (split_last (on k s.made) r P R (sym (on_here k s.made r i) ∙ e)))
      (λ (n : r.key ≢ k). even k P R (sym (on_else k s.made r n) ∙ e) (λ x has. ((done x has).0, λ u. (done x has).1 (up x.tx u))))
      (same_or N.keys r.key k)

  -- what a released transaction leaves
  pub even_release : (T : Fact N → Type 0) (s : Disc N) (m : Monitor N) (t : N.Tx) → s.released t ≡ false → ((commits m.landed t ≡ true) ⊎ (s.left t ≡ [])) →
      IsGood T s → IsRun s → IsStacked N s → IsFine N s m → ((k : N.Key) → redo (commits m.landed) (s.base k) (on k s.made) ≡ folded (on k s.made) m.landed (s.base k)) → IsEven s m → IsEven (step_disc N s (Release t)) m
  even_release T s m t live how g run stacked fine agree even k P R e done =
      let tl = run.tail t k live in
      ⊎_elim
      (λ (a : (U : List (AuditRecord N)) × (tl.0 ≡ P ++ U) × (R ≡ U ++ tl.1)).
      even k P R e (λ x has.
      (let n : x.tx ≢ t = each_at (λ r. r.tx ≢ t) tl.0 x tl.3 (subst (λ (xs : List (AuditRecord N)). Among xs x) (sym a.1) (among_left P a.0 x has)) in
      (sym (put_else N.txs t true s.released x.tx n) ∙ (done x has).0, (done x has).1))))
      (λ (b : (r : AuditRecord N) × (U : List (AuditRecord N)) × (P ≡ tl.0 ++ r ∷ U) × (tl.1 ≡ (r ∷ U) ++ R)).
      (let l = last_of b.0 b.1 in
      let ours : Each (λ r. r.tx ≡ t) ((b.0 ∷ b.1) ++ R) = subst (λ (xs : List (AuditRecord N)). Each (λ r. r.tx ≡ t) xs) b.3 tl.4 in
      let mine : l.1.tx ≡ t = each_at (λ r. r.tx ≡ t) (b.0 ∷ b.1) l.1 (each_left (λ r. r.tx ≡ t) (b.0 ∷ b.1) R ours) l.3 in
      let shape : P ≡ (tl.0 ++ l.0) ++ l.1 ∷ [] = b.2 ∙ ap (λ xs. tl.0 ++ xs) l.2 ∙ sym (append_assoc tl.0 l.0 (l.1 ∷ [])) in
      let in_p : Among P l.1 = subst (λ (xs : List (AuditRecord N)). Among xs l.1) (sym shape) (among_right (tl.0 ++ l.0) (l.1 ∷ []) l.1 (inl refl)) in
      ⊎_elim
      (λ (c : commits m.landed t ≡ true).
      ap (λ xs. latest (s.base k) xs) shape ∙ latest-append (s.base k) (tl.0 ++ l.0) (l.1 ∷ [])
      ∙ sym (ap (λ xs. redo (commits m.landed) (s.base k) xs) shape ∙ redo_last (commits m.landed) (s.base k) (tl.0 ++ l.0) l.1 (ap (λ u. commits m.landed u) mine ∙ c)))
      (λ (none : s.left t ≡ []).
      (let in_made : Among (on k s.made) l.1 = subst (λ (xs : List (AuditRecord N)). Among xs l.1) (sym e) (among_left P R l.1 in_p) in
      let undone : s.undone t ≡ true = ⊎_elim (λ (u : s.undone t ≡ true). u) (λ (f : s.undone t ≡ false).
      (let st : [] ≡ reverse (by t (on k s.made)) = sym (ap (λ us. on k us) none) ∙ stacked t k f in
      let nothing : by t (on k s.made) ≡ [] = sym (reverse-reverse (by t (on k s.made))) ∙ ap reverse (sym st) in
      absurd (by_has t (on k s.made) l.1 in_made mine nothing))) (true_or_false (s.undone t)) in
      let rest : R ≡ [] = nobody R (each_right (λ r. r.tx ≡ t) (b.0 ∷ b.1) R ours) (λ y has. (λ i. (done l.1 in_p).1 (ap s.undone mine ∙ undone) y has (i ∙ sym mine))) in
      let whole : on k s.made ≡ P = e ∙ ap (λ xs. P ++ xs) rest ∙ append-nil P in
      let holds : s.held k ≡ Some t = ⊎_elim (λ (gone : Absent t (on k s.made)). absurd (each_at (λ r. r.tx ≢ t) (on k s.made) l.1 gone in_made mine)) (λ (yes : (s.held k ≡ Some t) × Last t (on k s.made)). yes.0) (g.kept t k live) in
      let idle : waiting m.landed s.left k (s.held k) ≡ [] = ap (λ o. waiting m.landed s.left k o) holds ∙ ap (λ us. cond (commits m.landed t) [] (on k us)) none ∙ either (commits m.landed t) in
      let found : folded (on k s.made) m.landed (s.base k) ≡ s.map k = subst (λ (us : List (AuditRecord N)). Back N (folded (on k s.made) m.landed (s.base k)) us (s.map k)) idle (fine.chain k) in
      subst (λ (xs : List (AuditRecord N)). latest (s.base k) xs ≡ redo (commits m.landed) (s.base k) xs) whole (run.ends k ∙ sym (agree k ∙ found))))
      how))
      (two_cuts P R tl.0 tl.1 (sym e ∙ tl.2))
    where
      either : (b : Bool) → cond {A = List (AuditRecord N)} b [] [] ≡ []
      either true = refl
      either false = refl

      nobody : (R : List (AuditRecord N)) → Each (λ r. r.tx ≡ t) R → ((y : AuditRecord N) → Among R y → y.tx ≢ t) → R ≡ []
      nobody [] p q = refl
      nobody (y ∷ R) p q = absurd (q y (inl refl) p.0)
