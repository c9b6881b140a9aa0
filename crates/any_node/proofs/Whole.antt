-- The records of each disc and the writes of a history, and the fold by operations.
use Rattle.std.proofs.Common.{◌≡◌, ◌≢◌, ◌⊎◌, ℕ, Bool, true, false, cond, List, [], ◌∷◌, ◌++◌, Option, Some, None, slice_get, refl, ap, sym, ◌∙◌, subst, ⊎_elim, inl, inr, append_assoc, append-nil}
use Rattle.chronicle.specs.Histories.{next_states, states_after, IsEnabled, IsHistory}
use Rattle.any_node.specs.Layout.{Layout, put}
use Rattle.any_node.specs.Value.{AuditRecord, Ending, Among, Each, on, hit, redo, folded}
use Rattle.any_node.specs.Node.{Disc, Monitor, State, Event, node, Backed, allows, allows_disc, step_disc, undoing, undo_record, given}
use Rattle.any_node.specs.Opening.{DiscAt}
use Rattle.any_node.specs.Node.State.{worker, disc, trail, monitor, dump}
use Rattle.any_node.specs.Node.Event.{Write, Turn, Undo}
use Rattle.any_node.specs.Node.Fact.{Decided}
use Rattle.any_node.specs.Fold.{writes, perform, effect, After}
use Rattle.any_node.proofs.Lists.{among_or, is_false, true_or_false, not_same, same_or, put_here, put_else, each_from}
use Rattle.any_node.proofs.Values.{by, by_snoc_it, by_snoc_else, on-append, on_here, on_else, first_here, first_else, redo_none, hit_abort}
use Rattle.any_node.proofs.Facts.{turn_cases}
use Rattle.any_node.proofs.Parts.{True, clash, one_disc, disc_number, disc_came, may_of, asked_of}
use Rattle.any_node.proofs.Invariant.{Inv, inv_step, of_disc, beside_monitor}
use Rattle.any_node.proofs.Chains.{run_ops, Runs, IsFine, IsStacked}
use Rattle.any_node.proofs.Folds.{stacked_step, fine_monitor, fine_disc}

pick_append : {A : Type 0} (b : Bool) (r : A) (us vs ws : List A) → us ≡ vs ++ ws → cond b (r ∷ us) us ≡ cond b (r ∷ vs) vs ++ ws
pick_append true r us vs ws e = ap (λ xs. r ∷ xs) e
pick_append false r us vs ws e = e

writes-append : {N : Layout} (t : N.Tx) (xs ys : List (ℕ × Event N)) → writes t (xs ++ ys) ≡ writes t xs ++ writes t ys
writes-append t [] ys = refl
writes-append {N} t ((p, Write u r) ∷ xs) ys = pick_append (N.txs.same u t) r (writes t (xs ++ ys)) (writes t xs) (writes t ys) (writes-append t xs ys)
writes-append t ((p, _) ∷ xs) ys = writes-append t xs ys

module _ (N : Layout) where
  elsewhere : (k : N.Key) (st : State N) (e : Event N) → allows N st e → ((o : Disc N) → st ≡ disc o → N.disc_of k ≡ o.number → ⊥) → (p : ℕ) (t : N.Tx) → on k (writes t ((p, e) ∷ [])) ≡ []
  elsewhere k (disc o) (Write u r) may f p t = either (N.txs.same u t) where
    either : (b : Bool) → on k (cond b (r ∷ []) []) ≡ []
    either true = first_else k r [] (λ e. f o refl (ap N.disc_of (sym e) ∙ may.1.5))
    either false = refl
  elsewhere k (worker o) (Write u r) may f p t = absurd may
  elsewhere k (trail o) (Write u r) may f p t = absurd may
  elsewhere k (monitor o) (Write u r) may f p t = absurd may
  elsewhere k (dump o) (Write u r) may f p t = absurd may
  elsewhere k st _ may f p t = refl

  grown_by : (t : N.Tx) (k : N.Key) (ws made : List (AuditRecord N)) (r : AuditRecord N) (u : N.Tx) → r.tx ≡ u → on k ws ≡ by t (on k made) → on k (ws ++ cond (N.txs.same u t) (r ∷ []) []) ≡ by t (on k (made ++ r ∷ []))
  grown_by t k ws made r u of h =
      ⊎_elim
      (λ (e : u ≡ t).
      ap (λ b. on k (ws ++ cond b (r ∷ []) [])) (N.txs.reflexive u t e)
      ∙ ⊎_elim
      (λ (i : r.key ≡ k). on_here k ws r i ∙ ap (λ us. us ++ r ∷ []) h ∙ sym (ap (λ us. by t us) (on_here k made r i) ∙ by_snoc_it t (on k made) r (of ∙ e)))
      (λ (n : r.key ≢ k). on_else k ws r n ∙ h ∙ sym (ap (λ us. by t us) (on_else k made r n)))
      (same_or N.keys r.key k))
      (λ (d : u ≢ t).
      ap (λ b. on k (ws ++ cond b (r ∷ []) [])) (not_same N.txs u t d) ∙ ap (λ us. on k us) (append-nil ws) ∙ h
      ∙ sym (⊎_elim
      (λ (i : r.key ≡ k). ap (λ us. by t us) (on_here k made r i) ∙ by_snoc_else t (on k made) r (λ e. d (sym of ∙ e)))
      (λ (n : r.key ≢ k). ap (λ us. by t us) (on_else k made r n))
      (same_or N.keys r.key k)))
      (same_or N.txs u t)

  pub by_other : (t : N.Tx) (k : N.Key) (made : List (AuditRecord N)) (r : AuditRecord N) → r.tx ≢ t → by t (on k (made ++ r ∷ [])) ≡ by t (on k made)
  by_other t k made r n = ⊎_elim
      (λ (i : r.key ≡ k). ap (λ us. by t us) (on_here k made r i) ∙ by_snoc_else t (on k made) r n)
      (λ (d : r.key ≢ k). ap (λ us. by t us) (on_else k made r d))
      (same_or N.keys r.key k)

  wrote_here : (o : Disc N) (e : Event N) → allows_disc N o e → (p : ℕ) (t : N.Tx) (k : N.Key) (ws : List (AuditRecord N)) → (step_disc N o e).undone t ≡ false → (o.undone t ≡ false → on k ws ≡ by t (on k o.made)) → on k (ws ++ writes t ((p, e) ∷ [])) ≡ by t (on k (step_disc N o e).made)
  wrote_here o (Write u r) may p t k ws live h = grown_by t k ws o.made r u may.2 (h live)
  wrote_here o (Undo u) may p t k ws live h = undone_here (o.left u) may.0 may.1 may.2 live where
    undone_here : (xs : List (AuditRecord N)) (r : AuditRecord N) (rs : List (AuditRecord N)) → xs ≡ r ∷ rs → (undoing N u o xs).undone t ≡ false → on k (ws ++ []) ≡ by t (on k (undoing N u o xs).made)
    undone_here [] r rs is live = absurd (cc (is))
    undone_here (x ∷ xs) r rs is live = ⊎_elim
        (λ (e : t ≡ u). (let both : true ≡ false = sym (put_here N.txs u true o.undone) ∙ ap (λ v. put N.txs u true o.undone v) (sym e) ∙ live in absurd (cc (both))))
        (λ (n : t ≢ u).
        ap (λ us. on k us) (append-nil ws) ∙ h (sym (put_else N.txs u true o.undone t n) ∙ live)
        ∙ sym (by_other t k o.made (undo_record N u o x) (λ e. n (sym e))))
        (same_or N.txs t u)
  wrote_here o (Turn u why) may p t k ws live h = ap (λ us. on k us) (append-nil ws) ∙ turn_cases N (λ z. z.undone t ≡ false → on k ws ≡ by t (on k z.made)) u why o h (λ j. h) live
  wrote_here o _ may p t k ws live h = ap (λ us. on k us) (append-nil ws) ∙ h live

  pub record Whole (ss : List (State N)) (log : List (ℕ × Event N)) : Type 0 where
    pub inv : Inv N ss
    pub stacked : (q : ℕ) (s : Disc N) → slice_get ss q ≡ Some (disc s) → IsStacked N s
    pub fine : (q r : ℕ) (s : Disc N) (m : Monitor N) → slice_get ss q ≡ Some (disc s) → slice_get ss r ≡ Some (monitor m) → IsFine N s m
    pub wrote : (q : ℕ) (s : Disc N) → slice_get ss q ≡ Some (disc s) → (t : N.Tx) (k : N.Key) → N.disc_of k ≡ s.number → s.undone t ≡ false → on k (writes t log) ≡ by t (on k s.made)

  wrote_step : (ss : List (State N)) (log : List (ℕ × Event N)) (x : ℕ × Event N) → IsEnabled (node N) ss x → Whole ss log → (q : ℕ) (s : Disc N) → slice_get (next_states (node N) ss x) q ≡ Some (disc s) → (t : N.Tx) (k : N.Key) → N.disc_of k ≡ s.number → s.undone t ≡ false → on k (writes t (log ++ x ∷ [])) ≡ by t (on k s.made)
  wrote_step ss log x en w q s at t k here live =
      ⊎_elim
      (λ (a : (q ≢ x.0) × (slice_get ss q ≡ Some (disc s))).
      ap (λ us. on k us) (writes-append t log (x ∷ [])) ∙ on-append k (writes t log) (writes t (x ∷ []))
      ∙ ap (λ us. on k (writes t log) ++ us) (elsewhere k en.0 x.1 en.2 (λ o is same. a.0 (w.inv.apart q x.0 (disc s) (disc o) a.1 (en.1 ∙ ap (λ (u : State N). Some u) is) (sym here ∙ same))) x.0 t)
      ∙ append-nil (on k (writes t log)) ∙ w.wrote q s a.1 t k here live)
      (λ (a : (o : Disc N) × (q ≡ x.0) × (slice_get ss q ≡ Some (disc o)) × (s ≡ step_disc N o x.1)).
      let number : s.number ≡ a.0.number = ap (λ (z : Disc N). z.number) a.3 ∙ disc_number N a.0 x.1 in
      ap (λ us. on k us) (writes-append t log (x ∷ []))
      ∙ wrote_here a.0 x.1 (may_of N ss x q (disc a.0) en a.2 a.1).1 x.0 t k (writes t log) (ap (λ (z : Disc N). z.undone t) (sym a.3) ∙ live) (λ l. w.wrote q a.0 a.2 t k (here ∙ number) l)
      ∙ ap (λ (z : Disc N). by t (on k z.made)) (sym a.3))
      (disc_came N ss x q s at)

  pub whole_step : (ss : List (State N)) (log : List (ℕ × Event N)) (x : ℕ × Event N) → IsEnabled (node N) ss x → Whole ss log → Whole (next_states (node N) ss x) (log ++ x ∷ [])
  whole_step ss log x en w = record {
    inv = inv_step N ss x en w.inv;
    stacked = of_disc N (λ z. IsStacked N z) ss x w.stacked (λ q o at is h. stacked_step N (True N ss) o x.1 (may_of N ss x q (disc o) en at is).1 h);
    fine = beside_monitor N (λ s m. IsFine N s m) ss x en w.fine
        (λ q r s m at at_m is f. fine_disc N ss w.inv q r s m x.1 at at_m (may_of N ss x q (disc s) en at is).1 (asked_of N ss x q (disc s) en at is) f)
        (λ q r s m at at_m is f. fine_monitor N ss w.inv q r s m x.1 at at_m (w.stacked q s at) f);
    wrote = λ q s at t k here live. wrote_step ss log x en w q s at t k here live;
  }

  pub whole_after : (ss : List (State N)) (log xs : List (ℕ × Event N)) → IsHistory (node N) ss xs → Whole ss log → Whole (states_after (node N) ss xs) (log ++ xs)
  whole_after ss log [] h w = subst (λ (us : List (ℕ × Event N)). Whole ss us) (sym (append-nil log)) w
  whole_after ss log (x ∷ xs) h w = subst (λ (us : List (ℕ × Event N)). Whole (states_after (node N) (next_states (node N) ss x) xs) us) (append_assoc log (x ∷ []) xs) (whole_after (next_states (node N) ss x) (log ++ x ∷ []) xs h.1 (whole_step ss log x h.0 w))

  -- steps that go through at each key go through
  performs : (rs : List (AuditRecord N)) (m v : N.Key → Option N.Val) → ((k : N.Key) → run_ops N (on k rs) (m k) ≡ Some (v k)) → (n : N.Key → Option N.Val) × (perform rs m ≡ Some n) × ((k : N.Key) → n k ≡ v k)
  performs [] m v f = (m, refl, λ k. (let e = f k in cc (e)))
  performs (r ∷ rs) m v f = at_first (given r (m r.key)) refl (λ u h. performs rs (put N.keys r.key u m) v h) where
    at_first : (o : Option (Option N.Val)) → given r (m r.key) ≡ o → ((u : Option N.Val) → ((k : N.Key) → run_ops N (on k rs) (put N.keys r.key u m k) ≡ Some (v k)) → (n : N.Key → Option N.Val) × (perform rs (put N.keys r.key u m) ≡ Some n) × ((k : N.Key) → n k ≡ v k)) →
        (n : N.Key → Option N.Val) × (elim o [ None ↦ None | Some u ↦ perform rs (put N.keys r.key u m) ] ≡ Some n) × ((k : N.Key) → n k ≡ v k)
    at_first None is go =
        let here : run_ops N (r ∷ on r.key rs) (m r.key) ≡ Some (v r.key) = ap (λ us. run_ops N us (m r.key)) (sym (first_here r.key r rs refl)) ∙ f r.key in
        let none : None ≡ Some (v r.key) = subst (λ (o : Option (Option N.Val)). elim o [ None ↦ None | Some u ↦ run_ops N (on r.key rs) u ] ≡ Some (v r.key)) is here in
        absurd (cc (none))
    at_first (Some u) is go = go u (λ k. ⊎_elim
        (λ (e : r.key ≡ k).
        let here : run_ops N (r ∷ on k rs) (m r.key) ≡ Some (v k) = ap (λ us. run_ops N us (m r.key)) (sym (first_here k r rs e)) ∙ ap (λ j. run_ops N (on k (r ∷ rs)) (m j)) e ∙ f k in
        ap (λ w. run_ops N (on k rs) w) (ap (λ j. put N.keys r.key u m j) (sym e) ∙ put_here N.keys r.key u m)
        ∙ subst (λ (o : Option (Option N.Val)). elim o [ None ↦ None | Some u ↦ run_ops N (on k rs) u ] ≡ Some (v k)) is here)
        (λ (n : r.key ≢ k).
        ap (λ w. run_ops N (on k rs) w) (put_else N.keys r.key u m k (λ e. n (sym e)))
        ∙ ap (λ us. run_ops N us (m k)) (sym (first_else k r rs n)) ∙ f k)
        (same_or N.keys r.key k))

  effect_is : (x : Ending N) (rs : List (AuditRecord N)) (m n : N.Key → Option N.Val) → perform rs m ≡ Some n → effect rs m ≡ n
  effect_is x rs m n e = ap (λ o. elim o [ None ↦ m | Some n ↦ n ]) e

  -- a key that is on none of the discs
  abbrev pub IsNowhere : N.Key → Type 0
  IsNowhere k = Among N.discs (N.disc_of k) → ⊥

  -- the fold by operations is that by records, and nothing of what is on no disc
  abbrev pub FoldIs : List (State N) → List (ℕ × Event N) → List (Ending N) → (N.Key → Option N.Val) → Type 0
  FoldIs ss log xs m =
      ((q : ℕ) (s : Disc N) → slice_get ss q ≡ Some (disc s) → (k : N.Key) → N.disc_of k ≡ s.number → After log xs m k ≡ folded (on k s.made) xs (m k))
      × ((k : N.Key) → IsNowhere k → After log xs m k ≡ m k)

  module _ (ss : List (State N)) (log : List (ℕ × Event N)) (w : Whole ss log) (listed : (q : ℕ) (s : Disc N) → slice_get ss q ≡ Some (disc s) → Among N.discs s.number) (covers : (k : N.Key) → Among N.discs (N.disc_of k) → DiscAt ss (N.disc_of k)) (unwritten : (k : N.Key) (t : N.Tx) → IsNowhere k → on k (writes t log) ≡ []) where
    -- what a commit makes of a key
    abbrev new_at : Ending N → (N.Key → Option N.Val) → (k : N.Key) → Among N.discs (N.disc_of k) ⊎ IsNowhere k → Option N.Val
    new_at x m k (inl has) = redo (hit x) (m k) (on k (covers k has).1.made)
    new_at x m k (inr gone) = m k

    new_here : (x : Ending N) (m : N.Key → Option N.Val) (q : ℕ) (s : Disc N) → slice_get ss q ≡ Some (disc s) → (k : N.Key) → N.disc_of k ≡ s.number → (c : Among N.discs (N.disc_of k) ⊎ IsNowhere k) → new_at x m k c ≡ redo (hit x) (m k) (on k s.made)
    new_here x m q s at k here (inl has) = (let c = covers k has in ap (λ (z : Disc N). redo (hit x) (m k) (on k z.made)) (one_disc N ss w.inv.apart c.0 q c.1 s c.2 at (sym c.3 ∙ here)))
    new_here x m q s at k here (inr gone) = absurd (gone (subst (λ (n : ℕ). Among N.discs n) (sym here) (listed q s at)))

    new_nowhere : (x : Ending N) (m : N.Key → Option N.Val) (k : N.Key) → IsNowhere k → (c : Among N.discs (N.disc_of k) ⊎ IsNowhere k) → new_at x m k c ≡ m k
    new_nowhere x m k gone (inl has) = absurd (gone has)
    new_nowhere x m k gone (inr none) = refl

    goes_through : (x : Ending N) (m : N.Key → Option N.Val) → Backed N (True N ss) x → x.commit ≡ true → ((q : ℕ) (s : Disc N) → slice_get ss q ≡ Some (disc s) → (k : N.Key) → N.disc_of k ≡ s.number → x.commit ≡ true → run_ops N (by x.tx (on k s.made)) (m k) ≡ Some (redo (hit x) (m k) (on k s.made))) →
        (j : N.Key) (c : Among N.discs (N.disc_of j) ⊎ IsNowhere j) → run_ops N (on j (writes x.tx log)) (m j) ≡ Some (new_at x m j c)
    goes_through x m b c runs j (inl has) =
        let t = covers j has in
        let close : True N ss (Decided x.tx true b.0) = subst (λ (c : Bool). True N ss (Decided x.tx c b.0)) c b.1 in
        let fine : t.1.undone x.tx ≡ false = is_false (t.1.undone x.tx) (λ u. (let back = (w.inv.discs t.0 t.1 t.2).backed x.tx u in clash N ss w.inv.apart x.tx b.0 back.0 close back.1)) in
        ap (λ us. run_ops N us (m j)) (w.wrote t.0 t.1 t.2 x.tx j t.3 fine) ∙ runs t.0 t.1 t.2 j t.3 c
    goes_through x m b c runs j (inr gone) = ap (λ us. run_ops N us (m j)) (unwritten j x.tx gone)

    pub fold_is : (xs : List (Ending N)) (m : N.Key → Option N.Val) → Each (Backed N (True N ss)) xs →
        ((q : ℕ) (s : Disc N) → slice_get ss q ≡ Some (disc s) → (k : N.Key) → N.disc_of k ≡ s.number → Runs N (on k s.made) xs (m k)) → FoldIs ss log xs m
    fold_is [] m b runs = ((λ q s at k here. refl), (λ k gone. refl))
    fold_is (x ∷ xs) m b runs =
        let one : ((q : ℕ) (s : Disc N) → slice_get ss q ≡ Some (disc s) → (k : N.Key) → N.disc_of k ≡ s.number → cond x.commit (effect (writes x.tx log) m) m k ≡ redo (hit x) (m k) (on k s.made)) × ((k : N.Key) → IsNowhere k → cond x.commit (effect (writes x.tx log) m) m k ≡ m k) = ⊎_elim
        (λ (c : x.commit ≡ true).
        (let p = performs (writes x.tx log) m (λ k. new_at x m k (among_or (N.disc_of k) N.discs)) (λ j. goes_through x m b.0 c (λ q s at k here. (runs q s at k here).0) j (among_or (N.disc_of j) N.discs)) in
        let is : (k : N.Key) → cond x.commit (effect (writes x.tx log) m) m k ≡ new_at x m k (among_or (N.disc_of k) N.discs) = λ k. ap (λ b. cond b (effect (writes x.tx log) m) m k) c ∙ ap (λ (f : N.Key → Option N.Val). f k) (effect_is x (writes x.tx log) m p.0 p.1) ∙ p.2 k in
        ((λ q s at k here. is k ∙ new_here x m q s at k here (among_or (N.disc_of k) N.discs)), (λ k gone. is k ∙ new_nowhere x m k gone (among_or (N.disc_of k) N.discs)))))
        (λ (a : x.commit ≡ false).
        ((λ q s at k here. ap (λ b. cond b (effect (writes x.tx log) m) m k) a ∙ sym (redo_none (hit x) (m k) (on k s.made) (each_from (λ r. hit x r.tx ≡ false) (on k s.made) (λ r _. hit_abort x r.tx a)))), (λ k gone. ap (λ b. cond b (effect (writes x.tx log) m) m k) a)))
        (true_or_false x.commit) in
        let rest = fold_is xs (cond x.commit (effect (writes x.tx log) m) m) b.1 (λ q s at k here. subst (λ (v : Option N.Val). Runs N (on k s.made) xs v) (sym (one.0 q s at k here)) (runs q s at k here).1) in (
          (λ q s at k here. rest.0 q s at k here ∙ ap (λ v. folded (on k s.made) xs v) (one.0 q s at k here)),
          (λ k gone. rest.1 k gone ∙ one.1 k gone),
        )
