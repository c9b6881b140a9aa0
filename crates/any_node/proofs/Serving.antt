-- The fold serves each transaction what it read, through a history.
use Rattle.std.proofs.Common.{◌≡◌, ◌≢◌, ◌⊎◌, ℕ, Bool, true, false, cond, List, [], ◌∷◌, ◌++◌, Option, Some, None, slice_get, refl, ap, sym, ◌∙◌, subst, ⊎_elim, inl, inr, append_assoc, append-nil, reverse}
use Rattle.chronicle.specs.Histories.{next_states, states_after, IsEnabled, IsHistory}
use Rattle.any_node.specs.Layout.{Layout, put}
use Rattle.any_node.specs.Value.{AuditRecord, Ending, Among, Each, on, hit, commits, redo, folded}
use Rattle.any_node.specs.Node.{Disc, Monitor, Cause, State, Event, node, Backed, allows, allows_disc, allows_turn, asks_disc, step_disc, step_turn, step_monitor, undoing, undo_record, holding, IsFree, freed}
use Rattle.any_node.specs.Fold.{steps_on, acts, Fit, Step, steps}
use Rattle.any_node.specs.Fold.Step.{wrote, saw}
use Rattle.any_node.specs.Node.State.{worker, disc, trail, monitor, dump}
use Rattle.any_node.specs.Node.Cause.{Busy, BusyFile, Full, Refused}
use Rattle.any_node.specs.Node.Event.{Write, Read, Lock, Turn, Dumping, Undo, Close, Release, Draw, Drawn, Low, Lowered, Start, Raise, OfferCar, Land, Failed}
use Rattle.any_node.specs.Node.Fact.{Enlisted, Decided, Committed}
use Rattle.any_node.specs.Opening.{HasParts}
use Rattle.any_node.proofs.Lists.{is_false, true_or_false, not_same, same_or, put_at, put_here, put_else, some≢none, some_is, each_left, each_right, each_from, each_map, or_left, or_right}
use Rattle.any_node.proofs.Values.{Absent, Last, Once, by, by_has, on_here, on_else, commits-append, commits_hit, redo_none, folded-append, hit_it, hit_else, hit_abort, commits_has}
use Rattle.any_node.proofs.Parts.{True, clash, committed_here, disc_number, disc_came, monitor_came, two_kinds, may_of, asked_of}
use Rattle.any_node.proofs.Discs.{IsGood, holds_left}
use Rattle.any_node.proofs.Monitors.{uncommitted, not_both}
use Rattle.any_node.proofs.Invariant.{knows}
use Rattle.any_node.proofs.Chains.{waiting, Back, IsFine, waits, same_fold}
use Rattle.any_node.proofs.Folds.{Settles, settle_all, fresh_more, land_one}
use Rattle.any_node.proofs.Whole.{Whole, IsNowhere}
use Rattle.any_node.proofs.Rests.{parts_step}
use Rattle.any_node.proofs.Serial.{fit_wrote, fit_saw, Serves, serves_acts, serves_more, serves_append, acts_same, acts-append, nothing_written, wrote_now, wrote_not, saw_now, saw_not}
use Rattle.any_node.proofs.Deep.{Deep, deep_step}

module _ (N : Layout) where
  -- what t did on a key that it holds fits from the fold's value to the map's
  abbrev pub Fits : Disc N → List (Ending N) → Option N.Val → N.Key → N.Tx → List (Step N) → Type 0
  Fits s xs v k t a = s.released t ≡ false → s.undone t ≡ false → commits xs t ≡ false → (a ≡ []) ⊎ ((s.held k ≡ Some t) × Fit v a (s.map k))

  pub record IsServing (log : List (ℕ × Event N)) (s : Disc N) (m : Monitor N) : Type 0 where
    pub live : (t : N.Tx) (k : N.Key) → N.disc_of k ≡ s.number → Fits s m.landed (folded (on k s.made) m.landed (s.base k)) k t (acts k t log)
    pub done : (k : N.Key) → N.disc_of k ≡ s.number → Serves (λ t. acts k t log) (on k s.made) m.landed (s.base k)

  -- the same of another log
  pub serving_log : (log more : List (ℕ × Event N)) (s : Disc N) (m : Monitor N) → ((t : N.Tx) (k : N.Key) → N.disc_of k ≡ s.number → acts k t more ≡ acts k t log) → IsServing log s m → IsServing more s m
  serving_log log more s m same h = record {
    live = λ t k here live fine un. subst (λ (a : List (Step N)). (a ≡ []) ⊎ ((s.held k ≡ Some t) × Fit (folded (on k s.made) m.landed (s.base k)) a (s.map k))) (sym (same t k here)) (h.live t k here live fine un);
    done = λ k here. serves_acts (λ t. acts k t log) (λ t. acts k t more) (on k s.made) m.landed (s.base k) (λ t _. sym (same t k here)) (h.done k here);
  }

  module _ (ss : List (State N)) (log : List (ℕ × Event N)) (w : Whole N ss log) (q r : ℕ) (s : Disc N) (m : Monitor N) (at : slice_get ss q ≡ Some (disc s)) (at_m : slice_get ss r ≡ Some (monitor m)) (h : IsServing log s m) where
    good : IsGood (True N ss) s
    good = w.inv.discs q s at

    fine_now : IsFine N s m
    fine_now = w.fine q r s m at at_m

    landed_backed : Each (Backed N (True N ss)) m.landed
    landed_backed = each_left (Backed N (True N ss)) m.landed m.offered (w.inv.mons r m at_m).backed

    -- what may act is not committed
    active : (t : N.Tx) → True N ss (Enlisted t s.number) → s.closed t ≡ false → commits m.landed t ≡ false
    active t listed open_ = uncommitted N ss w.inv.apart q s at m.landed t landed_backed listed open_

    -- where t did nothing yet, the map has the fold's value
    pub untouched : (t : N.Tx) (k : N.Key) → N.disc_of k ≡ s.number → s.released t ≡ false → s.undone t ≡ false → commits m.landed t ≡ false → IsFree (s.held k) t → acts k t log ≡ [] → folded (on k s.made) m.landed (s.base k) ≡ s.map k
    untouched t k here live fine un free none =
        let by_none : by t (on k s.made) ≡ [] = sym (w.wrote q s at t k here fine) ∙ nothing_written k t log none in
        let left_none : on k (s.left t) ≡ [] = w.stacked q s at t k fine ∙ ap reverse by_none in
        let idle : waiting m.landed s.left k (s.held k) ≡ [] = waits N (True N ss) s good m.landed t k live un free ∙ left_none in
        subst (λ (us : List (AuditRecord N)). Back N (folded (on k s.made) m.landed (s.base k)) us (s.map k)) idle (fine_now.chain k)

    -- of another, or done before
    other : (t u : N.Tx) (k : N.Key) → u ≢ t → IsFree (s.held k) t → (acts k u log ≡ []) ⊎ ((s.held k ≡ Some u) × Fit (folded (on k s.made) m.landed (s.base k)) (acts k u log) (s.map k)) → acts k u log ≡ []
    other t u k n free a = ⊎_elim
        (λ (none : acts k u log ≡ []). none)
        (λ (x : (s.held k ≡ Some u) × Fit (folded (on k s.made) m.landed (s.base k)) (acts k u log) (s.map k)).
        ⊎_elim
        (λ (e : s.held k ≡ None). absurd (some≢none u (sym x.0 ∙ e)))
        (λ (e : s.held k ≡ Some t). absurd (n (some_is u t (sym x.0 ∙ e))))
        free)
        a

    serving_write : (p : ℕ) (t : N.Tx) (rec : AuditRecord N) → allows_disc N s (Write t rec) → True N ss (Enlisted t s.number) → IsServing (log ++ (p, Write t rec) ∷ []) (step_disc N s (Write t rec)) m
    serving_write p t rec may listed =
        let un : commits m.landed t ≡ false = active t listed may.0.0 in
        let un_r : commits m.landed rec.tx ≡ false = ap (λ x. commits m.landed x) may.2 ∙ un in
        record {
          live = λ u k here live fine un_u. ⊎_elim
              (λ (e : rec.key ≡ k).
              let free : IsFree (s.held k) t = subst (λ (j : N.Key). IsFree (s.held j) t) e may.1.0 in
              let map_now : rec.after ≡ put N.keys rec.key rec.after s.map k = sym (put_here N.keys rec.key rec.after s.map) ∙ ap (λ j. put N.keys rec.key rec.after s.map j) e in
              let old = h.live u k here live fine un_u in
              ⊎_elim
              (λ (i : u ≡ t).
              let a : acts k u (log ++ (p, Write t rec) ∷ []) ≡ acts k u log ++ wrote rec ∷ [] = ap (λ x. acts k x (log ++ (p, Write t rec) ∷ [])) i ∙ acts-append k t log ((p, Write t rec) ∷ []) ∙ ap (λ us. acts k t log ++ us) (wrote_now k p t rec e) ∙ ap (λ x. acts k x log ++ wrote rec ∷ []) (sym i) in
              let was : rec.before ≡ s.map k = may.3 ∙ ap s.map e in
              let fit : Fit (folded (on k s.made) m.landed (s.base k)) (acts k u log ++ wrote rec ∷ []) rec.after = fit_wrote (folded (on k s.made) m.landed (s.base k)) (s.map k) (acts k u log) rec
              (⊎_elim
              (λ (none : acts k u log ≡ []). subst (λ (us : List (Step N)). Fit (folded (on k s.made) m.landed (s.base k)) us (s.map k)) (sym none) (untouched u k here live fine un_u (subst (λ (x : N.Tx). IsFree (s.held k) x) (sym i) free) none))
              (λ (x : (s.held k ≡ Some u) × Fit (folded (on k s.made) m.landed (s.base k)) (acts k u log) (s.map k)). x.1)
              old) was may.4 in
              inr (
                ap (λ j. put N.keys rec.key (Some t) s.held j) (sym e) ∙ put_here N.keys rec.key (Some t) s.held ∙ ap (λ x. Some x) (sym i),
                subst (λ (us : List (Step N)). Fit (folded (on k (s.made ++ rec ∷ [])) m.landed (s.base k)) us (put N.keys rec.key rec.after s.map k)) (sym a)
                    (subst (λ (v : Option N.Val). Fit v (acts k u log ++ wrote rec ∷ []) (put N.keys rec.key rec.after s.map k)) (sym (same_fold N (True N ss) s m rec un_r k))
                    (subst (λ (c : Option N.Val). Fit (folded (on k s.made) m.landed (s.base k)) (acts k u log ++ wrote rec ∷ []) c) map_now fit)),
              ))
              (λ (n : u ≢ t). inl (acts_same k u log (p, Write t rec) (wrote_not k p t u rec (inl (λ x. n (sym x)))) ∙ other t u k n free old))
              (same_or N.txs u t))
              (λ (n : rec.key ≢ k).
              subst (λ (us : List (Step N)). (us ≡ []) ⊎ ((put N.keys rec.key (Some t) s.held k ≡ Some u) × Fit (folded (on k (s.made ++ rec ∷ [])) m.landed (s.base k)) us (put N.keys rec.key rec.after s.map k))) (sym (acts_same k u log (p, Write t rec) (wrote_not k p t u rec (inr n))))
              (subst (λ (rs : List (AuditRecord N)). (acts k u log ≡ []) ⊎ ((put N.keys rec.key (Some t) s.held k ≡ Some u) × Fit (folded rs m.landed (s.base k)) (acts k u log) (put N.keys rec.key rec.after s.map k))) (sym (on_else k s.made rec n))
              (subst (λ (o : Option N.Tx). (acts k u log ≡ []) ⊎ ((o ≡ Some u) × Fit (folded (on k s.made) m.landed (s.base k)) (acts k u log) (put N.keys rec.key rec.after s.map k))) (sym (put_else N.keys rec.key (Some t) s.held k (λ e. n (sym e))))
              (subst (λ (c : Option N.Val). (acts k u log ≡ []) ⊎ ((s.held k ≡ Some u) × Fit (folded (on k s.made) m.landed (s.base k)) (acts k u log) c)) (sym (put_else N.keys rec.key rec.after s.map k (λ e. n (sym e))))
              (h.live u k here live fine un_u)))))
              (same_or N.keys rec.key k);
          done = λ k here.
              let acts_are : Serves (λ u. acts k u (log ++ (p, Write t rec) ∷ [])) (on k s.made) m.landed (s.base k) = serves_acts (λ u. acts k u log) (λ u. acts k u (log ++ (p, Write t rec) ∷ [])) (on k s.made) m.landed (s.base k)
              (λ u c. sym (acts_same k u log (p, Write t rec) (wrote_not k p t u rec (inl (λ e. (let both : true ≡ false = sym c ∙ ap (λ x. commits m.landed x) (sym e) ∙ un in cc (both))))))) (h.done k here) in
              ⊎_elim
              (λ (e : rec.key ≡ k). subst (λ (rs : List (AuditRecord N)). Serves (λ u. acts k u (log ++ (p, Write t rec) ∷ [])) rs m.landed (s.base k)) (sym (on_here k s.made rec e)) (serves_more (λ u. acts k u (log ++ (p, Write t rec) ∷ [])) (on k s.made) rec m.landed (s.base k) un_r acts_are))
              (λ (n : rec.key ≢ k). subst (λ (rs : List (AuditRecord N)). Serves (λ u. acts k u (log ++ (p, Write t rec) ∷ [])) rs m.landed (s.base k)) (sym (on_else k s.made rec n)) acts_are)
              (same_or N.keys rec.key k);
        }

    -- t holds a key more
    serving_hold : (t : N.Tx) (j : N.Key) → IsFree (s.held j) t → IsServing log (holding N t j s) m
    serving_hold t j free = record {
      live = λ u k here live fine un. put_at N.keys (λ o. (acts k u log ≡ []) ⊎ ((o ≡ Some u) × Fit (folded (on k s.made) m.landed (s.base k)) (acts k u log) (s.map k))) j (Some t) s.held k
          (λ e. ⊎_elim
          (λ (i : u ≡ t). ⊎_elim (λ (none : acts k u log ≡ []). inl none) (λ (x : (s.held k ≡ Some u) × Fit (folded (on k s.made) m.landed (s.base k)) (acts k u log) (s.map k)). inr (ap (λ y. Some y) (sym i), x.1)) (h.live u k here live fine un))
          (λ (n : u ≢ t). inl (other t u k n (subst (λ (i : N.Key). IsFree (s.held i) t) (sym e) free) (h.live u k here live fine un)))
          (same_or N.txs u t))
          (λ n. h.live u k here live fine un);
      done = h.done;
    }

    serving_read : (p : ℕ) (t : N.Tx) (j : N.Key) (v : Option N.Val) → allows_disc N s (Read t j v) → True N ss (Enlisted t s.number) → IsServing (log ++ (p, Read t j v) ∷ []) (step_disc N s (Read t j v)) m
    serving_read p t j v may listed =
        let un : commits m.landed t ≡ false = active t listed may.0.0 in
        let held : IsServing log (holding N t j s) m = serving_hold t j may.1.0 in
        record {
          live = λ u k here live fine un_u. ⊎_elim
              (λ (i : (u ≡ t) × (j ≡ k)).
              let a : acts k u (log ++ (p, Read t j v) ∷ []) ≡ acts k u log ++ saw j v ∷ [] = ap (λ x. acts k x (log ++ (p, Read t j v) ∷ [])) i.0 ∙ acts-append k t log ((p, Read t j v) ∷ []) ∙ ap (λ us. acts k t log ++ us) (saw_now k p t j v i.1) ∙ ap (λ x. acts k x log ++ saw j v ∷ []) (sym i.0) in
              let free : IsFree (s.held k) u = subst (λ (x : N.Tx). IsFree (s.held k) x) (sym i.0) (subst (λ (x : N.Key). IsFree (s.held x) t) i.1 may.1.0) in
              inr (
                ap (λ x. put N.keys j (Some t) s.held x) (sym i.1) ∙ put_here N.keys j (Some t) s.held ∙ ap (λ x. Some x) (sym i.0),
                subst (λ (us : List (Step N)). Fit (folded (on k s.made) m.landed (s.base k)) us (s.map k)) (sym a)
                    (fit_saw (folded (on k s.made) m.landed (s.base k)) (s.map k) (acts k u log) j v
                    (⊎_elim
                    (λ (none : acts k u log ≡ []). subst (λ (us : List (Step N)). Fit (folded (on k s.made) m.landed (s.base k)) us (s.map k)) (sym none) (untouched u k here live fine un_u free none))
                    (λ (x : (s.held k ≡ Some u) × Fit (folded (on k s.made) m.landed (s.base k)) (acts k u log) (s.map k)). x.1)
                    (h.live u k here live fine un_u))
                    (may.2 ∙ ap s.map i.1)),
              ))
              (λ (n : (t ≢ u) ⊎ (j ≢ k)).
              subst (λ (us : List (Step N)). (us ≡ []) ⊎ ((put N.keys j (Some t) s.held k ≡ Some u) × Fit (folded (on k s.made) m.landed (s.base k)) us (s.map k))) (sym (acts_same k u log (p, Read t j v) (saw_not k p t u j v n)))
              (held.live u k here live fine un_u))
              (⊎_elim (λ (i : u ≡ t). ⊎_elim (λ (e : j ≡ k). inl (i, e)) (λ (n : j ≢ k). inr (inr n)) (same_or N.keys j k)) (λ (n : u ≢ t). inr (inl (λ e. n (sym e)))) (same_or N.txs u t));
          done = λ k here. serves_acts (λ u. acts k u log) (λ u. acts k u (log ++ (p, Read t j v) ∷ [])) (on k s.made) m.landed (s.base k)
              (λ u c. sym (acts_same k u log (p, Read t j v) (saw_not k p t u j v (inl (λ e. (let both : true ≡ false = sym c ∙ ap (λ x. commits m.landed x) (sym e) ∙ un in cc (both))))))) (h.done k here);
        }

    serving_undo : (t : N.Tx) (rec : AuditRecord N) (rs : List (AuditRecord N)) → s.left t ≡ rec ∷ rs → (ds : List ℕ) × True N ss (Decided t false ds) → IsServing log (undoing N t s (rec ∷ rs)) m
    serving_undo t rec rs is abort =
        let new : AuditRecord N = undo_record N t s rec in
        let un : commits m.landed t ≡ false = not_both N ss w.inv.apart m.landed t landed_backed abort.0 abort.1 in
        let has : s.held rec.key ≡ Some t = holds_left N (True N ss) s (clash N ss w.inv.apart) (knows N ss w.inv) good t rec rs is abort in
        record {
          live = λ u k here live fine un_u.
              (let n : u ≢ t = (λ e. (let both : true ≡ false = sym (ap (λ x. put N.txs t true s.undone x) e ∙ put_here N.txs t true s.undone) ∙ fine in cc (both))) in
              let old = h.live u k here live (sym (put_else N.txs t true s.undone u n) ∙ fine) un_u in
              ⊎_elim
              (λ (e : rec.key ≡ k). inl (other t u k n (inr (ap s.held (sym e) ∙ has)) old))
              (λ (d : rec.key ≢ k).
              subst (λ (us : List (AuditRecord N)). (acts k u log ≡ []) ⊎ ((s.held k ≡ Some u) × Fit (folded us m.landed (s.base k)) (acts k u log) (put N.keys rec.key rec.before s.map k))) (sym (on_else k s.made new d))
              (subst (λ (c : Option N.Val). (acts k u log ≡ []) ⊎ ((s.held k ≡ Some u) × Fit (folded (on k s.made) m.landed (s.base k)) (acts k u log) c)) (sym (put_else N.keys rec.key rec.before s.map k (λ e. d (sym e)))) old))
              (same_or N.keys rec.key k));
          done = λ k here. ⊎_elim
              (λ (e : rec.key ≡ k). subst (λ (us : List (AuditRecord N)). Serves (λ u. acts k u log) us m.landed (s.base k)) (sym (on_here k s.made new e)) (serves_more (λ u. acts k u log) (on k s.made) new m.landed (s.base k) un (h.done k here)))
              (λ (d : rec.key ≢ k). subst (λ (us : List (AuditRecord N)). Serves (λ u. acts k u log) us m.landed (s.base k)) (sym (on_else k s.made new d)) (h.done k here))
              (same_or N.keys rec.key k);
        }

    serving_release : (t : N.Tx) → IsServing log (step_disc N s (Release t)) m
    serving_release t = record {
      live = λ u k here live fine un.
          (let n : u ≢ t = (λ e. (let both : true ≡ false = sym (ap (λ x. put N.txs t true s.released x) e ∙ put_here N.txs t true s.released) ∙ live in cc (both))) in
          ⊎_elim
          (λ (none : acts k u log ≡ []). inl none)
          (λ (x : (s.held k ≡ Some u) × Fit (folded (on k s.made) m.landed (s.base k)) (acts k u log) (s.map k)). inr (ap (λ o. freed N.txs t o) x.0 ∙ ap (λ b. cond b None (Some u)) (not_same N.txs u t n), x.1))
          (h.live u k here (sym (put_else N.txs t true s.released u n) ∙ live) fine un));
      done = h.done;
    }

    serving_turn : (t : N.Tx) (why : Cause N) → allows_turn N s t why → IsServing log (step_turn N t why s) m
    serving_turn t (Busy k x) may = h
    serving_turn t (BusyFile f x) may = h
    serving_turn t (Full k x) may = serving_hold t k may.1.0
    serving_turn t (Refused k x) may = serving_hold t k may.1.0

    -- an event that is no step of a transaction
    quiet_log : (x : ℕ × Event N) → ((t : N.Tx) → steps t (x ∷ []) ≡ []) → (z : Disc N) → z.number ≡ s.number → IsServing log z m → IsServing (log ++ x ∷ []) z m
    quiet_log x none z e g = serving_log log (log ++ x ∷ []) z m (λ t k here. acts_same k t log x (ap (λ us. steps_on k us) (none t))) g

    pub serving_disc : (p : ℕ) (e : Event N) → allows_disc N s e → asks_disc N (True N ss) s e → IsServing (log ++ (p, e) ∷ []) (step_disc N s e) m
    serving_disc p (Write t rec) may asked = serving_write p t rec may asked
    serving_disc p (Read t k v) may asked = serving_read p t k v may asked
    serving_disc p (Turn t why) may asked = quiet_log (p, Turn t why) (λ u. refl) (step_turn N t why s) (disc_number N s (Turn t why)) (serving_turn t why may)
    serving_disc p (Undo t) may asked = quiet_log (p, Undo t) (λ u. refl) (step_disc N s (Undo t)) (disc_number N s (Undo t)) (subst (λ (us : List (AuditRecord N)). IsServing log (undoing N t s us) m) (sym may.2) (serving_undo t may.0 may.1 may.2 asked))
    serving_disc p (Release t) may asked = quiet_log (p, Release t) (λ u. refl) (step_disc N s (Release t)) refl (serving_release t)
    serving_disc p (Lock t f) may asked = quiet_log (p, Lock t f) (λ u. refl) (step_disc N s (Lock t f)) refl (record { live = h.live; done = h.done })
    serving_disc p (Dumping by) may asked = quiet_log (p, Dumping by) (λ u. refl) s refl h
    serving_disc p (Close t) may asked = quiet_log (p, Close t) (λ u. refl) (step_disc N s (Close t)) refl (record { live = h.live; done = h.done })
    serving_disc p (Draw b n) may asked = quiet_log (p, Draw b n) (λ u. refl) (step_disc N s (Draw b n)) refl (record { live = h.live; done = h.done })
    serving_disc p (Drawn b) may asked = quiet_log (p, Drawn b) (λ u. refl) (step_disc N s (Drawn b)) refl (record { live = h.live; done = h.done })
    serving_disc p (Low by l) may asked = quiet_log (p, Low by l) (λ u. refl) (step_disc N s (Low by l)) refl (record { live = h.live; done = h.done })
    serving_disc p Lowered may asked = quiet_log (p, Lowered) (λ u. refl) (step_disc N s Lowered) refl (record { live = h.live; done = h.done })
    serving_disc p (Start by i l) may asked = quiet_log (p, Start by i l) (λ u. refl) (step_disc N s (Start by i l)) refl (record { live = h.live; done = h.done })
    serving_disc p (Raise i x) may asked = quiet_log (p, Raise i x) (λ u. refl) (step_disc N s (Raise i x)) refl (record { live = h.live; done = h.done })
    serving_disc p (Failed by) may asked = quiet_log (p, Failed by) (λ u. refl) s refl h
    serving_disc p _ may asked = absurd may

    -- what is offered has not released, and nothing of it was undone
    offered_live : (xs : List (Ending N)) → Each (Backed N (True N ss)) xs → Each (λ x. commits m.landed x.tx ≡ false) xs → Each (λ x. x.commit ≡ true → (s.released x.tx ≡ false) × (s.undone x.tx ≡ false)) xs
    offered_live [] b f = tt
    offered_live (x ∷ xs) b f = (
      (λ c.
          let close : True N ss (Decided x.tx true b.0.0) = subst (λ (c : Bool). True N ss (Decided x.tx c b.0.0)) c b.0.1 in (
            is_false (s.released x.tx) (λ e. ⊎_elim
                (λ (y : (p : ℕ) × True N ss (Committed x.tx p)). (let both : true ≡ false = sym (commits_has m.landed x.tx (committed_here N ss w.inv.apart r m at_m x.tx y.0 y.1)) ∙ f.0 in cc (both)))
                (λ (y : ((ds : List ℕ) × True N ss (Decided x.tx false ds)) × (s.left x.tx ≡ [])). clash N ss w.inv.apart x.tx b.0.0 y.0.0 close y.0.1)
                (good.let_go x.tx e)),
            is_false (s.undone x.tx) (λ u. clash N ss w.inv.apart x.tx b.0.0 (good.backed x.tx u).0 close (good.backed x.tx u).1),
          )),
      offered_live xs b.1 f.1,
    )

    -- a record that changes nothing of the key
    no_change : (k : N.Key) (x : Ending N) (v : Option N.Val) → (x.commit ≡ true → Absent x.tx (on k s.made)) → redo (hit x) v (on k s.made) ≡ v
    no_change k x v gone = redo_none (hit x) v (on k s.made) (⊎_elim
        (λ (c : x.commit ≡ true). each_map (λ y. y.tx ≢ x.tx) (λ y. hit x y.tx ≡ false) (on k s.made) (λ y n. hit_else x y.tx n) (gone c))
        (λ (a : x.commit ≡ false). each_from (λ y. hit x y.tx ≡ false) (on k s.made) (λ y _. hit_abort x y.tx a))
        (true_or_false x.commit))

    serving_one : (k : N.Key) → N.disc_of k ≡ s.number → (old : List (Ending N)) (x : Ending N) (v : Option N.Val) → Settles N s k x → commits old x.tx ≡ false → (x.commit ≡ true → (s.released x.tx ≡ false) × (s.undone x.tx ≡ false)) → Back N v (waiting old s.left k (s.held k)) (s.map k) → ((u : N.Tx) → Fits s old v k u (acts k u log)) →
        (x.commit ≡ true → Fit v (acts k x.tx log) (redo (hit x) v (on k s.made))) × ((u : N.Tx) → Fits s (old ++ x ∷ []) (redo (hit x) v (on k s.made)) k u (acts k u log))
    serving_one k here old x v st fresh alive b lives = (
      (λ c. ⊎_elim
          (λ (none : acts k x.tx log ≡ []).
          (let nothing : by x.tx (on k s.made) ≡ [] = sym (w.wrote q s at x.tx k here (alive c).1) ∙ nothing_written k x.tx log none in
          let gone : Absent x.tx (on k s.made) = each_from (λ y. y.tx ≢ x.tx) (on k s.made) (λ y has e. by_has x.tx (on k s.made) y has e nothing) in
          subst (λ (us : List (Step N)). Fit v us (redo (hit x) v (on k s.made))) (sym none) (sym (no_change k x v (λ _. gone)))))
          (λ (y : (s.held k ≡ Some x.tx) × Fit v (acts k x.tx log) (s.map k)).
          (let idle : waiting (old ++ x ∷ []) s.left k (s.held k) ≡ [] = ap (λ o. waiting (old ++ x ∷ []) s.left k o) y.0 ∙ ap (λ d. cond d [] (on k (s.left x.tx))) (commits_hit old x x.tx (hit_it x x.tx c refl)) in
          let last : redo (hit x) v (on k s.made) ≡ s.map k = subst (λ (us : List (AuditRecord N)). Back N (redo (hit x) v (on k s.made)) us (s.map k)) idle (land_one N s k old x v st fresh b).1 in
          subst (λ (o : Option N.Val). Fit v (acts k x.tx log) o) (sym last) y.1))
          (lives x.tx (alive c).0 (alive c).1 fresh)),
      (λ u live fine un.
          (let parts : cond (commits old u) true (cond (hit x u) true false) ≡ false = sym (commits-append old (x ∷ []) u) ∙ un in
          let un_old : commits old u ≡ false = or_left (commits old u) (cond (hit x u) true false) parts in
          let not_it : hit x u ≡ false = or_left (hit x u) false (or_right (commits old u) (cond (hit x u) true false) parts) in
          ⊎_elim
          (λ (none : acts k u log ≡ []). inl none)
          (λ (y : (s.held k ≡ Some u) × Fit v (acts k u log) (s.map k)).
          (let same : redo (hit x) v (on k s.made) ≡ v = no_change k x v (λ c. ⊎_elim
          (λ (gone : Absent x.tx (on k s.made) × (on k (s.left x.tx) ≡ [])). gone.0)
          (λ (yes : (s.held k ≡ Some x.tx) × Last x.tx (on k s.made) × (on k (s.left x.tx) ≡ reverse (by x.tx (on k s.made)))).
          (let it : u ≡ x.tx = some_is u x.tx (sym y.0 ∙ yes.0) in
          let both : true ≡ false = sym (hit_it x u c it) ∙ not_it in absurd (cc (both))))
          (st c)) in
          inr (y.0, subst (λ (o : Option N.Val). Fit o (acts k u log) (s.map k)) (sym same) y.1)))
          (lives u live fine un_old))),
    )

    serving_all : (k : N.Key) → N.disc_of k ≡ s.number → (old xs : List (Ending N)) (v : Option N.Val) → Each (Settles N s k) xs → Each (λ x. commits old x.tx ≡ false) xs → Once xs → Each (λ x. x.commit ≡ true → (s.released x.tx ≡ false) × (s.undone x.tx ≡ false)) xs → Back N v (waiting old s.left k (s.held k)) (s.map k) → ((u : N.Tx) → Fits s old v k u (acts k u log)) →
        Serves (λ t. acts k t log) (on k s.made) xs v × ((u : N.Tx) → Fits s (old ++ xs) (folded (on k s.made) xs v) k u (acts k u log))
    serving_all k here old [] v st fresh once alive b lives = (tt, subst (λ (ms : List (Ending N)). (u : N.Tx) → Fits s ms v k u (acts k u log)) (sym (append-nil old)) lives)
    serving_all k here old (x ∷ xs) v st fresh once alive b lives =
        let one = serving_one k here old x v st.0 fresh.0 alive.0 b lives in
        let rest = serving_all k here (old ++ x ∷ []) xs (redo (hit x) v (on k s.made)) st.1 (fresh_more N old xs x fresh.1 once.0) once.1 alive.1 (land_one N s k old x v st.0 fresh.0 b).1 one.1 in
        ((one.0, rest.0), subst (λ (ms : List (Ending N)). (u : N.Tx) → Fits s ms (folded (on k s.made) xs (redo (hit x) v (on k s.made))) k u (acts k u log)) (append_assoc old (x ∷ []) xs) rest.1)

    -- where the car that is offered has landed too
    pub serving_landed : (k : N.Key) → N.disc_of k ≡ s.number → Serves (λ t. acts k t log) (on k s.made) (m.landed ++ m.offered) (s.base k) × ((u : N.Tx) → Fits s (m.landed ++ m.offered) (folded (on k s.made) (m.landed ++ m.offered) (s.base k)) k u (acts k u log))
    serving_landed k here =
        let fair = w.inv.mons r m at_m in
        let backed : Each (Backed N (True N ss)) m.offered = each_right (Backed N (True N ss)) m.landed m.offered fair.backed in
        let all = serving_all k here m.landed m.offered (folded (on k s.made) m.landed (s.base k)) (settle_all N ss w.inv q r s m at at_m (w.stacked q s at) k m.offered backed fair.fresh) fair.fresh fair.once (offered_live m.offered backed fair.fresh) (fine_now.chain k) (λ u. h.live u k here) in (
          serves_append (λ t. acts k t log) (on k s.made) m.landed m.offered (s.base k) (h.done k here) all.0,
          subst (λ (v : Option N.Val). (u : N.Tx) → Fits s (m.landed ++ m.offered) v k u (acts k u log)) (sym (folded-append (on k s.made) m.landed m.offered (s.base k))) all.1,
        )

    pub serving_monitor : (p : ℕ) (e : Event N) → allows N (monitor m) e → IsServing (log ++ (p, e) ∷ []) s (step_monitor N m e)
    serving_monitor p Land may = serving_log log (log ++ (p, Land) ∷ []) s (step_monitor N m Land) (λ t k here. acts_same k t log (p, Land) refl) (record { live = λ t k here. (serving_landed k here).1 t; done = λ k here. (serving_landed k here).0 })
    serving_monitor p (OfferCar xs) may = serving_log log (log ++ (p, OfferCar xs) ∷ []) s (step_monitor N m (OfferCar xs)) (λ t k here. acts_same k t log (p, OfferCar xs) refl) (record { live = h.live; done = h.done })
    serving_monitor p (Failed by) may = serving_log log (log ++ (p, Failed by) ∷ []) s m (λ t k here. acts_same k t log (p, Failed by) refl) h
    serving_monitor p _ may = absurd may

  -- what happens elsewhere is no step on the disc's keys
  acts_elsewhere : (k : N.Key) (st : State N) (e : Event N) → allows N st e → ((o : Disc N) → st ≡ disc o → N.disc_of k ≡ o.number → ⊥) → (p : ℕ) (t : N.Tx) → acts {N = N} k t ((p, e) ∷ []) ≡ []
  acts_elsewhere k (disc o) (Write u r) may f p t = wrote_not k p u t r (inr (λ e. f o refl (ap N.disc_of (sym e) ∙ may.1.5)))
  acts_elsewhere k (disc o) (Read u j v) may f p t = saw_not k p u t j v (inr (λ e. f o refl (ap N.disc_of (sym e) ∙ may.1.3)))
  acts_elsewhere k (worker o) (Write u r) may f p t = absurd may
  acts_elsewhere k (trail o) (Write u r) may f p t = absurd may
  acts_elsewhere k (monitor o) (Write u r) may f p t = absurd may
  acts_elsewhere k (dump o) (Write u r) may f p t = absurd may
  acts_elsewhere k (worker o) (Read u j v) may f p t = absurd may
  acts_elsewhere k (trail o) (Read u j v) may f p t = absurd may
  acts_elsewhere k (monitor o) (Read u j v) may f p t = absurd may
  acts_elsewhere k (dump o) (Read u j v) may f p t = absurd may
  acts_elsewhere k st _ may f p t = refl

  -- nothing is done on a key that is on none of the discs
  abbrev pub IsIdle : List (ℕ × Event N) → Type 0
  IsIdle log = (k : N.Key) (t : N.Tx) → IsNowhere N k → acts k t log ≡ []

  pub idle_after : (ss : List (State N)) (log xs : List (ℕ × Event N)) → IsHistory (node N) ss xs → HasParts ss → IsIdle log → IsIdle (log ++ xs)
  idle_after ss log [] h parts idle = subst (λ (us : List (ℕ × Event N)). IsIdle us) (sym (append-nil log)) idle
  idle_after ss log (x ∷ xs) h parts idle =
      let en : IsEnabled (node N) ss x = h.0 in
      subst (λ (us : List (ℕ × Event N)). IsIdle us) (append_assoc log (x ∷ []) xs)
      (idle_after (next_states (node N) ss x) (log ++ x ∷ []) xs h.1 (parts_step N ss x parts)
      (λ k t gone. acts_same k t log x (acts_elsewhere k en.0 x.1 en.2 (λ o is on_it. gone (subst (λ (n : ℕ). Among N.discs n) (sym on_it) (parts.listed x.0 o (en.1 ∙ ap (λ (z : State N). Some z) is)))) x.0 t) ∙ idle k t gone))

  abbrev pub AllServed : List (State N) → List (ℕ × Event N) → Type 0
  AllServed ss log = (q r : ℕ) (s : Disc N) (m : Monitor N) → slice_get ss q ≡ Some (disc s) → slice_get ss r ≡ Some (monitor m) → IsServing log s m

  served_step : (ss : List (State N)) (log : List (ℕ × Event N)) (x : ℕ × Event N) → IsEnabled (node N) ss x → Whole N ss log → AllServed ss log → AllServed (next_states (node N) ss x) (log ++ x ∷ [])
  served_step ss log x en w all q r s m at at_m =
      ⊎_elim
      (λ (a : (q ≢ x.0) × (slice_get ss q ≡ Some (disc s))).
      ⊎_elim
      (λ (b : (r ≢ x.0) × (slice_get ss r ≡ Some (monitor m))).
      serving_log log (log ++ x ∷ []) s m (λ t k here. acts_same k t log x (acts_elsewhere k en.0 x.1 en.2 (λ o is on_it. a.0 (w.inv.apart q x.0 (disc s) (disc o) a.1 (en.1 ∙ ap (λ (z : State N). Some z) is) (sym here ∙ on_it))) x.0 t)) (all q r s m a.1 b.1))
      (λ (b : (o : Monitor N) × (r ≡ x.0) × (slice_get ss r ≡ Some (monitor o)) × (m ≡ step_monitor N o x.1)).
      subst (λ (z : Monitor N). IsServing (log ++ x ∷ []) s z) (sym b.3) (serving_monitor ss log w q r s b.0 a.1 b.2 (all q r s b.0 a.1 b.2) x.0 x.1 (may_of N ss x r (monitor b.0) en b.2 b.1)))
      (monitor_came N ss x r m at_m))
      (λ (a : (o : Disc N) × (q ≡ x.0) × (slice_get ss q ≡ Some (disc o)) × (s ≡ step_disc N o x.1)).
      ⊎_elim
      (λ (b : (r ≢ x.0) × (slice_get ss r ≡ Some (monitor m))).
      subst (λ (z : Disc N). IsServing (log ++ x ∷ []) z m) (sym a.3) (serving_disc ss log w q r a.0 m a.2 b.1 (all q r a.0 m a.2 b.1) x.0 x.1 (may_of N ss x q (disc a.0) en a.2 a.1).1 (asked_of N ss x q (disc a.0) en a.2 a.1)))
      (λ (b : (o : Monitor N) × (r ≡ x.0) × (slice_get ss r ≡ Some (monitor o)) × (m ≡ step_monitor N o x.1)).
      (let both : disc a.0 ≡ monitor b.0 = two_kinds N ss x q r (disc a.0) (monitor b.0) a.2 b.2 a.1 b.1 in absurd (cc (both))))
      (monitor_came N ss x r m at_m))
      (disc_came N ss x q s at)

  pub served_after : (ss : List (State N)) (log xs : List (ℕ × Event N)) → IsHistory (node N) ss xs → Deep N ss log → AllServed ss log → AllServed (states_after (node N) ss xs) (log ++ xs)
  served_after ss log [] h d all = subst (λ (us : List (ℕ × Event N)). AllServed ss us) (sym (append-nil log)) all
  served_after ss log (x ∷ xs) h d all = subst (λ (us : List (ℕ × Event N)). AllServed (states_after (node N) (next_states (node N) ss x) xs) us) (append_assoc log (x ∷ []) xs) (served_after (next_states (node N) ss x) (log ++ x ∷ []) xs h.1 (deep_step N ss log x h.0 d) (served_step ss log x h.0 d.whole all))
