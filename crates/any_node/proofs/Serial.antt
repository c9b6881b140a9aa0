-- What a transaction reads and finds is what the commits before its own left.
use Rattle.std.proofs.Common.{◌≡◌, ◌≢◌, ◌⊎◌, ℕ, Bool, true, false, cond, List, [], ◌∷◌, ◌++◌, Option, Some, refl, ap, sym, ◌∙◌, subst, ⊎_elim, append-nil}
use Rattle.any_node.specs.Layout.{Layout, put}
use Rattle.any_node.specs.Value.{AuditRecord, Ending, on, hit, commits, redo, folded}
use Rattle.any_node.specs.Node.{Event, given}
use Rattle.any_node.specs.Fold.{steps_on, acts, Fit, Step, writes, steps, IsServed}
use Rattle.any_node.specs.Fold.Step.{wrote, saw}
use Rattle.any_node.specs.Node.Event.{Write, Read}
use Rattle.any_node.proofs.Lists.{not_same, same_or, put_here, put_else, or_true, or_left, or_right}
use Rattle.any_node.proofs.Positions.{grow}
use Rattle.any_node.proofs.Values.{redo_more, hit_it}

module _ {N : Layout} where
  pub fit_wrote : (v c : Option N.Val) (ss : List (Step N)) (r : AuditRecord N) → Fit v ss c → r.before ≡ c → given r r.before ≡ Some r.after → Fit v (ss ++ wrote r ∷ []) r.after
  fit_wrote v c [] r f was gives = (was ∙ sym f, ap (λ w. given r w) (f ∙ sym was) ∙ gives, refl)
  fit_wrote v c (wrote x ∷ ss) r f was gives = (f.0, f.1, fit_wrote x.after c ss r f.2 was gives)
  fit_wrote v c (saw j w ∷ ss) r f was gives = (f.0, fit_wrote v c ss r f.1 was gives)

  pub fit_saw : (v c : Option N.Val) (ss : List (Step N)) (k : N.Key) (w : Option N.Val) → Fit v ss c → w ≡ c → Fit v (ss ++ saw k w ∷ []) c
  fit_saw v c [] k w f is = (is ∙ sym f, f)
  fit_saw v c (wrote x ∷ ss) k w f is = (f.0, f.1, fit_saw x.after c ss k w f.2 is)
  fit_saw v c (saw j u ∷ ss) k w f is = (f.0, fit_saw v c ss k w f.1 is)

  -- each Commit's steps on a key, at its place
  abbrev pub Serves : (N.Tx → List (Step N)) → List (AuditRecord N) → List (Ending N) → Option N.Val → Type 0
  Serves a rs [] v = Unit {0}
  Serves a rs (x ∷ xs) v = (x.commit ≡ true → Fit v (a x.tx) (redo (hit x) v rs)) × Serves a rs xs (redo (hit x) v rs)

  pub serves_acts : (a b : N.Tx → List (Step N)) (rs : List (AuditRecord N)) (xs : List (Ending N)) (v : Option N.Val) → ((t : N.Tx) → commits xs t ≡ true → a t ≡ b t) → Serves a rs xs v → Serves b rs xs v
  serves_acts a b rs [] v same h = tt
  serves_acts a b rs (x ∷ xs) v same h = (
    (λ c. subst (λ (us : List (Step N)). Fit v us (redo (hit x) v rs)) (same x.tx (ap (λ d. cond d true (commits xs x.tx)) (hit_it x x.tx c refl))) (h.0 c)),
    serves_acts a b rs xs (redo (hit x) v rs) (λ t e. same t (ap (λ d. cond (hit x t) true d) e ∙ or_true (hit x t))) h.1,
  )

  pub serves_more : (a : N.Tx → List (Step N)) (rs : List (AuditRecord N)) (r : AuditRecord N) (xs : List (Ending N)) (v : Option N.Val) → commits xs r.tx ≡ false → Serves a rs xs v → Serves a (rs ++ r ∷ []) xs v
  serves_more a rs r [] v un h = tt
  serves_more a rs r (x ∷ xs) v un h =
      let same : redo (hit x) v (rs ++ r ∷ []) ≡ redo (hit x) v rs = redo_more (hit x) rs r v (or_left (hit x r.tx) (commits xs r.tx) un) in (
        (λ c. subst (λ (w : Option N.Val). Fit v (a x.tx) w) (sym same) (h.0 c)),
        subst (λ (w : Option N.Val). Serves a (rs ++ r ∷ []) xs w) (sym same) (serves_more a rs r xs (redo (hit x) v rs) (or_right (hit x r.tx) (commits xs r.tx) un) h.1),
      )

  pub serves_append : (a : N.Tx → List (Step N)) (rs : List (AuditRecord N)) (xs ys : List (Ending N)) (v : Option N.Val) → Serves a rs xs v → Serves a rs ys (folded rs xs v) → Serves a rs (xs ++ ys) v
  serves_append a rs [] ys v h k = k
  serves_append a rs (x ∷ xs) ys v h k = (h.0, serves_append a rs xs ys (redo (hit x) v rs) h.1 k)

  pub serves_at : (a : N.Tx → List (Step N)) (rs : List (AuditRecord N)) (xs : List (Ending N)) (x : Ending N) (ys : List (Ending N)) (v : Option N.Val) → Serves a rs (xs ++ x ∷ ys) v → x.commit ≡ true → Fit (folded rs xs v) (a x.tx) (redo (hit x) (folded rs xs v) rs)
  serves_at a rs [] x ys v h c = h.0 c
  serves_at a rs (y ∷ xs) x ys v h c = serves_at a rs xs x ys (redo (hit y) v rs) h.1 c

  steps-append : (t : N.Tx) (xs ys : List (ℕ × Event N)) → steps t (xs ++ ys) ≡ steps t xs ++ steps t ys
  steps-append t [] ys = refl
  steps-append t ((p, Write u r) ∷ xs) ys = grow (N.txs.same u t) (wrote r) (steps t (xs ++ ys)) (steps t xs) (steps t ys) (steps-append t xs ys)
  steps-append t ((p, Read u k v) ∷ xs) ys = grow (N.txs.same u t) (saw k v) (steps t (xs ++ ys)) (steps t xs) (steps t ys) (steps-append t xs ys)
  steps-append t ((p, _) ∷ xs) ys = steps-append t xs ys

  steps_on-append : (k : N.Key) (xs ys : List (Step N)) → steps_on k (xs ++ ys) ≡ steps_on k xs ++ steps_on k ys
  steps_on-append k [] ys = refl
  steps_on-append k (wrote r ∷ xs) ys = grow (N.keys.same r.key k) (wrote r) (steps_on k (xs ++ ys)) (steps_on k xs) (steps_on k ys) (steps_on-append k xs ys)
  steps_on-append k (saw j v ∷ xs) ys = grow (N.keys.same j k) (saw j v) (steps_on k (xs ++ ys)) (steps_on k xs) (steps_on k ys) (steps_on-append k xs ys)

  pub acts-append : (k : N.Key) (t : N.Tx) (xs ys : List (ℕ × Event N)) → acts k t (xs ++ ys) ≡ acts k t xs ++ acts k t ys
  acts-append k t xs ys = ap (λ us. steps_on k us) (steps-append t xs ys) ∙ steps_on-append k (steps t xs) (steps t ys)

  -- nothing of t on the key is new
  pub acts_same : (k : N.Key) (t : N.Tx) (log : List (ℕ × Event N)) (x : ℕ × Event N) → acts k t (x ∷ []) ≡ [] → acts k t (log ++ x ∷ []) ≡ acts k t log
  acts_same k t log x none = acts-append k t log (x ∷ []) ∙ ap (λ us. acts k t log ++ us) none ∙ append-nil (acts k t log)

  -- the records among the steps
  abbrev wrote_in : List (Step N) → List (AuditRecord N)
  wrote_in [] = []
  wrote_in (wrote r ∷ ss) = r ∷ wrote_in ss
  wrote_in (saw k v ∷ ss) = wrote_in ss

  writes_are : (t : N.Tx) (log : List (ℕ × Event N)) → writes t log ≡ wrote_in (steps t log)
  writes_are t [] = refl
  writes_are t ((p, Write u r) ∷ xs) = pick (N.txs.same u t) (writes_are t xs) where
    pick : (b : Bool) → writes t xs ≡ wrote_in (steps t xs) → cond b (r ∷ writes t xs) (writes t xs) ≡ wrote_in (cond b (wrote r ∷ steps t xs) (steps t xs))
    pick true e = ap (λ us. r ∷ us) e
    pick false e = e
  writes_are t ((p, Read u k v) ∷ xs) = pick (N.txs.same u t) (writes_are t xs) where
    pick : (b : Bool) → writes t xs ≡ wrote_in (steps t xs) → writes t xs ≡ wrote_in (cond b (saw k v ∷ steps t xs) (steps t xs))
    pick true e = e
    pick false e = e
  writes_are t ((p, _) ∷ xs) = writes_are t xs

  wrote_on : (k : N.Key) (ss : List (Step N)) → on k (wrote_in ss) ≡ wrote_in (steps_on k ss)
  wrote_on k [] = refl
  wrote_on k (wrote r ∷ ss) = pick (N.keys.same r.key k) (wrote_on k ss) where
    pick : (b : Bool) → on k (wrote_in ss) ≡ wrote_in (steps_on k ss) → cond b (r ∷ on k (wrote_in ss)) (on k (wrote_in ss)) ≡ wrote_in (cond b (wrote r ∷ steps_on k ss) (steps_on k ss))
    pick true e = ap (λ us. r ∷ us) e
    pick false e = e
  wrote_on k (saw j v ∷ ss) = pick (N.keys.same j k) (wrote_on k ss) where
    pick : (b : Bool) → on k (wrote_in ss) ≡ wrote_in (steps_on k ss) → on k (wrote_in ss) ≡ wrote_in (cond b (saw j v ∷ steps_on k ss) (steps_on k ss))
    pick true e = e
    pick false e = e

  -- where t did nothing on the key, it wrote nothing there
  pub nothing_written : (k : N.Key) (t : N.Tx) (log : List (ℕ × Event N)) → acts k t log ≡ [] → on k (writes t log) ≡ []
  nothing_written k t log e = ap (λ us. on k us) (writes_are t log) ∙ wrote_on k (steps t log) ∙ ap wrote_in e

  pub wrote_now : (k : N.Key) (p : ℕ) (t : N.Tx) (r : AuditRecord N) → r.key ≡ k → acts {N = N} k t ((p, Write t r) ∷ []) ≡ wrote r ∷ []
  wrote_now k p t r e = ap (λ b. steps_on k (cond b (wrote r ∷ []) [])) (N.txs.reflexive t t refl) ∙ ap (λ b. cond b (wrote r ∷ []) []) (N.keys.reflexive r.key k e)

  pub wrote_not : (k : N.Key) (p : ℕ) (u t : N.Tx) (r : AuditRecord N) → (u ≢ t) ⊎ (r.key ≢ k) → acts {N = N} k t ((p, Write u r) ∷ []) ≡ []
  wrote_not k p u t r h = ⊎_elim
      (λ (n : u ≢ t). ap (λ b. steps_on k (cond b (wrote r ∷ []) [])) (not_same N.txs u t n))
      (λ (n : r.key ≢ k). pick (N.txs.same u t) (ap (λ b. cond b (wrote r ∷ []) []) (not_same N.keys r.key k n)))
      h
    where
      pick : (b : Bool) → steps_on k (wrote r ∷ []) ≡ [] → steps_on k (cond b (wrote r ∷ []) []) ≡ []
      pick true e = e
      pick false e = refl

  pub saw_now : (k : N.Key) (p : ℕ) (t : N.Tx) (j : N.Key) (v : Option N.Val) → j ≡ k → acts {N = N} k t ((p, Read t j v) ∷ []) ≡ saw j v ∷ []
  saw_now k p t j v e = ap (λ b. steps_on k (cond b (saw j v ∷ []) [])) (N.txs.reflexive t t refl) ∙ ap (λ b. cond b (saw j v ∷ []) []) (N.keys.reflexive j k e)

  pub saw_not : (k : N.Key) (p : ℕ) (u t : N.Tx) (j : N.Key) (v : Option N.Val) → (u ≢ t) ⊎ (j ≢ k) → acts {N = N} k t ((p, Read u j v) ∷ []) ≡ []
  saw_not k p u t j v h = ⊎_elim
      (λ (n : u ≢ t). ap (λ b. steps_on k (cond b (saw j v ∷ []) [])) (not_same N.txs u t n))
      (λ (n : j ≢ k). pick (N.txs.same u t) (ap (λ b. cond b (saw j v ∷ []) []) (not_same N.keys j k n)))
      h
    where
      pick : (b : Bool) → steps_on {N = N} k (saw j v ∷ []) ≡ [] → steps_on {N = N} k (cond b (saw j v ∷ []) []) ≡ []
      pick true e = e
      pick false e = refl

  -- the steps are served where each key's are
  pub served : (ss : List (Step N)) (m c : N.Key → Option N.Val) → ((k : N.Key) → Fit (m k) (steps_on k ss) (c k)) → IsServed ss m
  served [] m c f = tt
  served (wrote r ∷ ss) m c f =
      let here : Fit (m r.key) (wrote r ∷ steps_on r.key ss) (c r.key) = subst (λ (us : List (Step N)). Fit (m r.key) us (c r.key)) (ap (λ b. cond b (wrote r ∷ steps_on r.key ss) (steps_on r.key ss)) (N.keys.reflexive r.key r.key refl)) (f r.key) in (
        here.0,
        here.1,
        served ss (put N.keys r.key r.after m) c (λ k. ⊎_elim
            (λ (e : r.key ≡ k). subst (λ (v : Option N.Val). Fit v (steps_on k ss) (c k)) (sym (put_here N.keys r.key r.after m) ∙ ap (λ j. put N.keys r.key r.after m j) e) (subst (λ (j : N.Key). Fit r.after (steps_on j ss) (c j)) e here.2))
            (λ (n : r.key ≢ k). subst (λ (v : Option N.Val). Fit v (steps_on k ss) (c k)) (sym (put_else N.keys r.key r.after m k (λ e. n (sym e)))) (subst (λ (us : List (Step N)). Fit (m k) us (c k)) (ap (λ b. cond b (wrote r ∷ steps_on k ss) (steps_on k ss)) (not_same N.keys r.key k n)) (f k)))
            (same_or N.keys r.key k)),
      )
  served (saw j v ∷ ss) m c f =
      let here : Fit (m j) (saw j v ∷ steps_on j ss) (c j) = subst (λ (us : List (Step N)). Fit (m j) us (c j)) (ap (λ b. cond b (saw j v ∷ steps_on j ss) (steps_on j ss)) (N.keys.reflexive j j refl)) (f j) in (
        here.0,
        served ss m c (λ k. ⊎_elim
            (λ (e : j ≡ k). subst (λ (i : N.Key). Fit (m i) (steps_on i ss) (c i)) e here.1)
            (λ (n : j ≢ k). subst (λ (us : List (Step N)). Fit (m k) us (c k)) (ap (λ b. cond b (saw j v ∷ steps_on k ss) (steps_on k ss)) (not_same N.keys j k n)) (f k))
            (same_or N.keys j k)),
      )
