-- What holds of the monitor, and of a disc beside it, through a history.
use Rattle.std.proofs.Common.{◌≡◌, ◌≢◌, ℕ, Bool, true, false, List, [], ◌∷◌, ◌++◌, Some, slice_get, refl, ap, sym, ◌∙◌, subst, ⊎_elim, inl, inr, append-nil}
use Rattle.any_node.specs.Layout.{Layout}
use Rattle.any_node.specs.Value.{AuditRecord, Ending, Among, Each, closes, on, hit, commits, redo, folded}
use Rattle.any_node.specs.Node.{Disc, Monitor, State, Event, Fact, AreLater, Backed, allows_disc, allows_monitor, asks_disc, asks_monitor, step_disc, step_monitor, undoing, undo_record}
use Rattle.any_node.specs.Opening.{Apart}
use Rattle.any_node.specs.Node.State.{disc, monitor}
use Rattle.any_node.specs.Node.Event.{Write, Turn, Undo, OfferCar, Land, Failed}
use Rattle.any_node.specs.Node.Fact.{Enlisted, Decided, Committed}
use Rattle.any_node.proofs.Lists.{is_false, true_or_false, same_or, each_append, each_left, each_right, each_map, each_from, each_at, among_right}
use Rattle.any_node.proofs.Values.{Absent, Last, Once, Ends, on_here, on_else, redo_more, folded_more, folded-append, settle, commits_find, commits_has, hit_abort, hit_else, hit_it}
use Rattle.any_node.proofs.Facts.{turn_cases}
use Rattle.any_node.proofs.Parts.{True, clash, among_decided, closed_here, committed_here}
use Rattle.any_node.proofs.Discs.{IsGood}

module _ (N : Layout) where
  pub record IsFair (T : Fact N → Type 0) (m : Monitor N) : Type 0 where
    pub backed : Each (Backed N T) (m.landed ++ m.offered)
    pub fresh : Each (λ x. commits m.landed x.tx ≡ false) m.offered
    pub once : Once m.offered

  abbrev pub Agree : Disc N → Monitor N → Type 0
  Agree s m = (k : N.Key) → redo (commits m.landed) (s.base k) (on k s.made) ≡ folded (on k s.made) m.landed (s.base k)

  -- a transaction that may still act is not committed
  pub uncommitted : (ss : List (State N)) → Apart ss → (q : ℕ) (s : Disc N) → slice_get ss q ≡ Some (disc s) → (xs : List (Ending N)) (t : N.Tx) → Each (Backed N (True N ss)) xs → True N ss (Enlisted t s.number) → s.closed t ≡ false → commits xs t ≡ false
  uncommitted ss apart q s at xs t backed listed live =
      is_false (commits xs t) (λ e.
      let found = commits_find (Backed N (True N ss)) xs t backed e in
      let x : Ending N = found.0 in
      let listed_x : True N ss (Enlisted x.tx s.number) = subst (λ (u : N.Tx). True N ss (Enlisted u s.number)) found.4 listed in
      let has : Among found.2.0 s.number = among_decided N ss apart x.tx s.number x.commit found.2.0 listed_x found.2.1 in
      let shut = found.2.2 found.3 s.number has in
      let closed : s.closed x.tx ≡ true = (closed_here N ss apart q s at x.tx shut.0 shut.1).0 in
      let no_one : true ≡ false = sym closed ∙ ap s.closed (sym found.4) ∙ live in
      cc (no_one))

  -- a backed-out transaction is not committed
  pub not_both : (ss : List (State N)) → Apart ss → (xs : List (Ending N)) (t : N.Tx) → Each (Backed N (True N ss)) xs → (ds : List ℕ) → True N ss (Decided t false ds) → commits xs t ≡ false
  not_both ss apart xs t backed ds abort =
      is_false (commits xs t) (λ e.
      let found = commits_find (Backed N (True N ss)) xs t backed e in
      let x : Ending N = found.0 in
      let close : True N ss (Decided x.tx true found.2.0) = subst (λ (c : Bool). True N ss (Decided x.tx c found.2.0)) found.3 found.2.1 in
      clash N ss apart t found.2.0 ds (subst (λ (u : N.Tx). True N ss (Decided u true found.2.0)) (sym found.4) close) abort)

  pub known : (ss : List (State N)) → Apart ss → (r : ℕ) (m : Monitor N) → slice_get ss r ≡ Some (monitor m) → IsFair (True N ss) m → (t : N.Tx) → (p : ℕ) → True N ss (Committed t p) → (ds : List ℕ) × True N ss (Decided t true ds)
  known ss apart r m at fair t p c =
      let has = committed_here N ss apart r m at t p c in
      let b = each_at (Backed N (True N ss)) m.landed (record { tx = t; commit = true }) (each_left (Backed N (True N ss)) m.landed m.offered fair.backed) has in
      (b.0, b.1)

  -- where a commit is offered, its transaction has the last record on each key, or none
  pub ends : (ss : List (State N)) → Apart ss → (q r : ℕ) (s : Disc N) (m : Monitor N) → slice_get ss q ≡ Some (disc s) → slice_get ss r ≡ Some (monitor m) → IsGood (True N ss) s → (k : N.Key) (x : Ending N) → Backed N (True N ss) x → commits m.landed x.tx ≡ false → Ends x (on k s.made)
  ends ss apart q r s m at at_m g k x b fresh =
      ⊎_elim
      (λ (c : x.commit ≡ true).
      let close : True N ss (Decided x.tx true b.0) = subst (λ (c : Bool). True N ss (Decided x.tx c b.0)) c b.1 in
      let live : s.released x.tx ≡ false = is_false (s.released x.tx) (λ e. ⊎_elim
      (λ (y : (p : ℕ) × True N ss (Committed x.tx p)). (let both : true ≡ false = sym (commits_has m.landed x.tx (committed_here N ss apart r m at_m x.tx y.0 y.1)) ∙ fresh in cc (both)))
      (λ (y : ((ds : List ℕ) × True N ss (Decided x.tx false ds)) × (s.left x.tx ≡ [])). clash N ss apart x.tx b.0 y.0.0 close y.0.1)
      (g.let_go x.tx e)) in
      ⊎_elim
      (λ (gone : Absent x.tx (on k s.made)). inl (each_map (λ y. y.tx ≢ x.tx) (λ y. hit x y.tx ≡ false) (on k s.made) (λ y n. hit_else x y.tx n) gone))
      (λ (yes : (s.held k ≡ Some x.tx) × Last x.tx (on k s.made)). inr (yes.1.0, yes.1.1, yes.1.2, hit_it x yes.1.1.tx c yes.1.3))
      (g.kept x.tx k live))
      (λ (a : x.commit ≡ false). inl (each_from (λ y. hit x y.tx ≡ false) (on k s.made) (λ y _. hit_abort x y.tx a)))
      (true_or_false x.commit)

  pub agree_add : (s : Disc N) (m : Monitor N) (r : AuditRecord N) → commits m.landed r.tx ≡ false → Agree s m → (k : N.Key) → redo (commits m.landed) (s.base k) (on k (s.made ++ r ∷ [])) ≡ folded (on k (s.made ++ r ∷ [])) m.landed (s.base k)
  agree_add s m r un agree k =
      ⊎_elim
      (λ (e : r.key ≡ k). subst (λ (rs : List (AuditRecord N)). redo (commits m.landed) (s.base k) rs ≡ folded rs m.landed (s.base k)) (sym (on_here k s.made r e))
      (redo_more (commits m.landed) (on k s.made) r (s.base k) un ∙ agree k ∙ sym (folded_more (on k s.made) r m.landed (s.base k) un)))
      (λ (n : r.key ≢ k). subst (λ (rs : List (AuditRecord N)). redo (commits m.landed) (s.base k) rs ≡ folded rs m.landed (s.base k)) (sym (on_else k s.made r n)) (agree k))
      (same_or N.keys r.key k)

  pub not_itself : (t u : N.Tx) → u ≡ t → N.is_later t u ≡ true → ⊥
  not_itself t u e later = (let both : true ≡ false = sym later ∙ ap (λ v. N.is_later t v) e ∙ N.not_later t in cc (both))

  later_fresh : (landed earlier xs : List (Ending N)) → ((y : Ending N) → Among landed y → Among earlier y) → AreLater earlier xs → Each (λ x. commits landed x.tx ≡ false) xs
  later_fresh landed earlier [] f h = tt
  later_fresh landed earlier (x ∷ xs) f h = (
    is_false (commits landed x.tx) (λ e.
        let found = commits_find (λ y. Unit {0}) landed x.tx (each_from (λ y. Unit {0}) landed (λ y _. tt)) e in
        let later : N.is_later found.0.tx x.tx ≡ true = h.0 found.0 (f found.0 found.1) (ap N.worker_of (sym found.4)) in
        not_itself found.0.tx x.tx found.4 later),
    later_fresh landed (x ∷ earlier) xs (λ y has. inr (f y has)) h.1,
  )

  later_else : (z : Ending N) (earlier xs : List (Ending N)) → Among earlier z → AreLater earlier xs → Each (λ y. y.tx ≢ z.tx) xs
  later_else z earlier [] has h = tt
  later_else z earlier (x ∷ xs) has h =
      ((λ e. not_itself z.tx x.tx e (h.0 z has (ap N.worker_of (sym e)))), later_else z (x ∷ earlier) xs (inr has) h.1)

  pub later_once : (earlier xs : List (Ending N)) → AreLater earlier xs → Once xs
  later_once earlier [] h = tt
  later_once earlier (x ∷ xs) h = (later_else x (x ∷ earlier) xs (inl refl) h.1, later_once (x ∷ earlier) xs h.1)

  pub fair_step : (T : Fact N → Type 0) (m : Monitor N) (e : Event N) → allows_monitor N m e → asks_monitor N T e → IsFair T m → IsFair T (step_monitor N m e)
  fair_step T m (OfferCar xs) may asked fair = record {
    backed = each_append (Backed N T) m.landed xs (each_left (Backed N T) m.landed m.offered fair.backed) (each_from (Backed N T) xs asked);
    fresh = later_fresh m.landed (closes m.before ++ m.landed) xs (λ y has. among_right (closes m.before) m.landed y has) may.1;
    once = later_once (closes m.before ++ m.landed) xs may.1;
  }
  fair_step T m Land may asked fair = record { backed = subst (λ (xs : List (Ending N)). Each (Backed N T) xs) (sym (append-nil (m.landed ++ m.offered))) fair.backed; fresh = tt; once = tt }
  fair_step T m (Failed by) may asked fair = fair
  fair_step T m _ may asked fair = absurd may

  pub agree_disc : (ss : List (State N)) → Apart ss → (q r : ℕ) (s : Disc N) (m : Monitor N) (e : Event N) → slice_get ss q ≡ Some (disc s) → slice_get ss r ≡ Some (monitor m) → IsFair (True N ss) m →
      allows_disc N s e → asks_disc N (True N ss) s e → Agree s m → Agree (step_disc N s e) m
  agree_disc ss apart q r s m (Write t rec) at at_m fair may asked agree =
      agree_add s m rec (uncommitted ss apart q s at m.landed rec.tx (each_left (Backed N (True N ss)) m.landed m.offered fair.backed) (subst (λ (u : N.Tx). True N ss (Enlisted u s.number)) (sym may.2) asked) (ap s.closed may.2 ∙ may.0.0)) agree
  agree_disc ss apart q r s m (Undo t) at at_m fair may asked agree =
      subst (λ (rs : List (AuditRecord N)). Agree (undoing N t s rs) m) (sym may.2)
      (agree_add s m (undo_record N t s may.0) (not_both ss apart m.landed t (each_left (Backed N (True N ss)) m.landed m.offered fair.backed) asked.0 asked.1) agree)
  agree_disc ss apart q r s m (Turn t why) at at_m fair may asked agree = turn_cases N (λ z. Agree z m) t why s agree (λ k. agree)
  agree_disc ss apart q r s m _ at at_m fair may asked agree = agree

  pub agree_monitor : (ss : List (State N)) → Apart ss → (q r : ℕ) (s : Disc N) (m : Monitor N) (e : Event N) → slice_get ss q ≡ Some (disc s) → slice_get ss r ≡ Some (monitor m) → IsGood (True N ss) s → IsFair (True N ss) m → Agree s m → Agree s (step_monitor N m e)
  agree_monitor ss apart q r s m Land at at_m g fair agree = λ k.
      settle (on k s.made) m.landed m.offered (s.base k) (ends_all k m.offered (each_right (Backed N (True N ss)) m.landed m.offered fair.backed) fair.fresh)
      ∙ ap (λ v. folded (on k s.made) m.offered v) (agree k)
      ∙ sym (folded-append (on k s.made) m.landed m.offered (s.base k))
    where
      ends_all : (k : N.Key) (xs : List (Ending N)) → Each (Backed N (True N ss)) xs → Each (λ x. commits m.landed x.tx ≡ false) xs → Each (λ x. Ends x (on k s.made)) xs
      ends_all k [] b f = tt
      ends_all k (x ∷ xs) b f = (ends ss apart q r s m at at_m g k x b.0 f.0, ends_all k xs b.1 f.1)
  agree_monitor ss apart q r s m (OfferCar xs) at at_m g fair agree = agree
  agree_monitor ss apart q r s m _ at at_m g fair agree = agree
