-- What is quiet comes to what the commits say, through a history.
use Rattle.std.proofs.Common.{◌≡◌, ℕ, Bool, true, false, cond, List, [], ◌++◌, Some, slice_get, refl, ap, sym, ◌∙◌, subst, ⊎_elim, inl, inr}
use Rattle.any_node.specs.Layout.{Layout, put}
use Rattle.any_node.specs.Value.{AuditRecord, Ending, on, commits, redo, latest}
use Rattle.any_node.specs.Node.{Disc, Monitor, State, Event, Fact, Backed, allows_disc, asks_disc, step_disc, step_monitor, undoing, undo_record}
use Rattle.any_node.specs.Node.State.{disc, monitor}
use Rattle.any_node.specs.Node.Event.{Write, Turn, Undo, Release, OfferCar, Land}
use Rattle.any_node.specs.Node.Fact.{Decided, Committed}
use Rattle.any_node.proofs.Lists.{is_false, put_at, each_right, each_from, each_both, or_false}
use Rattle.any_node.proofs.Values.{redo_same, commits-append, commits_find, commits_has}
use Rattle.any_node.proofs.Facts.{turn_cases}
use Rattle.any_node.proofs.Parts.{True, clash, committed_here}
use Rattle.any_node.proofs.Discs.{IsGood, OneClose, IsKnown, holds_left, live_left}
use Rattle.any_node.proofs.Monitors.{IsFair}
use Rattle.any_node.proofs.Invariant.{Inv, knows}
use Rattle.any_node.proofs.Quiet.{IsRun, IsDone, IsEven, run_write, run_undo, run_release, even_add, even_release}
use Rattle.any_node.proofs.Whole.{Whole}

module _ (N : Layout) where
  -- a transaction that has released is not in a car that is offered
  released_not_offered : (ss : List (State N)) → Inv N ss → (q r : ℕ) (s : Disc N) (m : Monitor N) → slice_get ss q ≡ Some (disc s) → slice_get ss r ≡ Some (monitor m) → (t : N.Tx) → s.released t ≡ true → commits m.offered t ≡ false
  released_not_offered ss inv q r s m at at_m t gone =
      is_false (commits m.offered t) (λ e.
      let fair : IsFair N (True N ss) m = inv.mons r m at_m in
      let g : IsGood (True N ss) s = inv.discs q s at in
      let both = each_both (λ x. Backed N (True N ss) x) (λ x. commits m.landed x.tx ≡ false) m.offered (each_right (Backed N (True N ss)) m.landed m.offered fair.backed) fair.fresh in
      let found = commits_find (λ x. Backed N (True N ss) x × (commits m.landed x.tx ≡ false)) m.offered t both e in
      let x : Ending N = found.0 in
      let close : True N ss (Decided x.tx true found.2.0.0) = subst (λ (c : Bool). True N ss (Decided x.tx c found.2.0.0)) found.3 found.2.0.1 in
      ⊎_elim
      (λ (c : (p : ℕ) × True N ss (Committed t p)). (let two : true ≡ false = sym (commits_has m.landed t (committed_here N ss inv.apart r m at_m t c.0 c.1)) ∙ ap (λ u. commits m.landed u) found.4 ∙ found.2.1 in cc (two)))
      (λ (a : ((ds : List ℕ) × True N ss (Decided t false ds)) × (s.left t ≡ [])). clash N ss inv.apart t found.2.0.0 a.0.0 (subst (λ (u : N.Tx). True N ss (Decided u true found.2.0.0)) (sym found.4) close) a.0.1)
      (g.let_go t gone))

  -- the same with the offered car
  pub even_more : (ss : List (State N)) → Inv N ss → (q r : ℕ) (s : Disc N) (m : Monitor N) → slice_get ss q ≡ Some (disc s) → slice_get ss r ≡ Some (monitor m) → IsEven N s m →
      (k : N.Key) (P R : List (AuditRecord N)) → on k s.made ≡ P ++ R → IsDone N s P R → latest (s.base k) P ≡ redo (commits (m.landed ++ m.offered)) (s.base k) P
  even_more ss inv q r s m at at_m even k P R e done =
      even k P R e done
      ∙ redo_same (commits m.landed) (commits (m.landed ++ m.offered)) (s.base k) P (each_from (λ x. commits m.landed x.tx ≡ commits (m.landed ++ m.offered) x.tx) P (λ x has.
      sym (commits-append m.landed m.offered x.tx ∙ ap (λ b. cond (commits m.landed x.tx) true b) (released_not_offered ss inv q r s m at at_m x.tx (done x has).0) ∙ or_false (commits m.landed x.tx))))

  pub run_step : (T : Fact N → Type 0) (s : Disc N) (e : Event N) → OneClose T → IsKnown T →
      allows_disc N s e → asks_disc N T s e → IsGood T s → IsRun N s → IsRun N (step_disc N s e)
  run_step T s (Write t r) one_close sure may asked g v = run_write N T s t r may g v
  run_step T s (Undo t) one_close sure may asked g v =
      subst (λ (xs : List (AuditRecord N)). IsRun N (undoing N t s xs)) (sym may.2) (run_undo N T s t may.0 may.1 (holds_left N T s one_close sure g t may.0 may.1 may.2 asked) g v)
  run_step T s (Release t) one_close sure may asked g v = run_release N s t v
  run_step T s (Turn t why) one_close sure may asked g v = turn_cases N (λ z. IsRun N z) t why s v (λ k. record { tail = v.tail; linked = v.linked; ends = v.ends })
  run_step T s _ one_close sure may asked g v = record { tail = v.tail; linked = v.linked; ends = v.ends }

  pub even_disc : (ss : List (State N)) → (log : List (ℕ × Event N)) → Whole N ss log → (q r : ℕ) (s : Disc N) (m : Monitor N) (e : Event N) → slice_get ss q ≡ Some (disc s) → slice_get ss r ≡ Some (monitor m) → allows_disc N s e → asks_disc N (True N ss) s e → IsRun N s → IsEven N s m → IsEven N (step_disc N s e) m
  even_disc ss log w q r s m (Write t rec) at at_m may asked run even = even_add N s m rec s.undone (λ u e. e) (ap s.released may.2 ∙ may.0.2) even
  even_disc ss log w q r s m (Undo t) at at_m may asked run even =
      let live = live_left N (True N ss) s (clash N ss w.inv.apart) (knows N ss w.inv) (w.inv.discs q s at) t may.0 may.1 may.2 asked in
      subst (λ (xs : List (AuditRecord N)). IsEven N (undoing N t s xs) m) (sym may.2)
      (even_add N s m (undo_record N t s may.0) (put N.txs t true s.undone) (λ u e. put_at N.txs (λ b. b ≡ true) t true s.undone u (λ i. refl) (λ n. e)) live even)
  even_disc ss log w q r s m (Release t) at at_m may asked run even =
      even_release N (True N ss) s m t may (⊎_elim (λ (c : (p : ℕ) × True N ss (Committed t p)). inl (commits_has m.landed t (committed_here N ss w.inv.apart r m at_m t c.0 c.1))) (λ (a : ((ds : List ℕ) × True N ss (Decided t false ds)) × (s.left t ≡ [])). inr a.1) asked)
      (w.inv.discs q s at) run (w.stacked q s at) (w.fine q r s m at at_m) (w.inv.agree q r s m at at_m) even
  even_disc ss log w q r s m (Turn t why) at at_m may asked run even = turn_cases N (λ z. IsEven N z m) t why s even (λ k. even)
  even_disc ss log w q r s m _ at at_m may asked run even = even

  pub even_monitor : (ss : List (State N)) → Inv N ss → (q r : ℕ) (s : Disc N) (m : Monitor N) (e : Event N) → slice_get ss q ≡ Some (disc s) → slice_get ss r ≡ Some (monitor m) → IsEven N s m → IsEven N s (step_monitor N m e)
  even_monitor ss inv q r s m Land at at_m even = even_more ss inv q r s m at at_m even
  even_monitor ss inv q r s m (OfferCar xs) at at_m even = even
  even_monitor ss inv q r s m _ at at_m even = even
