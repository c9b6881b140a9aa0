-- What holds of all parts through a history.
use Rattle.std.proofs.Common.{◌≡◌, ◌≢◌, ℕ, List, ◌++◌, Some, slice_get, sym, subst, ⊎_elim}
use Rattle.chronicle.specs.Histories.{next_states, IsEnabled}
use Rattle.any_node.specs.Layout.{Layout}
use Rattle.any_node.specs.Node.{Disc, Trail, Monitor, State, Event, Fact, node, Backed, step_disc, step_trail, step_monitor}
use Rattle.any_node.specs.Opening.{Apart}
use Rattle.any_node.specs.Node.State.{worker, disc, trail, monitor, dump}
use Rattle.any_node.proofs.Lists.{each_map}
use Rattle.any_node.proofs.Facts.{backed_more}
use Rattle.any_node.proofs.Parts.{True, more, clash, apart_step, disc_came, trail_came, monitor_came, may_of, asked_of, two_kinds}
use Rattle.any_node.proofs.Discs.{IsGood, IsKnown, good_more, good_step}
use Rattle.any_node.proofs.Trails.{IsFiled, filed_more, filed_step}
use Rattle.any_node.proofs.Monitors.{IsFair, Agree, known, fair_step, agree_disc, agree_monitor}

module _ (N : Layout) where
  pub record Inv (ss : List (State N)) : Type 0 where
    pub apart : Apart ss
    pub discs : (q : ℕ) (s : Disc N) → slice_get ss q ≡ Some (disc s) → IsGood (True N ss) s
    pub mons : (q : ℕ) (m : Monitor N) → slice_get ss q ≡ Some (monitor m) → IsFair N (True N ss) m
    pub trails : (q : ℕ) (s : Trail N) → slice_get ss q ≡ Some (trail s) → IsFiled (True N ss) s
    pub agree : (q r : ℕ) (s : Disc N) (m : Monitor N) → slice_get ss q ≡ Some (disc s) → slice_get ss r ≡ Some (monitor m) → Agree N s m

  fair_more : (T U : Fact N → Type 0) (m : Monitor N) → ((f : Fact N) → T f → U f) → IsFair N T m → IsFair N U m
  fair_more T U m up fair = record { backed = each_map (Backed N T) (Backed N U) (m.landed ++ m.offered) (λ x b. backed_more N T U up x b) fair.backed; fresh = fair.fresh; once = fair.once }

  -- some monitor is there, with what it says of a commit that has landed
  pub knows : (ss : List (State N)) → Inv ss → IsKnown (True N ss)
  knows ss inv t p (r, monitor m, at, c) = known N ss inv.apart r m at (inv.mons r m at) t p (r, monitor m, at, c)
  knows ss inv t p (r, worker m, at, c) = absurd c
  knows ss inv t p (r, disc m, at, c) = absurd c
  knows ss inv t p (r, trail m, at, c) = absurd c
  knows ss inv t p (r, dump m, at, c) = absurd c

  -- A disc and the monitor after an event: what no event of either takes away still holds of both.
  pub beside_monitor : (P : Disc N → Monitor N → Type 0) (ss : List (State N)) (x : ℕ × Event N) → IsEnabled (node N) ss x →
      ((q r : ℕ) (s : Disc N) (m : Monitor N) → slice_get ss q ≡ Some (disc s) → slice_get ss r ≡ Some (monitor m) → P s m) →
      ((q r : ℕ) (s : Disc N) (m : Monitor N) → slice_get ss q ≡ Some (disc s) → slice_get ss r ≡ Some (monitor m) → q ≡ x.0 → P s m → P (step_disc N s x.1) m) →
      ((q r : ℕ) (s : Disc N) (m : Monitor N) → slice_get ss q ≡ Some (disc s) → slice_get ss r ≡ Some (monitor m) → r ≡ x.0 → P s m → P s (step_monitor N m x.1)) →
      (q r : ℕ) (s : Disc N) (m : Monitor N) → slice_get (next_states (node N) ss x) q ≡ Some (disc s) → slice_get (next_states (node N) ss x) r ≡ Some (monitor m) → P s m
  beside_monitor P ss x en old by_disc by_monitor q r s m at at_m =
      ⊎_elim
      (λ (a : (q ≢ x.0) × (slice_get ss q ≡ Some (disc s))).
      ⊎_elim
      (λ (b : (r ≢ x.0) × (slice_get ss r ≡ Some (monitor m))). old q r s m a.1 b.1)
      (λ (b : (o : Monitor N) × (r ≡ x.0) × (slice_get ss r ≡ Some (monitor o)) × (m ≡ step_monitor N o x.1)).
      subst (λ (z : Monitor N). P s z) (sym b.3) (by_monitor q r s b.0 a.1 b.2 b.1 (old q r s b.0 a.1 b.2)))
      (monitor_came N ss x r m at_m))
      (λ (a : (o : Disc N) × (q ≡ x.0) × (slice_get ss q ≡ Some (disc o)) × (s ≡ step_disc N o x.1)).
      ⊎_elim
      (λ (b : (r ≢ x.0) × (slice_get ss r ≡ Some (monitor m))). subst (λ (z : Disc N). P z m) (sym a.3) (by_disc q r a.0 m a.2 b.1 a.1 (old q r a.0 m a.2 b.1)))
      (λ (b : (o : Monitor N) × (r ≡ x.0) × (slice_get ss r ≡ Some (monitor o)) × (m ≡ step_monitor N o x.1)).
      (let both : disc a.0 ≡ monitor b.0 = two_kinds N ss x q r (disc a.0) (monitor b.0) a.2 b.2 a.1 b.1 in absurd (cc (both))))
      (monitor_came N ss x r m at_m))
      (disc_came N ss x q s at)

  -- of a disc alone
  pub of_disc : (P : Disc N → Type 0) (ss : List (State N)) (x : ℕ × Event N) →
      ((q : ℕ) (s : Disc N) → slice_get ss q ≡ Some (disc s) → P s) →
      ((q : ℕ) (s : Disc N) → slice_get ss q ≡ Some (disc s) → q ≡ x.0 → P s → P (step_disc N s x.1)) →
      (q : ℕ) (s : Disc N) → slice_get (next_states (node N) ss x) q ≡ Some (disc s) → P s
  of_disc P ss x old by_disc q s at =
      ⊎_elim
      (λ (a : (q ≢ x.0) × (slice_get ss q ≡ Some (disc s))). old q s a.1)
      (λ (a : (o : Disc N) × (q ≡ x.0) × (slice_get ss q ≡ Some (disc o)) × (s ≡ step_disc N o x.1)). subst (λ (z : Disc N). P z) (sym a.3) (by_disc q a.0 a.2 a.1 (old q a.0 a.2)))
      (disc_came N ss x q s at)

  pub inv_step : (ss : List (State N)) (x : ℕ × Event N) → IsEnabled (node N) ss x → Inv ss → Inv (next_states (node N) ss x)
  inv_step ss x en inv =
      let up : (f : Fact N) → True N ss f → True N (next_states (node N) ss x) f = more N ss x en in
      record {
        apart = apart_step N ss x inv.apart;
        discs = λ q s at. good_more (True N ss) (True N (next_states (node N) ss x)) s up
            (of_disc (λ z. IsGood (True N ss) z) ss x inv.discs
            (λ p o at_o is g. good_step N (True N ss) o (clash N ss inv.apart) (knows ss inv) x.1 (may_of N ss x p (disc o) en at_o is).1 (asked_of N ss x p (disc o) en at_o is) g)
            q s at);
        mons = λ q m at. fair_more (True N ss) (True N (next_states (node N) ss x)) m up
            (⊎_elim
            (λ (a : (q ≢ x.0) × (slice_get ss q ≡ Some (monitor m))). inv.mons q m a.1)
            (λ (a : (o : Monitor N) × (q ≡ x.0) × (slice_get ss q ≡ Some (monitor o)) × (m ≡ step_monitor N o x.1)).
            subst (λ (z : Monitor N). IsFair N (True N ss) z) (sym a.3) (fair_step N (True N ss) a.0 x.1 (may_of N ss x q (monitor a.0) en a.2 a.1) (asked_of N ss x q (monitor a.0) en a.2 a.1) (inv.mons q a.0 a.2)))
            (monitor_came N ss x q m at));
        trails = λ q s at. filed_more (True N ss) (True N (next_states (node N) ss x)) s up
            (⊎_elim
            (λ (a : (q ≢ x.0) × (slice_get ss q ≡ Some (trail s))). inv.trails q s a.1)
            (λ (a : (o : Trail N) × (q ≡ x.0) × (slice_get ss q ≡ Some (trail o)) × (s ≡ step_trail N o x.1)).
            subst (λ (z : Trail N). IsFiled (True N ss) z) (sym a.3) (filed_step N (True N ss) a.0 x.1 (may_of N ss x q (trail a.0) en a.2 a.1) (asked_of N ss x q (trail a.0) en a.2 a.1) (inv.trails q a.0 a.2)))
            (trail_came N ss x q s at));
        agree = beside_monitor (λ s m. Agree N s m) ss x en inv.agree
            (λ q r s m at at_m is a. agree_disc N ss inv.apart q r s m x.1 at at_m (inv.mons r m at_m) (may_of N ss x q (disc s) en at is).1 (asked_of N ss x q (disc s) en at is) a)
            (λ q r s m at at_m is a. agree_monitor N ss inv.apart q r s m x.1 at at_m (inv.discs q s at) (inv.mons r m at_m) a);
      }
