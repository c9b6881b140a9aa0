-- No block of a disc has more keys than it has room for.
use Rattle.std.proofs.Common.{◌≡◌, ◌≢◌, ◌⊎◌, ℕ, ◌+◌, ◌≤◌, ◌<◌, Bool, true, false, cond, List, [], ◌∷◌, length, Option, Some, None, refl, ap, sym, ◌∙◌, subst, ⊎_elim, inl, inr, arith}
use Rattle.any_node.specs.Layout.{Layout, Equality, put}
use Rattle.any_node.specs.Value.{AuditRecord, Among, Each, AreDistinct, on}
use Rattle.any_node.specs.Node.{Disc, Cause, Event, Fact, allows_disc, asks_disc, step_disc, undoing, undo_record, holding, MayAct, IsFree, IsTaken, IsRoomy, freed, lets_go, given}
use Rattle.any_node.specs.Node.Event.{Write, Read, Lock, Turn, Dumping, Undo, Close, Release, Draw, Drawn, Low, Lowered, Start, Raise, Failed}
use Rattle.any_node.specs.Node.Cause.{Busy, BusyFile, Full, Refused}
use Rattle.any_node.specs.Node.Fact.{Decided}
use Rattle.any_node.proofs.Lists.{not_same, same_or, put_at, put_here, put_else, some≢none, some_is, each_from, each_map, each_at}
use Rattle.any_node.proofs.Values.{Absent, Last, on_else}
use Rattle.any_node.proofs.Discs.{IsGood, OneClose, IsKnown, holds_left}

-- the list without the first that is k
abbrev without : {T : Type 0} → Equality T → T → List T → List T
without E k [] = []
without E k (x ∷ xs) = cond (E.same x k) xs (x ∷ without E k xs)

module _ {T : Type 0} (E : Equality T) (k : T) where
  without_one : (x : T) (xs : List T) (P : List T → Type 0) → (x ≡ k → P xs) → (x ≢ k → P (x ∷ without E k xs)) → P (without E k (x ∷ xs))
  without_one x xs P here else = ⊎_elim
      (λ (e : x ≡ k). subst (λ (b : Bool). P (cond b xs (x ∷ without E k xs))) (sym (E.reflexive x k e)) (here e))
      (λ (n : x ≢ k). subst (λ (b : Bool). P (cond b xs (x ∷ without E k xs))) (sym (not_same E x k n)) (else n))
      (same_or E x k)

  without_long : (xs : List T) → length xs ≤ length (without E k xs) + 1
  without_long [] = omega arith
  without_long (x ∷ xs) = without_one x xs (λ us. length (x ∷ xs) ≤ length us + 1) (λ e. omega arith) (λ n. (let h : length xs ≤ length (without E k xs) + 1 = without_long xs in omega (arith, h)))

  without_among : (xs : List T) (y : T) → Among (without E k xs) y → Among xs y
  without_among [] y = λ has. has
  without_among (x ∷ xs) y = without_one x xs (λ us. Among us y → Among (x ∷ xs) y) (λ e has. inr has) (λ n has. ⊎_elim (λ (e : x ≡ y). inl e) (λ (h : Among (without E k xs) y). inr (without_among xs y h)) has)

  without_distinct : (xs : List T) → AreDistinct xs → AreDistinct (without E k xs)
  without_distinct [] d = tt
  without_distinct (x ∷ xs) d = without_one x xs AreDistinct (λ e. d.1) (λ n. ((λ has. d.0 (without_among xs x has)), without_distinct xs d.1))

  without_gone : (xs : List T) → AreDistinct xs → Among (without E k xs) k → ⊥
  without_gone [] d = λ has. has
  without_gone (x ∷ xs) d = without_one x xs (λ us. Among us k → ⊥) (λ e has. d.0 (subst (λ (y : T). Among xs y) (sym e) has)) (λ n has. ⊎_elim (λ (e : x ≡ k). n e) (λ (h : Among (without E k xs) k). without_gone xs d.1 h) has)

some_there : (N : Layout) (o : N.Op) (v u : Option N.Val) → N.is_change o ≡ true → N.is_put o ≡ false → N.gives o v ≡ Some u → v ≢ None
some_there N o v u c p e n = N.no_other o u c p (ap (λ w. N.gives o w) (sym n) ∙ e)

module _ {N : Layout} where
  -- keys of the block that are taken
  abbrev pub AreTaken : Disc N → N.Block → List N.Key → Type 0
  AreTaken s b ks = Each (λ j. (N.block_of j ≡ b) × IsTaken s j) ks

  pub record IsRoomed (s : Disc N) : Type 0 where
    -- who holds a key and has a record on it holds it by writing
    pub writing : (k : N.Key) (h : N.Tx) → s.held k ≡ Some h → Absent h (on k s.made) ⊎ (s.written k ≡ true)
    pub fits : (k : N.Key) → N.disc_of k ≡ s.number → (ks : List N.Key) → AreDistinct ks → AreTaken s (N.block_of k) ks → length ks ≤ N.room

  -- fewer keys are taken than before
  fewer : (s z : Disc N) → ((k : N.Key) → IsTaken z k → IsTaken s k) → (k : N.Key) → ((ks : List N.Key) → AreDistinct ks → AreTaken s (N.block_of k) ks → length ks ≤ N.room) → (ks : List N.Key) → AreDistinct ks → AreTaken z (N.block_of k) ks → length ks ≤ N.room
  fewer s z less k fits ks d taken = fits ks d (each_map (λ j. (N.block_of j ≡ N.block_of k) × IsTaken z j) (λ j. (N.block_of j ≡ N.block_of k) × IsTaken s j) ks (λ j h. (h.0, less j h.1)) taken)

  -- one more key
  one_more : (s z : Disc N) (j : N.Key) → IsRoomy s j → ((k : N.Key) → k ≢ j → IsTaken z k → IsTaken s k) → (k : N.Key) → ((ks : List N.Key) → AreDistinct ks → AreTaken s (N.block_of k) ks → length ks ≤ N.room) → (ks : List N.Key) → AreDistinct ks → AreTaken z (N.block_of k) ks → length ks ≤ N.room
  one_more s z j roomy less k fits ks d taken =
      let us : List N.Key = without N.keys j ks in
      let left : (x : N.Key) → Among us x → (N.block_of x ≡ N.block_of k) × IsTaken s x = λ x has.
      (let h = each_at (λ y. (N.block_of y ≡ N.block_of k) × IsTaken z y) ks x taken (without_among N.keys j ks x has) in
      (h.0, less x (λ e. without_gone N.keys j ks d (subst (λ (y : N.Key). Among us y) e has)) h.1)) in
      ⊎_elim
      (λ (e : N.block_of j ≡ N.block_of k).
      (let lt : length us < N.room = roomy us (without_distinct N.keys j ks d) (each_from (λ x. (N.block_of x ≡ N.block_of j) × IsTaken s x) us (λ x has. (let h = left x has in (h.0 ∙ sym e, h.1)))) in
      let le : length ks ≤ length us + 1 = without_long N.keys j ks in
      omega (arith, lt, le)))
      (λ (n : N.block_of j ≢ N.block_of k).
      fits ks d (each_from (λ x. (N.block_of x ≡ N.block_of k) × IsTaken s x) ks (λ x has.
      (let h = each_at (λ y. (N.block_of y ≡ N.block_of k) × IsTaken z y) ks x taken has in
      (h.0, less x (λ e. n (ap N.block_of (sym e) ∙ h.0)) h.1)))))
      (same_or N.blocks (N.block_of j) (N.block_of k))

  -- what a Write gives has a value, or had one
  wrote_some : (r : AuditRecord N) (v : Option N.Val) → given r v ≡ Some r.after → (o : N.Op) × (r.op ≡ Some o) × (N.gives o v ≡ Some r.after)
  wrote_some r v e = pick r.op refl e where
    pick : (p : Option N.Op) → r.op ≡ p → (elim p [ None ↦ None | Some o ↦ N.gives o v ]) ≡ Some r.after → (o : N.Op) × (r.op ≡ Some o) × (N.gives o v ≡ Some r.after)
    pick None is e = absurd (cc (e))
    pick (Some o) is e = (o, is, e)

module _ (N : Layout) (T : Fact N → Type 0) (s : Disc N) (g : IsGood T s) (h : IsRoomed s) where
  write_taken : (t : N.Tx) (r : AuditRecord N) (k : N.Key) → k ≢ r.key → IsTaken (step_disc N s (Write t r)) k → IsTaken s k
  write_taken t r k n taken = ⊎_elim
      (λ (some : put N.keys r.key r.after s.map k ≢ None). inl (λ e. some (put_else N.keys r.key r.after s.map k n ∙ e)))
      (λ (w : put N.keys r.key true s.written k ≡ true). inr (sym (put_else N.keys r.key true s.written k n) ∙ w))
      taken

  -- the key was taken, so no more are
  write_same : (t : N.Tx) (r : AuditRecord N) → IsTaken s r.key → (k : N.Key) → IsTaken (step_disc N s (Write t r)) k → IsTaken s k
  write_same t r was k taken = ⊎_elim (λ (e : k ≡ r.key). subst (λ (j : N.Key). IsTaken s j) (sym e) was) (λ (n : k ≢ r.key). write_taken t r k n taken) (same_or N.keys k r.key)

  write_fits : (t : N.Tx) (r : AuditRecord N) → allows_disc N s (Write t r) → (k : N.Key) → N.disc_of k ≡ s.number → (ks : List N.Key) → AreDistinct ks → AreTaken (step_disc N s (Write t r)) (N.block_of k) ks → length ks ≤ N.room
  write_fits t r may k here =
      let z : Disc N = step_disc N s (Write t r) in
      let o = wrote_some r r.before may.4 in
      let room = may.8 o.0 o.1 in
      ⊎_elim
      (λ (other : N.is_put o.0 ≡ false).
      fewer s z (write_same t r (inl (λ e. some_there N o.0 r.before r.after room.0 other o.2 (may.3 ∙ e)))) k (h.fits k here))
      (λ (x : IsTaken s r.key ⊎ IsRoomy s r.key). ⊎_elim
      (λ (was : IsTaken s r.key). fewer s z (write_same t r was) k (h.fits k here))
      (λ (roomy : IsRoomy s r.key). one_more s z r.key roomy (λ j n taken. write_taken t r j n taken) k (h.fits k here))
      x)
      room.1

  write_roomed : (t : N.Tx) (r : AuditRecord N) → allows_disc N s (Write t r) → IsRoomed (step_disc N s (Write t r))
  write_roomed t r may = record {
    writing = λ k u e. ⊎_elim
        (λ (i : k ≡ r.key). inr (ap (λ j. put N.keys r.key true s.written j) i ∙ put_here N.keys r.key true s.written))
        (λ (n : k ≢ r.key).
        subst (λ (rs : List (AuditRecord N)). Absent u rs ⊎ (put N.keys r.key true s.written k ≡ true)) (sym (on_else k s.made r (λ i. n (sym i))))
        (⊎_elim (λ (a : Absent u (on k s.made)). inl a) (λ (w : s.written k ≡ true). inr (put_else N.keys r.key true s.written k n ∙ w)) (h.writing k u (sym (put_else N.keys r.key (Some t) s.held k n) ∙ e))))
        (same_or N.keys k r.key);
    fits = write_fits t r may;
  }

  hold_roomed : (t : N.Tx) (k : N.Key) → MayAct s t → IsFree (s.held k) t → IsRoomed (holding N t k s)
  hold_roomed t k acts free = record {
    writing = λ j u. put_at N.keys (λ o. o ≡ Some u → Absent u (on j s.made) ⊎ (s.written j ≡ true)) k (Some t) s.held j
        (λ here e. (let same : t ≡ u = some_is t u e in ⊎_elim
        (λ (none : s.held k ≡ None). ⊎_elim
        (λ (a : Absent t (on j s.made)). inl (subst (λ (x : N.Tx). Absent x (on j s.made)) same a))
        (λ (yes : (s.held j ≡ Some t) × Last t (on j s.made)). absurd (some≢none t (sym yes.0 ∙ ap s.held here ∙ none)))
        (g.kept t j acts.2))
        (λ (mine : s.held k ≡ Some t). h.writing j u (ap s.held here ∙ mine ∙ ap (λ x. Some x) same))
        free))
        (λ else e. h.writing j u e);
    fits = h.fits;
  }

  undo_roomed : OneClose T → IsKnown T → (t : N.Tx) (r : AuditRecord N) (rs : List (AuditRecord N)) → s.left t ≡ r ∷ rs → (ds : List ℕ) × T (Decided t false ds) → IsRoomed (undoing N t s (r ∷ rs))
  undo_roomed clash known t r rs is abort =
      let new : AuditRecord N = undo_record N t s r in
      let has : s.held r.key ≡ Some t = holds_left N T s clash known g t r rs is abort in
      let written : s.written r.key ≡ true = ⊎_elim (λ (a : Absent t (on r.key s.made)). absurd (g.stack t r (subst (λ (us : List (AuditRecord N)). Among us r) (sym is) (inl refl)) a)) (λ (w : s.written r.key ≡ true). w) (h.writing r.key t has) in
      record {
        writing = λ k u e. ⊎_elim
            (λ (i : k ≡ r.key). inr (ap s.written i ∙ written))
            (λ (n : k ≢ r.key). subst (λ (us : List (AuditRecord N)). Absent u us ⊎ (s.written k ≡ true)) (sym (on_else k s.made new (λ i. n (sym i)))) (h.writing k u e))
            (same_or N.keys k r.key);
        fits = λ k here. fewer s (undoing N t s (r ∷ rs)) (λ j taken. ⊎_elim
            (λ (i : j ≡ r.key). inr (ap s.written i ∙ written))
            (λ (n : j ≢ r.key). ⊎_elim (λ (some : put N.keys r.key r.before s.map j ≢ None). inl (λ e. some (put_else N.keys r.key r.before s.map j n ∙ e))) (λ (w : s.written j ≡ true). inr w) taken)
            (same_or N.keys j r.key)) k (h.fits k here);
      }

  freed_holder : (t u : N.Tx) (o : Option N.Tx) (b : Bool) → freed N.txs t o ≡ Some u → (o ≡ Some u) × (lets_go N.txs t o b ≡ b)
  freed_holder t u None b e = absurd (cc (e))
  freed_holder t u (Some x) b e = ⊎_elim
      (λ (i : x ≡ t). (let none : None ≡ Some u = sym (ap (λ c. cond c None (Some x)) (N.txs.reflexive x t i)) ∙ e in absurd (some≢none u (sym none))))
      (λ (n : x ≢ t). (sym (ap (λ c. cond c None (Some x)) (not_same N.txs x t n)) ∙ e, ap (λ c. cond c false b) (not_same N.txs x t n)))
      (same_or N.txs x t)

  lets_less : (t : N.Tx) (o : Option N.Tx) (b : Bool) → lets_go N.txs t o b ≡ true → b ≡ true
  lets_less t None b e = e
  lets_less t (Some x) b e = pick (N.txs.same x t) e where
    pick : (c : Bool) → cond c false b ≡ true → b ≡ true
    pick true e = absurd (cc (e))
    pick false e = e

  release_roomed : (t : N.Tx) → IsRoomed (step_disc N s (Release t))
  release_roomed t = record {
    writing = λ k u e. (let f = freed_holder t u (s.held k) (s.written k) e in ⊎_elim (λ (a : Absent u (on k s.made)). inl a) (λ (w : s.written k ≡ true). inr (f.1 ∙ w)) (h.writing k u f.0));
    fits = λ k here. fewer s (step_disc N s (Release t)) (λ j taken. ⊎_elim (λ (some : s.map j ≢ None). inl some) (λ (w : lets_go N.txs t (s.held j) (s.written j) ≡ true). inr (lets_less t (s.held j) (s.written j) w)) taken) k (h.fits k here);
  }

  turn_roomed : (t : N.Tx) (why : Cause N) → allows_disc N s (Turn t why) → IsRoomed (step_disc N s (Turn t why))
  turn_roomed t (Busy k x) may = h
  turn_roomed t (BusyFile f x) may = h
  turn_roomed t (Full k o) may = hold_roomed t k may.0 may.1.0
  turn_roomed t (Refused k o) may = hold_roomed t k may.0 may.1.0

  pub roomed_step : OneClose T → IsKnown T → (e : Event N) → allows_disc N s e → asks_disc N T s e → IsRoomed (step_disc N s e)
  roomed_step clash known (Write t r) may asked = write_roomed t r may
  roomed_step clash known (Read t k v) may asked = hold_roomed t k may.0 may.1.0
  roomed_step clash known (Turn t why) may asked = turn_roomed t why may
  roomed_step clash known (Undo t) may asked = subst (λ (rs : List (AuditRecord N)). IsRoomed (undoing N t s rs)) (sym may.2) (undo_roomed clash known t may.0 may.1 may.2 asked)
  roomed_step clash known (Release t) may asked = release_roomed t
  roomed_step clash known (Lock t f) may asked = record { writing = h.writing; fits = h.fits }
  roomed_step clash known (Close t) may asked = record { writing = h.writing; fits = h.fits }
  roomed_step clash known (Draw b n) may asked = record { writing = h.writing; fits = h.fits }
  roomed_step clash known (Drawn b) may asked = record { writing = h.writing; fits = h.fits }
  roomed_step clash known (Low by l) may asked = record { writing = h.writing; fits = h.fits }
  roomed_step clash known Lowered may asked = record { writing = h.writing; fits = h.fits }
  roomed_step clash known (Start by i l) may asked = record { writing = h.writing; fits = h.fits }
  roomed_step clash known (Raise i r) may asked = record { writing = h.writing; fits = h.fits }
  roomed_step clash known (Dumping by) may asked = h
  roomed_step clash known (Failed by) may asked = h
  roomed_step clash known _ may asked = absurd may
