-- The facts of the node stay true, and what an event asks still holds where more of them are.
use Rattle.std.proofs.Common.{◌≡◌, ℕ, zero, suc, ◌==◌, ◌+◌, ◌-◌, ◌≤◌, ◌<◌, Bool, true, false, cond, List, [], ◌∷◌, ◌++◌, length, Option, Some, None, slice_get, refl, ap, sym, ◌∙◌, subst, ⊎_elim, inl, inr, arith, length-append}
use Rattle.chronicle.specs.Histories.{FactsStay, IsMonotone}
use Rattle.any_node.specs.Layout.{Layout}
use Rattle.any_node.specs.Value.{AuditRecord, Ending, Among, own, filed}
use Rattle.any_node.specs.Node.{Worker, Disc, Trail, Monitor, Dump, Label, Cause, State, Event, Fact, node, allows_work, allows_disc, allows_dump, asks, asks_disc, asks_turn, asks_trail, asks_monitor, asks_dump, Backed, step_work, step_disc, step_turn, step_trail, step_monitor, step_dump, undoing, undo_record, holding, makes, told, IsUpTo, MayRest, MayRaise, start_under_way, start_of, IsFrom, IsOver, now_landed}
use Rattle.any_node.specs.Node.State.{worker, disc, trail, monitor, dump}
use Rattle.any_node.specs.Node.Label.{Taken}
use Rattle.any_node.specs.Node.Cause.{Busy, BusyFile, Full, Refused}
use Rattle.any_node.specs.Node.Event.{Enlist, Finish, End, Quit, Write, Read, Lock, Turn, Undo, Close, Release, Draw, Low, Lowered, Start, Raise, OfferAudit, OfferCar, Land, Purge, Copy, Seal, Sealed, Failed}
use Rattle.any_node.specs.Node.Fact.{Enlisted, Finished, Decided, Closed, Made, Durable, Committed, Started, Over, Floor}
use Rattle.any_node.proofs.Lists.{put_at, some≢none, front_more}

-- of records in two lists, those of a disc
pub own-append : {N : Layout} (d : ℕ) (xs ys : List (ℕ × AuditRecord N)) → own d (xs ++ ys) ≡ own d xs ++ own d ys
own-append d [] ys = refl
own-append d (x ∷ xs) ys = grow (x.1.disc == d) x.1 (own d (xs ++ ys)) (own d xs) (own d ys) (own-append d xs ys) where
  grow : {A : Type 0} (b : Bool) (r : A) (us vs ws : List A) → us ≡ vs ++ ws → cond b (r ∷ us) us ≡ cond b (r ∷ vs) vs ++ ws
  grow true r us vs ws e = ap (λ xs. r ∷ xs) e
  grow false r us vs ws e = e

pub still_there : {A : Type 0} (xs ys : List A) (j : ℕ) (x : A) → slice_get xs j ≡ Some x → slice_get (xs ++ ys) j ≡ Some x
still_there [] ys j x e = absurd (cc (e))
still_there (y ∷ xs) ys zero x e = e
still_there (y ∷ xs) ys (suc j) x e = still_there xs ys j x e

lowered_floor : (low : ℕ) (way : Option ℕ) (n : ℕ) → n ≤ low → IsUpTo way n → n ≤ told low way
lowered_floor low None n a b = a
lowered_floor low (Some m) n a b = b

raised_floor : (rest r : Option ℕ) (s n : ℕ) → MayRest rest r s → IsUpTo rest n → n ≤ s → IsUpTo r n
raised_floor (Some earlier) (Some r) s n may a b = omega (arith, may, a)
raised_floor (Some earlier) None s n may a b = tt
raised_floor None (Some r) s n may a b = omega (arith, may, b)
raised_floor None None s n may a b = tt

raise_floor : (way : Option (ℕ × ℕ)) (rest r : Option ℕ) (i n : ℕ) → MayRaise way rest i r → IsUpTo rest n → IsUpTo (start_under_way way) n → IsUpTo r n
raise_floor None rest r i n may a b = absurd may
raise_floor (Some x) rest r i n may a b = raised_floor rest r x.1 n may.1 a b

module _ (N : Layout) where
  -- what an Undo makes of a disc
  pub undo_cases : (P : Disc N → Type 0) (t : N.Tx) (s : Disc N) (rs : List (AuditRecord N)) → P s → ((r : AuditRecord N) (us : List (AuditRecord N)) → P (undoing N t s (r ∷ us))) → P (undoing N t s rs)
  undo_cases P t s [] same more = same
  undo_cases P t s (r ∷ rs) same more = more r rs

  -- what a Turn makes of a disc
  pub turn_cases : (P : Disc N → Type 0) (t : N.Tx) (why : Cause N) (s : Disc N) → P s → ((k : N.Key) → P (holding N t k s)) → P (step_turn N t why s)
  turn_cases P t (Busy k h) s same more = same
  turn_cases P t (BusyFile f h) s same more = same
  turn_cases P t (Full k o) s same more = more k
  turn_cases P t (Refused k o) s same more = more k

  work_enlisted : (s : Worker N) (e : Event N) (t : N.Tx) (d : ℕ) → allows_work N s e → makes N (worker s) (Enlisted t d) → makes N (worker (step_work N s e)) (Enlisted t d)
  work_enlisted s (Enlist u c) t d may m = (m.0, m.1, put_at N.txs (λ ds. Among ds d) u (c ∷ s.discs u) s.discs t (λ e. inr (subst (λ (v : N.Tx). Among (s.discs v) d) e m.2)) (λ n. m.2))
  work_enlisted s _ t d may m = m

  work_finished : (s : Worker N) (e : Event N) (t : N.Tx) → allows_work N s e → makes N (worker s) (Finished t) → makes N (worker (step_work N s e)) (Finished t)
  work_finished s (Finish u) t may m = (m.0, put_at N.txs (λ b. b ≡ true) u true s.finished t (λ e. refl) (λ n. m.1))
  work_finished s _ t may m = m

  work_decided : (s : Worker N) (e : Event N) (t : N.Tx) (c : Bool) (ds : List ℕ) → allows_work N s e → makes N (worker s) (Decided t c ds) → makes N (worker (step_work N s e)) (Decided t c ds)
  work_decided s (Enlist u d) t c ds may m = (m.0, m.1, put_at N.txs (λ xs. xs ≡ ds) u (d ∷ s.discs u) s.discs t (λ e. absurd (some≢none c (sym m.1 ∙ ap s.decided e ∙ may.3))) (λ n. m.2), m.3)
  work_decided s (End u) t c ds may m = (m.0, put_at N.txs (λ x. x ≡ Some c) u (Some true) s.decided t (λ e. absurd (some≢none c (sym m.1 ∙ ap s.decided e ∙ may.2))) (λ n. m.1), m.2, m.3)
  work_decided s (Quit u) t c ds may m = (m.0, put_at N.txs (λ x. x ≡ Some c) u (Some false) s.decided t (λ e. absurd (some≢none c (sym m.1 ∙ ap s.decided e ∙ may.2))) (λ n. m.1), m.2, m.3)
  work_decided s _ t c ds may m = m

  disc_closed : (s : Disc N) (e : Event N) (t : N.Tx) (d n : ℕ) → allows_disc N s e → makes N (disc s) (Closed t d n) → makes N (disc (step_disc N s e)) (Closed t d n)
  disc_closed s (Write u r) t d n may m = (m.0, m.1, put_at N.txs (λ x. x ≡ n) u r.position s.last t (λ e. absurd (cc (m.1, may.0.0, ap s.closed e))) (λ _. m.2))
  disc_closed s (Close u) t d n may m = (m.0, put_at N.txs (λ b. b ≡ true) u true s.closed t (λ e. refl) (λ _. m.1), m.2)
  disc_closed s (Undo u) t d n may m = undo_cases (λ z. makes N (disc z) (Closed t d n)) u s (s.left u) m (λ r us. m)
  disc_closed s (Turn u why) t d n may m = turn_cases (λ z. makes N (disc z) (Closed t d n)) u why s m (λ k. m)
  disc_closed s _ t d n may m = m

  disc_made : (s : Disc N) (e : Event N) (d n : ℕ) (xs : List (AuditRecord N)) → allows_disc N s e → makes N (disc s) (Made d n xs) → makes N (disc (step_disc N s e)) (Made d n xs)
  disc_made s (Write u r) d n xs may m = (m.0, front_more xs s.made (r ∷ []) m.1, m.2)
  disc_made s (Undo u) d n xs may m = undo_cases (λ z. makes N (disc z) (Made d n xs)) u s (s.left u) m (λ r us. (m.0, front_more xs s.made (undo_record N u s r ∷ []) m.1, m.2))
  disc_made s (Turn u why) d n xs may m = turn_cases (λ z. makes N (disc z) (Made d n xs)) u why s m (λ k. m)
  disc_made s _ d n xs may m = m

  disc_started : (s : Disc N) (e : Event N) (d i l : ℕ) → allows_disc N s e → makes N (disc s) (Started d i l) → makes N (disc (step_disc N s e)) (Started d i l)
  disc_started s (Start by j m) d i l may f = (f.0, inr f.1)
  disc_started s (Undo u) d i l may f = undo_cases (λ z. makes N (disc z) (Started d i l)) u s (s.left u) f (λ r us. f)
  disc_started s (Turn u why) d i l may f = turn_cases (λ z. makes N (disc z) (Started d i l)) u why s f (λ k. f)
  disc_started s _ d i l may f = f

  disc_floor : (s : Disc N) (e : Event N) (d n : ℕ) → s.lost ≡ false → allows_disc N s e → makes N (disc s) (Floor d n) → makes N (disc (step_disc N s e)) (Floor d n)
  disc_floor s (Low by l) d n there may f = (f.0, (λ e. ((f.1 e).0, (let le : n ≤ s.low = (f.1 e).0 in omega (arith, may.1, le)))), f.2, f.3)
  disc_floor s Lowered d n there may f = (f.0, (λ e. (lowered_floor s.low s.lowering n (f.1 e).0 (f.1 e).1, tt)), f.2, f.3)
  disc_floor s (Start by i l) d n there may f = (f.0, f.1, f.2, (let le : n ≤ s.low = (f.1 there).0 in omega (arith, may.1, le)))
  disc_floor s (Raise i r) d n there may f = (f.0, f.1, raise_floor s.way s.rest r i n may f.2 f.3, tt)
  disc_floor s (Undo u) d n there may f = undo_cases (λ z. makes N (disc z) (Floor d n)) u s (s.left u) f (λ r us. f)
  disc_floor s (Turn u why) d n there may f = turn_cases (λ z. makes N (disc z) (Floor d n)) u why s f (λ k. f)
  disc_floor s _ d n there may f = f

  trail_durable : (s : Trail N) (e : Event N) (d n : ℕ) → makes N (trail s) (Durable d n) → makes N (trail (step_trail N s e)) (Durable d n)
  trail_durable s Land d n m = (m.0, (let e : length (own d (s.landed ++ s.offered)) ≡ length (own d s.landed) + length (own d s.offered) = ap length (own-append d s.landed s.offered) ∙ length-append (own d s.landed) (own d s.offered) in let le : n < s.first d + length (own d s.landed) = m.1 in omega (arith, e, le)))
  trail_durable s _ d n m = m

  monitor_committed : (s : Monitor N) (e : Event N) (t : N.Tx) (p : ℕ) → makes N (monitor s) (Committed t p) → makes N (monitor (step_monitor N s e)) (Committed t p)
  monitor_committed s Land t p m = (m.0, still_there s.landed s.offered m.0 (record { tx = t; commit = true }) m.1, m.2)
  monitor_committed s _ t p m = m

  seal_from : (a b : Option (Label N)) (r i l : ℕ) (c : N.Block → Option ℕ) → b ≡ None → ((x : Label N) → a ≡ Some x → start_of x ≤ l) → IsFrom a b r → IsFrom a (Some (Taken i l c)) r
  seal_from None None r i l c e f h = absurd h
  seal_from (Some a) None r i l c e f h = (let le : start_of a ≤ l = f a refl in (h, omega (arith, le, h)))
  seal_from a (Some b) r i l c e f h = absurd (some≢none b e)

  sealed_from : (a b : Option (Label N)) (r : ℕ) → IsFrom a b r → IsFrom (now_landed N a b) None r
  sealed_from None None r h = h
  sealed_from (Some a) None r h = h
  sealed_from None (Some b) r h = h
  sealed_from (Some a) (Some b) r h = h.1

  dump_over : (s : Dump N) (e : Event N) (i : ℕ) (r : Option ℕ) → allows_dump N s e → IsOver s i r → IsOver (step_dump N s e) i r
  dump_over s (Copy j b c) i (Some r) may f = f
  dump_over s (Copy j b c) i None may f = f
  dump_over s (Seal j l) i (Some r) may f = (f.0, seal_from s.landed s.offered r j l (s.copied j) may.0 may.3 f.1)
  dump_over s (Seal j l) i None may f = (f.0, f.1, (let le : f.0 ≤ s.seals = f.2 in omega (arith, le)), ⊎_elim (λ (lt : f.0 < s.seals). inl (omega (arith, lt))) (λ (x : (s.landed ≡ None) × (s.offered ≡ None)). (let le : f.0 ≤ s.seals = f.2 in inl (omega (arith, le)))) f.3)
  dump_over s (Sealed j true) i (Some r) may f = ((f.0.0, inr f.0.1), sealed_from s.landed s.offered r f.1)
  dump_over s (Sealed j true) i None may f = (f.0, inr f.1, f.2, ⊎_elim (λ (lt : f.0 < s.seals). inl lt) (λ (x : (s.landed ≡ None) × (s.offered ≡ None)). (let both : Some (Taken j may.0 may.1) ≡ None = sym may.2 ∙ x.1 in absurd (cc (both)))) f.3)
  dump_over s (Sealed j false) i (Some r) may f = ((f.0.0, inr f.0.1), f.1)
  dump_over s (Sealed j false) i None may f = (f.0, inr f.1, f.2, f.3)
  dump_over s (Failed by) i r may f = f
  dump_over s _ i r may f = absurd may

  pub facts_stay : FactsStay (node N)
  facts_stay (worker s) e (Enlisted t d) may m = work_enlisted s e t d may m
  facts_stay (worker s) e (Finished t) may m = work_finished s e t may m
  facts_stay (worker s) e (Decided t c ds) may m = work_decided s e t c ds may m
  facts_stay (worker s) e _ may m = absurd m
  facts_stay (disc s) e (Closed t d n) may m = disc_closed s e t d n may.1 m
  facts_stay (disc s) e (Made d n xs) may m = disc_made s e d n xs may.1 m
  facts_stay (disc s) e (Started d i l) may m = disc_started s e d i l may.1 m
  facts_stay (disc s) e (Floor d n) may m = disc_floor s e d n may.0 may.1 m
  facts_stay (disc s) e _ may m = absurd m
  facts_stay (trail s) e (Durable d n) may m = trail_durable s e d n m
  facts_stay (trail s) e _ may m = absurd m
  facts_stay (monitor s) e (Committed t p) may m = monitor_committed s e t p m
  facts_stay (monitor s) e _ may m = absurd m
  facts_stay (dump s) e (Over d i r) may m = (same_number s e ∙ m.0, dump_over s e i r may m.1) where
    same_number : (s : Dump N) (e : Event N) → (step_dump N s e).number ≡ s.number
    same_number s (Sealed j true) = refl
    same_number s (Sealed j false) = refl
    same_number s _ = refl
  facts_stay (dump s) e _ may m = absurd m

  module _ (T U : Fact N → Type 0) (up : (f : Fact N) → T f → U f) where
    more_turn : (s : Disc N) (u : N.Tx) (why : Cause N) → asks_turn N T s u why → asks_turn N U s u why
    more_turn s u (Full k o) a = up (Enlisted u s.number) a
    more_turn s u (Refused k o) a = up (Enlisted u s.number) a
    more_turn s u _ a = tt

    more_disc : (s : Disc N) (e : Event N) → asks_disc N T s e → asks_disc N U s e
    more_disc s (Write v r) a = up (Enlisted v s.number) a
    more_disc s (Read v k w) a = up (Enlisted v s.number) a
    more_disc s (Lock v f) a = up (Enlisted v s.number) a
    more_disc s (Turn v why) a = more_turn s v why a
    more_disc s (Undo v) a = (a.0, up (Decided v false a.0) a.1)
    more_disc s (Close v) a = (up (Enlisted v s.number) a.0, up (Finished v) a.1)
    more_disc s (Release v) a = ⊎_elim (λ (x : (p : ℕ) × T (Committed v p)). inl (x.0, up (Committed v x.0) x.1)) (λ (x : ((ds : List ℕ) × T (Decided v false ds)) × (s.left v ≡ [])). inr ((x.0.0, up (Decided v false x.0.0) x.0.1), x.1)) a
    more_disc s (Draw b n) a = up (Durable s.number n) a
    more_disc s (Low by l) a = up (Durable s.number (l - 1)) a
    more_disc s (Raise i r) a = up (Over s.number i r) a
    more_disc s _ a = tt

    more_trail : (s : Trail N) (e : Event N) → asks_trail N T s e → asks_trail N U s e
    more_trail s (OfferAudit f rs) a = λ d some. (let x = a d some in (x.0, up (Made d x.0 (own d (s.landed ++ filed f rs))) x.1))
    more_trail s (Purge f p) a = λ x has lt. (let b = a x has lt in (b.0, up (Floor x.1.disc b.0) b.1, b.2))
    more_trail s _ a = tt

    pub backed_more : (x : Ending N) → Backed N T x → Backed N U x
    backed_more x b = (b.0, up (Decided x.tx x.commit b.0) b.1, λ c d has. ((b.2 c d has).0, up (Closed x.tx d (b.2 c d has).0) (b.2 c d has).1, up (Durable d (b.2 c d has).0) (b.2 c d has).2))

    more_monitor : (e : Event N) → asks_monitor N T e → asks_monitor N U e
    more_monitor (OfferCar xs) a = λ x has. backed_more x (a x has)
    more_monitor _ a = tt

    more_dump : (s : Dump N) (e : Event N) → asks_dump N T s e → asks_dump N U s e
    more_dump s (Copy i b n) a = (a.0, up (Started s.number i a.0) a.1, a.2, (a.3.0, up (Made s.number n a.3.0) a.3.1))
    more_dump s (Seal i l) a = (up (Started s.number i l) a.0, up (Durable s.number (l - 1)) a.1, λ b n e. up (Durable s.number n) (a.2 b n e))
    more_dump s (Sealed i whole) a = (a.0, up (Started s.number i a.0) a.1)
    more_dump s _ a = tt

    pub asks_more : (s : State N) (e : Event N) → asks N T s e → asks N U s e
    asks_more (worker s) e a = tt
    asks_more (disc s) e a = more_disc s e a
    asks_more (trail s) e a = more_trail s e a
    asks_more (monitor s) e a = more_monitor e a
    asks_more (dump s) e a = more_dump s e a

  pub monotone : IsMonotone (node N)
  monotone = record { more = λ T U s e up a. asks_more T U up s e a }
