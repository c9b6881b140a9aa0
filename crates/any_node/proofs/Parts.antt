-- Parts: each has one name through a history, and each fact is of one.
use Rattle.std.proofs.Common.{◌≡◌, ◌≢◌, ◌⊎◌, ℕ, zero, suc, ◌+◌, ◌<◌, Bool, true, false, List, [], ◌∷◌, length, Option, Some, None, slice_get, refl, ap, sym, ◌∙◌, subst, ⊎_elim, inl, inr}
use Rattle.std.proofs.lemmas.Bool.{cases_eq}
use Rattle.std.specs.Option.{option_map}
use mathlib.Core.List.{IsPrefix}
use Rattle.chronicle.specs.Histories.{next_states, IsTrueIn, IsEnabled}
use Rattle.chronicle.proofs.States.{changed_at_here, changed_at_else, stays_true}
use Rattle.any_node.specs.Layout.{Layout}
use Rattle.any_node.specs.Value.{AuditRecord, Among, own}
use Rattle.any_node.specs.Node.{Worker, Disc, Trail, Monitor, Dump, State, Event, Fact, node, allows, asks, step, step_work, step_disc, step_trail, step_monitor, step_dump, makes, IsOver}
use Rattle.any_node.specs.Opening.{Same, Apart}
use Rattle.any_node.specs.Node.State.{worker, disc, trail, monitor, dump}
use Rattle.any_node.specs.Node.Event.{Begin, Enlist, Finish, End, Quit, Turn, Undo, OfferAudit, OfferCar, Land, Purge, Copy, Seal, Sealed}
use Rattle.any_node.specs.Node.Fact.{Enlisted, Decided, Closed, Made, Durable, Committed, Started, Over, Floor}
use Rattle.any_node.proofs.Lists.{some_is}
use Rattle.any_node.proofs.Facts.{undo_cases, turn_cases, facts_stay}

module _ (N : Layout) where
  pub disc_number : (s : Disc N) (e : Event N) → (step_disc N s e).number ≡ s.number
  disc_number s (Undo u) = undo_cases N (λ z. z.number ≡ s.number) u s (s.left u) refl (λ r us. refl)
  disc_number s (Turn u why) = turn_cases N (λ z. z.number ≡ s.number) u why s refl (λ k. refl)
  disc_number s _ = refl

  pub disc_base : (s : Disc N) (e : Event N) → (step_disc N s e).base ≡ s.base
  disc_base s (Undo u) = undo_cases N (λ z. z.base ≡ s.base) u s (s.left u) refl (λ r us. refl)
  disc_base s (Turn u why) = turn_cases N (λ z. z.base ≡ s.base) u why s refl (λ k. refl)
  disc_base s _ = refl

  pub disc_first : (s : Disc N) (e : Event N) → (step_disc N s e).first ≡ s.first
  disc_first s (Undo u) = undo_cases N (λ z. z.first ≡ s.first) u s (s.left u) refl (λ r us. refl)
  disc_first s (Turn u why) = turn_cases N (λ z. z.first ≡ s.first) u why s refl (λ k. refl)
  disc_first s _ = refl

  pub disc_lost : (s : Disc N) (e : Event N) → (step_disc N s e).lost ≡ s.lost
  disc_lost s (Undo u) = undo_cases N (λ z. z.lost ≡ s.lost) u s (s.left u) refl (λ r us. refl)
  disc_lost s (Turn u why) = turn_cases N (λ z. z.lost ≡ s.lost) u why s refl (λ k. refl)
  disc_lost s _ = refl

  work_number : (s : Worker N) (e : Event N) → (step_work N s e).number ≡ s.number
  work_number s (Begin t) = refl
  work_number s (Enlist t d) = refl
  work_number s (Finish t) = refl
  work_number s (End t) = refl
  work_number s (Quit t) = refl
  work_number s _ = refl

  pub trail_number : (s : Trail N) (e : Event N) → (step_trail N s e).number ≡ s.number
  trail_number s (OfferAudit f rs) = refl
  trail_number s Land = refl
  trail_number s (Purge f p) = refl
  trail_number s _ = refl

  pub trail_first : (s : Trail N) (e : Event N) → (step_trail N s e).first ≡ s.first
  trail_first s (OfferAudit f rs) = refl
  trail_first s Land = refl
  trail_first s (Purge f p) = refl
  trail_first s _ = refl

  pub trail_before : (s : Trail N) (e : Event N) → (step_trail N s e).before ≡ s.before
  trail_before s (OfferAudit f rs) = refl
  trail_before s Land = refl
  trail_before s (Purge f p) = refl
  trail_before s _ = refl

  pub monitor_before : (s : Monitor N) (e : Event N) → (step_monitor N s e).before ≡ s.before
  monitor_before s (OfferCar xs) = refl
  monitor_before s Land = refl
  monitor_before s _ = refl

  pub dump_number : (s : Dump N) (e : Event N) → (step_dump N s e).number ≡ s.number
  dump_number s (Copy i b c) = refl
  dump_number s (Seal i l) = refl
  dump_number s (Sealed i true) = refl
  dump_number s (Sealed i false) = refl
  dump_number s _ = refl

  -- a state has the name of the state before it
  pub same_step : (s t : State N) (e : Event N) → Same (step N s e) t → Same s t
  same_step (worker a) (worker b) e h = sym (work_number a e) ∙ h
  same_step (disc a) (disc b) e h = sym (disc_number a e) ∙ h
  same_step (trail a) (trail b) e h = sym (trail_number a e) ∙ h
  same_step (monitor a) (monitor b) e h = tt
  same_step (dump a) (dump b) e h = sym (dump_number a e) ∙ h
  same_step (worker a) _ e h = absurd h
  same_step (disc a) _ e h = absurd h
  same_step (trail a) _ e h = absurd h
  same_step (monitor a) _ e h = absurd h
  same_step (dump a) _ e h = absurd h

  pub same_flip : (s t : State N) → Same s t → Same t s
  same_flip (worker a) (worker b) h = sym h
  same_flip (disc a) (disc b) h = sym h
  same_flip (trail a) (trail b) h = sym h
  same_flip (monitor a) (monitor b) h = tt
  same_flip (dump a) (dump b) h = sym h
  same_flip (worker a) _ h = absurd h
  same_flip (disc a) _ h = absurd h
  same_flip (trail a) _ h = absurd h
  same_flip (monitor a) _ h = absurd h
  same_flip (dump a) _ h = absurd h

  abbrev pub True : List (State N) → Fact N → Type 0
  True ss f = IsTrueIn (node N) ss f

  pub more : (ss : List (State N)) (x : ℕ × Event N) → IsEnabled (node N) ss x → (f : Fact N) → True ss f → True (next_states (node N) ss x) f
  more ss x en f t = stays_true (node N) (facts_stay N) ss (x ∷ []) f (en, tt) t

  some_of : (o : Option (State N)) (f : State N → State N) (s : State N) → option_map f o ≡ Some s → (t : State N) × (o ≡ Some t) × (s ≡ f t)
  some_of None f s e = absurd (cc (e))
  some_of (Some t) f s e = (t, refl, cc (e))

  -- a part after an event is as before, or it is the event's own, stepped
  abbrev pub Came : List (State N) → ℕ × Event N → ℕ → State N → Type 0
  Came ss x q s = ((q ≢ x.0) × (slice_get ss q ≡ Some s)) ⊎ ((t : State N) × (q ≡ x.0) × (slice_get ss q ≡ Some t) × (s ≡ step N t x.1))

  pub came : (ss : List (State N)) (x : ℕ × Event N) (q : ℕ) (s : State N) → slice_get (next_states (node N) ss x) q ≡ Some s → Came ss x q s
  came ss x q s at =
      ⊎_elim
      (λ (e : q ≡ x.0).
      let there : option_map (λ t. step N t x.1) (slice_get ss x.0) ≡ Some s = sym (changed_at_here (λ t. step N t x.1) x.0 ss) ∙ subst (λ (p : ℕ). slice_get (next_states (node N) ss x) p ≡ Some s) e at in
      let got = some_of (slice_get ss x.0) (λ t. step N t x.1) s there in
      inr (got.0, e, subst (λ (p : ℕ). slice_get ss p ≡ Some got.0) (sym e) got.1, got.2))
      (λ (n : q ≢ x.0). inl (n, sym (changed_at_else (λ t. step N t x.1) x.0 q ss (λ e. n (sym e))) ∙ at))
      (cases_eq q x.0)

  -- a part is there after an event too
  pub goes_on : (ss : List (State N)) (x : ℕ × Event N) (q : ℕ) (s : State N) → slice_get ss q ≡ Some s → (t : State N) × (slice_get (next_states (node N) ss x) q ≡ Some t) × ((t ≡ s) ⊎ (t ≡ step N s x.1))
  goes_on ss x q s at =
      ⊎_elim
      (λ (e : q ≡ x.0). (step N s x.1, ap (λ p. slice_get (next_states (node N) ss x) p) e ∙ changed_at_here (λ t. step N t x.1) x.0 ss ∙ ap (λ o. option_map (λ t. step N t x.1) o) (ap (λ p. slice_get ss p) (sym e) ∙ at), inr refl))
      (λ (n : q ≢ x.0). (s, changed_at_else (λ t. step N t x.1) x.0 q ss (λ e. n (sym e)) ∙ at, inl refl))
      (cases_eq q x.0)

  -- the part that has the event
  pub its_state : (ss : List (State N)) (x : ℕ × Event N) (q : ℕ) (t : State N) (en : IsEnabled (node N) ss x) → slice_get ss q ≡ Some t → q ≡ x.0 → t ≡ en.0
  its_state ss x q t en at e = some_is t en.0 (sym at ∙ ap (λ p. slice_get ss p) e ∙ en.1)

  pub may_of : (ss : List (State N)) (x : ℕ × Event N) (q : ℕ) (t : State N) (en : IsEnabled (node N) ss x) → slice_get ss q ≡ Some t → q ≡ x.0 → allows N t x.1
  may_of ss x q t en at e = subst (λ (s : State N). allows N s x.1) (sym (its_state ss x q t en at e)) en.2

  pub asked_of : (ss : List (State N)) (x : ℕ × Event N) (q : ℕ) (t : State N) (en : IsEnabled (node N) ss x) → slice_get ss q ≡ Some t → q ≡ x.0 → asks N (True ss) t x.1
  asked_of ss x q t en at e = subst (λ (s : State N). asks N (True ss) s x.1) (sym (its_state ss x q t en at e)) en.3

  same_came : (ss : List (State N)) (x : ℕ × Event N) (q : ℕ) (s u : State N) → Came ss x q s → Same s u → (t : State N) × (slice_get ss q ≡ Some t) × Same t u
  same_came ss x q s u c h =
      ⊎_elim
      (λ (a : (q ≢ x.0) × (slice_get ss q ≡ Some s)). (s, a.1, h))
      (λ (b : (t : State N) × (q ≡ x.0) × (slice_get ss q ≡ Some t) × (s ≡ step N t x.1)). (b.0, b.2, same_step b.0 u x.1 (subst (λ (v : State N). Same v u) b.3 h)))
      c

  pub apart_step : (ss : List (State N)) (x : ℕ × Event N) → Apart ss → Apart (next_states (node N) ss x)
  apart_step ss x apart q r s t at_q at_r h =
      let one = same_came ss x q s t (came ss x q s at_q) h in
      let two = same_came ss x r t one.0 (came ss x r t at_r) (same_flip one.0 t one.2) in
      apart q r one.0 two.0 one.1 two.1 (same_flip two.0 one.0 two.2)

  -- a part of a kind after an event: as before, or stepped
  abbrev pub DiscCame : List (State N) → ℕ × Event N → ℕ → Disc N → Type 0
  DiscCame ss x q s = ((q ≢ x.0) × (slice_get ss q ≡ Some (disc s))) ⊎ ((o : Disc N) × (q ≡ x.0) × (slice_get ss q ≡ Some (disc o)) × (s ≡ step_disc N o x.1))

  abbrev pub TrailCame : List (State N) → ℕ × Event N → ℕ → Trail N → Type 0
  TrailCame ss x q s = ((q ≢ x.0) × (slice_get ss q ≡ Some (trail s))) ⊎ ((o : Trail N) × (q ≡ x.0) × (slice_get ss q ≡ Some (trail o)) × (s ≡ step_trail N o x.1))

  abbrev pub MonitorCame : List (State N) → ℕ × Event N → ℕ → Monitor N → Type 0
  MonitorCame ss x q s = ((q ≢ x.0) × (slice_get ss q ≡ Some (monitor s))) ⊎ ((o : Monitor N) × (q ≡ x.0) × (slice_get ss q ≡ Some (monitor o)) × (s ≡ step_monitor N o x.1))

  abbrev pub DumpCame : List (State N) → ℕ × Event N → ℕ → Dump N → Type 0
  DumpCame ss x q s = ((q ≢ x.0) × (slice_get ss q ≡ Some (dump s))) ⊎ ((o : Dump N) × (q ≡ x.0) × (slice_get ss q ≡ Some (dump o)) × (s ≡ step_dump N o x.1))

  was_disc : (t : State N) (e : Event N) (s : Disc N) → disc s ≡ step N t e → (o : Disc N) × (t ≡ disc o) × (s ≡ step_disc N o e)
  was_disc (disc o) e s is = (o, refl, cc (is))
  was_disc (worker o) e s is = absurd (cc (is))
  was_disc (trail o) e s is = absurd (cc (is))
  was_disc (monitor o) e s is = absurd (cc (is))
  was_disc (dump o) e s is = absurd (cc (is))

  was_trail : (t : State N) (e : Event N) (s : Trail N) → trail s ≡ step N t e → (o : Trail N) × (t ≡ trail o) × (s ≡ step_trail N o e)
  was_trail (trail o) e s is = (o, refl, cc (is))
  was_trail (worker o) e s is = absurd (cc (is))
  was_trail (disc o) e s is = absurd (cc (is))
  was_trail (monitor o) e s is = absurd (cc (is))
  was_trail (dump o) e s is = absurd (cc (is))

  was_monitor : (t : State N) (e : Event N) (s : Monitor N) → monitor s ≡ step N t e → (o : Monitor N) × (t ≡ monitor o) × (s ≡ step_monitor N o e)
  was_monitor (monitor o) e s is = (o, refl, cc (is))
  was_monitor (worker o) e s is = absurd (cc (is))
  was_monitor (trail o) e s is = absurd (cc (is))
  was_monitor (disc o) e s is = absurd (cc (is))
  was_monitor (dump o) e s is = absurd (cc (is))

  was_dump : (t : State N) (e : Event N) (s : Dump N) → dump s ≡ step N t e → (o : Dump N) × (t ≡ dump o) × (s ≡ step_dump N o e)
  was_dump (dump o) e s is = (o, refl, cc (is))
  was_dump (worker o) e s is = absurd (cc (is))
  was_dump (trail o) e s is = absurd (cc (is))
  was_dump (disc o) e s is = absurd (cc (is))
  was_dump (monitor o) e s is = absurd (cc (is))

  pub disc_came : (ss : List (State N)) (x : ℕ × Event N) (q : ℕ) (s : Disc N) → slice_get (next_states (node N) ss x) q ≡ Some (disc s) → DiscCame ss x q s
  disc_came ss x q s at =
      ⊎_elim
      (λ (a : (q ≢ x.0) × (slice_get ss q ≡ Some (disc s))). inl a)
      (λ (b : (t : State N) × (q ≡ x.0) × (slice_get ss q ≡ Some t) × (disc s ≡ step N t x.1)). (let o = was_disc b.0 x.1 s b.3 in inr (o.0, b.1, b.2 ∙ ap (λ (t : State N). Some t) o.1, o.2)))
      (came ss x q (disc s) at)

  pub trail_came : (ss : List (State N)) (x : ℕ × Event N) (q : ℕ) (s : Trail N) → slice_get (next_states (node N) ss x) q ≡ Some (trail s) → TrailCame ss x q s
  trail_came ss x q s at =
      ⊎_elim
      (λ (a : (q ≢ x.0) × (slice_get ss q ≡ Some (trail s))). inl a)
      (λ (b : (t : State N) × (q ≡ x.0) × (slice_get ss q ≡ Some t) × (trail s ≡ step N t x.1)). (let o = was_trail b.0 x.1 s b.3 in inr (o.0, b.1, b.2 ∙ ap (λ (t : State N). Some t) o.1, o.2)))
      (came ss x q (trail s) at)

  pub monitor_came : (ss : List (State N)) (x : ℕ × Event N) (q : ℕ) (s : Monitor N) → slice_get (next_states (node N) ss x) q ≡ Some (monitor s) → MonitorCame ss x q s
  monitor_came ss x q s at =
      ⊎_elim
      (λ (a : (q ≢ x.0) × (slice_get ss q ≡ Some (monitor s))). inl a)
      (λ (b : (t : State N) × (q ≡ x.0) × (slice_get ss q ≡ Some t) × (monitor s ≡ step N t x.1)). (let o = was_monitor b.0 x.1 s b.3 in inr (o.0, b.1, b.2 ∙ ap (λ (t : State N). Some t) o.1, o.2)))
      (came ss x q (monitor s) at)

  pub dump_came : (ss : List (State N)) (x : ℕ × Event N) (q : ℕ) (s : Dump N) → slice_get (next_states (node N) ss x) q ≡ Some (dump s) → DumpCame ss x q s
  dump_came ss x q s at =
      ⊎_elim
      (λ (a : (q ≢ x.0) × (slice_get ss q ≡ Some (dump s))). inl a)
      (λ (b : (t : State N) × (q ≡ x.0) × (slice_get ss q ≡ Some t) × (dump s ≡ step N t x.1)). (let o = was_dump b.0 x.1 s b.3 in inr (o.0, b.1, b.2 ∙ ap (λ (t : State N). Some t) o.1, o.2)))
      (came ss x q (dump s) at)

  -- two parts of different kinds are not both the event's own
  pub two_kinds : (ss : List (State N)) (x : ℕ × Event N) (q r : ℕ) (s t : State N) → slice_get ss q ≡ Some s → slice_get ss r ≡ Some t → q ≡ x.0 → r ≡ x.0 → s ≡ t
  two_kinds ss x q r s t at_q at_r a b = some_is s t (sym at_q ∙ ap (λ p. slice_get ss p) (a ∙ sym b) ∙ at_r)

  module _ (ss : List (State N)) (apart : Apart ss) where
    one_work : (q r : ℕ) (a b : Worker N) → slice_get ss q ≡ Some (worker a) → slice_get ss r ≡ Some (worker b) → a.number ≡ b.number → a ≡ b
    one_work q r a b at_q at_r e =
        let same : q ≡ r = apart q r (worker a) (worker b) at_q at_r e in
        let there : Some (worker a) ≡ Some (worker b) = sym at_q ∙ ap (λ p. slice_get ss p) same ∙ at_r in
        cc (there)

    pub one_disc : (q r : ℕ) (a b : Disc N) → slice_get ss q ≡ Some (disc a) → slice_get ss r ≡ Some (disc b) → a.number ≡ b.number → a ≡ b
    one_disc q r a b at_q at_r e =
        let same : q ≡ r = apart q r (disc a) (disc b) at_q at_r e in
        let there : Some (disc a) ≡ Some (disc b) = sym at_q ∙ ap (λ p. slice_get ss p) same ∙ at_r in
        cc (there)

    pub one_trail : (q r : ℕ) (a b : Trail N) → slice_get ss q ≡ Some (trail a) → slice_get ss r ≡ Some (trail b) → a.number ≡ b.number → a ≡ b
    one_trail q r a b at_q at_r e =
        let same : q ≡ r = apart q r (trail a) (trail b) at_q at_r e in
        let there : Some (trail a) ≡ Some (trail b) = sym at_q ∙ ap (λ p. slice_get ss p) same ∙ at_r in
        cc (there)

    pub one_dump : (q r : ℕ) (a b : Dump N) → slice_get ss q ≡ Some (dump a) → slice_get ss r ≡ Some (dump b) → a.number ≡ b.number → a ≡ b
    one_dump q r a b at_q at_r e =
        let same : q ≡ r = apart q r (dump a) (dump b) at_q at_r e in
        let there : Some (dump a) ≡ Some (dump b) = sym at_q ∙ ap (λ p. slice_get ss p) same ∙ at_r in
        cc (there)

    pub one_monitor : (q r : ℕ) (a b : Monitor N) → slice_get ss q ≡ Some (monitor a) → slice_get ss r ≡ Some (monitor b) → a ≡ b
    one_monitor q r a b at_q at_r =
        let same : q ≡ r = apart q r (monitor a) (monitor b) at_q at_r tt in
        let there : Some (monitor a) ≡ Some (monitor b) = sym at_q ∙ ap (λ p. slice_get ss p) same ∙ at_r in
        cc (there)

    work_of : (t : N.Tx) (c : Bool) (ds : List ℕ) → True ss (Decided t c ds) → (q : ℕ) × (w : Worker N) × (slice_get ss q ≡ Some (worker w)) × makes N (worker w) (Decided t c ds)
    work_of t c ds (q, worker w, at, m) = (q, w, at, m)
    work_of t c ds (q, disc w, at, m) = absurd m
    work_of t c ds (q, trail w, at, m) = absurd m
    work_of t c ds (q, monitor w, at, m) = absurd m
    work_of t c ds (q, dump w, at, m) = absurd m

    lister_of : (t : N.Tx) (d : ℕ) → True ss (Enlisted t d) → (q : ℕ) × (w : Worker N) × (slice_get ss q ≡ Some (worker w)) × makes N (worker w) (Enlisted t d)
    lister_of t d (q, worker w, at, m) = (q, w, at, m)
    lister_of t d (q, disc w, at, m) = absurd m
    lister_of t d (q, trail w, at, m) = absurd m
    lister_of t d (q, monitor w, at, m) = absurd m
    lister_of t d (q, dump w, at, m) = absurd m

    -- a transaction is decided once
    pub clash : (t : N.Tx) (ds es : List ℕ) → True ss (Decided t true ds) → True ss (Decided t false es) → ⊥
    clash t ds es a b =
        let x = work_of t true ds a in
        let y = work_of t false es b in
        let same : x.1 ≡ y.1 = one_work x.0 y.0 x.1 y.1 x.2 y.2 (x.3.0 ∙ sym y.3.0) in
        let e : Some true ≡ Some false = sym x.3.1 ∙ ap (λ (w : Worker N). w.decided t) same ∙ y.3.1 in
        cc (e)

    -- its discs are those that it enlisted
    pub among_decided : (t : N.Tx) (d : ℕ) (c : Bool) (ds : List ℕ) → True ss (Enlisted t d) → True ss (Decided t c ds) → Among ds d
    among_decided t d c ds a b =
        let x = lister_of t d a in
        let y = work_of t c ds b in
        let same : x.1 ≡ y.1 = one_work x.0 y.0 x.1 y.1 x.2 y.2 (x.3.0 ∙ sym y.3.0) in
        subst (λ (xs : List ℕ). Among xs d) (ap (λ (w : Worker N). w.discs t) same ∙ y.3.2) x.3.2

    pub epoch_decided : (t : N.Tx) (c : Bool) (ds : List ℕ) → True ss (Decided t c ds) → N.epoch_of t ≡ N.epoch
    epoch_decided t c ds a = (work_of t c ds a).3.3

    pub epoch_enlisted : (t : N.Tx) (d : ℕ) → True ss (Enlisted t d) → N.epoch_of t ≡ N.epoch
    epoch_enlisted t d a = (lister_of t d a).3.1

    module _ (q : ℕ) (s : Disc N) (at : slice_get ss q ≡ Some (disc s)) where
      pub closed_here : (t : N.Tx) (n : ℕ) → True ss (Closed t s.number n) → (s.closed t ≡ true) × (s.last t ≡ n)
      closed_here t n (r, disc b, at_r, m) =
          let same : b ≡ s = one_disc r q b s at_r at m.0 in
          (ap (λ (x : Disc N). x.closed t) (sym same) ∙ m.1, ap (λ (x : Disc N). x.last t) (sym same) ∙ m.2)
      closed_here t n (r, worker b, at_r, m) = absurd m
      closed_here t n (r, trail b, at_r, m) = absurd m
      closed_here t n (r, monitor b, at_r, m) = absurd m
      closed_here t n (r, dump b, at_r, m) = absurd m

      pub made_here : (n : ℕ) (rs : List (AuditRecord N)) → True ss (Made s.number n rs) → IsPrefix rs s.made × (n + 1 ≡ s.first + length rs)
      made_here n rs (r, disc b, at_r, m) =
          let same : b ≡ s = one_disc r q b s at_r at m.0 in
          ((m.1.0, m.1.1 ∙ ap (λ (x : Disc N). x.made) same), m.2 ∙ ap (λ (x : Disc N). x.first + length rs) same)
      made_here n rs (r, worker b, at_r, m) = absurd m
      made_here n rs (r, trail b, at_r, m) = absurd m
      made_here n rs (r, monitor b, at_r, m) = absurd m
      made_here n rs (r, dump b, at_r, m) = absurd m

      pub started_here : (i l : ℕ) → True ss (Started s.number i l) → Among s.starts (i, l)
      started_here i l (r, disc b, at_r, m) =
          let same : b ≡ s = one_disc r q b s at_r at m.0 in
          subst (λ (x : Disc N). Among x.starts (i, l)) same m.1
      started_here i l (r, worker b, at_r, m) = absurd m
      started_here i l (r, trail b, at_r, m) = absurd m
      started_here i l (r, monitor b, at_r, m) = absurd m
      started_here i l (r, dump b, at_r, m) = absurd m

      pub floor_here : (n : ℕ) → True ss (Floor s.number n) → makes N (disc s) (Floor s.number n)
      floor_here n (r, disc b, at_r, m) =
          let same : b ≡ s = one_disc r q b s at_r at m.0 in
          subst (λ (x : Disc N). makes N (disc x) (Floor x.number n)) same (refl, m.1, m.2, m.3)
      floor_here n (r, worker b, at_r, m) = absurd m
      floor_here n (r, trail b, at_r, m) = absurd m
      floor_here n (r, monitor b, at_r, m) = absurd m
      floor_here n (r, dump b, at_r, m) = absurd m

    pub durable_here : (q : ℕ) (s : Trail N) → slice_get ss q ≡ Some (trail s) → (d n : ℕ) → s.number ≡ N.trail_of d → True ss (Durable d n) → n < s.first d + length (own d s.landed)
    durable_here q s at d n is (r, trail b, at_r, m) =
        let same : b ≡ s = one_trail r q b s at_r at (m.0 ∙ sym is) in
        subst (λ (x : Trail N). n < x.first d + length (own d x.landed)) same m.1
    durable_here q s at d n is (r, worker b, at_r, m) = absurd m
    durable_here q s at d n is (r, disc b, at_r, m) = absurd m
    durable_here q s at d n is (r, monitor b, at_r, m) = absurd m
    durable_here q s at d n is (r, dump b, at_r, m) = absurd m

    pub committed_here : (q : ℕ) (s : Monitor N) → slice_get ss q ≡ Some (monitor s) → (t : N.Tx) (p : ℕ) → True ss (Committed t p) → Among s.landed (record { tx = t; commit = true })
    committed_here q s at t p (r, monitor b, at_r, m) =
        let same : b ≡ s = one_monitor r q b s at_r at in
        subst (λ (x : Monitor N). Among x.landed (record { tx = t; commit = true })) same (among_of b.landed m.0 (record { tx = t; commit = true }) m.1)
      where
        among_of : {A : Type 0} (xs : List A) (j : ℕ) (x : A) → slice_get xs j ≡ Some x → Among xs x
        among_of [] j x e = absurd (cc (e))
        among_of (y ∷ xs) zero x e = inl (cc (e))
        among_of (y ∷ xs) (suc j) x e = inr (among_of xs j x e)
    committed_here q s at t p (r, worker b, at_r, m) = absurd m
    committed_here q s at t p (r, disc b, at_r, m) = absurd m
    committed_here q s at t p (r, trail b, at_r, m) = absurd m
    committed_here q s at t p (r, dump b, at_r, m) = absurd m

    pub over_here : (q : ℕ) (s : Dump N) → slice_get ss q ≡ Some (dump s) → (i : ℕ) (o : Option ℕ) → True ss (Over s.number i o) → IsOver s i o
    over_here q s at i o (r, dump b, at_r, m) =
        let same : b ≡ s = one_dump r q b s at_r at m.0 in
        subst (λ (x : Dump N). IsOver x i o) same m.1
    over_here q s at i o (r, worker b, at_r, m) = absurd m
    over_here q s at i o (r, disc b, at_r, m) = absurd m
    over_here q s at i o (r, trail b, at_r, m) = absurd m
    over_here q s at i o (r, monitor b, at_r, m) = absurd m
