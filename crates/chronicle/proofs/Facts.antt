-- For the crates above: what a seat knows, and what follows from the clauses of the calls.
use Rattle.std.proofs.Common.{◌≡◌, ℕ, zero, suc, ◌+◌, ◌<◌, List, [], ◌∷◌, ◌++◌, length, Option, Some, None, slice_get, refl, ap, sym, ◌∙◌, subst, arith, add-one, length-append}
use Rattle.std.specs.Option.{MatchOption, option_map}
use mathlib.Core.List.{IsPrefix}
use Rattle.chronicle.specs.Histories.{Rules, FactsStay, events_of, states_after, IsTrueIn, IsEnabled, IsHistory}
use Rattle.chronicle.specs.Seats.{Sight, new_seat, new_seats, events_of_part, own_events, state_of, part_state, Knows, MayAppend, HasLearned, HasGrown, HasNewlySeen, IsWholeOf, AreAll}
use Rattle.chronicle.proofs.Events.{events_of-append}
use Rattle.chronicle.proofs.States.{same_state, state-push, stays_true, history_rest, states_after-append}

-- a seat's own events are those of its part
pub own_events_of : {E : Type 0} (v : Sight E) (p : ℕ) → v.part ≡ Some p → own_events v ≡ events_of p v.seen
own_events_of v p is = ap (λ (q : Option ℕ). events_of_part q v.seen) is

module _ {S E F : Type 0} (R : Rules S E F) (opening : List S) where
  -- the state of a seat's part is that part's state after what the seat has seen
  pub state_of_part : (v : Sight E) (p : ℕ) → v.part ≡ Some p → part_state R opening v ≡ slice_get (states_after R opening v.seen) p
  state_of_part v p is = ap (λ (q : Option ℕ). state_of (states_after R opening v.seen) q) is

  -- where a seat has seen nothing new of its own part, the part's state is the same
  pub same_part_state : (v w : Sight E) → w.part ≡ v.part → own_events w ≡ own_events v → part_state R opening w ≡ part_state R opening v
  same_part_state v w part mine =
      ap (λ (q : Option ℕ). state_of (states_after R opening w.seen) q) part
      ∙ same v.part (ap (λ (q : Option ℕ). events_of_part q w.seen) (sym part) ∙ mine)
    where
      same : (q : Option ℕ) → events_of_part q w.seen ≡ events_of_part q v.seen → state_of (states_after R opening w.seen) q ≡ state_of (states_after R opening v.seen) q
      same None own = refl
      same (Some p) own = same_state R p opening w.seen v.seen own

  -- the state of a seat's part after one more event of its own
  pub next_part_state : (v w : Sight E) (e : E) → w.part ≡ v.part → own_events w ≡ own_events v ++ e ∷ [] → part_state R opening w ≡ option_map (λ s. R.step s e) (part_state R opening v)
  next_part_state v w e part mine =
      ap (λ (q : Option ℕ). state_of (states_after R opening w.seen) q) part
      ∙ next v.part (ap (λ (q : Option ℕ). events_of_part q w.seen) (sym part) ∙ mine)
    where
      next : (q : Option ℕ) → events_of_part q w.seen ≡ events_of_part q v.seen ++ e ∷ [] → state_of (states_after R opening w.seen) q ≡ option_map (λ s. R.step s e) (state_of (states_after R opening v.seen) q)
      next None own = refl
      next (Some p) own = state-push R opening v.seen w.seen p e own

  -- a fact that a seat knows, a seat that has seen more knows too
  pub still_known : FactsStay R → (seen more : List (ℕ × E)) (f : F) → IsPrefix seen more → IsHistory R opening more → IsTrueIn R (states_after R opening seen) f → IsTrueIn R (states_after R opening more) f
  still_known law seen more f pre h t =
      let whole : seen ++ pre.0 ≡ more = pre.1 in
      subst (λ (l : List (ℕ × E)). IsTrueIn R (states_after R opening l) f) whole
      (subst (λ (us : List S). IsTrueIn R us f) (sym (states_after-append R opening seen pre.0)) (stays_true R law (states_after R opening seen) pre.0 f (history_rest R opening seen pre.0 (subst (λ (l : List (ℕ × E)). IsHistory R opening l) (sym whole) h)) t))

  -- a seat knows what its own part's state makes true
  pub known_of_part : (v : Sight E) (s : S) (f : F) → part_state R opening v ≡ Some s → R.makes s f → Knows R opening v f
  known_of_part v s f at makes = of v.part at
    where
      of : (q : Option ℕ) → state_of (states_after R opening v.seen) q ≡ Some s → Knows R opening v f
      of None is = absurd (cc (is))
      of (Some p) is = (p, s, is, makes)

  -- what follows from having seen more of a history
  pub learned : FactsStay R → (v w : Sight E) → HasGrown v w → IsHistory R opening w.seen → HasLearned R opening v w
  learned law v w g h = record {
    history = h;
    state = same_part_state v w g.part g.mine;
    knows = λ f t. still_known law v.seen w.seen f g.begins h t;
  }

  -- the event may come next at the seat's part
  pub may_append : (v : Sight E) (s : S) (e : E) → part_state R opening v ≡ Some s → R.allows s e → R.asks (Knows R opening v) s e → MayAppend R opening v e
  may_append v s e at may facts = record { may = subst (λ (o : Option S). MatchOption o ⊥ (λ t. R.allows t e × R.asks (Knows R opening v) t e)) (sym at) (may, facts) }

  -- such an event is enabled after what the seat has seen
  pub enabled : (v : Sight E) (e : E) → MayAppend R opening v e → (p : ℕ) × (v.part ≡ Some p) × IsEnabled R (states_after R opening v.seen) (p, e)
  enabled v e m = of_part v.part refl m.may
    where
      at : (p : ℕ) (o : Option S) → slice_get (states_after R opening v.seen) p ≡ o → MatchOption o ⊥ (λ s. R.allows s e × R.asks (Knows R opening v) s e) → IsEnabled R (states_after R opening v.seen) (p, e)
      at p None is h = absurd h
      at p (Some s) is h = (s, is, h.0, h.1)

      of_part : (q : Option ℕ) → v.part ≡ q → MatchOption (state_of (states_after R opening v.seen) q) ⊥ (λ s. R.allows s e × R.asks (Knows R opening v) s e) → (p : ℕ) × (v.part ≡ Some p) × IsEnabled R (states_after R opening v.seen) (p, e)
      of_part None is h = absurd h
      of_part (Some p) is h = (p, is, at p (slice_get (states_after R opening v.seen) p) refl h)

  -- in the whole history each part is in the state that its seat has seen
  pub last_state : (log : List (ℕ × E)) (v : Sight E) (p : ℕ) → IsWholeOf log v → v.part ≡ Some p → slice_get (states_after R opening log) p ≡ part_state R opening v
  last_state log v p w is = same_state R p opening log v.seen (w.mine p is ∙ own_events_of v p is) ∙ sym (state_of_part v p is)

-- what a seat sees more of, it sees more of each part
pub events_of-prefix : {E : Type 0} (p : ℕ) (xs ys : List (ℕ × E)) → IsPrefix xs ys → IsPrefix (events_of p xs) (events_of p ys)
events_of-prefix p xs ys pre = (events_of p pre.0, sym (events_of-append p xs pre.0) ∙ ap (events_of p) pre.1)

-- Two seats, a and b, met; then a had one more event of its own, and they met again. So b has seen that event, and had not before.
pub newly_seen : {E : Type 0} (p : ℕ) (e : E) (b met_a met_b had last_a last_b : Sight E)
    → met_a.part ≡ Some p → met_a.seen ≡ met_b.seen → HasGrown b met_b
    → own_events had ≡ own_events met_a ++ e ∷ [] → had.part ≡ Some p → HasGrown had last_a → last_a.seen ≡ last_b.seen
    → HasNewlySeen p e b last_b
newly_seen p e b met_a met_b had last_a last_b one met grown added same later last =
    let pre = events_of-prefix p b.seen met_b.seen grown.begins in record {
      more = pre.0;
      events =
          ap (events_of p) (sym last)
          ∙ sym (own_events_of last_a p (later.part ∙ same))
          ∙ later.mine
          ∙ added
          ∙ ap (λ es. es ++ e ∷ []) (own_events_of met_a p one ∙ ap (events_of p) met ∙ sym pre.1);
    }

pub length-new_seats : (E : Type 0) (n : ℕ) → length (new_seats {E = E} n) ≡ n
length-new_seats E zero = refl
length-new_seats E (suc n) = length-append (new_seats {E = E} n) (new_seat n ∷ []) ∙ ap (λ k. k + 1) (length-new_seats E n) ∙ add-one n

-- two lists with one more at the end
pub push_same : {A : Type 0} (xs ys : List A) (x y : A) → xs ++ x ∷ [] ≡ ys ++ y ∷ [] → (xs ≡ ys) × (x ≡ y)
push_same [] [] x y e = (refl, cc (e))
push_same [] (z ∷ []) x y e = absurd (cc (e))
push_same [] (z ∷ w ∷ zs) x y e = absurd (cc (e))
push_same (z ∷ []) [] x y e = absurd (cc (e))
push_same (z ∷ w ∷ zs) [] x y e = absurd (cc (e))
push_same (z ∷ xs) (w ∷ ys) x y e =
    let rest = push_same xs ys x y (cc (e)) in (cc (e, rest.0), rest.1)

-- the last of the seats that were dealt is that of the last part
pub last_seat : {E : Type 0} (k : ℕ) (rest : List (Sight E)) (x : Sight E) → rest ++ x ∷ [] ≡ new_seats (k + 1) → (rest ≡ new_seats k) × (x ≡ new_seat k)
last_seat {E = E} k rest x e =
    push_same rest (new_seats {E = E} k) x (new_seat k) (e ∙ ap (λ (m : ℕ). new_seats {E = E} m) (add-one k))

-- where there is a part, there is a seat
pub some_seat : {E : Type 0} (n : ℕ) (seats : List (Sight E)) → 0 < n → AreAll n seats → 0 < length seats
some_seat n seats some all = let there = (all 0 some).1 in let lt : there.0 < length seats = there.1 in omega (arith, lt)
