-- The states of the parts after a list of entries, and what stays true of them.
use Rattle.std.proofs.Common.{◌≡◌, ◌≢◌, ℕ, zero, suc, ◌<◌, List, [], ◌∷◌, ◌++◌, length, Option, Some, None, slice_get, refl, ap, sym, ◌∙◌, subst, ⊎_elim}
use Rattle.std.specs.Option.{option_map}
use Rattle.std.proofs.lemmas.Bool.{cases_eq}
use Rattle.std.proofs.lemmas.Iterator.Adapters.{option_map_id}
use Rattle.std.proofs.lemmas.Option.{slice_get_within}
use Rattle.chronicle.specs.Histories.{Rules, FactsStay, IsMonotone, events_of, changed_at, next_states, states_after, IsTrueIn, IsEnabled, IsHistory}
use Rattle.chronicle.proofs.Events.{events_of_here, events_of_else}

-- one part's state after events of its own
abbrev pub state_after : {S E : Type 0} → (S → E → S) → S → List E → S
state_after step s [] = s
state_after step s (e ∷ es) = state_after step (step s e) es

pub changed_at_here : {S : Type 0} (f : S → S) (p : ℕ) (ss : List S) → slice_get (changed_at f p ss) p ≡ option_map f (slice_get ss p)
changed_at_here f p [] = refl
changed_at_here f zero (s ∷ ss) = refl
changed_at_here f (suc p) (s ∷ ss) = changed_at_here f p ss

pub changed_at_else : {S : Type 0} (f : S → S) (p q : ℕ) (ss : List S) → p ≢ q → slice_get (changed_at f p ss) q ≡ slice_get ss q
changed_at_else f p q [] n = refl
changed_at_else f zero zero (s ∷ ss) n = absurd (n refl)
changed_at_else f zero (suc q) (s ∷ ss) n = refl
changed_at_else f (suc p) zero (s ∷ ss) n = refl
changed_at_else f (suc p) (suc q) (s ∷ ss) n = changed_at_else f p q ss (λ e. n (ap suc e))

pub length-changed_at : {S : Type 0} (f : S → S) (p : ℕ) (ss : List S) → length (changed_at f p ss) ≡ length ss
length-changed_at f p [] = refl
length-changed_at f zero (s ∷ ss) = refl
length-changed_at f (suc p) (s ∷ ss) = ap suc (length-changed_at f p ss)

pub option_map-twice : {S T U : Type 0} (f : S → T) (g : T → U) (o : Option S) → option_map g (option_map f o) ≡ option_map (λ s. g (f s)) o
option_map-twice f g None = refl
option_map-twice f g (Some s) = refl

state_after-push : {S E : Type 0} (step : S → E → S) (s : S) (es : List E) (e : E) → state_after step s (es ++ e ∷ []) ≡ step (state_after step s es) e
state_after-push step s [] e = refl
state_after-push step s (d ∷ es) e = state_after-push step (step s d) es e

module _ {S E F : Type 0} (R : Rules S E F) where
  pub length-states_after : (ss : List S) (xs : List (ℕ × E)) → length (states_after R ss xs) ≡ length ss
  length-states_after ss [] = refl
  length-states_after ss (x ∷ xs) = length-states_after (next_states R ss x) xs ∙ length-changed_at (λ s. R.step s x.1) x.0 ss

  pub states_after-append : (ss : List S) (xs ys : List (ℕ × E)) → states_after R ss (xs ++ ys) ≡ states_after R (states_after R ss xs) ys
  states_after-append ss [] ys = refl
  states_after-append ss (x ∷ xs) ys = states_after-append (next_states R ss x) xs ys

  -- a part's state is what its own events make of it
  pub state_is_own : (p : ℕ) (ss : List S) (xs : List (ℕ × E)) → slice_get (states_after R ss xs) p ≡ option_map (λ s. state_after R.step s (events_of p xs)) (slice_get ss p)
  state_is_own p ss [] = sym (option_map_id (slice_get ss p))
  state_is_own p ss (x ∷ xs) =
      ⊎_elim
      (λ (e : x.0 ≡ p). state_is_own p (next_states R ss x) xs
      ∙ ap (λ o. option_map (λ s. state_after R.step s (events_of p xs)) o) (subst (λ (q : ℕ). slice_get (changed_at (λ s. R.step s x.1) q ss) p ≡ option_map (λ s. R.step s x.1) (slice_get ss p)) (sym e) (changed_at_here (λ s. R.step s x.1) p ss))
      ∙ option_map-twice (λ s. R.step s x.1) (λ s. state_after R.step s (events_of p xs)) (slice_get ss p)
      ∙ ap (λ es. option_map (λ s. state_after R.step s es) (slice_get ss p)) (sym (events_of_here p x xs e)))
      (λ (n : x.0 ≢ p). state_is_own p (next_states R ss x) xs
      ∙ ap (λ o. option_map (λ s. state_after R.step s (events_of p xs)) o) (changed_at_else (λ s. R.step s x.1) x.0 p ss n)
      ∙ ap (λ es. option_map (λ s. state_after R.step s es) (slice_get ss p)) (sym (events_of_else p x xs n)))
      (cases_eq x.0 p)

  -- an event changes its own part alone: where a part's own events are the same, so is its state
  pub same_state : (p : ℕ) (ss : List S) (xs ys : List (ℕ × E)) → events_of p xs ≡ events_of p ys → slice_get (states_after R ss xs) p ≡ slice_get (states_after R ss ys) p
  same_state p ss xs ys e = state_is_own p ss xs ∙ ap (λ es. option_map (λ s. state_after R.step s es) (slice_get ss p)) e ∙ sym (state_is_own p ss ys)

  pub history-append : (ss : List S) (xs ys : List (ℕ × E)) → IsHistory R ss xs → IsHistory R (states_after R ss xs) ys → IsHistory R ss (xs ++ ys)
  history-append ss [] ys h k = k
  history-append ss (x ∷ xs) ys h k = (h.0, history-append (next_states R ss x) xs ys h.1 k)

  pub history_front : (ss : List S) (xs ys : List (ℕ × E)) → IsHistory R ss (xs ++ ys) → IsHistory R ss xs
  history_front ss [] ys h = tt
  history_front ss (x ∷ xs) ys h = (h.0, history_front (next_states R ss x) xs ys h.1)

  pub history_rest : (ss : List S) (xs ys : List (ℕ × E)) → IsHistory R ss (xs ++ ys) → IsHistory R (states_after R ss xs) ys
  history_rest ss [] ys h = h
  history_rest ss (x ∷ xs) ys h = history_rest (next_states R ss x) xs ys h.1

  -- a fact that is true stays true after an event that is enabled
  stays_once : FactsStay R → (ss : List S) (x : ℕ × E) (f : F) → IsEnabled R ss x → IsTrueIn R ss f → IsTrueIn R (next_states R ss x) f
  stays_once law ss x f en t =
      ⊎_elim
      (λ (e : x.0 ≡ t.0).
      let at : slice_get ss x.0 ≡ Some t.1 = subst (λ (q : ℕ). slice_get ss q ≡ Some t.1) (sym e) t.2 in
      let same : en.0 ≡ t.1 = cc (en.1, at) in
      let may : R.allows t.1 x.1 = subst (λ (s : S). R.allows s x.1) same en.2 in
      let now : slice_get (next_states R ss x) x.0 ≡ Some (R.step t.1 x.1) = changed_at_here (λ s. R.step s x.1) x.0 ss ∙ ap (λ o. option_map (λ s. R.step s x.1) o) at in
      (x.0, R.step t.1 x.1, now, law t.1 x.1 f may t.3))
      (λ (n : x.0 ≢ t.0). (t.0, t.1, changed_at_else (λ s. R.step s x.1) x.0 t.0 ss n ∙ t.2, t.3))
      (cases_eq x.0 t.0)

  pub stays_true : FactsStay R → (ss : List S) (xs : List (ℕ × E)) (f : F) → IsHistory R ss xs → IsTrueIn R ss f → IsTrueIn R (states_after R ss xs) f
  stays_true law ss [] f h t = t
  stays_true law ss (x ∷ xs) f h t = stays_true law (next_states R ss x) xs f h.1 (stays_once law ss x f h.0 t)

  -- an event that is enabled after what a seat has seen is enabled after the whole history, if the seat has seen all of its part
  pub still_enabled : FactsStay R → IsMonotone R → (ss : List S) (seen rest : List (ℕ × E)) (x : ℕ × E) → IsHistory R ss (seen ++ rest) → events_of x.0 (seen ++ rest) ≡ events_of x.0 seen → IsEnabled R (states_after R ss seen) x → IsEnabled R (states_after R ss (seen ++ rest)) x
  still_enabled law grows ss seen rest x h o en =
      let own_is : slice_get (states_after R ss (seen ++ rest)) x.0 ≡ slice_get (states_after R ss seen) x.0 = same_state x.0 ss (seen ++ rest) seen o in
      let later : List S = states_after R (states_after R ss seen) rest in
      let there : later ≡ states_after R ss (seen ++ rest) = sym (states_after-append ss seen rest) in
      let facts : (f : F) → IsTrueIn R (states_after R ss seen) f → IsTrueIn R (states_after R ss (seen ++ rest)) f = λ f t. subst (λ (us : List S). IsTrueIn R us f) there (stays_true law (states_after R ss seen) rest f (history_rest ss seen rest h) t) in
      (en.0, own_is ∙ en.1, en.2, grows.more (IsTrueIn R (states_after R ss seen)) (IsTrueIn R (states_after R ss (seen ++ rest))) en.0 x.1 facts en.3)

  -- nothing follows what has all events of all parts
  pub nothing_more : (ss : List S) (rest : List (ℕ × E)) → IsHistory R ss rest → ((p : ℕ) → p < length ss → events_of p rest ≡ []) → rest ≡ []
  nothing_more ss [] h empty = refl
  nothing_more ss (x ∷ xs) h empty =
      let here : x.0 < length ss = slice_get_within ss x.0 h.0.0 h.0.1 in
      let bad : x.1 ∷ events_of x.0 xs ≡ [] = sym (events_of_here x.0 x xs refl) ∙ empty x.0 here in absurd (cc (bad))

  -- a part's state after one more event of its own
  pub state-push : (ss : List S) (xs ys : List (ℕ × E)) (p : ℕ) (e : E) → events_of p ys ≡ events_of p xs ++ e ∷ [] → slice_get (states_after R ss ys) p ≡ option_map (λ s. R.step s e) (slice_get (states_after R ss xs) p)
  state-push ss xs ys p e more =
      state_is_own p ss ys
      ∙ ap (λ es. option_map (λ s. state_after R.step s es) (slice_get ss p)) more
      ∙ pushed (slice_get ss p)
      ∙ ap (λ o. option_map (λ s. R.step s e) o) (sym (state_is_own p ss xs))
    where
      pushed : (o : Option S) → option_map (λ s. state_after R.step s (events_of p xs ++ e ∷ [])) o ≡ option_map (λ s. R.step s e) (option_map (λ s. state_after R.step s (events_of p xs)) o)
      pushed None = refl
      pushed (Some s) = ap Some (state_after-push R.step s (events_of p xs) e)
