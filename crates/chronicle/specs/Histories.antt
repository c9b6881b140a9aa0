-- Histories of a machine of parts: lists of events, each of which is enabled after those before it.
use Rattle.std.specs.Prelude.{◌≡◌, ℕ, zero, suc, ◌==◌, List, [], ◌∷◌, cond, Some, slice_get}

-- What a machine does, of states S, events E and facts F.
-- `allows s e`: a part in the state s may have the event e.
-- `asks t s e`: the facts that are true, t, are as the event e of a part in the state s asks.
-- `step s e`: the state after it. `makes s f`: a part in the state s makes the fact f true.
pub record Rules (S E F : Type 0) : Type 1 where
  pub allows : S → E → Type 0
  pub asks : (F → Type 0) → S → E → Type 0
  pub step : S → E → S
  pub makes : S → F → Type 0

-- a fact that is true stays true
abbrev pub FactsStay : {S E F : Type 0} → Rules S E F → Type 0
FactsStay {S} {E} {F} R = (s : S) (e : E) (f : F) → R.allows s e → R.makes s f → R.makes (R.step s e) f

-- what an event asks still holds where more facts are true
pub record IsMonotone {S E F : Type 0} (R : Rules S E F) : Type 1 where
  pub more : (t u : F → Type 0) (s : S) (e : E) → ((f : F) → t f → u f) → R.asks t s e → R.asks u s e

-- the events of the part p, in order: an entry of a history is a part's number and its event
abbrev pub events_of : {E : Type 0} → ℕ → List (ℕ × E) → List E
events_of p [] = []
events_of p (x ∷ xs) = cond (x.0 == p) (x.1 ∷ events_of p xs) (events_of p xs)

-- the list with its p-th element changed by f
abbrev pub changed_at : {S : Type 0} → (S → S) → ℕ → List S → List S
changed_at f p [] = []
changed_at f zero (s ∷ ss) = f s ∷ ss
changed_at f (suc p) (s ∷ ss) = s ∷ changed_at f p ss

module _ {S E F : Type 0} (R : Rules S E F) where
  -- the states of all parts after one entry: it changes its own part alone
  abbrev pub next_states : List S → ℕ × E → List S
  next_states ss x = changed_at (λ s. R.step s x.1) x.0 ss

  -- the states of all parts after a list of entries
  abbrev pub states_after : List S → List (ℕ × E) → List S
  states_after ss [] = ss
  states_after ss (x ∷ xs) = states_after (next_states ss x) xs

  -- some part makes the fact true
  abbrev pub IsTrueIn : List S → F → Type 0
  IsTrueIn ss f = (q : ℕ) × (s : S) × (slice_get ss q ≡ Some s) × R.makes s f

  -- the entry's part may have the event, and what the event asks of the facts holds
  abbrev pub IsEnabled : List S → ℕ × E → Type 0
  IsEnabled ss x = (s : S) × (slice_get ss x.0 ≡ Some s) × R.allows s x.1 × R.asks (IsTrueIn ss) s x.1

  -- from these opening states each entry is enabled after those before it
  abbrev pub IsHistory : List S → List (ℕ × E) → Type 0
  IsHistory ss [] = Unit {0}
  IsHistory ss (x ∷ xs) = IsEnabled ss x × IsHistory (next_states ss x) xs
