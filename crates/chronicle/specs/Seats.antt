-- What a seat has seen of a history, and what each call makes of it.
use Rattle.std.specs.Prelude.{◌≡◌, ℕ, zero, suc, ◌<◌, ◌%◌, ◌^◌, ◌⊎◌, List, [], ◌∷◌, ◌++◌, length, Option, Some, None, slice_get}
use Rattle.std.specs.List.{Contains}
use Rattle.std.specs.Option.{MatchOption}
use mathlib.Core.List.{IsPrefix}
use Rattle.atomic_table.specs.Seated.{TableId}
use Rattle.chronicle.specs.Histories.{Rules, events_of, states_after, IsHistory, IsTrueIn}

-- which chronicle it is, and the state of each part at the opening
pub record Opening (S : Type 0) : Type 0 where
  pub table : TableId
  pub states : List S

-- A seat: its part, which a note has not, and the first entries of the history, which it has seen.
pub record Sight (E : Type 0) : Type 0 where
  pub part : Option ℕ
  pub seen : List (ℕ × E)

-- the seat of the part n, at the opening
abbrev pub new_seat : {E : Type 0} → ℕ → Sight E
new_seat n = record { part = Some n; seen = [] }

-- the seats of the first n parts, in order
abbrev pub new_seats : {E : Type 0} → ℕ → List (Sight E)
new_seats zero = []
new_seats (suc n) = new_seats n ++ new_seat n ∷ []

-- a seat without a part that has seen as much
abbrev pub note_of : {E : Type 0} → Sight E → Sight E
note_of v = record { part = None; seen = v.seen }

-- the events of a part, if there is one
abbrev pub events_of_part : {E : Type 0} → Option ℕ → List (ℕ × E) → List E
events_of_part None log = []
events_of_part (Some p) log = events_of p log

-- the events of the seat's own part that it has seen, in order
abbrev pub own_events : {E : Type 0} → Sight E → List E
own_events v = events_of_part v.part v.seen

-- the state of a part, if there is one
abbrev pub state_of : {S : Type 0} → List S → Option ℕ → Option S
state_of ss None = None
state_of ss (Some p) = slice_get ss p

module _ {S E F : Type 0} (R : Rules S E F) (opening : List S) where
  -- the state of the seat's own part after what the seat has seen
  abbrev pub part_state : Sight E → Option S
  part_state v = state_of (states_after R opening v.seen) v.part

  -- the fact is true after what the seat has seen
  abbrev pub Knows : Sight E → F → Type 0
  Knows v f = IsTrueIn R (states_after R opening v.seen) f

  -- the seat's part may have the event next, and the seat knows what the event asks of the facts
  pub record MayAppend (v : Sight E) (e : E) : Type 0 where
    pub may : MatchOption (part_state v) ⊥ (λ s. R.allows s e × R.asks (Knows v) s e)

  -- a seat has seen more of a history: its part's state is the same, and what it knew it knows
  pub record HasLearned (v w : Sight E) : Type 0 where
    pub history : IsHistory R opening w.seen
    pub state : part_state w ≡ part_state v
    pub knows : (f : F) → Knows v f → Knows w f

-- The event stands at the end of what the seat has seen, and `number` is its place there, from 0.
-- What had been seen stands before it, and then entries of other parts alone.
pub record HasAppended {E : Type 0} (v : Sight E) (e : E) (number : ℕ) (w : Sight E) : Type 0 where
  pub part : ℕ
  pub own : v.part ≡ Some part
  pub between : List (ℕ × E)
  pub seen : w.seen ≡ (v.seen ++ between) ++ (part, e) ∷ []
  pub others : events_of part between ≡ []
  pub place : number ≡ length (v.seen ++ between) % 2 ^ 64

-- what a seat has seen grew, by entries of other parts alone
pub record HasGrown {E : Type 0} (v w : Sight E) : Type 0 where
  pub part : w.part ≡ v.part
  pub begins : IsPrefix v.seen w.seen
  pub mine : own_events w ≡ own_events v

-- the last event of the part p that the seat has seen is e, and it had not seen that one before
pub record HasNewlySeen {E : Type 0} (p : ℕ) (e : E) (v w : Sight E) : Type 0 where
  pub more : List E
  pub events : events_of p w.seen ≡ (events_of p v.seen ++ more) ++ e ∷ []

-- the list has all that two beginnings of it have, and no more
pub record IsUnion {A : Type 0} (xs ys both : List A) : Type 0 where
  pub first : IsPrefix xs both
  pub second : IsPrefix ys both
  pub no_more : (both ≡ xs) ⊎ (both ≡ ys)

-- the list begins with what the seat has seen, and of the seat's part it has no more
pub record IsWholeOf {E : Type 0} (log : List (ℕ × E)) (v : Sight E) : Type 0 where
  pub begins : IsPrefix v.seen log
  pub mine : (p : ℕ) → v.part ≡ Some p → events_of p log ≡ own_events v

-- each of the first n parts has its seat among these
abbrev pub AreAll : {E : Type 0} → ℕ → List (Sight E) → Type 0
AreAll {E} n seats = (p : ℕ) → p < n → (v : Sight E) × Contains seats v × (v.part ≡ Some p)
