-- What the types of this crate keep of the table's seats that they hold.
use Rattle.std.specs.Prelude.{◌≡◌, ℕ, ◌+◌, ◌-◌, ◌<◌, ◌^◌, min, List, [], length, Some}
use mathlib.Core.List.{IsPrefix}
use Rattle.atomic_table.specs.Seated.{TableId}
use Rattle.atomic_table.specs.declared.shared.Seat.{Seat}
use Rattle.chronicle.specs.declared.view.View.{View}
use Rattle.chronicle.specs.Histories.{Rules, events_of, IsHistory}
use Rattle.chronicle.specs.Seats.{Sight, own_events}
use Rattle.chronicle.specs.Views.{Among, first_part, parts_of, numbers, view_of}

-- what contracts see of a view
abbrev pub sight_of : {S E : Type 0} → View S E → Sight E
sight_of v = record { part = first_part v.parts; seen = v.seen }

-- the number of a seat's own events, as far as 64 bits count
abbrev pub own_count : {E : Type 0} → Sight E → ℕ
own_count v = min (length (own_events v)) (2 ^ 64 - 1)

-- one view has the parts of a seat, and has seen all that the seat had seen
pub record Took {S E : Type 0} (all : View S E) (v : Sight E) : Type 0 where
  pub begins : IsPrefix v.seen all.seen
  pub has : (p : ℕ) → v.part ≡ Some p → Among all.parts p
  pub mine : (p : ℕ) → v.part ≡ Some p → events_of p all.seen ≡ own_events v

-- the parts from the i-th on have no seat yet, and nothing has happened that this seat saw
pub record IsDealing {S E : Type 0} (table : TableId) (opening : List S) (i : ℕ) (s : Seat (Unit {0}) (View S E)) : Type 0 where
  pub left : ℕ
  pub many : left + i ≡ length opening
  pub of : s.table_id ≡ table
  pub view : s.me ≡ (view_of opening (numbers i left) [], [])

module _ {S E F : Type 0} (R : Rules S E F) (table : TableId) (opening : List S) where
  -- a seat of the table with any number of parts
  pub record IsHolder (s : Seat (Unit {0}) (View S E)) : Type 0 where
    pub of : s.table_id ≡ table
    pub view : s.me ≡ (view_of opening s.me.0.parts s.me.0.seen, [])
    pub history : IsHistory R opening s.me.0.seen

  -- one with at most one part, and the number of its events
  pub record IsSeat (s : Seat (Unit {0}) (View S E)) (count : ℕ) : Type 0 where
    pub holder : IsHolder s
    pub one : s.me.0.parts ≡ parts_of (first_part s.me.0.parts)
    pub number : count ≡ own_count (sight_of s.me.0)

-- a seat of all parts, before any event
pub record IsStarted {S E : Type 0} (table : TableId) (parts : ℕ) (s : Seat (Unit {0}) (View S E)) : Type 0 where
  pub of : s.table_id ≡ table
  pub words : table.words ≡ 1
  pub slots : table.slots ≡ 0
  pub some : 0 < parts
  pub many : parts ≡ length s.me.0.opening
  pub view : s.me ≡ (view_of s.me.0.opening (numbers 0 (length s.me.0.opening)) [], [])
