-- What attempts are told while they are under way.
use Rattle.std.specs.Prelude.{◌≡◌, ℕ, List, [], Option, Some, None, false, slice_get}
use Rattle.chronicle.specs.Histories.{states_after, IsHistory}
use Rattle.any_node.specs.Layout.{Layout}
use Rattle.any_node.specs.Value.{commits}
use Rattle.any_node.specs.Node.{Disc, Monitor, State, Event, node, IsFree}
use Rattle.any_node.specs.Node.State.{disc, monitor}
use Rattle.any_node.specs.Fold.{After, steps, acts, Fit, IsServed}
use Rattle.any_node.specs.Stands.{Image}
use Rattle.any_node.specs.Opening.{IsOpening}

-- The map of a disc and what has landed: a key that nobody holds has the fold's value; and of a transaction that is neither committed nor
-- backed out nor released here, what it did on a key that is free for it leads from the fold's value to the map's, and on others it did
-- nothing.
abbrev pub LiveLaw : Layout → Type 0
LiveLaw N =
    (ss : List (State N)) (i : Image N) (m : N.Key → Option N.Val) (log : List (ℕ × Event N)) →
    IsOpening ss i m → IsHistory (node N) ss log →
    (q z : ℕ) (s : Disc N) (u : Monitor N) → slice_get (states_after (node N) ss log) q ≡ Some (disc s) → slice_get (states_after (node N) ss log) z ≡ Some (monitor u) →
    (k : N.Key) → N.disc_of k ≡ s.number →
    (s.held k ≡ None → s.map k ≡ After log u.landed m k)
    × ((t : N.Tx) → s.released t ≡ false → s.undone t ≡ false → commits u.landed t ≡ false →
    (IsFree (s.held k) t → Fit (After log u.landed m k) (acts k t log) (s.map k)) × ((IsFree (s.held k) t → ⊥) → acts k t log ≡ []))

-- At every moment: a transaction that is neither committed nor backed out nor released anywhere has read and found what the commits so far
-- left, with its own steps.
abbrev pub PresentLaw : Layout → Type 0
PresentLaw N =
    (ss : List (State N)) (i : Image N) (m : N.Key → Option N.Val) (log : List (ℕ × Event N)) →
    IsOpening ss i m → IsHistory (node N) ss log →
    (z : ℕ) (u : Monitor N) → slice_get (states_after (node N) ss log) z ≡ Some (monitor u) →
    (t : N.Tx) → ((q : ℕ) (s : Disc N) → slice_get (states_after (node N) ss log) q ≡ Some (disc s) → (s.released t ≡ false) × (s.undone t ≡ false)) → commits u.landed t ≡ false →
    IsServed (steps t log) (After log u.landed m)
