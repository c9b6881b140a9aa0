-- What the images that a history shows stand for, and how its commits are ordered.
use Rattle.std.specs.Prelude.{◌≡◌, ℕ, ◌+◌, ◌<◌, ◌≤◌, List, ◌∷◌, ◌++◌, Option, Some, None, true, false, slice_get}
use Rattle.chronicle.specs.Histories.{states_after, IsHistory, IsTrueIn}
use Rattle.any_node.specs.Layout.{Layout}
use Rattle.any_node.specs.Value.{AuditRecord, Ending, Among, Each, closes, on, value}
use Rattle.any_node.specs.Node.{Disc, Trail, Monitor, Dump, Label, State, Event, node, start_of, IsQuiet}
use Rattle.any_node.specs.Node.State.{disc, trail, monitor, dump}
use Rattle.any_node.specs.Node.Label.{Taken}
use Rattle.any_node.specs.Node.Fact.{Durable}
use Rattle.any_node.specs.Fold.{After, steps, IsServed}
use Rattle.any_node.specs.Stands.{Image, StandsFor}
use Rattle.any_node.specs.Opening.{IsOpening}
use Rattle.any_node.specs.Shows.{Shows, ShowsLabel, ShowsLow, content, says}

-- Whatever the opening, the history and the images that it shows, they stand for the fold over the commits that they spell.
abbrev pub CrashLaw : Layout → Type 0
CrashLaw N =
    (ss : List (State N)) (i : Image N) (m : N.Key → Option N.Val) (log : List (ℕ × Event N)) (mons : List (Ending N)) (j : Image N) →
    IsOpening ss i m → IsHistory (node N) ss log → Shows (states_after (node N) ss log) mons j → StandsFor j (After log mons m)

-- the position is durable
abbrev pub IsDurableIn : {N : Layout} → List (State N) → ℕ → ℕ → Type 0
IsDurableIn {N} ss d n = IsTrueIn (node N) ss (Durable d n)

-- A dump of this run: each block has its content after some position, not before the dump's start, that is durable; and the start is quiet.
pub record IsDumpContent (N : Layout) (ss : List (State N)) (s : Disc N) (l : ℕ) (values : N.Key → Option N.Val) : Type 0 where
  pub quiet : IsQuiet s l
  pub blocks : (k : N.Key) → N.disc_of k ≡ s.number → (n : ℕ) × (l ≤ n + 1) × IsDurableIn ss s.number n × ((j : N.Key) → N.disc_of j ≡ s.number → N.block_of j ≡ N.block_of k → values j ≡ content s n j)

-- The same images stand for the fold, dumps included, and each dump that this run made has such a content.
abbrev pub RollforwardLaw : Layout → Type 0
RollforwardLaw N =
    (ss : List (State N)) (i : Image N) (m : N.Key → Option N.Val) (log : List (ℕ × Event N)) →
    IsOpening ss i m → IsHistory (node N) ss log →
    (q r : ℕ) (s : Disc N) (u : Dump N) → slice_get (states_after (node N) ss log) q ≡ Some (disc s) → slice_get (states_after (node N) ss log) r ≡ Some (dump u) → s.number ≡ u.number →
    (n l : ℕ) (c : N.Block → Option ℕ) → ShowsLabel u (Taken n l c) → IsDumpContent N (states_after (node N) ss log) s l (says s (Taken n l c))

-- The fold serves each transaction of a commit, at its place, what it read and found.
abbrev pub SerialLaw : Layout → Type 0
SerialLaw N =
    (ss : List (State N)) (i : Image N) (m : N.Key → Option N.Val) (log : List (ℕ × Event N)) (xs ys : List (Ending N)) (x : Ending N) (q : ℕ) (u : Monitor N) →
    IsOpening ss i m → IsHistory (node N) ss log → slice_get (states_after (node N) ss log) q ≡ Some (monitor u) → u.landed ++ u.offered ≡ xs ++ x ∷ ys → x.commit ≡ true →
    IsServed (steps x.tx log) (After log xs m)

-- What a Purge takes stands below each low position and each dump's start that an image can show, and below the rest start and the
-- start of the dump under way.
abbrev pub PurgeLaw : Layout → Type 0
PurgeLaw N =
    (ss : List (State N)) (i : Image N) (m : N.Key → Option N.Val) (log : List (ℕ × Event N)) →
    IsOpening ss i m → IsHistory (node N) ss log →
    (q p r : ℕ) (s : Disc N) (t : Trail N) (u : Dump N) → slice_get (states_after (node N) ss log) q ≡ Some (disc s) → slice_get (states_after (node N) ss log) p ≡ Some (trail t) → slice_get (states_after (node N) ss log) r ≡ Some (dump u) →
    s.number ≡ u.number →
    (x : ℕ × AuditRecord N) → Among (t.before ++ (t.landed ++ t.offered)) x → x.1.disc ≡ s.number → x.0 < t.purged →
    (s.lost ≡ false → (l : ℕ) → ShowsLow s l → x.1.position < l)
    × ((l : Label N) → ShowsLabel u l → x.1.position < start_of l)
    × ((n : ℕ) → s.rest ≡ Some n → x.1.position < n)
    × ((n l : ℕ) → s.way ≡ Some (n, l) → x.1.position < l)

-- Rows that hold all audit of each disc from the first on: with the records of this run, they and any first part of the list come to
-- the fold over its commits, from no base at all.
abbrev pub WholeLaw : Layout → Type 0
WholeLaw N =
    (ss : List (State N)) (i : Image N) (m : N.Key → Option N.Val) (log : List (ℕ × Event N)) (row : ℕ → List (AuditRecord N)) →
    IsOpening ss i m → ((d : ℕ) → Each (λ r. N.epoch_of r.tx < N.epoch) (row d)) → ((k : N.Key) → Among N.discs (N.disc_of k) → value None (on k (row (N.disc_of k))) (closes i.list) ≡ m k) →
    IsHistory (node N) ss log →
    (q z : ℕ) (s : Disc N) (u : Monitor N) → slice_get (states_after (node N) ss log) q ≡ Some (disc s) → slice_get (states_after (node N) ss log) z ≡ Some (monitor u) →
    (xs ys : List (Ending N)) → u.landed ++ u.offered ≡ xs ++ ys → (k : N.Key) → N.disc_of k ≡ s.number →
    value None (on k (row s.number ++ s.made)) (closes i.list ++ xs) ≡ After log xs m k
