-- The images that the parts of a history allow.
use Rattle.std.specs.Prelude.{◌≡◌, ◌⊎◌, ℕ, ◌≤◌, List, [], ◌∷◌, ◌++◌, Option, Some, None, true, false, cond, nat_le, slice_get}
use Rattle.any_node.specs.Layout.{Layout}
use Rattle.any_node.specs.Value.{AuditRecord, Ending, entries, on, up_to, own, latest}
use Rattle.any_node.specs.Node.{Disc, Trail, Monitor, Dump, Label, State, start_of}
use Rattle.any_node.specs.Node.State.{disc, trail, monitor, dump}
use Rattle.any_node.specs.Node.Label.{Found, Taken}
use Rattle.any_node.specs.Stands.{Base, Image}

module _ {N : Layout} where
  -- what an image spells: of a trail the landed batches, with or without the offered one, without files below f, which a Purge has named
  abbrev pub from_file : ℕ → List (ℕ × AuditRecord N) → List (ℕ × AuditRecord N)
  from_file f [] = []
  from_file f (x ∷ xs) = cond (nat_le f x.0) (x ∷ from_file f xs) (from_file f xs)

  abbrev pub ShowsRows : Trail N → List (ℕ × AuditRecord N) → Type 0
  ShowsRows t rows = (f : ℕ) × (f ≤ t.purged) × ((rows ≡ from_file f (t.before ++ t.landed)) ⊎ (rows ≡ from_file f (t.before ++ (t.landed ++ t.offered))))

  -- of the monitor, the records of this run
  abbrev pub ShowsCloses : Monitor N → List (Ending N) → Type 0
  ShowsCloses m xs = (xs ≡ m.landed) ⊎ (xs ≡ m.landed ++ m.offered)

  abbrev pub ShowsLow : Disc N → ℕ → Type 0
  ShowsLow s l = (l ≡ s.low) ⊎ (s.lowering ≡ Some l)

  abbrev pub ShowsBlock : Disc N → N.Block → ℕ → Type 0
  ShowsBlock s b n = (n ≡ s.drawn b) ⊎ (s.drawing b ≡ Some n)

  -- a block's content after all records up to position n
  abbrev pub content : Disc N → ℕ → N.Key → Option N.Val
  content s n k = latest (s.base k) (on k (up_to n s.made))

  -- a volume: each block its landed content or that of the Draw under way, and the low position the landed one or that of the Low under way
  pub record ShowsVolume (s : Disc N) (b : Base N) : Type 0 where
    pub low : ShowsLow s b.position
    pub blocks : (x : N.Block) → (n : ℕ) × ShowsBlock s x n × ((k : N.Key) → N.disc_of k ≡ s.number → N.block_of k ≡ x → b.values k ≡ content s n k)

  -- a dump: the landed one, or the one whose label is offered
  abbrev pub ShowsLabel : Dump N → Label N → Type 0
  ShowsLabel u l = (u.landed ≡ Some l) ⊎ (u.offered ≡ Some l)

  -- what the label's dump says of a key
  abbrev pub says : Disc N → Label N → N.Key → Option N.Val
  says s (Found l m) k = m k
  says s (Taken i l c) k = elim (c (N.block_of k)) [ None ↦ None | Some n ↦ content s n k ]

  abbrev pub ShowsDump : Disc N → Dump N → Option (Base N) → Type 0
  ShowsDump s u None = u.landed ≡ None
  ShowsDump s u (Some b) = (l : Label N) × ShowsLabel u l × (b.position ≡ start_of l) × ((k : N.Key) → N.disc_of k ≡ s.number → b.values k ≡ says s l k)

  -- the images that the parts allow
  pub record Shows (ss : List (State N)) (mons : List (Ending N)) (i : Image N) : Type 0 where
    pub list : (q : ℕ) (m : Monitor N) → slice_get ss q ≡ Some (monitor m) → ShowsCloses m mons × (i.list ≡ m.before ++ entries mons)
    pub audit : (q : ℕ) (t : Trail N) → slice_get ss q ≡ Some (trail t) → (rows : List (ℕ × AuditRecord N)) × ShowsRows t rows × ((d : ℕ) → N.trail_of d ≡ t.number → i.audit d ≡ own d rows)
    pub lost : (q : ℕ) (s : Disc N) → slice_get ss q ≡ Some (disc s) → s.lost ≡ true → i.volume s.number ≡ None
    pub volumes : (q : ℕ) (s : Disc N) → slice_get ss q ≡ Some (disc s) → s.lost ≡ false → (b : Base N) × (i.volume s.number ≡ Some b) × ShowsVolume s b
    pub dumps : (q r : ℕ) (s : Disc N) (u : Dump N) → slice_get ss q ≡ Some (disc s) → slice_get ss r ≡ Some (dump u) → s.number ≡ u.number → ShowsDump s u (i.dump s.number)
