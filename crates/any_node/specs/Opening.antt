-- The openings of a history: parts to which nothing has happened, over images that stand for a map.
use Rattle.std.specs.Prelude.{◌≡◌, ◌⊎◌, ℕ, ◌+◌, ◌<◌, ◌≤◌, List, [], ◌∷◌, Option, Some, None, true, false, slice_get}
use Rattle.any_node.specs.Layout.{Layout}
use Rattle.any_node.specs.Value.{AuditRecord, Among, Each, closes, last_start, own}
use Rattle.any_node.specs.Node.{Disc, Trail, Monitor, Dump, State, start_of}
use Rattle.any_node.specs.Node.State.{worker, disc, trail, monitor, dump}
use Rattle.any_node.specs.Node.Label.{Found}
use Rattle.any_node.specs.Stands.{Base, Image, StandsFor, next_position}

module _ {N : Layout} where
  -- two states of one name
  abbrev pub Same : State N → State N → Type 0
  Same (worker a) (worker b) = a.number ≡ b.number
  Same (disc a) (disc b) = a.number ≡ b.number
  Same (trail a) (trail b) = a.number ≡ b.number
  Same (monitor a) (monitor b) = Unit {0}
  Same (dump a) (dump b) = a.number ≡ b.number
  Same _ _ = ⊥

  -- no two parts have one name
  abbrev pub Apart : List (State N) → Type 0
  Apart ss = (q r : ℕ) (s t : State N) → slice_get ss q ≡ Some s → slice_get ss r ≡ Some t → Same s t → q ≡ r

  abbrev pub DiscAt : List (State N) → ℕ → Type 0
  DiscAt ss d = (q : ℕ) × (s : Disc N) × (slice_get ss q ≡ Some (disc s)) × (d ≡ s.number)

  abbrev pub TrailAt : List (State N) → ℕ → Type 0
  TrailAt ss d = (q : ℕ) × (t : Trail N) × (slice_get ss q ≡ Some (trail t)) × (t.number ≡ N.trail_of d)

  abbrev pub DumpAt : List (State N) → ℕ → Type 0
  DumpAt ss d = (q : ℕ) × (u : Dump N) × (slice_get ss q ≡ Some (dump u)) × (d ≡ u.number)

  abbrev pub MonitorAt : List (State N) → Type 0
  MonitorAt ss = (q : ℕ) × (m : Monitor N) × (slice_get ss q ≡ Some (monitor m))

  -- each disc with its trail, its dump and the monitor is a part
  pub record HasParts (ss : List (State N)) : Type 0 where
    pub apart : Apart ss
    pub discs : (d : ℕ) → Among N.discs d → DiscAt ss d
    pub trails : (d : ℕ) → Among N.discs d → TrailAt ss d
    pub dumps : (d : ℕ) → Among N.discs d → DumpAt ss d
    pub listed : (q : ℕ) (s : Disc N) → slice_get ss q ≡ Some (disc s) → Among N.discs s.number
    pub of_monitor : MonitorAt ss

  -- records of these positions, from n on
  abbrev pub AreFrom : ℕ → List (AuditRecord N) → Type 0
  AreFrom n [] = Unit {0}
  AreFrom n (r ∷ rs) = (r.position ≡ n) × AreFrom (n + 1) rs

  -- the files do not fall, and none is above the last
  abbrev pub AreInOrder : ℕ → List (ℕ × AuditRecord N) → ℕ → Type 0
  AreInOrder f [] last = f ≤ last
  AreInOrder f (x ∷ xs) last = (f ≤ x.0) × AreInOrder x.0 xs last

  -- nothing has happened
  pub record IsFresh (i : Image N) (m : N.Key → Option N.Val) (s : Disc N) : Type 0 where
    pub lost : s.lost ≡ true → i.volume s.number ≡ None
    pub there : s.lost ≡ false → (b : Base N) × (i.volume s.number ≡ Some b) × (b.position ≡ s.first)
    pub first : s.first ≡ next_position (i.audit s.number) (i.volume s.number) (i.dump s.number)
    pub positive : 1 ≤ s.first
    pub base : (k : N.Key) → N.disc_of k ≡ s.number → s.base k ≡ m k
    pub made : s.made ≡ []
    pub map : (k : N.Key) → s.map k ≡ s.base k
    pub held : (k : N.Key) → s.held k ≡ None
    pub locked : (f : N.File) → s.locked f ≡ None
    pub written : (k : N.Key) → s.written k ≡ false
    pub left : (t : N.Tx) → s.left t ≡ []
    pub undone : (t : N.Tx) → s.undone t ≡ false
    pub released : (t : N.Tx) → s.released t ≡ false
    pub drawn : (b : N.Block) → s.drawn b + 1 ≡ s.first
    pub drawing : (b : N.Block) → s.drawing b ≡ None
    pub low : s.low ≡ s.first
    pub lowering : s.lowering ≡ None
    pub way : s.way ≡ None
    pub starts : s.starts ≡ []

  pub record IsFreshTrail (i : Image N) (t : Trail N) : Type 0 where
    pub before : (d : ℕ) → N.trail_of d ≡ t.number → own d t.before ≡ i.audit d
    pub first : (d : ℕ) → Among N.discs d → N.trail_of d ≡ t.number → t.first d ≡ next_position (i.audit d) (i.volume d) (i.dump d)
    pub landed : t.landed ≡ []
    pub offered : t.offered ≡ []
    pub files : AreInOrder t.purged t.before t.present

  pub record IsFreshDump (i : Image N) (u : Dump N) : Type 0 where
    pub landed : (i.dump u.number ≡ None) × (u.landed ≡ None) ⊎ ((b : Base N) × (i.dump u.number ≡ Some b) × (u.landed ≡ Some (Found b.position b.values)))
    pub offered : u.offered ≡ None
    pub copied : (n : ℕ) (b : N.Block) → u.copied n b ≡ None
    pub over : u.over ≡ []

  -- The parts at the opening, over images that stand for this map.
  pub record IsOpening (ss : List (State N)) (i : Image N) (m : N.Key → Option N.Val) : Type 0 where
    pub parts : HasParts ss
    pub stands : StandsFor i m
    pub discs : (q : ℕ) (s : Disc N) → slice_get ss q ≡ Some (disc s) → IsFresh i m s
    pub rests : (q r : ℕ) (s : Disc N) (u : Dump N) → slice_get ss q ≡ Some (disc s) → slice_get ss r ≡ Some (dump u) → s.number ≡ u.number → s.rest ≡ elim u.landed [ None ↦ None | Some l ↦ Some (start_of l) ]
    pub trails : (q : ℕ) (t : Trail N) → slice_get ss q ≡ Some (trail t) → IsFreshTrail i t
    pub mons : (q : ℕ) (u : Monitor N) → slice_get ss q ≡ Some (monitor u) → (u.before ≡ i.list) × (u.landed ≡ []) × (u.offered ≡ [])
    pub dumps : (q : ℕ) (u : Dump N) → slice_get ss q ≡ Some (dump u) → IsFreshDump i u
    -- the audit and the list are of earlier epochs, and the list ends with the Start of this one
    pub audit : (d : ℕ) → Among N.discs d → Each (λ r. N.epoch_of r.tx < N.epoch) (i.audit d) × ((n : ℕ) × AreFrom n (i.audit d)) × Each (λ r. r.disc ≡ d) (i.audit d)
    pub list : Each (λ x. N.epoch_of x.tx < N.epoch) (closes i.list)
    pub started : last_start 0 i.list ≡ N.epoch
