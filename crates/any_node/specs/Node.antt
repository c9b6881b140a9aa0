-- The node: workers, discs, trails, the monitor and dumps; what may happen at each, and what it makes of it.
use Rattle.std.specs.Prelude.{◌≡◌, ◌≢◌, ℕ, ◌+◌, ◌-◌, ◌<◌, ◌≤◌, ◌⊎◌, max, Option, Some, None, Bool, true, false, List, [], ◌∷◌, ◌++◌, length, cond, slice_get}
use mathlib.Core.List.{IsPrefix}
use Rattle.chronicle.specs.Histories.{Rules}
use Rattle.any_node.specs.Layout.{Layout, Equality, numbers, put}
use Rattle.any_node.specs.Value.{AuditRecord, Ending, Entry, Among, Each, AreDistinct, closes, own, filed}

pub record Worker (N : Layout) : Type 0 where
  pub number : ℕ
  pub begun : N.Tx → Bool
  pub discs : N.Tx → List ℕ
  pub finished : N.Tx → Bool
  -- its close: true is Commit
  pub decided : N.Tx → Option Bool

pub record Disc (N : Layout) : Type 0 where
  pub number : ℕ
  -- its volume was lost at the opening
  pub lost : Bool
  -- the position of this run's first record
  pub first : ℕ
  -- the map at the opening, and now
  pub base : N.Key → Option N.Val
  pub map : N.Key → Option N.Val
  -- the records of this run
  pub made : List (AuditRecord N)
  -- who holds a key or a file, and which keys are held by writing
  pub held : N.Key → Option N.Tx
  pub locked : N.File → Option N.Tx
  pub written : N.Key → Bool
  -- changes not yet undone, newest first
  pub left : N.Tx → List (AuditRecord N)
  pub closed : N.Tx → Bool
  pub undone : N.Tx → Bool
  pub released : N.Tx → Bool
  -- the position of its last Write, or 0
  pub last : N.Tx → ℕ
  -- the position up to which a block's landed content has its records, and that of a Draw under way
  pub drawn : N.Block → ℕ
  pub drawing : N.Block → Option ℕ
  -- the landed low position, and that of a Low under way
  pub low : ℕ
  pub lowering : Option ℕ
  -- the rest start, the number and the start of the dump under way, and of each that was begun
  pub rest : Option ℕ
  pub way : Option (ℕ × ℕ)
  pub starts : List (ℕ × ℕ)

pub record Trail (N : Layout) : Type 0 where
  pub number : ℕ
  -- the position of this run's first record of each of its discs
  pub first : ℕ → ℕ
  -- the records at the opening, those that landed, and the batch that is offered, each with the file that it stands in
  pub before : List (ℕ × AuditRecord N)
  pub landed : List (ℕ × AuditRecord N)
  pub offered : List (ℕ × AuditRecord N)
  -- the present file, and the file below which a Purge has named all
  pub present : ℕ
  pub purged : ℕ

pub record Monitor (N : Layout) : Type 0 where
  pub before : List (Entry N)
  pub landed : List (Ending N)
  pub offered : List (Ending N)

-- A dump: one of the opening, with its start and its records, or one of this run, with its number, its start, and the position behind which each block was copied.
pub data Label (N : Layout) : Type 0 where
  Found : ℕ → (N.Key → Option N.Val) → Label N
  Taken : ℕ → ℕ → (N.Block → Option ℕ) → Label N

pub record Dump (N : Layout) : Type 0 where
  pub number : ℕ
  pub landed : Option (Label N)
  pub offered : Option (Label N)
  pub copied : ℕ → N.Block → Option ℕ
  -- how many Seals there were
  pub seals : ℕ
  -- the dumps that are over, and how many Seals there were before
  pub over : List (ℕ × ℕ)

pub data State (N : Layout) : Type 0 where
  worker : Worker N → State N
  disc : Disc N → State N
  trail : Trail N → State N
  monitor : Monitor N → State N
  dump : Dump N → State N

-- why an operation is not carried out
pub data Cause (N : Layout) : Type 0 where
  Busy : N.Key → N.Tx → Cause N
  BusyFile : N.File → N.Tx → Cause N
  Full : N.Key → N.Op → Cause N
  Refused : N.Key → N.Op → Cause N

pub data Event (N : Layout) : Type 0 where
  Begin : N.Tx → Event N
  Enlist : N.Tx → ℕ → Event N
  Finish : N.Tx → Event N
  End : N.Tx → Event N
  Quit : N.Tx → Event N
  Write : N.Tx → AuditRecord N → Event N
  Read : N.Tx → N.Key → Option N.Val → Event N
  Lock : N.Tx → N.File → Event N
  Turn : N.Tx → Cause N → Event N
  Dumping : N.By → Event N
  Undo : N.Tx → Event N
  Close : N.Tx → Event N
  Release : N.Tx → Event N
  Draw : N.Block → ℕ → Event N
  Drawn : N.Block → Event N
  Low : N.By → ℕ → Event N
  Lowered : Event N
  Start : N.By → ℕ → ℕ → Event N
  Raise : ℕ → Option ℕ → Event N
  OfferAudit : ℕ → List (AuditRecord N) → Event N
  OfferCar : List (Ending N) → Event N
  Land : Event N
  Purge : ℕ → ℕ → Event N
  Copy : ℕ → N.Block → ℕ → Event N
  Seal : ℕ → ℕ → Event N
  Sealed : ℕ → Bool → Event N
  Failed : N.By → Event N

pub data Fact (N : Layout) : Type 0 where
  Enlisted : N.Tx → ℕ → Fact N
  Finished : N.Tx → Fact N
  Decided : N.Tx → Bool → List ℕ → Fact N
  Closed : N.Tx → ℕ → ℕ → Fact N
  Made : ℕ → ℕ → List (AuditRecord N) → Fact N
  Durable : ℕ → ℕ → Fact N
  Committed : N.Tx → ℕ → Fact N
  Started : ℕ → ℕ → ℕ → Fact N
  Over : ℕ → ℕ → Option ℕ → Fact N
  Floor : ℕ → ℕ → Fact N

-- free, or held by t
abbrev pub IsFree : {T : Type 0} → Option T → T → Type 0
IsFree o t = (o ≡ None) ⊎ (o ≡ Some t)

-- no longer held by t
abbrev pub freed : {T : Type 0} → Equality T → T → Option T → Option T
freed E t None = None
freed E t (Some h) = cond (E.same h t) None (Some h)

-- held by writing, unless t lets go
abbrev pub lets_go : {T : Type 0} → Equality T → T → Option T → Bool → Bool
lets_go E t None b = b
lets_go E t (Some h) b = cond (E.same h t) false b

abbrev pub told : {A : Type 0} → A → Option A → A
told a None = a
told a (Some b) = b

-- at most what is there, if it is
abbrev pub IsUpTo : Option ℕ → ℕ → Type 0
IsUpTo None s = Unit {0}
IsUpTo (Some r) s = s ≤ r

abbrev pub start_under_way : Option (ℕ × ℕ) → Option ℕ
start_under_way None = None
start_under_way (Some x) = Some x.1

-- the new rest start
abbrev pub MayRest : Option ℕ → Option ℕ → ℕ → Type 0
MayRest (Some before) (Some r) s = before ≤ r
MayRest (Some before) None s = ⊥
MayRest None (Some r) s = r ≡ s
MayRest None None s = Unit {0}

abbrev pub MayRaise : Option (ℕ × ℕ) → Option ℕ → ℕ → Option ℕ → Type 0
MayRaise None rest i r = ⊥
MayRaise (Some x) rest i r = (x.0 ≡ i) × MayRest rest r x.1

module _ {N : Layout} where
  -- x is later than those of its worker, each later than those before it
  abbrev pub AreLater : List (Ending N) → List (Ending N) → Type 0
  AreLater earlier [] = Unit {0}
  AreLater earlier (x ∷ xs) = ((y : Ending N) → Among earlier y → N.worker_of y.tx ≡ N.worker_of x.tx → N.is_later y.tx x.tx ≡ true) × AreLater (x ∷ earlier) xs

  -- the value after the operation of a Write, or none where it has a reason
  abbrev pub given : AuditRecord N → Option N.Val → Option (Option N.Val)
  given r v = elim r.op [ None ↦ None | Some o ↦ N.gives o v ]

  abbrev pub MayAct : Disc N → N.Tx → Type 0
  MayAct s t = (s.closed t ≡ false) × (s.undone t ≡ false) × (s.released t ≡ false)

  -- nobody else holds the key, by itself or by its file
  abbrev pub IsFreeFor : Disc N → N.Tx → N.Key → Type 0
  IsFreeFor s t k = IsFree (s.held k) t × IsFree (s.locked (N.file_of k)) t

  -- who holds the key
  abbrev pub holder : Disc N → N.Key → Option N.Tx
  holder s k = elim (s.locked (N.file_of k)) [ None ↦ s.held k | Some h ↦ Some h ]

  -- another than t holds the file, or a key of it
  abbrev pub HoldsFile : Disc N → N.File → N.Tx → Type 0
  HoldsFile s f h = (s.locked f ≡ Some h) ⊎ ((k : N.Key) × (N.file_of k ≡ f) × (s.held k ≡ Some h))

  -- the key has a value, or is held by writing
  abbrev pub IsTaken : Disc N → N.Key → Type 0
  IsTaken s k = (s.map k ≢ None) ⊎ (s.written k ≡ true)

  -- fewer keys of the key's block are taken than it has room for
  abbrev pub IsRoomy : Disc N → N.Key → Type 0
  IsRoomy s k = (ks : List N.Key) → AreDistinct ks → Each (λ j. (N.block_of j ≡ N.block_of k) × IsTaken s j) ks → length ks < N.room

  abbrev pub HasRoom : Disc N → N.Key → N.Op → Type 0
  HasRoom s k o = (N.is_put o ≡ false) ⊎ IsTaken s k ⊎ IsRoomy s k

  -- the position of the next record
  abbrev pub next : Disc N → ℕ
  next s = s.first + length s.made

  -- nothing below the position is unfinished
  abbrev pub IsQuiet : Disc N → ℕ → Type 0
  IsQuiet s l = (l ≤ next s) × ((r : AuditRecord N) → Among s.made r → r.position < l → (s.released r.tx ≡ true) × (s.undone r.tx ≡ true → (x : AuditRecord N) → Among s.made x → x.tx ≡ r.tx → x.position < l))

  abbrev pub IsGreatestQuiet : Disc N → ℕ → Type 0
  IsGreatestQuiet s l = IsQuiet s l × ((n : ℕ) → IsQuiet s n → n ≤ l)

  -- no record of the block stands behind n and below l
  abbrev pub IsClean : Disc N → N.Block → ℕ → ℕ → Type 0
  IsClean s b n l = (r : AuditRecord N) → Among s.made r → N.block_of r.key ≡ b → n < r.position → r.position < l → ⊥

  abbrev pub start_of : Label N → ℕ
  start_of (Found s m) = s
  start_of (Taken i s c) = s

  -- dumps that an image can spell start at r or later
  abbrev pub IsFrom : Option (Label N) → Option (Label N) → ℕ → Type 0
  IsFrom None None r = ⊥
  IsFrom (Some a) None r = r ≤ start_of a
  IsFrom None (Some b) r = r ≤ start_of b
  IsFrom (Some a) (Some b) r = (r ≤ start_of a) × (r ≤ start_of b)

  -- Dump i is over, and from now on each image spells a dump that starts at r or later, or, while one is in doubt and none has landed, such a dump or none.
  -- Without r no image spells a dump, until the next Seal.
  abbrev pub IsOver : Dump N → ℕ → Option ℕ → Type 0
  IsOver s i (Some r) = ((c : ℕ) × Among s.over (i, c)) × IsFrom s.landed s.offered r
  IsOver s i None = (c : ℕ) × Among s.over (i, c) × (c ≤ s.seals) × ((c < s.seals) ⊎ ((s.landed ≡ None) × (s.offered ≡ None)))

module _ (N : Layout) where
  -- each block that a key of the disc is in is copied
  abbrev pub IsWhole : ℕ → (N.Block → Option ℕ) → Type 0
  IsWhole d copies = (k : N.Key) → N.disc_of k ≡ d → (n : ℕ) × (copies (N.block_of k) ≡ Some n)

  -- what an event asks of its own part
  abbrev pub allows_work : Worker N → Event N → Type 0
  allows_work s (Begin t) = (N.worker_of t ≡ s.number) × (N.epoch_of t ≡ N.epoch) × (s.begun t ≡ false) × ((u : N.Tx) → s.begun u ≡ true → (N.is_later u t ≡ true) × (s.decided u ≢ None))
  allows_work s (Enlist t d) = (N.worker_of t ≡ s.number) × (s.begun t ≡ true) × (s.finished t ≡ false) × (s.decided t ≡ None) × (Among (s.discs t) d → ⊥)
  allows_work s (Finish t) = (N.worker_of t ≡ s.number) × (s.begun t ≡ true) × (s.finished t ≡ false) × (s.decided t ≡ None)
  allows_work s (End t) = (N.worker_of t ≡ s.number) × (s.finished t ≡ true) × (s.decided t ≡ None)
  allows_work s (Quit t) = (N.worker_of t ≡ s.number) × (s.begun t ≡ true) × (s.decided t ≡ None)
  allows_work s _ = ⊥

  abbrev pub allows_turn : Disc N → N.Tx → Cause N → Type 0
  allows_turn s t (Busy k h) = (holder s k ≡ Some h) × (h ≢ t)
  allows_turn s t (BusyFile f h) = HoldsFile s f h × (h ≢ t)
  allows_turn s t (Full k o) = MayAct s t × IsFreeFor s t k × (HasRoom s k o → ⊥)
  allows_turn s t (Refused k o) = MayAct s t × IsFreeFor s t k × (N.gives o (s.map k) ≡ None)

  abbrev pub allows_disc : Disc N → Event N → Type 0
  allows_disc s (Write t r) = MayAct s t × IsFreeFor s t r.key × (r.tx ≡ t) × (r.before ≡ s.map r.key) × (given r r.before ≡ Some r.after) × (N.disc_of r.key ≡ s.number) × (r.disc ≡ s.number) × (r.position ≡ next s) × ((o : N.Op) → r.op ≡ Some o → (N.is_change o ≡ true) × HasRoom s r.key o)
  allows_disc s (Read t k v) = MayAct s t × IsFreeFor s t k × (v ≡ s.map k) × (N.disc_of k ≡ s.number)
  allows_disc s (Lock t f) = MayAct s t × ((h : N.Tx) → HoldsFile s f h → h ≡ t)
  allows_disc s (Turn t why) = allows_turn s t why
  allows_disc s (Dumping by) = s.way ≢ None
  allows_disc s (Undo t) = (r : AuditRecord N) × (rs : List (AuditRecord N)) × (s.left t ≡ r ∷ rs)
  allows_disc s (Close t) = MayAct s t
  allows_disc s (Release t) = (s.released t ≡ false)
  allows_disc s (Draw b n) = (s.drawing b ≡ None) × (s.drawn b < n) × ((r : AuditRecord N) × Among s.made r × (N.block_of r.key ≡ b) × (r.position ≡ n)) × ((r : AuditRecord N) → Among s.made r → N.block_of r.key ≡ b → r.position ≤ n)
  allows_disc s (Drawn b) = s.drawing b ≢ None
  allows_disc s (Low by l) = (s.lowering ≡ None) × (s.low ≤ l) × IsGreatestQuiet s l × ((b : N.Block) → (s.drawing b ≡ None) × IsClean s b (s.drawn b) l)
  allows_disc s Lowered = s.lowering ≢ None
  allows_disc s (Start by i l) = (s.way ≡ None) × (s.low ≤ l) × IsGreatestQuiet s l × ((n : ℕ) → Among s.starts (i, n) → ⊥)
  allows_disc s (Raise i r) = MayRaise s.way s.rest i r
  allows_disc s (Failed by) = Unit {0}
  allows_disc s _ = ⊥

  abbrev pub allows_trail : Trail N → Event N → Type 0
  allows_trail s (OfferAudit f rs) = (s.offered ≡ []) × (s.present ≤ f) × (1 ≤ length rs) × (length rs ≤ 512) × Each (λ r. N.trail_of r.disc ≡ s.number) rs
  allows_trail s Land = s.offered ≢ []
  allows_trail s (Purge f present) = (s.present ≤ present) × (f ≤ present)
  allows_trail s (Failed by) = Unit {0}
  allows_trail s _ = ⊥

  abbrev pub allows_monitor : Monitor N → Event N → Type 0
  allows_monitor s (OfferCar xs) = (s.offered ≡ []) × AreLater (closes s.before ++ s.landed) xs × (1 ≤ length xs) × (length xs ≤ 64)
  allows_monitor s Land = s.offered ≢ []
  allows_monitor s (Failed by) = Unit {0}
  allows_monitor s _ = ⊥

  -- dump i is not over
  abbrev pub IsNotOver : Dump N → ℕ → Type 0
  IsNotOver s i = (c : ℕ) → Among s.over (i, c) → ⊥

  abbrev pub allows_dump : Dump N → Event N → Type 0
  allows_dump s (Copy i b n) = IsNotOver s i × (s.copied i b ≡ None) × ((j l : ℕ) (c : N.Block → Option ℕ) → s.offered ≡ Some (Taken j l c) → IsNotOver s j)
  allows_dump s (Seal i l) = (s.offered ≡ None) × IsNotOver s i × IsWhole s.number (s.copied i) × ((a : Label N) → s.landed ≡ Some a → start_of a ≤ l)
  allows_dump s (Sealed i true) = (l : ℕ) × (c : N.Block → Option ℕ) × (s.offered ≡ Some (Taken i l c))
  allows_dump s (Sealed i false) = IsNotOver s i
  allows_dump s (Failed by) = Unit {0}
  allows_dump s _ = ⊥

  abbrev pub allows : State N → Event N → Type 0
  allows (worker s) e = allows_work s e
  allows (disc s) e = (s.lost ≡ false) × allows_disc s e
  allows (trail s) e = allows_trail s e
  allows (monitor s) e = allows_monitor s e
  allows (dump s) e = allows_dump s e

  -- what an event asks of the facts that are true, T
  abbrev pub asks_turn : (Fact N → Type 0) → Disc N → N.Tx → Cause N → Type 0
  asks_turn T s t (Full k o) = T (Enlisted t s.number)
  asks_turn T s t (Refused k o) = T (Enlisted t s.number)
  asks_turn T s t _ = Unit {0}

  abbrev pub asks_disc : (Fact N → Type 0) → Disc N → Event N → Type 0
  asks_disc T s (Write u r) = T (Enlisted u s.number)
  asks_disc T s (Read u k v) = T (Enlisted u s.number)
  asks_disc T s (Lock u f) = T (Enlisted u s.number)
  asks_disc T s (Turn u why) = asks_turn T s u why
  asks_disc T s (Undo u) = (ds : List ℕ) × T (Decided u false ds)
  asks_disc T s (Close u) = T (Enlisted u s.number) × T (Finished u)
  asks_disc T s (Release u) = ((p : ℕ) × T (Committed u p)) ⊎ (((ds : List ℕ) × T (Decided u false ds)) × (s.left u ≡ []))
  asks_disc T s (Draw b n) = T (Durable s.number n)
  asks_disc T s (Low by l) = T (Durable s.number (l - 1))
  asks_disc T s (Raise i r) = T (Over s.number i r)
  asks_disc T s _ = Unit {0}

  -- each record in a file below f stands below a floor of its disc
  abbrev pub AreBelowFloors : (Fact N → Type 0) → List (ℕ × AuditRecord N) → ℕ → Type 0
  AreBelowFloors T rows f = (x : ℕ × AuditRecord N) → Among rows x → x.0 < f → (bound : ℕ) × T (Floor x.1.disc bound) × (x.1.position < bound)

  abbrev pub asks_trail : (Fact N → Type 0) → Trail N → Event N → Type 0
  asks_trail T s (OfferAudit f rs) = (d : ℕ) → own d (filed f rs) ≢ [] → (n : ℕ) × T (Made d n (own d (s.landed ++ filed f rs)))
  asks_trail T s (Purge f present) = AreBelowFloors T (s.before ++ (s.landed ++ s.offered)) f
  asks_trail T s _ = Unit {0}

  -- what a monitor record rests on
  abbrev pub Backed : (Fact N → Type 0) → Ending N → Type 0
  Backed T x = (ds : List ℕ) × T (Decided x.tx x.commit ds) × (x.commit ≡ true → (d : ℕ) → Among ds d → (n : ℕ) × T (Closed x.tx d n) × T (Durable d n))

  abbrev pub asks_monitor : (Fact N → Type 0) → Event N → Type 0
  asks_monitor T (OfferCar xs) = (x : Ending N) → Among xs x → Backed T x
  asks_monitor T _ = Unit {0}

  -- each copy of the disc's keys has become durable
  abbrev pub AreDurable : (Fact N → Type 0) → ℕ → (N.Block → Option ℕ) → Type 0
  AreDurable T d copies = (b : N.Block) (n : ℕ) → copies b ≡ Some n → T (Durable d n)

  abbrev pub asks_dump : (Fact N → Type 0) → Dump N → Event N → Type 0
  asks_dump T s (Copy i b n) = (l : ℕ) × T (Started s.number i l) × (l ≤ n + 1) × ((rs : List (AuditRecord N)) × T (Made s.number n rs))
  asks_dump T s (Seal i l) = T (Started s.number i l) × T (Durable s.number (l - 1)) × AreDurable T s.number (s.copied i)
  asks_dump T s (Sealed i whole) = (l : ℕ) × T (Started s.number i l)
  asks_dump T s _ = Unit {0}

  abbrev pub asks : (Fact N → Type 0) → State N → Event N → Type 0
  asks T (worker s) e = Unit {0}
  asks T (disc s) e = asks_disc T s e
  asks T (trail s) e = asks_trail T s e
  asks T (monitor s) e = asks_monitor T e
  asks T (dump s) e = asks_dump T s e

  -- what an event makes of its part
  abbrev pub step_work : Worker N → Event N → Worker N
  step_work s (Begin t) = record s { begun = put N.txs t true s.begun }
  step_work s (Enlist t d) = record s { discs = put N.txs t (d ∷ s.discs t) s.discs }
  step_work s (Finish t) = record s { finished = put N.txs t true s.finished }
  step_work s (End t) = record s { decided = put N.txs t (Some true) s.decided }
  step_work s (Quit t) = record s { decided = put N.txs t (Some false) s.decided }
  step_work s _ = s

  -- the record of an Undo
  abbrev pub undo_record : N.Tx → Disc N → AuditRecord N → AuditRecord N
  undo_record t s r = record { tx = t; disc = s.number; position = next s; key = r.key; before = s.map r.key; after = r.before; op = None }

  abbrev pub undoing : N.Tx → Disc N → List (AuditRecord N) → Disc N
  undoing t s [] = s
  undoing t s (r ∷ rs) = record s { map = put N.keys r.key r.before s.map; made = s.made ++ undo_record t s r ∷ []; left = put N.txs t rs s.left; undone = put N.txs t true s.undone }

  -- the key is then held
  abbrev pub holding : N.Tx → N.Key → Disc N → Disc N
  holding t k s = record s { held = put N.keys k (Some t) s.held }

  abbrev pub step_turn : N.Tx → Cause N → Disc N → Disc N
  step_turn t (Full k o) s = holding t k s
  step_turn t (Refused k o) s = holding t k s
  step_turn t _ s = s

  abbrev pub step_disc : Disc N → Event N → Disc N
  step_disc s (Write t r) = record s { map = put N.keys r.key r.after s.map; made = s.made ++ r ∷ []; held = put N.keys r.key (Some t) s.held; written = put N.keys r.key true s.written; left = put N.txs t (r ∷ s.left t) s.left; last = put N.txs t r.position s.last }
  step_disc s (Read t k v) = holding t k s
  step_disc s (Lock t f) = record s { locked = put N.files f (Some t) s.locked }
  step_disc s (Turn t why) = step_turn t why s
  step_disc s (Undo t) = undoing t s (s.left t)
  step_disc s (Close t) = record s { closed = put N.txs t true s.closed }
  step_disc s (Release t) = record s { held = λ k. freed N.txs t (s.held k); locked = λ f. freed N.txs t (s.locked f); written = λ k. lets_go N.txs t (s.held k) (s.written k); released = put N.txs t true s.released }
  step_disc s (Draw b n) = record s { drawing = put N.blocks b (Some n) s.drawing }
  step_disc s (Drawn b) = record s { drawn = put N.blocks b (told (s.drawn b) (s.drawing b)) s.drawn; drawing = put N.blocks b None s.drawing }
  step_disc s (Low by l) = record s { lowering = Some l }
  step_disc s Lowered = record s { low = told s.low s.lowering; lowering = None }
  step_disc s (Start by i l) = record s { way = Some (i, l); starts = (i, l) ∷ s.starts }
  step_disc s (Raise i r) = record s { rest = r; way = None }
  step_disc s _ = s

  abbrev pub step_trail : Trail N → Event N → Trail N
  step_trail s (OfferAudit f rs) = record s { offered = filed f rs; present = f }
  step_trail s Land = record s { landed = s.landed ++ s.offered; offered = [] }
  step_trail s (Purge f present) = record s { present = present; purged = max s.purged f }
  step_trail s _ = s

  abbrev pub step_monitor : Monitor N → Event N → Monitor N
  step_monitor s (OfferCar xs) = record s { offered = xs }
  step_monitor s Land = record s { landed = s.landed ++ s.offered; offered = [] }
  step_monitor s _ = s

  abbrev pub now_landed : Option (Label N) → Option (Label N) → Option (Label N)
  now_landed a None = a
  now_landed a (Some b) = Some b

  abbrev pub step_dump : Dump N → Event N → Dump N
  step_dump s (Copy i b n) = record s { copied = put numbers i (put N.blocks b (Some n) (s.copied i)) s.copied }
  step_dump s (Seal i l) = record s { offered = Some (Taken i l (s.copied i)); seals = s.seals + 1 }
  step_dump s (Sealed i true) = record s { landed = now_landed s.landed s.offered; offered = None; over = (i, s.seals) ∷ s.over }
  step_dump s (Sealed i false) = record s { over = (i, s.seals) ∷ s.over }
  step_dump s _ = s

  abbrev pub step : State N → Event N → State N
  step (worker s) e = worker (step_work s e)
  step (disc s) e = disc (step_disc s e)
  step (trail s) e = trail (step_trail s e)
  step (monitor s) e = monitor (step_monitor s e)
  step (dump s) e = dump (step_dump s e)

  -- the facts that a part's state makes true
  abbrev pub makes : State N → Fact N → Type 0
  makes (worker s) (Enlisted t d) = (s.number ≡ N.worker_of t) × (N.epoch_of t ≡ N.epoch) × Among (s.discs t) d
  makes (worker s) (Finished t) = (s.number ≡ N.worker_of t) × (s.finished t ≡ true)
  makes (worker s) (Decided t c ds) = (s.number ≡ N.worker_of t) × (s.decided t ≡ Some c) × (s.discs t ≡ ds) × (N.epoch_of t ≡ N.epoch)
  makes (disc s) (Closed t d n) = (s.number ≡ d) × (s.closed t ≡ true) × (s.last t ≡ n)
  makes (disc s) (Made d n rs) = (s.number ≡ d) × IsPrefix rs s.made × (n + 1 ≡ s.first + length rs)
  makes (disc s) (Started d i l) = (s.number ≡ d) × Among s.starts (i, l)
  makes (disc s) (Floor d n) = (s.number ≡ d) × (s.lost ≡ false → (n ≤ s.low) × IsUpTo s.lowering n) × IsUpTo s.rest n × IsUpTo (start_under_way s.way) n
  makes (trail s) (Durable d n) = (s.number ≡ N.trail_of d) × (n < s.first d + length (own d s.landed))
  makes (monitor s) (Committed t p) = (j : ℕ) × (slice_get s.landed j ≡ Some (record { tx = t; commit = true })) × (p ≡ length s.before + j + 1)
  makes (dump s) (Over d i r) = (s.number ≡ d) × IsOver s i r
  makes _ _ = ⊥

  abbrev pub node : Rules (State N) (Event N) (Fact N)
  node = record { allows = allows; asks = asks; step = step; makes = makes }
