-- The map that the commits come to, operation by operation.
use Rattle.std.specs.Prelude.{◌≡◌, ℕ, Option, Some, None, List, [], ◌∷◌, cond}
use Rattle.any_node.specs.Layout.{Layout, put}
use Rattle.any_node.specs.Value.{AuditRecord, Ending}
use Rattle.any_node.specs.Node.{Event, given}
use Rattle.any_node.specs.Node.Event.{Write, Read}

-- a step of a transaction: what it wrote, or what it read
pub data Step (N : Layout) : Type 0 where
  wrote : AuditRecord N → Step N
  saw : N.Key → Option N.Val → Step N

module _ {N : Layout} where
  -- what t wrote, in order
  abbrev pub writes : N.Tx → List (ℕ × Event N) → List (AuditRecord N)
  writes t [] = []
  writes t ((p, Write u r) ∷ xs) = cond (N.txs.same u t) (r ∷ writes t xs) (writes t xs)
  writes t (_ ∷ xs) = writes t xs

  -- what t wrote and read, in order
  abbrev pub steps : N.Tx → List (ℕ × Event N) → List (Step N)
  steps t [] = []
  steps t ((p, Write u r) ∷ xs) = cond (N.txs.same u t) (wrote r ∷ steps t xs) (steps t xs)
  steps t ((p, Read u k v) ∷ xs) = cond (N.txs.same u t) (saw k v ∷ steps t xs) (steps t xs)
  steps t (_ ∷ xs) = steps t xs

  -- the map after steps, unless one has a reason
  abbrev pub perform : List (AuditRecord N) → (N.Key → Option N.Val) → Option (N.Key → Option N.Val)
  perform [] m = Some m
  perform (r ∷ rs) m = elim (given r (m r.key)) [ None ↦ None | Some v ↦ perform rs (put N.keys r.key v m) ]

  abbrev pub effect : List (AuditRecord N) → (N.Key → Option N.Val) → N.Key → Option N.Val
  effect rs m = elim (perform rs m) [ None ↦ m | Some n ↦ n ]

  -- the fold over the Commits
  abbrev pub After : List (ℕ × Event N) → List (Ending N) → (N.Key → Option N.Val) → N.Key → Option N.Val
  After log [] m = m
  After log (x ∷ xs) m = After log xs (cond x.commit (effect (writes x.tx log) m) m)

  -- from this map on, each step reads what it read, and each operation finds and gives what it found and gave
  abbrev pub IsServed : List (Step N) → (N.Key → Option N.Val) → Type 0
  IsServed [] m = Unit {0}
  IsServed (wrote r ∷ ss) m = (r.before ≡ m r.key) × (given r (m r.key) ≡ Some r.after) × IsServed ss (put N.keys r.key r.after m)
  IsServed (saw k v ∷ ss) m = (v ≡ m k) × IsServed ss m

  -- the steps on a key
  abbrev pub steps_on : N.Key → List (Step N) → List (Step N)
  steps_on k [] = []
  steps_on k (wrote r ∷ ss) = cond (N.keys.same r.key k) (wrote r ∷ steps_on k ss) (steps_on k ss)
  steps_on k (saw j v ∷ ss) = cond (N.keys.same j k) (saw j v ∷ steps_on k ss) (steps_on k ss)

  -- what t did on a key
  abbrev pub acts : N.Key → N.Tx → List (ℕ × Event N) → List (Step N)
  acts k t log = steps_on k (steps t log)

  -- from v on, each step of a key finds what it found, to c
  abbrev pub Fit : Option N.Val → List (Step N) → Option N.Val → Type 0
  Fit v [] c = v ≡ c
  Fit v (wrote r ∷ ss) c = (r.before ≡ v) × (given r v ≡ Some r.after) × Fit r.after ss c
  Fit v (saw j w ∷ ss) c = (w ≡ v) × Fit v ss c
