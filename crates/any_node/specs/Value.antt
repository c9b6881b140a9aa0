-- What audit records and monitor records say of one key.
use Rattle.std.specs.Prelude.{◌≡◌, ◌⊎◌, ℕ, ◌==◌, nat_le, Option, Bool, true, false, List, [], ◌∷◌, cond}
use Rattle.any_node.specs.Layout.{Layout}

-- an audit record; an Undo has no operation
pub record AuditRecord (N : Layout) : Type 0 where
  pub tx : N.Tx
  pub disc : ℕ
  pub position : ℕ
  pub key : N.Key
  pub before : Option N.Val
  pub after : Option N.Val
  pub op : Option N.Op

-- a Commit, or an Abort
pub record Ending (N : Layout) : Type 0 where
  pub tx : N.Tx
  pub commit : Bool

-- a monitor record: the Start of an epoch, or the close of a transaction
pub data Entry (N : Layout) : Type 0 where
  start : ℕ → Entry N
  close : Ending N → Entry N

-- the element is in the list
abbrev pub Among : {A : Type 0} → List A → A → Type 0
Among [] x = ⊥
Among (y ∷ ys) x = (y ≡ x) ⊎ Among ys x

-- it holds of each
abbrev pub Each : {A : Type 0} → (A → Type 0) → List A → Type 0
Each P [] = Unit {0}
Each P (x ∷ xs) = P x × Each P xs

-- no two are the same
abbrev pub AreDistinct : {A : Type 0} → List A → Type 0
AreDistinct [] = Unit {0}
AreDistinct (x ∷ xs) = (Among xs x → ⊥) × AreDistinct xs

-- the closes of a list
abbrev pub closes : {N : Layout} → List (Entry N) → List (Ending N)
closes [] = []
closes (start e ∷ xs) = closes xs
closes (close x ∷ xs) = x ∷ closes xs

-- a list of closes alone
abbrev pub entries : {N : Layout} → List (Ending N) → List (Entry N)
entries [] = []
entries (x ∷ xs) = close x ∷ entries xs

-- the epoch of the last Start, or e
abbrev pub last_start : {N : Layout} → ℕ → List (Entry N) → ℕ
last_start e [] = e
last_start e (start f ∷ xs) = last_start f xs
last_start e (close x ∷ xs) = last_start e xs

-- the records on a key
abbrev pub on : {N : Layout} → N.Key → List (AuditRecord N) → List (AuditRecord N)
on k [] = []
on {N = N} k (r ∷ rs) = cond (N.keys.same r.key k) (r ∷ on k rs) (on k rs)

-- those at a position from n on
abbrev pub kept : {N : Layout} → ℕ → List (AuditRecord N) → List (AuditRecord N)
kept n [] = []
kept n (r ∷ rs) = cond (nat_le n r.position) (r ∷ kept n rs) (kept n rs)

-- those up to position n
abbrev pub up_to : {N : Layout} → ℕ → List (AuditRecord N) → List (AuditRecord N)
up_to n [] = []
up_to n (r ∷ rs) = cond (nat_le r.position n) (r ∷ up_to n rs) (up_to n rs)

-- of records with the numbers of the files that they stand in, those of a disc
abbrev pub own : {N : Layout} → ℕ → List (ℕ × AuditRecord N) → List (AuditRecord N)
own d [] = []
own d (x ∷ xs) = cond (x.1.disc == d) (x.1 ∷ own d xs) (own d xs)

-- records that stand in one file
abbrev pub filed : {N : Layout} → ℕ → List (AuditRecord N) → List (ℕ × AuditRecord N)
filed f [] = []
filed f (r ∷ rs) = (f, r) ∷ filed f rs

-- it is the Commit of t
abbrev pub hit : {N : Layout} → Ending N → N.Tx → Bool
hit {N = N} x t = cond x.commit (N.txs.same t x.tx) false

-- t is committed there
abbrev pub commits : {N : Layout} → List (Ending N) → N.Tx → Bool
commits [] t = false
commits (x ∷ xs) t = cond (hit x t) true (commits xs t)

-- the before image of the first record, else b
abbrev pub undo : {N : Layout} → Option N.Val → List (AuditRecord N) → Option N.Val
undo b [] = b
undo b (r ∷ rs) = r.before

-- the after image of the last record of these transactions, else v
abbrev pub redo : {N : Layout} → (N.Tx → Bool) → Option N.Val → List (AuditRecord N) → Option N.Val
redo c v [] = v
redo c v (r ∷ rs) = redo c (cond (c r.tx) r.after v) rs

-- the after image of the last record, else v
abbrev pub latest : {N : Layout} → Option N.Val → List (AuditRecord N) → Option N.Val
latest v [] = v
latest v (r ∷ rs) = latest r.after rs

-- what a base and the records on a key come to
abbrev pub value : {N : Layout} → Option N.Val → List (AuditRecord N) → List (Ending N) → Option N.Val
value b rs mons = redo (commits mons) (undo b rs) rs

-- the commits one after another, each with its transaction's records on a key
abbrev pub folded : {N : Layout} → List (AuditRecord N) → List (Ending N) → Option N.Val → Option N.Val
folded rs [] v = v
folded rs (x ∷ xs) v = folded rs xs (redo (hit x) v rs)
