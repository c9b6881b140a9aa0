-- What a node's history is about: the types of its transactions, keys and values, where each key lies, and what operations give.
use Rattle.std.specs.Prelude.{◌≡◌, ℕ, ◌==◌, Option, Some, None, Bool, true, false, List, cond}
use Rattle.std.proofs.Common.{eq-eqb, eqb-true}

-- a test whether two are the same
pub record Equality (A : Type 0) : Type 0 where
  pub same : A → A → Bool
  pub reflexive : (a b : A) → a ≡ b → same a b ≡ true
  pub equal : (a b : A) → same a b ≡ true → a ≡ b

-- that of numbers
abbrev pub numbers : Equality ℕ
numbers = record { same = λ a b. a == b; reflexive = λ a b e. eq-eqb a b e; equal = λ a b e. eqb-true a b e }

-- the function with another value at t
abbrev pub put : {T A : Type 0} → Equality T → T → A → (T → A) → T → A
put E t a f u = cond (E.same u t) a (f u)

pub record Layout : Type 1 where
  pub Tx : Type 0
  pub Key : Type 0
  pub File : Type 0
  pub Block : Type 0
  pub Val : Type 0
  pub Op : Type 0
  -- for whom something is done that is no transaction's: an attempt, an item of a control or a dump, or a disc
  pub By : Type 0
  pub txs : Equality Tx
  pub keys : Equality Key
  pub files : Equality File
  pub blocks : Equality Block
  -- the epoch of this run
  pub epoch : ℕ
  pub worker_of : Tx → ℕ
  pub epoch_of : Tx → ℕ
  -- the second is later than the first
  pub is_later : Tx → Tx → Bool
  pub not_later : (t : Tx) → is_later t t ≡ false
  -- the discs, and where each key lies
  pub discs : List ℕ
  pub trail_of : ℕ → ℕ
  pub disc_of : Key → ℕ
  pub file_of : Key → File
  pub block_of : Key → Block
  -- how many keys a block has room for
  pub room : ℕ
  -- the value after an operation, or none where it has a reason
  pub gives : Op → Option Val → Option (Option Val)
  pub is_put : Op → Bool
  -- it is no read
  pub is_change : Op → Bool
  -- a change that is no put needs a value
  pub no_other : (o : Op) (v : Option Val) → is_change o ≡ true → is_put o ≡ false → gives o None ≡ Some v → ⊥
  -- the keys of a block are on one disc
  pub one_disc : (j k : Key) → block_of j ≡ block_of k → disc_of j ≡ disc_of k
