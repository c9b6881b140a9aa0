-- A layout in which transactions, keys and values are numbers.
use Rattle.std.specs.Prelude.{◌≡◌, ℕ, nat_lt, Option, Some, None, Bool, true, false, List}
use Rattle.std.proofs.Common.{arith}
use Rattle.std.proofs.lemmas.Bool.{le-ltb}
use Rattle.any_node.specs.Layout.{Layout, numbers}

-- where each key lies, and what operations give
pub record Numbered : Type 0 where
  pub epoch : ℕ
  pub worker_of : ℕ → ℕ
  pub epoch_of : ℕ → ℕ
  pub discs : List ℕ
  pub trail_of : ℕ → ℕ
  pub disc_of : ℕ → ℕ
  pub file_of : ℕ → ℕ
  pub block_of : ℕ → ℕ
  pub room : ℕ
  pub gives : ℕ → Option ℕ → Option (Option ℕ)
  pub is_put : ℕ → Bool
  pub is_change : ℕ → Bool
  pub no_other : (o : ℕ) (v : Option ℕ) → is_change o ≡ true → is_put o ≡ false → gives o None ≡ Some v → ⊥
  pub one_disc : (j k : ℕ) → block_of j ≡ block_of k → disc_of j ≡ disc_of k

pub not_later : (t : ℕ) → nat_lt t t ≡ false
not_later t = le-ltb t t (omega arith)

abbrev pub layout : Numbered → Layout
layout n = record {
  Tx = ℕ;
  Key = ℕ;
  File = ℕ;
  Block = ℕ;
  Val = ℕ;
  Op = ℕ;
  By = ℕ;
  txs = numbers;
  keys = numbers;
  files = numbers;
  blocks = numbers;
  epoch = n.epoch;
  worker_of = n.worker_of;
  epoch_of = n.epoch_of;
  is_later = nat_lt;
  not_later = not_later;
  discs = n.discs;
  trail_of = n.trail_of;
  disc_of = n.disc_of;
  file_of = n.file_of;
  block_of = n.block_of;
  room = n.room;
  gives = n.gives;
  is_put = n.is_put;
  is_change = n.is_change;
  no_other = n.no_other;
  one_disc = n.one_disc;
}
