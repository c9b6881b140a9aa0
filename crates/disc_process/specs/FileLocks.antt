-- Who stands against the lock of a whole file.
use Rattle.std.specs.Prelude.{◌≡◌, ◌⊎◌, ℕ, List, Some}
use Rattle.std.specs.Cmp.Lexicographic.{slice_cmp}
use Rattle.std.specs.Ordering.{nat_cmp}
use Rattle.std.specs.declared.cmp.Ordering.TheVariants.{Less}
use Rattle.tmf_model.specs.declared.transid.Transid.{Transid}
use Rattle.node_machine.specs.Disc.{IsNoOther, IsOther}
use Rattle.node_machine.specs.Made.{file_holder, holder}
use Rattle.node_machine.specs.Parts.{DiscPart}

-- no other transaction holds the file or a key of it
pub record IsFileFree (s : DiscPart) (t : Transid) (file : ℕ) : Type 0 where
  pub whole : IsNoOther (file_holder s.events file) t
  pub keys : (key : List ℕ) → IsNoOther (holder s.events file key) t

-- this one holds the least key of the file that another than the transaction holds
pub record HoldsLeastKey (s : DiscPart) (t : Transid) (file : ℕ) (h : Transid) : Type 0 where
  pub key : List ℕ
  pub holds : holder s.events file key ≡ Some h
  pub least : (k : List ℕ) → slice_cmp nat_cmp k key ≡ Less → IsNoOther (holder s.events file k) t

-- this other one holds the file; or no other holds the file, and this one holds the least key of it that another holds
pub record BlocksFile (s : DiscPart) (t : Transid) (file : ℕ) (h : Transid) : Type 0 where
  pub other : IsOther h t
  pub by : (file_holder s.events file ≡ Some h) ⊎ (IsNoOther (file_holder s.events file) t × HoldsLeastKey s t file h)
