-- The lists of names by their holders, and what ties them to the table.
use Rattle.std.specs.Prelude.{◌≡◌, ℕ, List, [], Option, Some, None}
use Rattle.std.specs.BTreeMap.{BTreeMap, get}
use Rattle.std.specs.List.{list_any}
use Rattle.std.specs.List.Sorted.{IsStrictlySortedBy}
use Rattle.std.specs.Map.{keys_of}
use Rattle.tmf_model.specs.declared.transid.Transid.{Transid}
use Rattle.record_locks.specs.declared.name.LockName.{LockName}
use Rattle.record_locks.specs.declared.held.NameList.{NameList}
use Rattle.record_locks.specs.Names.{Entry, is_same_name, name_cmp, transid_cmp}
use Rattle.record_locks.specs.Locks.{file_name, is_its, key_name, lock_at, own_holder}

-- the names of a list, if there is one
abbrev pub names_in : Option NameList → List LockName
names_in None = []
names_in (Some list) = list.names.items

-- the names that are listed as the transaction's
abbrev pub names_of : BTreeMap Transid NameList → Transid → List LockName
names_of held t = names_in (get transid_cmp held t)

-- a name is listed as the transaction's exactly where this one has its lock
abbrev pub AreListed : List Entry → BTreeMap Transid NameList → Type 0
AreListed table held = (t : Transid) (name : LockName) → list_any (is_same_name name) (names_of held t) ≡ is_its t (lock_at table name)

-- the records of a file that is locked whole have no other holder
abbrev pub AreAlone : List Entry → Type 0
AreAlone table = (file : ℕ) (key : List ℕ) (h u : Transid) → own_holder table (file_name file) ≡ Some h → own_holder table (key_name file key) ≡ Some u → u ≡ h

-- what holds of the locks at all times: each name stands once, in the order of the names, and the records of a file that is locked whole have no other holder
pub record AreLocks (locks : List Entry) : Type 0 where
  pub ordered : IsStrictlySortedBy name_cmp (keys_of locks)
  pub alone : AreAlone locks

-- no other transaction holds the name, nor the file round it or a record in it
pub record MayHold (table : List Entry) (name : LockName) (t : Transid) : Type 0 where
  pub own : (u : Transid) → own_holder table name ≡ Some u → u ≡ t
  pub round : (h : Transid) → own_holder table (file_name name.file) ≡ Some h → h ≡ t
  pub inside : name.key ≡ None → (key : List ℕ) (u : Transid) → own_holder table (key_name name.file key) ≡ Some u → u ≡ t
