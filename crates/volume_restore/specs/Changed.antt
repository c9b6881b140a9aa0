-- What the changes that were found of a file's keys make of a block.
use Rattle.std.specs.Prelude.{◌≡◌, ◌≢◌, ◌⊎◌, ℕ, ◌<◌, ◌≤◌, List, length, All, Option, Some, None, IsSome, bytes_eq, slice_get}
use Rattle.std.specs.Map.{lookup}
use Rattle.std.specs.BTreeMap.{BTreeMap, get}
use Rattle.std.specs.Cmp.Lexicographic.{slice_cmp}
use Rattle.std.specs.List.{IsDistinct}
use Rattle.std.specs.Ordering.{nat_cmp}
use Rattle.tmf_model.specs.Place.{block_of}
use Rattle.keyed_file.specs.declared.home.Home.{Home}
use Rattle.keyed_file.specs.Block.{KeyedBlock, value_at}

-- the changes that were found of a file's keys: each key that has audit, with its recovered value, or none
abbrev pub Changes : Type 0
Changes = BTreeMap (List ℕ) (Option (List ℕ))

-- the change that was found of a key
abbrev pub change_of : Changes → List ℕ → Option (Option (List ℕ))
change_of changes key = get (slice_cmp nat_cmp) changes key

-- no key that lives in a block has a change
abbrev pub IsUnchanged : ℕ → ℕ → Changes → Type 0
IsUnchanged blocks number changes = (key : List ℕ) → block_of key blocks ≡ number → change_of changes key ≡ None

-- of the keys that live in a block, these are the changes that were found
abbrev pub IsFoundIn : Changes → ℕ → ℕ → Changes → Type 0
IsFoundIn found blocks number part = (key : List ℕ) → block_of key blocks ≡ number → change_of part key ≡ change_of found key

-- each of these has changes of the keys of its own block alone
abbrev pub HaveOwnKeys : ℕ → List Changes → Type 0
HaveOwnKeys blocks parts = (number : ℕ) (part : Changes) → slice_get parts number ≡ Some part → (key : List ℕ) → block_of key blocks ≢ number → change_of part key ≡ None

-- These are the changes that were found, block by block: each has those of its block's keys, and no others.
pub record ArePartsOf (found : Changes) (blocks : ℕ) (parts : List Changes) : Type 0 where
  pub count : length parts ≡ blocks
  pub each : (number : ℕ) (part : Changes) → slice_get parts number ≡ Some part → IsFoundIn found blocks number part
  pub own : HaveOwnKeys blocks parts

-- so are these, but for the changes that are left to be taken in
abbrev pub ArePartsBut : Changes → ℕ → List (List ℕ × Option (List ℕ)) → List Changes → Type 0
ArePartsBut found blocks left parts = (number : ℕ) (part : Changes) → slice_get parts number ≡ Some part
    → (key : List ℕ) → block_of key blocks ≡ number → (change_of part key ≡ change_of found key) ⊎ IsSome (lookup (bytes_eq key) left)

-- the value of a key that had this one: that of its change, where there is one
abbrev pub changed_value : Option (Option (List ℕ)) → Option (List ℕ) → Option (List ℕ)
changed_value None old = old
changed_value (Some new) old = new

-- the values of a block's keys once the changes are made
abbrev pub changed_values : Changes → KeyedBlock → List ℕ → Option (List ℕ)
changed_values changes block key = changed_value (change_of changes key) (value_at block key)

-- keys of one block of a file with so many, no two the same, each of which has a value
pub record AreValued (blocks number : ℕ) (values : List ℕ → Option (List ℕ)) (keys : List (List ℕ)) : Type 0 where
  pub distinct : IsDistinct bytes_eq keys
  pub valued : All (λ key. (block_of key blocks ≡ number) × IsSome (values key)) keys

-- no more than 62 keys of the block have a value
abbrev pub HasRoomIn : ℕ → ℕ → (List ℕ → Option (List ℕ)) → Type 0
HasRoomIn blocks number values = (keys : List (List ℕ)) → AreValued blocks number values keys → length keys ≤ 62

-- more than 62 keys of the block have a value
abbrev pub IsOverfull : ℕ → ℕ → (List ℕ → Option (List ℕ)) → Type 0
IsOverfull blocks number values = (keys : List (List ℕ)) × AreValued blocks number values keys × (62 < length keys)

-- A block under way: it stands at its place, and each of its keys lives there and has its value.
pub record IsPart (home : Home) (values : List ℕ → Option (List ℕ)) (block : KeyedBlock) : Type 0 where
  pub file : block.file ≡ home.file
  pub number : block.number ≡ home.number
  pub right : (key : List ℕ) → IsSome (value_at block key) → (block_of key home.blocks ≡ home.number) × (value_at block key ≡ values key)
