-- Who holds what, and what each call makes of it.
use Rattle.std.specs.Prelude.{◌≡◌, ℕ, ◌==◌, ◌&&◌, ◌⊎◌, Bool, true, false, List, Option, Some, None, if◌then◌else◌}
use Rattle.std.specs.Cmp.Lexicographic.{slice_cmp}
use Rattle.std.specs.Map.{lookup}
use Rattle.std.specs.Option.{option_map, option_or}
use Rattle.std.specs.Ordering.{is_eq, nat_cmp}
use Rattle.std.specs.declared.cmp.Ordering.TheVariants.{Less}
use Rattle.tmf_model.specs.declared.transid.Transid.{Transid}
use Rattle.tmf_model.specs.Place.{block_of}
use Rattle.record_locks.specs.declared.name.LockName.{LockName}
use Rattle.record_locks.specs.declared.table.Lock.{Lock}
use Rattle.record_locks.specs.declared.refused.TakeRefused.{TakeRefused}
use Rattle.record_locks.specs.declared.refused.TakeRefused.TheVariants.{Holder, NoMemory}
use Rattle.record_locks.specs.Names.{Entry, is_same_name, is_same_transid, name_cmp}

-- the name of a record
abbrev pub key_name : ℕ → List ℕ → LockName
key_name file key = record { file = file; key = Some key }

-- the name of a whole file
abbrev pub file_name : ℕ → LockName
file_name file = record { file = file; key = None }

-- the lock of a name by itself
abbrev pub lock_at : List Entry → LockName → Option Lock
lock_at locks name = lookup (λ other. is_eq (name_cmp name other)) locks

-- who holds the name by itself
abbrev pub own_holder : List Entry → LockName → Option Transid
own_holder locks name = option_map (λ lock. lock.holder) (lock_at locks name)

-- who holds a record: the holder of its file, and else its own
abbrev pub holder : List Entry → ℕ → List ℕ → Option Transid
holder locks file key = option_or (own_holder locks (file_name file)) (own_holder locks (key_name file key))

-- whether the lock is held by writing
abbrev pub is_writing : Option Lock → Bool
is_writing None = false
is_writing (Some lock) = lock.writing

-- who stands against the transaction: the holder, where that is another
abbrev pub other_than : Transid → Option Transid → Option Transid
other_than t None = None
other_than t (Some h) = if is_same_transid h t then None else Some h

-- who stands against the transaction's lock of a record
abbrev pub key_blocker : List Entry → ℕ → List ℕ → Transid → Option Transid
key_blocker locks file key t = other_than t (holder locks file key)

-- who else holds the name by itself
abbrev pub other_holder : List Entry → LockName → Transid → Option Transid
other_holder locks name t = other_than t (own_holder locks name)

-- this one holds the least key of the file that another holds
pub record HoldsLeast (locks : List Entry) (file : ℕ) (t h : Transid) : Type 0 where
  pub key : List ℕ
  pub holds : other_holder locks (key_name file key) t ≡ Some h
  pub least : (k : List ℕ) → slice_cmp nat_cmp k key ≡ Less → other_holder locks (key_name file k) t ≡ None

-- who stands against the transaction's lock of a whole file: the file's own holder, else that of the least key; nobody where nobody else holds the file or a record of it
abbrev pub IsFileBlocker : List Entry → ℕ → Transid → Option Transid → Type 0
IsFileBlocker locks file t None = (other_holder locks (file_name file) t ≡ None) × ((key : List ℕ) → other_holder locks (key_name file key) t ≡ None)
IsFileBlocker locks file t (Some h) = (other_holder locks (file_name file) t ≡ Some h) ⊎ ((other_holder locks (file_name file) t ≡ None) × HoldsLeast locks file t h)

-- the same of a record or a whole file, by the key that the name may have
abbrev pub IsBlockerAt : Option (List ℕ) → List Entry → ℕ → Transid → Option Transid → Type 0
IsBlockerAt None locks file t blocker = IsFileBlocker locks file t blocker
IsBlockerAt (Some key) locks file t blocker = key_blocker locks file key t ≡ blocker

-- who stands against the transaction's lock of the name, if anybody does
abbrev pub IsBlocker : List Entry → LockName → Transid → Option Transid → Type 0
IsBlocker locks name t blocker = IsBlockerAt name.key locks name.file t blocker

-- each name has the lock that it had
abbrev pub SameLocks : List Entry → List Entry → Type 0
SameLocks old new = (q : LockName) → lock_at new q ≡ lock_at old q

-- the name is the transaction's, by writing where it was, and each other name has the lock that it had
abbrev pub IsHeldNow : List Entry → List Entry → LockName → Transid → Type 0
IsHeldNow old new name t = (q : LockName) → lock_at new q ≡ (if is_same_name q name then Some (record { holder = t; writing = is_writing (lock_at old q) }) else lock_at old q)

-- nobody stood against it, and the name is the transaction's
pub record HasTaken (old new : List Entry) (name : LockName) (t : Transid) : Type 0 where
  pub free : IsBlocker old name t None
  pub locks : IsHeldNow old new name t

-- this one stands against it; or nobody does, and there was no memory for a name that nobody holds by itself
abbrev pub IsTakeRefusal : List Entry → LockName → Transid → TakeRefused → Type 0
IsTakeRefusal locks name t (Holder h) = IsBlocker locks name t (Some h)
IsTakeRefusal locks name t NoMemory = IsBlocker locks name t None × (lock_at locks name ≡ None)

-- the lock, by writing
abbrev pub marked : Option Lock → Option Lock
marked None = None
marked (Some lock) = Some (record { holder = lock.holder; writing = true })

-- whether the key is held by writing, and lives in the block
abbrev pub is_kept : List Entry → ℕ → ℕ → ℕ → List ℕ → Bool
is_kept locks file block blocks key = is_writing (lock_at locks (key_name file key)) && (block_of key blocks == block)

-- whether the transaction has the lock
abbrev pub is_its : Transid → Option Lock → Bool
is_its t None = false
is_its t (Some lock) = is_same_transid lock.holder t

-- without what the transaction holds
abbrev pub freed : Transid → Option Lock → Option Lock
freed t lock = if is_its t lock then None else lock

-- the key of a lock, where it has one that lives in the block, and the lock is held by writing
abbrev pub kept_at : Option (List ℕ) → Bool → ℕ → ℕ → Option (List ℕ)
kept_at None writing block blocks = None
kept_at (Some key) writing block blocks = if writing && (block_of key blocks == block) then Some key else None
