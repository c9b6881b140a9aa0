-- Rows that were worked by hand, computed.
use Rattle.std.proofs.Common.{◌≡◌, ℕ, List, [], ◌∷◌, Some, None, codes, true, false, refl}
use Rattle.std.specs.List.Sorted.{IsStrictlySortedBy}
use Rattle.std.specs.Map.{keys_of}
use Rattle.tmf_model.specs.declared.transid.Transid.{Transid}
use Rattle.record_locks.specs.declared.table.Lock.{Lock}
use Rattle.record_locks.specs.Names.{Entry, name_cmp}
use Rattle.record_locks.specs.Locks.{IsBlocker, IsFileBlocker, file_name, freed, holder, is_kept, key_blocker, key_name, lock_at, marked}
use Rattle.record_locks.proofs.Least.{blocker_is}

-- the first attempt at the first item of a worker
abbrev of_worker : ℕ → Transid
of_worker w = record { epoch = 1; worker = w; ordinal = 1; attempt = 1 }

abbrev lock_of : ℕ → Lock
lock_of w = record { holder = of_worker w; writing = false }

-- worker 1 has the record k2 of file 3 and file 4 whole, worker 2 the record k1 of file 3
abbrev locks : List Entry
locks = (key_name 3 (codes "k1"), lock_of 2) ∷ (key_name 3 (codes "k2"), record { holder = of_worker 1; writing = true }) ∷ (file_name 4, lock_of 1) ∷ []

sorted : IsStrictlySortedBy name_cmp (keys_of locks)
unfolding IsStrictlySortedBy
sorted = ((refl, (refl, tt)), ((refl, tt), (tt, tt)))

-- another key of the file is free
other_key : key_blocker locks 3 (codes "k3") (of_worker 3) ≡ None
other_key = refl

-- the holder itself is not stood against, another is
own_key : key_blocker locks 3 (codes "k2") (of_worker 1) ≡ None
own_key = refl

others_key : key_blocker locks 3 (codes "k2") (of_worker 2) ≡ Some (of_worker 1)
others_key = refl

-- a record of a file that is locked whole
key_of_file : holder locks 4 (codes "k9") ≡ Some (of_worker 1)
key_of_file = refl

-- against a lock of file 3 the holder of its least key stands, for each but that holder, whom the next one stops
least_key : IsFileBlocker locks 3 (of_worker 3) (Some (of_worker 2))
least_key = blocker_is 3 (of_worker 3) locks sorted

next_key : IsBlocker locks (file_name 3) (of_worker 2) (Some (of_worker 1))
next_key = blocker_is 3 (of_worker 2) locks sorted

whole_file : IsFileBlocker locks 4 (of_worker 2) (Some (of_worker 1))
whole_file = blocker_is 4 (of_worker 2) locks sorted

own_file : IsFileBlocker locks 4 (of_worker 1) None
own_file = blocker_is 4 (of_worker 1) locks sorted

-- the key k2 has the number 107 * 31 + 50 = 3367, and lives in block 1 of 2; only it is held by writing
kept_here : is_kept locks 3 1 2 (codes "k2") ≡ true
kept_here = refl

kept_elsewhere : is_kept locks 3 0 2 (codes "k2") ≡ false
kept_elsewhere = refl

kept_by_reading : is_kept locks 3 0 1 (codes "k1") ≡ false
kept_by_reading = refl

-- a release frees what is the transaction's
freed_own : freed (of_worker 1) (lock_at locks (key_name 3 (codes "k2"))) ≡ None
freed_own = refl

freed_other : freed (of_worker 1) (lock_at locks (key_name 3 (codes "k1"))) ≡ Some (lock_of 2)
freed_other = refl

marked_other : marked (lock_at locks (key_name 3 (codes "k1"))) ≡ Some (record { holder = of_worker 2; writing = true })
marked_other = refl
