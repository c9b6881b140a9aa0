-- The names of locks and of their holders: when two are the same, and their orders.
use Rattle.std.specs.Prelude.{ℕ, ◌+◌, ◌==◌, ◌&&◌, Bool, None, bytes_eq, if◌then◌else◌, nat_lt}
use Rattle.std.specs.Cmp.Lexicographic.{slice_cmp}
use Rattle.std.specs.Option.{option_cmp, option_eq}
use Rattle.std.specs.Ordering.{nat_cmp, ordering_then}
use Rattle.std.specs.declared.cmp.Ordering.{Ordering}
use Rattle.std.specs.declared.ops.Bound.{Bound}
use Rattle.std.specs.declared.ops.Bound.TheVariants.{Included, Excluded, Unbounded}
use Rattle.tmf_model.specs.declared.transid.Transid.{Transid}
use Rattle.record_locks.specs.declared.name.LockName.{LockName}
use Rattle.record_locks.specs.declared.table.Lock.{Lock}

-- a name and its lock
abbrev pub Entry : Type 0
Entry = LockName × Lock

-- whether two names are the same
abbrev pub is_same_name : LockName → LockName → Bool
is_same_name a b = (a.file == b.file) && option_eq bytes_eq a.key b.key

-- whether two identifiers are the same
abbrev pub is_same_transid : Transid → Transid → Bool
is_same_transid a b = a.epoch == b.epoch && (a.worker == b.worker && (a.ordinal == b.ordinal && a.attempt == b.attempt))

-- by files, a whole file before its records, and these by their keys
abbrev pub name_cmp : LockName → LockName → Ordering
name_cmp a b = ordering_then (nat_cmp a.file b.file) (option_cmp (slice_cmp nat_cmp) a.key b.key)

-- by epochs, workers, ordinals and attempts
abbrev pub transid_cmp : Transid → Transid → Ordering
transid_cmp a b =
    ordering_then (nat_cmp a.epoch b.epoch) (ordering_then (nat_cmp a.worker b.worker) (ordering_then (nat_cmp a.ordinal b.ordinal) (nat_cmp a.attempt b.attempt)))

-- from the lock of the file to the last of its records
abbrev pub file_bounds : ℕ → Bound LockName × Bound LockName
file_bounds file = (Included (record { file = file; key = None }), if nat_lt (file + 1) 256 then Excluded (record { file = file + 1; key = None }) else Unbounded)
