use Rattle.std.proofs.Common.{◌≡◌, cond, None, drop}
use Rattle.std.specs.BTreeMap.{get}
use Rattle.std.specs.List.{list_any}
use Rattle.record_locks.specs.Names.{is_same_name, name_cmp}
use Rattle.record_locks.specs.declared.name.LockName.{LockName}
use Rattle.record_locks.proofs.table.free_all.Given as goal

abbrev pub invariant-loop-name : goal.invariant-loop-name
invariant-loop-name l =
    (q : LockName) → cond (list_any (is_same_name q) (drop l.name-index l.names)) None (get name_cmp l.table q) ≡ cond (list_any (is_same_name q) l.names) None (get name_cmp l.initial.table q)
