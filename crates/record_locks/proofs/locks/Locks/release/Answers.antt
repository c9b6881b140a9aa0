use Rattle.std.proofs.Common.{◌≡◌, List, None, cond, ap, ◌∙◌}
use Rattle.std.specs.List.{list_any}
use Rattle.record_locks.specs.declared.name.LockName.{LockName}
use Rattle.record_locks.specs.Names.{is_same_name}
use Rattle.record_locks.specs.Locks.{lock_at}
use Rattle.record_locks.specs.Tied.{names_of}
use Rattle.record_locks.proofs.Alone.{alone_freed}
use Rattle.record_locks.proofs.Ties.{freed_is, tie_left}
use Rattle.record_locks.proofs.locks.Locks.release.Goals as goal

pub invariant_of-self : goal.invariant_of-self
invariant_of-self c =
    let names = names_of c.self.inside.held in
    let after = names_of c.take_names-names.new.held in
    let table = c.self.inside.table.entries in
    let left = c.free_all.new.table.entries in
    let free : (q : LockName) → lock_at left q ≡ cond (list_any (is_same_name q) (names c.args.t)) None (lock_at table q) = λ q. c.free_all.ensures q ∙ ap (λ (ns : List LockName). cond (list_any (is_same_name q) ns) None (lock_at table q)) (c.deref.ensures.value ∙ c.take_names-names.ensures.names) in (
      tie_left names after (lock_at table) (lock_at left) c.args.t c.self.invariant.0 c.take_names-names.ensures.left free,
      alone_freed table left c.args.t (freed_is names after (lock_at table) (lock_at left) c.args.t c.self.invariant.0 free) c.self.invariant.1,
    )
