use Rattle.std.proofs.Common.{List, None, sym, subst}
use Rattle.record_locks.specs.Names.{Entry}
use Rattle.record_locks.specs.Locks.{IsBlocker, IsHeldNow}
use Rattle.record_locks.specs.Tied.{AreAlone}
use Rattle.record_locks.proofs.Alone.{held_where_found, may_hold}
use Rattle.record_locks.proofs.locks.Locks.hold.Goals as goal

pub returns-then-contains_key-clause-locks : goal.returns-then-contains_key-clause-locks
returns-then-contains_key-clause-locks c =
    let table = c.self.inside.table.entries in
    let free = subst (λ (v : List Entry). IsBlocker v c.args.name.now c.args.t None) (sym c.self.view_is) c.requires in
    subst (λ (v : List Entry). IsHeldNow v v c.args.name.now c.args.t) c.self.view_is
    (held_where_found table c.args.name.now c.args.t (sym c.if-contains_key.ensures) (may_hold table c.args.name.now c.args.t c.self.invariant.1 free))

pub add-requires-clause-may : goal.add-requires-clause-may
add-requires-clause-may c =
    may_hold c.args.self.now c.args.name.now c.args.t (subst (λ (v : List Entry). AreAlone v) c.self.view_is c.self.invariant.1) c.requires
