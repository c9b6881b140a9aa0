use Rattle.std.proofs.Common.{List, subst}
use Rattle.record_locks.specs.Names.{Entry}
use Rattle.record_locks.specs.Tied.{AreLocks}
use Rattle.record_locks.proofs.locks.Locks.always.Goals as goal

pub returns : goal.returns
returns c = subst (λ (v : List Entry). AreLocks v) c.self.view_is (record { ordered = c.len-count.ensures.ordered; alone = c.self.invariant.1 })
