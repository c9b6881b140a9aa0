use Rattle.std.specs.Prelude.{if◌then◌else◌}
use Rattle.std.proofs.Common.{◌≡◌, true, List, Some, cond, refl, ap, sym, subst, ◌∙◌}
use Rattle.std.specs.Option.{IsSome, option_map}
use Rattle.record_locks.specs.declared.name.LockName.{LockName}
use Rattle.record_locks.specs.declared.table.Lock.{Lock}
use Rattle.record_locks.specs.Names.{Entry, is_same_name}
use Rattle.record_locks.specs.Locks.{key_name, lock_at, marked}
use Rattle.record_locks.specs.Tied.{names_of}
use Rattle.record_locks.proofs.Names.{name_back, name_is}
use Rattle.record_locks.proofs.Alone.{alone_same}
use Rattle.record_locks.proofs.Ties.{holder_marked, marked_at, tie_marked}
use Rattle.record_locks.proofs.locks.Locks.mark.Goals as goal

marked_now : (c : goal.After-self-2-1) (q : LockName) → lock_at (c.get_mut.follows.lender (record { holder = c.in-Some.lock.now.holder; writing = true })).entries q
    ≡ (if is_same_name q (key_name c.args.file c.args.key.now) then marked (lock_at c.self.inside.table.entries q) else lock_at c.self.inside.table.entries q)
marked_now c q =
    let name = key_name c.args.file c.args.key.now in
    let before = lock_at c.self.inside.table.entries in
    let lock : Lock = record { holder = c.in-Some.lock.now.holder; writing = true } in
    let was = c.in-Some.ensures.value in
    ((c.get_mut.follows.holds lock).3 (subst IsSome was refl)).0 q
    ∙ ap (λ b. cond b (Some lock) (before q)) (name_back name q)
    ∙ marked_at (is_same_name q name) c.in-Some.lock.now (before q) (λ e. was ∙ ap before (sym (name_is q name e)))

pub invariant_of-self-2 : goal.invariant_of-self-2
invariant_of-self-2 c =
    let name = key_name c.args.file c.args.key.now in
    let table = c.self.inside.table.entries in
    let after = (c.get_mut.follows.lender (record { holder = c.in-Some.lock.now.holder; writing = true })).entries in (
      tie_marked (names_of c.self.inside.held) (lock_at table) (lock_at after) name c.self.invariant.0 (marked_now c),
      alone_same table after (λ q. ap (option_map (λ (l : Lock). l.holder)) (marked_now c q) ∙ holder_marked (is_same_name q name) (lock_at table q)) c.self.invariant.1,
    )

pub returns : goal.returns
returns c = λ q.
    marked_now c q ∙ ap (λ (v : List Entry). if is_same_name q (key_name c.args.file c.args.key.now) then marked (lock_at v q) else lock_at v q) c.self.view_is
