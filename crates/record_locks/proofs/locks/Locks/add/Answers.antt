use Rattle.std.specs.Prelude.{if◌then◌else◌}
use Rattle.std.proofs.Common.{◌≡◌, false, List, Option, Some, None, cond, refl, ap, sym, subst, ◌∙◌}
use Rattle.std.specs.Ordering.{is_eq}
use Rattle.record_locks.specs.declared.name.LockName.{LockName}
use Rattle.record_locks.specs.declared.table.Lock.{Lock}
use Rattle.record_locks.specs.Names.{Entry, is_same_name, name_cmp}
use Rattle.std.specs.Option.{option_map}
use Rattle.record_locks.specs.Locks.{IsHeldNow, SameLocks, lock_at}
use Rattle.record_locks.specs.Tied.{MayHold, names_of}
use Rattle.record_locks.proofs.Names.{name_at, name_back, name_is}
use Rattle.record_locks.proofs.Ties.{of_err, of_ok, put_back, tie_added, tie_same}
use Rattle.record_locks.proofs.Alone.{added_held, alone_held, alone_same}
use Rattle.record_locks.proofs.locks.Locks.add.Goals as goal

back : (c : goal.After-remove) → SameLocks c.self.inside.table.entries c.remove.new.self.entries
back c q =
    let b = is_eq (name_cmp c.args.name.now q) in
    let lock : Lock = record { holder = c.args.t; writing = false } in
    let before = lock_at c.self.inside.table.entries in
    let none = ap (λ (v : List Entry). lock_at v c.args.name.now) c.self.view_is ∙ c.requires.none in
    c.remove.ensures.updates.0 q ∙ ap (λ (o : Option Lock). cond b None o) (c.in_ok-insert.ensures.updates.0 q)
    ∙ put_back b lock (before q) (λ e. ap before (sym (name_is c.args.name.now q (sym (name_at c.args.name.now q) ∙ e))) ∙ none)

pub invariant_of-self-then-is_err : goal.invariant_of-self-then-is_err
invariant_of-self-then-is_err c = (
  tie_same (names_of c.self.inside.held) (names_of c.list_name.new.held) (lock_at c.self.inside.table.entries) (lock_at c.remove.new.self.entries) c.self.invariant.0
      (of_err c.list_name.result (sym c.if-is_err.ensures.value) c.list_name.ensures.unchanged) (back c),
  alone_same c.self.inside.table.entries c.remove.new.self.entries (λ q. ap (option_map (λ (lock : Lock). lock.holder)) (back c q)) c.self.invariant.1,
)

pub returns-then-is_err-clause-unchanged : goal.returns-then-is_err-clause-unchanged
returns-then-is_err-clause-unchanged c = λ q. back c q ∙ ap (λ (v : List Entry). lock_at v q) c.self.view_is

none_before : (c : goal.Else-is_err) → lock_at c.self.inside.table.entries c.args.name.now ≡ None
none_before c = ap (λ (v : List Entry). lock_at v c.args.name.now) c.self.view_is ∙ c.requires.none

added : (c : goal.Else-is_err) (q : LockName)
    → lock_at c.insert.new.self.entries q ≡ (if is_same_name q c.args.name.now then Some (record { holder = c.args.t; writing = false }) else lock_at c.self.inside.table.entries q)
added c q =
    let lock : Lock = record { holder = c.args.t; writing = false } in
    c.in_ok-insert.ensures.updates.0 q ∙ ap (λ b. cond b (Some lock) (lock_at c.self.inside.table.entries q)) (name_back c.args.name.now q)

held : (c : goal.Else-is_err) → IsHeldNow c.self.inside.table.entries c.insert.new.self.entries c.args.name.now c.args.t
held c = added_held c.self.inside.table.entries c.insert.new.self.entries c.args.name.now c.args.t (none_before c) (added c)

pub invariant_of-self-else-is_err : goal.invariant_of-self-else-is_err
invariant_of-self-else-is_err c =
    let may = subst (λ (v : List Entry). MayHold v c.args.name.now c.args.t) (sym c.self.view_is) c.requires.may in (
      tie_added (names_of c.self.inside.held) (names_of c.list_name.new.held) (lock_at c.self.inside.table.entries) (lock_at c.insert.new.self.entries) c.args.t c.self.invariant.0
          c.args.name.now (record { holder = c.args.t; writing = false }) refl (none_before c) (of_ok c.list_name.result (sym c.if-is_err.ensures.value) c.list_name.ensures.listed) (added c),
      alone_held c.self.inside.table.entries c.insert.new.self.entries c.args.name.now c.args.t (held c) may c.self.invariant.1,
    )

pub returns-clause-locks : goal.returns-clause-locks
returns-clause-locks c = subst (λ (v : List Entry). IsHeldNow v c.insert.new.self.entries c.args.name.now c.args.t) c.self.view_is (held c)
