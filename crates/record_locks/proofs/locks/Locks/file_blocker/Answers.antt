use Rattle.std.proofs.Common.{ap, sym, subst, ◌∙◌, List, Option}
use Rattle.std.specs.List.Sorted.{IsStrictlySortedBy}
use Rattle.std.specs.Map.{keys_of}
use Rattle.tmf_model.specs.declared.transid.Transid.{Transid}
use Rattle.record_locks.specs.Names.{Entry, name_cmp}
use Rattle.record_locks.specs.Locks.{IsFileBlocker}
use Rattle.record_locks.proofs.Blocks.{blocker_of_file, file_blocker, found_first}
use Rattle.record_locks.proofs.Least.{blocker_is}
use Rattle.record_locks.proofs.locks.Locks.file_blocker.Goals as goal

pub returns-then-ne : goal.returns-then-ne
returns-then-ne c =
    let sorted = subst (λ (v : List Entry). IsStrictlySortedBy name_cmp (keys_of v)) c.self.view_is c.range-name-items.ensures.ordered in
    subst
    (λ (o : Option Transid). IsFileBlocker c.args.self.now c.args.file c.args.t o)
    (sym (blocker_of_file c.args.file c.args.t c.args.self.now) ∙ sym c.loop-name.invariant ∙ ap (file_blocker c.args.file c.args.t) c.in-Some.ensures.steps
    ∙ found_first c.args.file c.args.t (c.in-Some.name.now, c.in-Some.lock.now) c.next.new.self c.if-name-file.true (sym c.if-ne.ensures))
    (blocker_is c.args.file c.args.t c.args.self.now sorted)

pub returns : goal.returns
returns c =
    let sorted = subst (λ (v : List Entry). IsStrictlySortedBy name_cmp (keys_of v)) c.self.view_is c.range-name-items.ensures.ordered in
    subst
    (λ (o : Option Transid). IsFileBlocker c.args.self.now c.args.file c.args.t o)
    (sym (blocker_of_file c.args.file c.args.t c.args.self.now) ∙ sym c.loop-name.invariant ∙ ap (file_blocker c.args.file c.args.t) c.in-None.ensures.steps.0)
    (blocker_is c.args.file c.args.t c.args.self.now sorted)
