use Rattle.std.specs.Prelude.{IsSome, Some}
use Rattle.std.specs.Cmp.Lexicographic.{slice_cmp}
use Rattle.std.specs.Ordering.{is_eq, nat_cmp}
use Rattle.std.proofs.Common.{sym, ap, subst, ◌∙◌, cond}
use Rattle.trail_replay.proofs.Founds.{found-put_committed, found-put_first, found-keep, is_none-of}
use Rattle.trail_replay.proofs.found.recover_one.Goals as goal

pub returns-in_ok-insert : goal.returns-in_ok-insert
returns-in_ok-insert c = λ file audit monitor same committed found key.
    c.in_ok-insert.ensures.updates.0 key
    ∙ ap (λ v. cond (is_eq (slice_cmp nat_cmp c.args.item.now.key key)) (Some c.args.item.now.after) v) (found key)
    ∙ found-put_committed audit monitor c.args.item.now (sym committed ∙ c.if-committed.true) file key same

pub returns-in_ok-insert-2 : goal.returns-in_ok-insert-2
returns-in_ok-insert-2 c = λ file audit monitor same committed found key.
    c.in_ok-insert-2.ensures.updates.0 key
    ∙ ap (λ v. cond (is_eq (slice_cmp nat_cmp c.args.item.now.key key)) (Some c.args.item.now.before) v) (found key)
    ∙ found-put_first audit monitor c.args.item.now (sym committed ∙ c.if-committed.false) file
    (sym (found c.args.item.now.key) ∙ is_none-of _ (sym c.contains_key.ensures ∙ c.if-not-contains_key.true)) key same

pub returns-else-not-contains_key : goal.returns-else-not-contains_key
returns-else-not-contains_key c = λ file audit monitor same committed found key.
    found key
    ∙ found-keep audit monitor c.args.item.now (sym committed ∙ c.if-committed.false) file (subst IsSome (found c.args.item.now.key) (sym c.contains_key.ensures ∙ c.if-not-contains_key.false)) key same
