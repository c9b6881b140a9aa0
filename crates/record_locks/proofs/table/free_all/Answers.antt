use Rattle.std.proofs.Common.{◌||◌, ◌+◌, Option, None, cond, drop, ap, sym, ◌∙◌}
use Rattle.std.specs.BTreeMap.{get}
use Rattle.std.specs.List.{list_any}
use Rattle.std.proofs.lemmas.List.{at_drop_more}
use Rattle.record_locks.specs.declared.table.Lock.{Lock}
use Rattle.record_locks.specs.Names.{is_same_name, name_cmp}
use Rattle.record_locks.proofs.Names.{name_back}
use Rattle.record_locks.proofs.Ties.{free_step}
use Rattle.record_locks.proofs.table.free_all.Goals as goal

pub loop-name-preserved : goal.loop-name-preserved
loop-name-preserved c = λ q.
    let name = c.name-item.result in
    let rest = list_any (is_same_name q) (drop (c.loop-name.name-index + 1) c.args.names.now) in
    let before = get name_cmp c.loop-name.table q in
    ap (λ (o : Option Lock). cond rest None o) (c.remove.ensures.updates.0 q ∙ ap (λ b. cond b None before) (name_back name q))
    ∙ free_step (is_same_name q name) rest before
    ∙ ap (λ n. cond (is_same_name q n || rest) None before) c.name-item.is
    ∙ ap (λ b. cond b None before) (sym (at_drop_more (list_any (is_same_name q)) c.args.names.now c.loop-name.name-index name c.loop-name-test.true))
    ∙ c.loop-name.invariant q
