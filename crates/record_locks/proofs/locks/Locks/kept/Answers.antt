use Rattle.std.proofs.Common.{◌≡◌, ◌∙◌, List, ap, sym, subst, bytes_eq}
use Rattle.std.specs.List.{IsDistinct, list_any}
use Rattle.std.specs.Map.{keys_of}
use Rattle.std.specs.Ordering.{eq_by_cmp}
use Rattle.std.proofs.lemmas.Map.Keys.{IsDistinct-from_sorted}
use Rattle.record_locks.specs.Names.{Entry, name_cmp}
use Rattle.record_locks.proofs.Blocks.{distinct_kept, finds_kept, kept_in, whole_kept}
use Rattle.record_locks.proofs.locks.Locks.kept.Goals as goal

all_kept : (c : goal.In-None) → c.loop-name.kept.items ≡ kept_in c.args.file c.args.block c.args.blocks c.args.self.now
all_kept c = whole_kept c.args.file c.args.block c.args.blocks c.loop-name.kept.items c.loop-name.name-iterator c.args.self.now c.in-None.ensures.steps.0 c.loop-name.invariant

distinct_names : (c : goal.In-None) → IsDistinct (eq_by_cmp name_cmp) (keys_of c.args.self.now)
distinct_names c = subst (λ (v : List Entry). IsDistinct (eq_by_cmp name_cmp) (keys_of v)) c.self.view_is (IsDistinct-from_sorted name_cmp _ c.range-name-items.ensures.ordered)

pub returns-clause-distinct : goal.returns-clause-distinct
returns-clause-distinct c =
    subst (λ (keys : List _). IsDistinct bytes_eq keys) (sym (all_kept c)) (distinct_kept c.args.file c.args.block c.args.blocks c.args.self.now (distinct_names c))

pub returns-clause-exact : goal.returns-clause-exact
returns-clause-exact c = λ key. ap (list_any (bytes_eq key)) (all_kept c) ∙ finds_kept c.args.file c.args.block c.args.blocks key c.args.self.now (distinct_names c)
