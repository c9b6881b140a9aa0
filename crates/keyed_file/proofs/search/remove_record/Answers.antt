use Rattle.std.proofs.Common.{sym, subst, ◌∙◌}
use Rattle.keyed_file.specs.Search.{StandsAt, MissesAt}
use Rattle.keyed_file.proofs.Maps.{others_stands, others_misses, sorted_from_rising}
use Rattle.keyed_file.proofs.search.remove_record.Goals as goal

pub returns-in-Ok-clause-items : goal.returns-in-Ok-clause-items
returns-in-Ok-clause-items c =
    let records = c.args.records.now.items in
    let is = subst (λ rs. StandsAt rs c.args.key.now c.in-Ok.at) c.as_slice.ensures.value c.in-Ok.ensures in
    c.remove.ensures.items ∙ sym (others_stands records c.args.key.now c.in-Ok.at (sorted_from_rising records c.requires.rising) is)

pub returns-in_default-clause-items : goal.returns-in_default-clause-items
returns-in_default-clause-items c =
    let records = c.args.records.now.items in
    let is = subst (λ rs. MissesAt rs c.args.key.now c.in_default.field-0) c.as_slice.ensures.value c.in_default.ensures in
    sym (others_misses records c.args.key.now c.in_default.field-0 (sorted_from_rising records c.requires.rising) is)
