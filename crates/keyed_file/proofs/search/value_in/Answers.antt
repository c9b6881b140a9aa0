use Rattle.std.proofs.Common.{sym, ap, ◌∙◌, Some}
use Rattle.keyed_file.proofs.Maps.{lookup_stands, lookup_misses, sorted_from_rising, get_or-there}
use Rattle.keyed_file.proofs.search.value_in.Goals as goal

pub returns-in-Err : goal.returns-in-Err
returns-in-Err c = sym (lookup_misses c.args.records.now c.args.key.now _ (sorted_from_rising c.args.records.now c.requires) c.in-Err.ensures)

pub returns-in-Ok : goal.returns-in-Ok
returns-in-Ok c =
    let is = c.in-Ok.ensures in
    ap (λ entry. Some entry.1) (get_or-there c.args.records.now c.in-Ok.at is.entry c.index-records-at.result _ is.there)
    ∙ sym (lookup_stands c.args.records.now c.args.key.now c.in-Ok.at (sorted_from_rising c.args.records.now c.requires) is)
