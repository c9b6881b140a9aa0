use Rattle.std.proofs.Common.{List, ℕ, length, set, ◌≡◌, ⊎_elim, sym, ap, subst, ◌∙◌, arith}
use Rattle.std.specs.Prelude.{is_some}
use Rattle.std.specs.List.{insert}
use Rattle.keyed_file.specs.Search.{StandsAt, MissesAt}
use Rattle.keyed_file.proofs.Maps.{put_stands, put_misses, lookup_misses, sorted_from_rising, within-there, set_there}
use Rattle.keyed_file.proofs.search.put_record.Goals as goal

stands : (records slice : List (List ℕ × List ℕ)) (key : List ℕ) (at : ℕ) → slice ≡ records → StandsAt slice key at → StandsAt records key at
stands records slice key at same is = subst (λ rs. StandsAt rs key at) same is

misses : (records slice : List (List ℕ × List ℕ)) (key : List ℕ) (at : ℕ) → slice ≡ records → MissesAt slice key at → MissesAt records key at
misses records slice key at same is = subst (λ rs. MissesAt rs key at) same is

pub unreachable-requires : goal.unreachable-requires
unreachable-requires c =
    let records = c.args.records.now.items in
    let is = misses records _ c.args.key.now c.in-Err.at c.as_slice.ensures.value c.in-Err.ensures in
    let none = lookup_misses records c.args.key.now c.in-Err.at (sorted_from_rising records c.requires.rising) is in
    ⊎_elim
    (λ there. absurd (cc (ap is_some none, there)))
    (λ few. let long = ap length c.as_slice.ensures.value in omega (arith, few, long, c.as_slice.ensures.len, c.requires.room, c.in-Err-insert.ensures.full))
    c.requires.few

pub returns-in-Ok-clause-items : goal.returns-in-Ok-clause-items
returns-in-Ok-clause-items c =
    let records = c.args.records.now.items in
    let is = stands records _ c.args.key.now c.in-Ok.at c.as_slice.ensures.value c.in-Ok.ensures in
    ap (set records c.in-Ok.at) c.entry-record.ensures.value ∙ set_there records c.in-Ok.at _ (within-there records c.in-Ok.at is.entry _ is.there) ∙ sym (put_stands records c.args.key.now c.in-Ok.at (sorted_from_rising records c.requires.rising) is c.args.value)

pub returns-in-Ok-insert-clause-items : goal.returns-in-Ok-insert-clause-items
returns-in-Ok-insert-clause-items c =
    let records = c.args.records.now.items in
    let is = misses records _ c.args.key.now c.in-Err.at c.as_slice.ensures.value c.in-Err.ensures in
    c.in-Ok-insert.ensures.items ∙ ap (insert records c.in-Err.at) c.entry-record.ensures.value ∙ sym (put_misses records c.args.key.now c.in-Err.at (sorted_from_rising records c.requires.rising) is c.args.value)
