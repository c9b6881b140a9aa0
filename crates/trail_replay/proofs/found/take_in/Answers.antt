use Rattle.std.proofs.Common.{◌∙◌, sym, subst}
use Rattle.trail_files.specs.Recovered.{kept_records}
use Rattle.trail_replay.specs.Found.{IsFound}
use Rattle.trail_replay.proofs.Founds.{kept-more}
use Rattle.trail_replay.proofs.found.take_in.Goals as goal

pub returns-in-Ok-clause-ok : goal.returns-in-Ok-clause-ok
returns-in-Ok-clause-ok c = λ audit list commits found.
    let kept = kept-more c.args.home.volume c.args.low c.args.home.file audit c.args.item.now (sym c.is_of.ensures ∙ c.if-not-is_of.false) in
    subst (λ xs. IsFound c.args.home.file xs list c.recover_one.new.found) (sym kept.0)
    (c.in-Ok.ensures c.args.home.file (kept_records c.args.home.volume c.args.low audit) list kept.1 (c.contains-committed.ensures ∙ commits c.args.item.now.tx) found)
