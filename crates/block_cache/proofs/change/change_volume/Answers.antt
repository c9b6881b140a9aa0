use Rattle.std.proofs.Common.{sym, ap, subst, ◌∙◌, arith}
use Rattle.std.specs.Prelude.{IsTrue}
use Rattle.std.proofs.lemmas.Result.{on_ok_weaker}
use Rattle.keyed_file.specs.declared.label.Label.{Label}
use Rattle.keyed_file.specs.LabelFormat.{IsLabel}
use Rattle.block_cache.specs.Blocks.{with_low}
use Rattle.block_cache.specs.Rewrite.{IsCalm}
use Rattle.block_cache.proofs.Changing.{both-ok, map-lowered, ok-of, on-the-way-map, on-the-way-mixed, row-lowered}
use Rattle.block_cache.proofs.FileRows.{label_small}
use Rattle.block_cache.proofs.Rests.{then-rests}
use Rattle.block_cache.proofs.change.change_volume.Goals as goal

pub returns-in_err-change_blocks-clause-every : goal.returns-in_err-change_blocks-clause-every
returns-in_err-change_blocks-clause-every g c = λ map was next image told holds makes leaves.
    on-the-way-mixed g.D.Disk.held c.change_blocks.new.blocks c.args.blocks.now.label c.args.low was map c.change_blocks.ensures.frame.label.same (c.in_err-change_blocks.ensures.kept map was next told holds makes) image leaves

pub returns-in_err-change_blocks-clause-others : goal.returns-in_err-change_blocks-clause-others
returns-in_err-change_blocks-clause-others g c = c.change_blocks.ensures.frame.others

pub returns-clause-every : goal.returns-clause-every
returns-clause-every g c = λ map was next image told holds makes leaves.
    let has = c.in_ok-change_blocks.ensures.landed map was next told holds makes in
    let told_then : IsTrue (g.D.Disk.tells c.change_blocks.new.blocks.device) = subst IsTrue (sym c.change_blocks.ensures.works.is_later.tells) told in
    on-the-way-map g.D.Disk.held c.change_blocks.new.blocks c.move_low.new.blocks c.args.blocks.now.label c.args.low was map c.change_blocks.ensures.frame.label.same has (c.move_low.ensures.kept has.now has.later told_then has.holds) image leaves

pub returns-clause-whole : goal.returns-clause-whole
returns-clause-whole g c = λ map was next told holds makes.
    let has = c.in_ok-change_blocks.ensures.landed map was next told holds makes in
    let told_then : IsTrue (g.D.Disk.tells c.change_blocks.new.blocks.device) = subst IsTrue (sym c.change_blocks.ensures.works.is_later.tells) told in
    on_ok_weaker c.move_low.result
    (λ ok. map-lowered g.D.Disk.held c.change_blocks.new.blocks c.move_low.new.blocks map (ap (λ (l : Label). l.files) ok.0) has (c.move_low.ensures.holds has.now has.later told_then has.holds))
    c.move_low.ensures.label

pub returns-clause-label : goal.returns-clause-label
returns-clause-label g c = both-ok c.move_low.result
    (λ ok rests. (
      ok.0 ∙ ap (λ (l : Label). with_low l c.args.low) c.change_blocks.ensures.frame.label.same,
      ok.1,
      record {
        calm = subst IsCalm (sym c.move_low.ensures.frame.cache) c.in_ok-change_blocks.ensures.settles.calm;
        rests = λ told. then-rests c.args.blocks.now.label c.change_blocks.new.blocks.label (g.D.Disk.held c.args.blocks.now.device) (g.D.Disk.held c.change_blocks.new.blocks.device) (g.D.Disk.held c.move_low.new.blocks.device) c.change_blocks.ensures.frame.label.same
            (c.in_ok-change_blocks.ensures.settles.rests told) (rests (subst IsTrue (sym c.change_blocks.ensures.works.is_later.tells) told));
      },
    ))
    c.move_low.ensures.label (λ told. c.move_low.ensures.rests told)

pub returns-clause-others : goal.returns-clause-others
returns-clause-others g c = λ told q other each.
    c.move_low.ensures.frame.others (subst IsTrue (sym c.change_blocks.ensures.works.is_later.tells) told) q other ∙ c.change_blocks.ensures.frame.others told q other each

pub returns-clause-shows : goal.returns-clause-shows
returns-clause-shows g c = λ told.
    let label : IsLabel c.args.blocks.now.label = subst IsLabel c.change_blocks.ensures.frame.label.same c.change_blocks.ensures.frame.valid.label in
    ok-of c.move_low.result
    (row-lowered c.args.blocks.now.label.files c.args.row.items (g.D.Disk.held c.args.blocks.now.device) (g.D.Disk.held c.change_blocks.new.blocks.device) (g.D.Disk.held c.move_low.new.blocks.device)
    (c.move_low.ensures.frame.others (subst IsTrue (sym c.change_blocks.ensures.works.is_later.tells) told))
    (λ file some same. let small = label_small c.args.blocks.now.label file label some in absurd (omega (arith, small.0, same)))
    c.requires.row (c.in_ok-change_blocks.ensures.shows told))
