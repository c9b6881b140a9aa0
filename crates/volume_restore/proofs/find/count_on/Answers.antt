use Rattle.std.proofs.Common.{sym, ap, ◌∙◌}
use Rattle.volume_restore.proofs.Counting.{by-line, on-other, on-own, on_line}
use Rattle.volume_restore.proofs.find.count_on.Goals as goal

pub returns-then-line-volume : goal.returns-then-line-volume
returns-then-line-volume c =
    sym (by-line c.args.volume c.args.config.now.files c.args.file ∙ ap (on_line c.args.volume) (sym c.file.ensures ∙ c.in-Some.is) ∙ on-own c.args.volume c.in-Some.line c.if-line-volume.true)

pub returns-else-line-volume : goal.returns-else-line-volume
returns-else-line-volume c =
    sym (by-line c.args.volume c.args.config.now.files c.args.file ∙ ap (on_line c.args.volume) (sym c.file.ensures ∙ c.in-Some.is) ∙ on-other c.args.volume c.in-Some.line c.if-line-volume.false)

pub returns-in-None : goal.returns-in-None
returns-in-None c = sym (by-line c.args.volume c.args.config.now.files c.args.file ∙ ap (on_line c.args.volume) (sym c.file.ensures ∙ c.in-None.is))
