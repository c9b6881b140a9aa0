use Rattle.std.proofs.Common.{sym, ap, ◌∙◌}
use Rattle.trail_files.specs.Damaged.{is_count}
use Rattle.trail_files.proofs.batch.head_damage.Goals as goal

pub returns-then-is_plain : goal.returns-then-is_plain
returns-then-is_plain c =
    sym (c.is_plain.ensures c.args.most c.args.file c.if-is_plain.true (ap (is_count c.args.most c.args.file) (sym c.written_count.ensures) ∙ sym c.may_count-counts.ensures ∙ c.if-counts.true))
