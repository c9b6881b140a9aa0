use Rattle.std.proofs.Common.{rules, sym, ◌∙◌}
use Rattle.tmf_lines.proofs.Reports.{lines-begin, lines-end, lines-none}
use Rattle.tmf_lines.proofs.report.recorded_lines.Goals as goal

pub loop-item-init : goal.loop-item-init
loop-item-init c = record {
  place = search rules;
  lines = lines-begin c.args.printed c.min-skipped.result c.args.records.now c.split_at.result.1.now c.new-lines.result.items c.min-skipped.ensures c.split_at.ensures.back c.new-lines.ensures.items;
}

pub returns : goal.returns
returns c =
    lines-end c.args.printed c.min-skipped.result c.args.records.now c.loop-item.lines.items c.min-skipped.ensures
    (sym (lines-none c.loop-item.place c.loop-item.rest.now c.loop-item.lines.items c.in_default.ensures.cases) ∙ c.loop-item.invariant.lines)
