use Rattle.std.proofs.Common.{ap, sym, ◌∙◌}
use Rattle.trail_files.specs.MonitorOrder.{damage_if}
use Rattle.trail_files.proofs.monitor_order.MonitorOrder.damage_or.Goals as goal

pub returns-then-not-is_doubled : goal.returns-then-not-is_doubled
returns-then-not-is_doubled c = λ before stands place_is none.
    ap (λ d. damage_if d before c.args.bytes.now) (sym (c.is_doubled.ensures before stands) ∙ c.if-not-is_doubled.true) ∙ none

pub returns : goal.returns
returns c = λ before stands place_is none.
    ap (λ d. damage_if d before c.args.bytes.now) (sym (c.is_doubled.ensures before stands) ∙ c.if-not-is_doubled.false)
    ∙ sym (c.in-Some.ensures.told before stands place_is)
