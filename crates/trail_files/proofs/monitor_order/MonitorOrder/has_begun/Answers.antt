use Rattle.std.specs.Prelude.{is_some}
use Rattle.std.proofs.Common.{ap, ◌∙◌}
use Rattle.trail_files.proofs.MonitorStanding.{has_epoch}
use Rattle.trail_files.proofs.monitor_order.MonitorOrder.has_begun.Goals as goal

pub returns : goal.returns
returns c = λ before stands. c.is_some.ensures ∙ ap (λ o. is_some o) stands.epoch ∙ has_epoch before stands.in_order
