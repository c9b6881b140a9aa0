use Rattle.std.proofs.Common.{arith}
use Rattle.run_opening.proofs.Openings.{monitor_fit, monitor_unfit}
use Rattle.run_opening.proofs.Refusals.{tells_more}
use Rattle.run_opening.proofs.opening.keep_monitor.Goals as goal

pub returns-in-Ok-clause-judged : goal.returns-in-Ok-clause-judged
returns-in-Ok-clause-judged g c = λ named devices at tell.
    monitor_fit g.D.Disk c.args.run.config.now devices c.args.run.epoch named c.args.device c.in-Ok.kept at (tell 0 c.args.device (omega arith) at) c.in-Ok.ensures.kept

pub returns-in-Err-clause-judged : goal.returns-in-Err-clause-judged
returns-in-Err-clause-judged g c = λ named devices at tell.
    tells_more 0 _ _ c.in-Err.refused.1 (λ damage unfit. monitor_unfit g.D.Disk c.args.run.config.now devices c.args.run.epoch named c.args.device damage at unfit) (c.in-Err.ensures.damage (tell 0 c.args.device (omega arith) at))
