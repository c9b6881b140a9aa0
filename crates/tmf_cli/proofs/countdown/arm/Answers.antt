use Rattle.std.proofs.Common.{true}
use Rattle.tmf_cli.proofs.Countdowns.{set-on, set-switches}
use Rattle.tmf_cli.proofs.countdown.arm.Goals as goal

pub returns-in-Some-clause-switches : goal.returns-in-Some-clause-switches
returns-in-Some-clause-switches g c = set-switches true c.args.bay.now c.arm.new.self c.arm.ensures.each

pub returns-in-Some-clause-armed : goal.returns-in-Some-clause-armed
returns-in-Some-clause-armed g c = λ some. set-on c.args.bay.now c.arm.new.self c.arm.ensures.each
