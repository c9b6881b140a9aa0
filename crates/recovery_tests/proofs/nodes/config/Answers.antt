use Rattle.std.proofs.Common.{rules}
use Rattle.volume_recovery.proofs.Examples.{example-valid}
use Rattle.recovery_tests.proofs.nodes.config.Goals as goal

pub returns-clause-valid : goal.returns-clause-valid
returns-clause-valid c =
    example-valid c.new-7.result c.new-8.result c.new-9.result
    (search (rules, c.new-7.ensures, c.in_ok-vec.ensures.items, c.in-Ok-Ok.ensures.ok, c.in-Ok-Ok.ensures'.ok))
    (search (rules, c.new-8.ensures, c.in_ok-volumes.ensures.items, c.in-Ok-Ok-2.ensures.ok, c.in-Ok-Ok-2.ensures'.ok))
    (search (rules, c.new-9.ensures, c.in_ok-files.ensures.items, c.in-Ok-Ok-3.ensures.ok, c.in-Ok-Ok-3.ensures'.ok))
