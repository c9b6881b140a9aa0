use Rattle.std.proofs.Common.{rules}
use Rattle.volume_restore.proofs.TestVolume.{test-valid}
use Rattle.recovery_tests.proofs.fills.config.Goals as goal

pub returns-clause-valid : goal.returns-clause-valid
returns-clause-valid c =
    test-valid c.new-5.result c.new-6.result c.new-7.result
    (search (rules, c.new-5.ensures, c.in_ok-vec.ensures.items, c.in-Ok-Ok.ensures.ok))
    (search (rules, c.new-6.ensures, c.in_ok-volumes.ensures.items, c.in-Ok-Ok.ensures'.ok))
    (search (rules, c.new-7.ensures, c.in_ok-files.ensures.items, c.in-Ok-Ok-2.ensures.ok, c.in-Ok-Ok-2.ensures'.ok))
