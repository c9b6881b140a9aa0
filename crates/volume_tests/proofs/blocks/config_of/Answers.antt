use Rattle.std.proofs.Common.{rules, sym, subst}
use Rattle.tmf_model.specs.Config.{HasValidFiles}
use Rattle.volume_tests.proofs.Examples.{example_volumes, example-valid}
use Rattle.volume_tests.proofs.blocks.config_of.Goals as goal

pub returns-clause-valid : goal.returns-clause-valid
returns-clause-valid c =
    example-valid c.new-3.result c.new-4.result c.new-5.result
    (search (rules, c.new-3.ensures, c.in_ok-vec.ensures.items, c.in-Ok.ensures.ok))
    (search (rules, c.new-4.ensures, c.in_ok-volumes.ensures.items, c.in-Ok-new.ensures.ok))
    (subst (HasValidFiles example_volumes) (sym c.new-5.ensures) c.requires.files)
