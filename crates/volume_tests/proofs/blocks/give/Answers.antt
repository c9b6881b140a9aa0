use Rattle.std.proofs.Common.{ap}
use Rattle.keyed_file.specs.declared.label.Label.{Label}
use Rattle.volume_tests.proofs.Named.{named-later}
use Rattle.volume_tests.proofs.blocks.give.Goals as goal

pub change_block-requires-clause-named : goal.change_block-requires-clause-named
change_block-requires-clause-named c = λ told.
    named-later _ _ c.args.blocks.now.label.files c.change_of.new.blocks.label.files c.in_ok-change.change c.change_of.ensures.reads.same (ap (λ (l : Label). l.files) c.change_of.ensures.reads.label.same) (c.in_ok-change.ensures.named told)
