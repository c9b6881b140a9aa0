use Rattle.std.proofs.Common.{◌∙◌}
use Rattle.node_machine.specs.declared.event.DiscEvent.TheVariants.{Write}
use Rattle.node_machine.specs.Parts.Fact.{Enlisted}
use Rattle.node_machine.proofs.Appending.{disc_may}
use Rattle.node_machine.proofs.sample.write.Goals as goal

pub append-requires : goal.append-requires
append-requires g c =
    disc_may g.J.Run.opening c.meet.new.a g.part (Write c.args.change.now c.args.op.now) (c.meet.ensures.first_learned.state ∙ c.requires.1.0.at) c.requires.1.0.may
    (c.meet.ensures.told (Enlisted c.args.change.now.tx g.part.number) c.requires.1.1)
