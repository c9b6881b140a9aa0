use Rattle.std.proofs.Common.{sym, subst, refl, ◌∙◌}
use Rattle.volume_restore.specs.Changed.{changed_values}
use Rattle.volume_restore.proofs.Gathering.{overfull_as, room_as, values_as}
use Rattle.rollforward.specs.Rolled.{TellsFullBlock}
use Rattle.rollforward.proofs.rolled.rolled_block.Goals as goal

pub returns-in-Ok-clause-values : goal.returns-in-Ok-clause-values
returns-in-Ok-clause-values c = λ files at found key were lives.
    c.in-Ok.ensures.content key lives ∙ values_as c.args.home.blocks c.args.home.number found c.args.changes.now c.args.block.now (at found were) key lives

pub returns-in-Ok-clause-room : goal.returns-in-Ok-clause-room
returns-in-Ok-clause-room c = λ files at found were.
    room_as c.args.home.blocks c.args.home.number (changed_values c.args.changes.now c.args.block.now) (changed_values found c.args.block.now)
    (values_as c.args.home.blocks c.args.home.number found c.args.changes.now c.args.block.now (at found were)) c.in-Ok.ensures.room

pub returns-in-Err-Full-clause-full : goal.returns-in-Err-Full-clause-full
returns-in-Err-Full-clause-full c = λ files at.
    subst (TellsFullBlock files c.args.home c.args.block.now) (sym c.full_block.ensures) (
      refl,
      λ found were.
          overfull_as c.args.home.blocks c.args.home.number (changed_values c.args.changes.now c.args.block.now) (changed_values found c.args.block.now)
          (values_as c.args.home.blocks c.args.home.number found c.args.changes.now c.args.block.now (at found were)) (c.in-Err-Full.ensures.full c.in-Err-Full.field-0-is),
    )
