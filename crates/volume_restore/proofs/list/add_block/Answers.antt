use Rattle.std.proofs.Common.{◌≢◌, sym, subst}
use Rattle.block_cache.proofs.OnePieces.{spells-content}
use Rattle.block_cache.proofs.Shown.{shows-fine}
use Rattle.volume_restore.specs.Listed.{TellsFile}
use Rattle.volume_restore.specs.declared.list.ListFault.{ListFault}
use Rattle.volume_restore.specs.declared.list.ListFault.TheVariants.{Failed}
use Rattle.volume_restore.proofs.Adding.{taken_lists, taken_tells}
use Rattle.volume_restore.proofs.list.add_block.Goals as goal

pub returns-in-Err-clause-told : goal.returns-in-Err-clause-told
returns-in-Err-clause-told c = λ held are before.
    subst (TellsFile c.args.home.file c.args.home.blocks held) (sym c.of_block.ensures)
    (taken_tells c.args.home held c.args.bytes.now c.in-Err.fault c.requires.block c.requires.few.below are c.in-Err.ensures.bad before)

pub returns-in-Err-clause-works : goal.returns-in-Err-clause-works
returns-in-Err-clause-works c = subst (λ (e : ListFault). e ≢ Failed) (sym c.of_block.ensures) (taken_lists c.args.home c.args.bytes.now c.in-Err.fault c.in-Err.ensures.bad)

pub returns-in-Ok-add_records-clause-added : goal.returns-in-Ok-add_records-clause-added
returns-in-Ok-add_records-clause-added c = λ held are. (
  c.take_block.new.block,
  spells-content c.args.home held c.args.bytes.now c.requires.block c.requires.few.below are c.take_block.new.block c.in-Ok.ensures.spelled,
  c.in-Ok-add_records.ensures,
)

pub returns-in-Ok-add_records-clause-told : goal.returns-in-Ok-add_records-clause-told
returns-in-Ok-add_records-clause-told c = λ held are.
    shows-fine c.args.home c.take_block.new.block held c.requires.block (spells-content c.args.home held c.args.bytes.now c.requires.block c.requires.few.below are c.take_block.new.block c.in-Ok.ensures.spelled)
