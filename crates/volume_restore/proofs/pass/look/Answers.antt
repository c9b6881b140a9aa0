use Rattle.std.proofs.Common.{rules, ◌≡◌, ◌≢◌, Some, sym, subst}
use Rattle.std.proofs.lemmas.Option.{MatchOption-at_none, MatchOption-at_some}
use Rattle.block_cache.specs.Damage.{bad_selected}
use Rattle.block_cache.proofs.OnePieces.{spells-content}
use Rattle.volume_restore.specs.Pass.{IsChangedBlock, IsMadeAnew, TellsWrong}
use Rattle.volume_restore.specs.declared.fault.VolumeFault.{VolumeFault}
use Rattle.volume_restore.specs.declared.fault.VolumeFault.TheVariants.{Failed}
use Rattle.volume_restore.proofs.Seeing.{named-slot, overfull-of, restored-of, room-for, taken-works, taken-wrong}
use Rattle.volume_restore.proofs.pass.look.Goals as goal

pub returns-in-Err-clause-seen : goal.returns-in-Err-clause-seen
returns-in-Err-clause-seen c = λ files held are found_at.
    subst (TellsWrong c.args.home held) (sym c.fault_of_block.ensures) (taken-wrong c.args.home held c.args.bytes.now c.requires.number c.requires.blocks.below are c.in-Err.fault c.in-Err.ensures.bad)

pub returns-in-Err-clause-works : goal.returns-in-Err-clause-works
returns-in-Err-clause-works c = subst (λ (e : VolumeFault). e ≢ Failed) (sym c.fault_of_block.ensures) (taken-works c.args.home (bad_selected c.args.home c.args.bytes.now) c.in-Err.fault c.in-Err.ensures.bad)

pub returns-in-Ok-None-clause-seen : goal.returns-in-Ok-None-clause-seen
returns-in-Ok-None-clause-seen c = λ files held are found_at.
    let home = c.args.home in
    let was = c.take_block.new.block in
    let changes = c.args.changes.now in
    let made = MatchOption-at_none (IsChangedBlock home changes was was) (IsMadeAnew home changes c.args.position was) c.in-Ok-None.field-0-is c.in-Ok-None.ensures.made in (
      was,
      spells-content home held c.args.bytes.now c.requires.number c.requires.blocks.below are was c.in-Ok.ensures.spelled,
      (restored-of files home changes was found_at was made, room-for files home changes was found_at c.in-Ok-None.ensures.room),
    )

pub returns-in-Ok-Some-clause-seen : goal.returns-in-Ok-Some-clause-seen
returns-in-Ok-Some-clause-seen c = λ files held are found_at.
    let home = c.args.home in
    let was = c.take_block.new.block in
    let changes = c.args.changes.now in
    let content = c.in-Ok-Some.content in
    let at : c.in-Ok-Some.field-0 ≡ Some content = search rules in
    let anew = MatchOption-at_some (IsChangedBlock home changes was was) (IsMadeAnew home changes c.args.position was) content at c.in-Ok-Some.ensures.made in (
      was,
      spells-content home held c.args.bytes.now c.requires.number c.requires.blocks.below are was c.in-Ok.ensures.spelled,
      (
        restored-of files home changes was found_at content anew.made,
        anew.other,
        room-for files home changes was found_at c.in-Ok-Some.ensures.room,
        named-slot home held c.args.bytes.now c.requires.number c.requires.blocks.below are c.in-Ok.slot c.in-Ok.ensures.slot.0,
      ),
    )

pub returns-in-Err-Full-clause-seen : goal.returns-in-Err-Full-clause-seen
returns-in-Err-Full-clause-seen c = λ files held are found_at.
    let home = c.args.home in
    let was = c.take_block.new.block in (
      was,
      spells-content home held c.args.bytes.now c.requires.number c.requires.blocks.below are was c.in-Ok.ensures.spelled,
      overfull-of files home c.args.changes.now was found_at (c.in-Err-Full.ensures.full c.in-Err-Full.field-0-is),
    )
