use Rattle.std.proofs.Common.{None, Some, refl, sym, ap, subst, ◌∙◌, arith}
use Rattle.rollforward.specs.DumpLabels.{TellsDumpSlot}
use Rattle.rollforward.proofs.LabelReads.{slot_bad, slot_spelled}
use Rattle.rollforward.proofs.dump_label.label_in.Goals as goal

pub returns-in-Ok-clause-spelled : goal.returns-in-Ok-clause-spelled
returns-in-Ok-clause-spelled c = slot_spelled c.args.bytes.now _ c.slot_start-from.result _ c.requires c.slot_start-from.ensures.within c.slot_start-from.ensures.at c.in-Ok.ensures.spelled

pub returns-in-Ok-clause-fine : goal.returns-in-Ok-clause-fine
returns-in-Ok-clause-fine c = slot_bad c.args.volume c.args.bytes.now c.slot_start-from.result None c.slot_start-from.ensures.at c.in-Ok.ensures.fine

pub returns-in-Err-clause-fault : goal.returns-in-Err-clause-fault
returns-in-Err-clause-fault c =
    let bad = slot_bad c.args.volume c.args.bytes.now c.slot_start-from.result (Some c.in-Err.bad.at) c.slot_start-from.ensures.at c.in-Err.ensures.cause in
    subst (TellsDumpSlot c.args.volume c.args.bytes.now) (sym c.damage.ensures) (refl, refl, bad ∙ ap Some (omega (arith, c.from.ensures)))
