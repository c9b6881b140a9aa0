use Rattle.std.proofs.Common.{◌+◌, ◌*◌, None, Some, refl, sym, ap, subst, ◌∙◌, arith}
use Rattle.online_dump.proofs.LabelBytes.{slot_bad}
use Rattle.online_dump.specs.Found.{TellsSlot}
use Rattle.online_dump.proofs.sealed.sealed_in.Goals as goal

pub returns-in-Ok-clause-fine : goal.returns-in-Ok-clause-fine
returns-in-Ok-clause-fine c = slot_bad c.args.volume c.args.bytes.now c.slot_named-slot.result (256 + 256 * c.from.result) None c.slot_named-slot.ensures.named (omega (arith, c.from.ensures)) c.in-Ok.ensures.fine

pub returns-in-Err-clause-fault : goal.returns-in-Err-clause-fault
returns-in-Err-clause-fault c =
    let bad = slot_bad c.args.volume c.args.bytes.now c.slot_named-slot.result (256 + 256 * c.from.result) (Some c.in-Err.bad.at) c.slot_named-slot.ensures.named (omega (arith, c.from.ensures)) c.in-Err.ensures.cause in
    subst (TellsSlot c.args.volume c.args.bytes.now) (sym c.damage.ensures) (refl, refl, bad ∙ ap Some (omega (arith, c.from-in-Err.ensures)))
