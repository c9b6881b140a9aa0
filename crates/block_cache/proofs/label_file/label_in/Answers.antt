use Rattle.std.proofs.Common.{◌+◌, ◌-◌, ◌*◌, take, drop, None, Some, refl, sym, ap, subst, ◌∙◌, arith}
use Rattle.keyed_file.specs.Fault.{IsLabelFault}
use Rattle.keyed_file.specs.LabelFormat.{bad_label_at}
use Rattle.block_cache.proofs.LabelReads.{slot_bad}
use Rattle.block_cache.specs.LabelDamage.{TellsLabel}
use Rattle.block_cache.proofs.label_file.label_in.Goals as goal

pub returns-in-Err-NoMemory-clause-fault : goal.returns-in-Err-NoMemory-clause-fault
returns-in-Err-NoMemory-clause-fault c = tt

pub returns-in-Err-Bad-clause-fault : goal.returns-in-Err-Bad-clause-fault
returns-in-Err-Bad-clause-fault c =
    let cause = subst (IsLabelFault (bad_label_at c.args.wanted.now (take (256 + 256 * c.from.result + 256 - (256 + 256 * c.from.result)) (drop (256 + 256 * c.from.result) c.args.bytes.now)))) c.in-Err-Bad.field-0-is c.in-Err-Bad.ensures.cause in
    let bad = slot_bad c.args.wanted.now c.args.bytes.now c.slot_named-slot.result (256 + 256 * c.from.result) (Some c.in-Err-Bad.bad.at) c.slot_named-slot.ensures.named (omega (arith, c.from.ensures)) cause in
    subst (TellsLabel c.args.wanted.now c.args.bytes.now) (sym c.damage.ensures) (refl, refl, bad ∙ ap Some (omega (arith, c.from-in-Err-Bad.ensures)))

pub returns-in-Ok-clause-fine : goal.returns-in-Ok-clause-fine
returns-in-Ok-clause-fine c = slot_bad c.args.wanted.now c.args.bytes.now c.slot_named-slot.result (256 + 256 * c.from.result) None c.slot_named-slot.ensures.named (omega (arith, c.from.ensures)) c.in-Ok.ensures.fine
