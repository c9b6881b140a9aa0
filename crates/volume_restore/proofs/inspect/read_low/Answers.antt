use Rattle.std.proofs.Common.{rules, ◌≡◌, ◌≢◌, ℕ, sym, ap, subst, ◌∙◌}
use Rattle.std.specs.Prelude.{IfErr, None, Some}
use Rattle.disk_model.specs.Held.{Held, IsThere}
use Rattle.keyed_file.specs.declared.label.Label.{Label}
use Rattle.keyed_file.specs.Volume.{SpellsLabel, label_of}
use Rattle.block_cache.specs.LabelDamage.{IsFineLabel}
use Rattle.block_cache.specs.declared.fault.AttachFault.TheVariants.{Failed, NoMemory}
use Rattle.volume_restore.specs.Inspected.{LowCause}
use Rattle.volume_restore.proofs.Inspections.{if-ok, not-damaged}
use Rattle.volume_restore.proofs.inspect.read_low.Goals as goal

pub returns-in-Err-clause-low : goal.returns-in-Err-clause-low
returns-in-Err-clause-low g c = λ was low told spells.
    let held : Held = g.E.Disk.held c.args.device.now in
    let fault = c.in-Err.refused.1 in
    if-ok c.low_of_fault-low.result (λ o. (o ≡ None) × (fault ≢ Failed) × (fault ≢ NoMemory)) (λ o. o ≡ Some low)
    (λ o none. absurd (not-damaged c.args.config.now c.args.volume held fault (c.spelled_volume_law.ensures.fine c.args.config.now c.args.volume low held was spells).label (c.in-Err.ensures.fault told) none.1 none.2)) c.low_of_fault-low.ensures.none

pub returns-in-Err-clause-cause : goal.returns-in-Err-clause-cause
returns-in-Err-clause-cause g c =
    let e : c.device-1.given.0 ≡ c.in-Err.refused.0.now = search rules in
    subst (λ d. IfErr c.low_of_fault-low.result (LowCause (g.E.Disk.faults c.args.device.now) (g.E.Disk.faults d))) (sym e) (c.low_of_fault-low.ensures.cause _ _ c.in-Err.ensures.cause)

pub returns-in-Ok-clause-told : goal.returns-in-Ok-clause-told
returns-in-Ok-clause-told g c = λ told.
    let wanted : Label = label_of c.args.config.now c.args.volume 1 in
    let stands = c.in-Ok.ensures.stands told in
    let same = c.in-Ok.ensures.same in
    let label : c.in-Ok.blocks.label ≡ label_of c.args.config.now c.args.volume c.low-position.result =
    c.in-Ok.ensures.opened.label ∙ ap (λ (n : ℕ). label_of c.args.config.now c.args.volume n) (sym c.low-position.ensures) in (
      subst (IsFineLabel wanted) same stands.fine,
      subst (λ (h : Held). IsThere h 1 (λ f. SpellsLabel (label_of c.args.config.now c.args.volume c.low-position.result) f.bytes)) same
          (stands.spelled.0, stands.spelled.1, subst (λ (l : Label). SpellsLabel l stands.spelled.0.bytes) label stands.spelled.2),
    )
