use Rattle.std.specs.Prelude.{Err, IfErr, slice_get}
use Rattle.std.proofs.Common.{◌≡◌, ◌-◌, ◌∙◌, ap, arith, refl, rules, subst, sym}
use Rattle.std.proofs.lemmas.Result.{err_from_is_err_and}
use Rattle.volume_recovery.specs.VolumeLoop.{HasFailed, TellsTrail}
use Rattle.volume_recovery.proofs.VolumeBay.{failed-after, read-held, read-tell, reads-then}
use Rattle.volume_recovery.proofs.VolumeLeaving.{number-few}
use Rattle.volume_recovery.proofs.VolumeRefusing.{plain-trail}
use Rattle.volume_recovery.proofs.volumes.recovery.read_changes.Goals as goal

pub returns-in_err-lows-clause-refused : goal.returns-in_err-lows-clause-refused
returns-in_err-lows-clause-refused g c = λ images tell held monitor.
    let p = err_from_is_err_and c.from_residual.result c.from_residual.ensures.1 in
    subst (λ r. IfErr r (TellsTrail c.args.config.now images)) (sym (p.1 ∙ ap (λ e. Err e) p.2))
    (plain-trail c.args.config.now images c.in_err-lows.field-0.0 c.in_err-lows.ensures.plain)

pub returns-in_err-take_trails-clause-refused : goal.returns-in_err-take_trails-clause-refused
returns-in_err-take_trails-clause-refused g c = λ images tell held monitor.
    let p = err_from_is_err_and c.from_residual-in_err-take_trails.result c.from_residual-in_err-take_trails.ensures.1 in
    subst (λ r. IfErr r (TellsTrail c.args.config.now images)) (sym (p.1 ∙ ap (λ e. Err e) p.2))
    (c.in_err-take_trails.ensures.refused images _ (read-tell g.D.Disk c.args.config.now c.args.bay.now c.read_lows.new.bay c.read_lows.ensures.reads tell)
    (read-held g.D.Disk c.args.config.now c.args.bay.now c.read_lows.new.bay images c.read_lows.ensures.reads held) monitor)

pub returns-in_err-take_trails-clause-reads : goal.returns-in_err-take_trails-clause-reads
returns-in_err-take_trails-clause-reads g c =
    reads-then g.D.Disk c.args.config.now g.met.D.Disk.same_on c.args.bay.now c.read_lows.new.bay c.take_trails.new.bay c.read_lows.ensures.reads c.take_trails.ensures.reads

pub returns-clause-reads : goal.returns-clause-reads
returns-clause-reads g c =
    reads-then g.D.Disk c.args.config.now g.met.D.Disk.same_on c.args.bay.now c.read_lows.new.bay c.take_trails.new.bay c.read_lows.ensures.reads c.take_trails.ensures.reads

pub returns-in_err-take_trails-clause-cause : goal.returns-in_err-take_trails-clause-cause
returns-in_err-take_trails-clause-cause g c =
    let p = err_from_is_err_and c.from_residual-in_err-take_trails.result c.from_residual-in_err-take_trails.ensures.1 in
    subst (λ r. IfErr r (HasFailed g.D.Disk.faults c.args.config.now c.args.bay.now c.take_trails.new.bay)) (sym (p.1 ∙ ap (λ e. Err e) p.2))
    (failed-after g.D.Disk.faults c.args.config.now c.args.bay.now c.read_lows.new.bay c.take_trails.new.bay c.in_err-take_trails.field-0.0 c.read_lows.ensures.reads.keeps.later c.take_trails.ensures.reads.keeps.later c.in_err-take_trails.ensures.cause)

pub returns-clause-found : goal.returns-clause-found
returns-clause-found g c = λ images audit tell held trails volume line number low was spells.
    let config = c.args.config.now in
    c.in_ok-take_trails.ensures.taken images c.args.records.now audit
    (read-tell g.D.Disk config c.args.bay.now c.read_lows.new.bay c.read_lows.ensures.reads tell)
    (read-held g.D.Disk config c.args.bay.now c.read_lows.new.bay images c.read_lows.ensures.reads held) trails c.in_ok-committed.ensures.ok volume low line number
    (c.in_ok-changes.ensures.none volume low c.args.records.now number.0
    (ap (λ xs. slice_get xs (volume - 1)) c.deref.ensures.value ∙ c.in_ok-lows.ensures.lows images tell held volume low line was number (number-few config.volumes volume line number) spells))

pub returns-clause-told : goal.returns-clause-told
returns-clause-told g c = λ images tell held.
    c.in_ok-take_trails.ensures.told images
    (read-tell g.D.Disk c.args.config.now c.args.bay.now c.read_lows.new.bay c.read_lows.ensures.reads tell)
    (read-held g.D.Disk c.args.config.now c.args.bay.now c.read_lows.new.bay images c.read_lows.ensures.reads held)
