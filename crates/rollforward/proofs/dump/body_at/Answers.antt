use Rattle.std.specs.Prelude.{slice_set}
use Rattle.std.proofs.Common.{inr, ℕ, refl, sym, subst}
use Rattle.disk_model.specs.Held.{Held}
use Rattle.disk_model.proofs.Devices.{rose-set}
use Rattle.volume_recovery.specs.VolumeNode.{dump_device}
use Rattle.rollforward.specs.Body.{AreSpelledIn, TellsRow}
use Rattle.rollforward.specs.Newest.{HasFailedOn, IsOfVolume}
use Rattle.rollforward.specs.Reading.{TellsBody}
use Rattle.rollforward.proofs.RollErrors.{body-error, error-failed}
use Rattle.rollforward.proofs.VolumeReads.{reads-at}
use Rattle.rollforward.proofs.dump.body_at.Goals as goal

pub returns-in-Ok-clause-told : goal.returns-in-Ok-clause-told
returns-in-Ok-clause-told g c = λ images tell held.
    let n : ℕ = dump_device c.args.volume in
    subst (λ (h : Held). AreSpelledIn c.args.homes.now (h c.args.body) c.in-Ok.blocks.items) (held n c.device.result.now c.device.ensures.value) (c.in-Ok.ensures.spelled (tell n c.device.result.now c.device.ensures.value))

pub returns-in-Ok-clause-reads : goal.returns-in-Ok-clause-reads
returns-in-Ok-clause-reads g c =
    let keeps = c.read_body.ensures.keeps in
    reads-at g.D.Disk (IsOfVolume c.args.volume) g.met.D.Disk.same_itself c.args.bay.now (dump_device c.args.volume) c.device.result.now c.read_body.new.device c.device.ensures.value (inr refl) c.read_body.ensures.same keeps.device keeps.tells keeps.later

pub returns-in-Err-clause-told : goal.returns-in-Err-clause-told
returns-in-Err-clause-told g c = λ images tell held.
    let n : ℕ = dump_device c.args.volume in
    subst (TellsBody c.args.volume c.args.body c.args.homes.now (images n)) (sym c.at_device.ensures)
    (body-error c.args.volume c.args.body c.args.homes.now (images n) c.in-Err.fault
    (subst (λ (h : Held). TellsRow c.args.body c.args.homes.now (h c.args.body) c.in-Err.fault) (held n c.device.result.now c.device.ensures.value) (c.in-Err.ensures.fault (tell n c.device.result.now c.device.ensures.value))))

pub returns-in-Err-clause-reads : goal.returns-in-Err-clause-reads
returns-in-Err-clause-reads g c =
    let keeps = c.read_body.ensures.keeps in
    reads-at g.D.Disk (IsOfVolume c.args.volume) g.met.D.Disk.same_itself c.args.bay.now (dump_device c.args.volume) c.device.result.now c.read_body.new.device c.device.ensures.value (inr refl) c.read_body.ensures.same keeps.device keeps.tells keeps.later

pub returns-in-Err-clause-cause : goal.returns-in-Err-clause-cause
returns-in-Err-clause-cause g c =
    let n : ℕ = dump_device c.args.volume in
    subst (HasFailedOn g.D.Disk.faults (IsOfVolume c.args.volume) c.args.bay.now (slice_set c.args.bay.now n c.read_body.new.device)) (sym c.at_device.ensures)
    (error-failed g.D.Disk.faults (IsOfVolume c.args.volume) c.args.bay.now (slice_set c.args.bay.now n c.read_body.new.device) n c.in-Err.fault (inr refl)
    (λ failed. rose-set g.D.Disk.faults c.args.bay.now n c.device.result.now c.read_body.new.device c.device.ensures.value (c.in-Err.ensures.cause failed)))
