use Rattle.std.proofs.Common.{inl, refl}
use Rattle.disk_model.proofs.Devices.{rose-set}
use Rattle.rollforward.proofs.VolumeReads.{reads-at, rose-of}
use Rattle.volume_recovery.specs.VolumeNode.{volume_device}
use Rattle.rollforward.specs.Newest.{IsOfVolume}
use Rattle.rollforward.proofs.newest.label_at.Goals as goal

pub returns-in-Err-Failed-clause-cause : goal.returns-in-Err-Failed-clause-cause
returns-in-Err-Failed-clause-cause g c =
    (inl refl, rose-set g.D.Disk.faults c.args.bay.now (volume_device c.args.volume) c.device.result.now c.label_state.new.device c.device.ensures.value (rose-of c.in-Err-Failed.field-0 _ c.in-Err-Failed.ensures.err c.in-Err-Failed.field-0-is))

pub returns-in-Err : goal.returns-in-Err
returns-in-Err g c =
    let keeps = c.label_state.ensures.keeps in
    record {
      told = λ images tell held. tt;
      plain = tt;
      reads = reads-at g.D.Disk (IsOfVolume c.args.volume) g.met.D.Disk.same_itself c.args.bay.now (volume_device c.args.volume) c.device.result.now c.label_state.new.device c.device.ensures.value (inl refl) c.label_state.ensures.same keeps.device keeps.tells keeps.later;
      cause = tt;
    }
