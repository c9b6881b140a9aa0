use Rattle.rollforward.proofs.VolumeReads.{failed-at}
use Rattle.volume_recovery.specs.VolumeNode.{dump_device}
use Rattle.rollforward.proofs.newest.dump_label_at.Goals as goal

pub returns-clause-cause : goal.returns-clause-cause
returns-clause-cause g c = failed-at g.D.Disk.faults c.args.bay.now (dump_device c.args.volume) c.device.result.now c.read_dump_label.new.device c.device.ensures.value c.read_dump_label.result c.read_dump_label.ensures.cause
