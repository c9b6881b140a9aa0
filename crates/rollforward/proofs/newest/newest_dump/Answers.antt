use Rattle.std.proofs.Common.{subst}
use Rattle.disk_model.proofs.Devices.{held-as, tell-then}
use Rattle.rollforward.specs.Newest.{IsOfVolume, TellsState}
use Rattle.volume_recovery.specs.VolumeNode.{volume_device}
use Rattle.rollforward.proofs.VolumeReads.{answer-failed, reads-then}
use Rattle.rollforward.proofs.newest.newest_dump.Goals as goal

pub returns-then-is_spelled-clause-told : goal.returns-then-is_spelled-clause-told
returns-then-is_spelled-clause-told g c = λ images tell held. subst (TellsState c.args.config.now c.args.volume (images (volume_device c.args.volume))) (c.is_spelled.ensures.yes c.if-is_spelled.true) (c.in_ok-state.ensures.told images tell held)

pub returns-clause-told : goal.returns-clause-told
returns-clause-told g c = λ images tell held.
    c.answer.ensures.told c.args.config.now images (c.in_ok-state.ensures.told images tell held)
    (c.dump_label_at-found.ensures.told images (tell-then g.D.Disk.tells c.args.bay.now c.label_at.new.bay c.label_at.ensures.reads.keeps.tells tell)
    (held-as g.D.Disk.held c.args.bay.now c.label_at.new.bay images c.label_at.ensures.reads.same held))

pub returns-clause-reads : goal.returns-clause-reads
returns-clause-reads g c = reads-then g.D.Disk (IsOfVolume c.args.volume) g.met.D.Disk.same_on c.args.bay.now c.label_at.new.bay c.dump_label_at-found.new.bay c.label_at.ensures.reads c.dump_label_at-found.ensures.reads

pub returns-clause-cause : goal.returns-clause-cause
returns-clause-cause g c =
    answer-failed g.D.Disk.faults c.args.volume c.args.bay.now c.label_at.new.bay c.dump_label_at-found.new.bay c.answer.result c.dump_label_at-found.result
    c.label_at.ensures.reads.keeps.later c.dump_label_at-found.ensures.reads.keeps.later c.answer.ensures.cause c.dump_label_at-found.ensures.cause
