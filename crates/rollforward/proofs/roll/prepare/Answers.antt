use Rattle.std.proofs.Common.{inl, subst}
use Rattle.std.proofs.lemmas.Result.{err_from_is_err_and}
use Rattle.disk_model.proofs.Devices.{held-as, tell-then}
use Rattle.trail_replay.specs.declared.replay.FoundFiles.{FoundFiles}
use Rattle.rollforward.specs.Newest.{IsOfVolume}
use Rattle.rollforward.specs.Reading.{dump_of}
use Rattle.rollforward.specs.Rolled.{AreRolled, TellsRolled}
use Rattle.rollforward.specs.Rolls.{IsRollDevice}
use Rattle.rollforward.proofs.RollFrames.{dump-roll, full-roll, reads-wider, trail-roll}
use Rattle.rollforward.proofs.Rollings.{overfull, rolls}
use Rattle.rollforward.proofs.VolumeReads.{failed-after, reads-then}
use Rattle.rollforward.proofs.roll.prepare.Goals as goal

pub returns-in_err-dump-clause-told : goal.returns-in_err-dump-clause-told
returns-in_err-dump-clause-told g c = λ images tell held.
    let p = err_from_is_err_and c.from_residual.result c.from_residual.ensures.1 in
    rw (p.1, p.2) (dump-roll c.args.config.now c.args.volume images c.in_err-dump.field-0.0 (c.in_err-dump.ensures.told images tell held))

pub returns-in_err-changes-clause-told : goal.returns-in_err-changes-clause-told
returns-in_err-changes-clause-told g c = λ images tell held.
    let dump = c.in_ok-dump.dump in
    let p = err_from_is_err_and c.from_residual-in_err-changes.result c.from_residual-in_err-changes.ensures.1 in
    rw (p.1, p.2)
    (trail-roll c.args.config.now c.args.volume images (dump_of c.args.config.now c.args.volume dump.start dump.blocks.items) c.in_err-changes.field-0.0 (c.in_ok-dump.ensures.told images tell held)
    (c.in_err-changes.ensures.told images (tell-then g.D.Disk.tells c.args.bay.now c.read_dump.new.bay c.read_dump.ensures.reads.keeps.tells tell) (held-as g.D.Disk.held c.args.bay.now c.read_dump.new.bay images c.read_dump.ensures.reads.same held)))

pub returns-in_err-changes-clause-reads : goal.returns-in_err-changes-clause-reads
returns-in_err-changes-clause-reads g c =
    let Is = IsRollDevice c.args.config.now c.args.volume in
    reads-then g.D.Disk Is g.met.D.Disk.same_on c.args.bay.now c.read_dump.new.bay c.read_audit.new.bay
    (reads-wider g.D.Disk (IsOfVolume c.args.volume) Is c.args.bay.now c.read_dump.new.bay (λ n is. inl is) c.read_dump.ensures.reads) c.read_audit.ensures.reads

pub returns-in_err-changes-clause-cause : goal.returns-in_err-changes-clause-cause
returns-in_err-changes-clause-cause g c =
    let p = err_from_is_err_and c.from_residual-in_err-changes.result c.from_residual-in_err-changes.ensures.1 in
    rw (p.1, p.2)
    (failed-after g.D.Disk.faults (IsRollDevice c.args.config.now c.args.volume) c.args.bay.now c.read_dump.new.bay c.read_audit.new.bay c.in_err-changes.field-0.0 c.read_dump.ensures.reads.keeps.later c.read_audit.ensures.reads.keeps.later
    c.in_err-changes.ensures.cause)

pub returns-in_err-records-clause-told : goal.returns-in_err-records-clause-told
returns-in_err-records-clause-told g c = λ images tell held.
    let config = c.args.config.now in
    let volume = c.args.volume in
    let dump = c.in_ok-dump.dump in
    let changes = c.in_ok-changes.changes in
    let dumped = c.in_ok-dump.ensures.told images tell held in
    let found = c.in_ok-changes.ensures.told images (tell-then g.D.Disk.tells c.args.bay.now c.read_dump.new.bay c.read_dump.ensures.reads.keeps.tells tell) (held-as g.D.Disk.held c.args.bay.now c.read_dump.new.bay images c.read_dump.ensures.reads.same held) in
    let p = err_from_is_err_and c.from_residual-in_err-records.result c.from_residual-in_err-records.ensures.1 in
    rw (p.1, p.2)
    (full-roll config volume images dump.homes.items dump.blocks.items changes.files (dump_of config volume dump.start dump.blocks.items) found.0 found.2.0 c.in_err-records.field-0.0 (record { dumped = dumped; listed = found.1; audited = found.2.1 })
    (overfull config volume c.requires.valid.0 c.requires.valid.1 dump c.in_ok-dump.ensures.placed images dumped changes found.0 found.2.0 found.2.2 c.in_ok-changes.ensures.fits.files)
    (subst (λ (fs : FoundFiles). TellsRolled volume dump.homes.items dump.blocks.items fs c.in_err-records.field-0.0) c.files.ensures c.in_err-records.ensures.full))

pub returns-clause-told : goal.returns-clause-told
returns-clause-told g c = λ images tell held.
    let dump = c.in_ok-dump.dump in
    let dumped = c.in_ok-dump.ensures.told images tell held in
    let found = c.in_ok-changes.ensures.told images (tell-then g.D.Disk.tells c.args.bay.now c.read_dump.new.bay c.read_dump.ensures.reads.keeps.tells tell) (held-as g.D.Disk.held c.args.bay.now c.read_dump.new.bay images c.read_dump.ensures.reads.same held) in
    rolls c.args.config.now c.args.volume c.requires.valid.0 c.requires.valid.1 dump c.in_ok-dump.ensures.placed images dumped c.in_ok-changes.changes found.0 found.2.0 found.2.2
    c.in_ok-records.records.items c.next_of.ensures.0 c.next_of.result (subst (λ (fs : FoundFiles). AreRolled dump.homes.items dump.blocks.items fs c.in_ok-records.records.items) c.files.ensures c.in_ok-records.ensures.rolled)
    c.next_of.ensures.1 found.1 found.2.1

pub returns-clause-reads : goal.returns-clause-reads
returns-clause-reads g c =
    let Is = IsRollDevice c.args.config.now c.args.volume in
    reads-then g.D.Disk Is g.met.D.Disk.same_on c.args.bay.now c.read_dump.new.bay c.read_audit.new.bay
    (reads-wider g.D.Disk (IsOfVolume c.args.volume) Is c.args.bay.now c.read_dump.new.bay (λ n is. inl is) c.read_dump.ensures.reads) c.read_audit.ensures.reads
