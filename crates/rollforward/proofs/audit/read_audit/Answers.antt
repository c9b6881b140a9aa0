use Rattle.std.proofs.Common.{inl, inr}
use Rattle.disk_model.proofs.Devices.{held-as, tell-then}
use Rattle.rollforward.specs.Newest.{HasFailedOn}
use Rattle.rollforward.specs.Reading.{HasAudit, IsFoundFrom, IsMonitor, IsTrailOf, TellsOwnTrail}
use Rattle.rollforward.specs.Rolls.{IsRollDevice, TellsTrail, trail_on}
use Rattle.rollforward.proofs.RollErrors.{if-err, match-as, own-trail}
use Rattle.rollforward.proofs.RollFrames.{failed-wider, reads-wider}
use Rattle.rollforward.proofs.VolumeReads.{failed-after, reads-then}
use Rattle.rollforward.proofs.audit.read_audit.Goals as goal

pub returns-clause-told : goal.returns-clause-told
returns-clause-told g c = λ images tell held.
    let config = c.args.config.now in
    let list = c.in_ok-commits.ensures.told images tell held in
    match-as c.changes_at.result (HasAudit config c.args.volume c.args.start list.0 (images (trail_on config c.args.volume))) (IsFoundFrom config c.args.volume c.args.start images)
    (TellsOwnTrail config c.args.volume (images (trail_on config c.args.volume))) (TellsTrail config c.args.volume images) (λ changes audit. (list.0, list.1, audit)) (λ e tells. own-trail config c.args.volume images list.0 e list.1 tells)
    (c.changes_at.ensures.told images list.0 (tell-then g.D.Disk.tells c.args.bay.now c.commits_at.new.bay c.commits_at.ensures.reads.keeps.tells tell)
    (held-as g.D.Disk.held c.args.bay.now c.commits_at.new.bay images c.commits_at.ensures.reads.same held) list.2)

pub returns-clause-reads : goal.returns-clause-reads
returns-clause-reads g c =
    let Is = IsRollDevice c.args.config.now c.args.volume in
    reads-then g.D.Disk Is g.met.D.Disk.same_on c.args.bay.now c.commits_at.new.bay c.changes_at.new.bay
    (reads-wider g.D.Disk IsMonitor Is c.args.bay.now c.commits_at.new.bay (λ n is. inr (inl is)) c.commits_at.ensures.reads)
    (reads-wider g.D.Disk (IsTrailOf c.args.config.now c.args.volume) Is c.commits_at.new.bay c.changes_at.new.bay (λ n is. inr (inr is)) c.changes_at.ensures.reads)

pub returns-clause-cause : goal.returns-clause-cause
returns-clause-cause g c =
    let Is = IsRollDevice c.args.config.now c.args.volume in
    if-err c.changes_at.result (HasFailedOn g.D.Disk.faults (IsTrailOf c.args.config.now c.args.volume) c.commits_at.new.bay c.changes_at.new.bay) (HasFailedOn g.D.Disk.faults Is c.args.bay.now c.changes_at.new.bay)
    (λ e failed. failed-after g.D.Disk.faults Is c.args.bay.now c.commits_at.new.bay c.changes_at.new.bay e c.commits_at.ensures.reads.keeps.later c.changes_at.ensures.reads.keeps.later
    (failed-wider g.D.Disk.faults (IsTrailOf c.args.config.now c.args.volume) Is c.commits_at.new.bay c.changes_at.new.bay e (λ n is. inr (inr is)) failed)) c.changes_at.ensures.cause
