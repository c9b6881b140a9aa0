use Rattle.std.proofs.Common.{◌≡◌, ◌+◌, ◌-◌, ◌∙◌, arith, inl, inr, refl, subst, sym, rules, ap}
use Rattle.std.specs.Prelude.{Err, IfErr, MatchResult, length}
use Rattle.std.proofs.lemmas.Result.{err_from_is_err_and}
use Rattle.disk_model.proofs.Devices.{tell-then}
use Rattle.tmf_model.specs.Config.{IsDeclared}
use Rattle.volume_recovery.specs.VolumeLoop.{AreTurnedDown, HasFailed, IsInspected}
use Rattle.volume_recovery.specs.VolumeNode.{volume_device}
use Rattle.volume_recovery.proofs.VolumeBay.{failed-after, same-unused, unused-then, writes-same, writes-then}
use Rattle.volume_recovery.proofs.VolumeInspecting.{turned-plain}
use Rattle.volume_recovery.proofs.VolumeLoops.{held-all, held-next, held-wide, holds-image, recovered-done, recovered-next, recovered-none, recovering-done, recovering-none, recovering-stopped, settled-done, settled-next, settled-none}
use Rattle.volume_recovery.proofs.VolumeRefusing.{fine-blocks, ready-plain, volume-used}
use Rattle.volume_restore.proofs.Restoring.{item-of}
use Rattle.volume_recovery.proofs.volumes.recovery.recover_volumes.Goals as goal

pub loop-volume-preserved : goal.loop-volume-preserved
loop-volume-preserved g c =
    let config = c.args.config.now in
    let from = c.loop-volume.volume in
    let volume = c.loop-volume.volume - 1 in
    let inv = c.loop-volume.invariant in
    let xs = c.loop-volume.bay in
    let ys = c.recover_at.new.bay in
    let next : from ≡ volume + 1 = omega (arith, inv.some) in
    record {
      done = λ images list audit tell held rest found.
          let now_tell = tell-then g.D.Disk.tells c.args.bay.now xs inv.writes.keeps.tells tell in
          recovered-next g.D.Disk.held config images list audit from volume xs ys next c.recover_at.ensures.others (inv.done images list audit tell held rest found)
          (λ line left number at. c.in_ok-recover_at.ensures.whole images left (audit line.trail) list now_tell
          (holds-image g.D.Disk.held config images from volume xs (omega (arith, next)) (inv.held images held)) (rest (volume_device volume)) (found volume line number) at);
      settled = λ images tell held rest.
          let now_tell = tell-then g.D.Disk.tells c.args.bay.now xs inv.writes.keeps.tells tell in
          settled-next g.D.Disk.held config images from volume xs ys next c.recover_at.ensures.others (inv.settled images tell held rest)
          (c.in_ok-recover_at.ensures.settled images now_tell (holds-image g.D.Disk.held config images from volume xs (omega (arith, next)) (inv.held images held)) (rest (volume_device volume)));
      held = λ images held. held-next g.D.Disk.held config images from volume xs ys next (omega (arith, next, inv.within, inv.count)) c.recover_at.ensures.others (inv.held images held);
      writes = writes-then g.D.Disk config g.met.D.Disk.same_on c.args.bay.now xs ys inv.writes
          (record {
            keeps = c.recover_at.ensures.keeps;
            others = same-unused config xs ys (volume_device volume)
                (volume-used config volume (record { above = omega (arith, c.loop-volume-test.true); below = omega (arith, inv.within, inv.count) })) c.recover_at.ensures.others;
          });
      some = omega (arith, c.loop-volume-test.true);
      within = omega (arith, inv.within);
      count = inv.count;
      few = inv.few;
    }

pub recover_last-requires-clause-valid : goal.recover_last-requires-clause-valid
recover_last-requires-clause-valid g c = (c.requires.valid, record { above = omega (arith, c.if-last-eq0.false); below = search rules }, search rules)

pub recover_at-requires-clause-valid : goal.recover_at-requires-clause-valid
recover_at-requires-clause-valid g c =
    let inv = c.loop-volume.invariant in
    (c.requires.valid, record { above = omega (arith, c.loop-volume-test.true); below = omega (arith, inv.within, inv.count) })

pub loop-volume-init : goal.loop-volume-init
loop-volume-init g c = record {
  done = λ images list audit tell held rest found. c.in_ok-recover_last.ensures.whole images list audit tell held rest found;
  settled = λ images tell held rest. c.in_ok-recover_last.ensures.settled images tell held rest;
  held = λ images held. c.recover_last.ensures.held images held;
  writes = c.recover_last.ensures.writes;
  some = omega (arith, c.if-last-eq0.false);
  within = search rules;
  count = search rules;
  few = search rules;
}

pub returns-then-last-eq0-clause-every : goal.returns-then-last-eq0-clause-every
returns-then-last-eq0-clause-every g c = λ images list audit tell held rest found.
    let none : length c.args.config.now.volumes ≡ 0 = search rules in
    recovering-none g.D.Disk.held c.args.config.now images list audit c.args.bay.now none

pub returns-then-last-eq0-clause-whole : goal.returns-then-last-eq0-clause-whole
returns-then-last-eq0-clause-whole g c = λ images list audit tell held rest found.
    let none : length c.args.config.now.volumes ≡ 0 = search rules in
    recovered-none g.D.Disk.held c.args.config.now images list audit c.args.bay.now none

pub returns-then-last-eq0-clause-settled : goal.returns-then-last-eq0-clause-settled
returns-then-last-eq0-clause-settled g c = λ images tell held rest.
    let none : length c.args.config.now.volumes ≡ 0 = search rules in
    settled-none g.D.Disk.held c.args.config.now images c.args.bay.now none

pub returns-then-last-eq0-clause-held : goal.returns-then-last-eq0-clause-held
returns-then-last-eq0-clause-held g c = λ images held. held-all g.D.Disk.held c.args.config.now images (length c.args.config.now.volumes) c.args.bay.now held

pub returns-then-last-eq0-clause-told : goal.returns-then-last-eq0-clause-told
returns-then-last-eq0-clause-told g c = λ images list audit tell held rest found so.
    let none : length c.args.config.now.volumes ≡ 0 = search rules in
    let same : length c.args.config.now.volumes - 1 ≡ length c.args.config.now.volumes = omega (arith, none) in
    subst (λ n. IsInspected c.args.config.now images c.args.changes.now n c.args.lost.now.items) same so

pub returns-then-last-eq0-clause-writes : goal.returns-then-last-eq0-clause-writes
returns-then-last-eq0-clause-writes g c = writes-same g.D.Disk c.args.config.now g.met.D.Disk.same_itself c.args.bay.now

pub returns-in_err-recover_last-clause-every : goal.returns-in_err-recover_last-clause-every
returns-in_err-recover_last-clause-every g c = λ images list audit tell held rest found. c.recover_last.ensures.every images list audit tell held rest found

pub returns-in_err-recover_last-clause-held : goal.returns-in_err-recover_last-clause-held
returns-in_err-recover_last-clause-held g c = λ images held.
    held-wide g.D.Disk.held c.args.config.now images _ c.recover_last.new.bay (omega (arith, c.if-last-eq0.false)) (c.recover_last.ensures.held images held)

pub returns-in_err-recover_last-clause-told : goal.returns-in_err-recover_last-clause-told
returns-in_err-recover_last-clause-told g c = λ images list audit tell held rest found so.
    let config = c.args.config.now in
    let changes = c.args.changes.now in
    let same : length config.volumes ≡ c.len-last.result = search rules in
    let p = err_from_is_err_and c.from_residual.result c.from_residual.ensures.1 in
    subst (λ r. MatchResult r (λ _. IsInspected config images changes (length config.volumes) c.recover_last.new.lost.items) (AreTurnedDown g.D.Disk.held config images changes c.recover_last.new.bay)) (sym (p.1 ∙ ap (λ e. Err e) p.2))
    (c.in_err-recover_last.ensures.told images tell held (subst (λ n. IsInspected config images changes (n - 1) c.args.lost.now.items) same so))

pub returns-in_err-recover_last-clause-cause : goal.returns-in_err-recover_last-clause-cause
returns-in_err-recover_last-clause-cause g c =
    let p = err_from_is_err_and c.from_residual.result c.from_residual.ensures.1 in
    subst (λ r. IfErr r (HasFailed g.D.Disk.faults c.args.config.now c.args.bay.now c.recover_last.new.bay)) (sym (p.1 ∙ ap (λ e. Err e) p.2)) c.in_err-recover_last.ensures.cause

pub returns-clause-told : goal.returns-clause-told
returns-clause-told g c = λ images list audit tell held rest found so.
    let config = c.args.config.now in
    let changes = c.args.changes.now in
    let count = c.loop-volume.invariant.count in
    subst (λ n. IsInspected config images changes n c.recover_last.new.lost.items) count
    (c.in_ok-recover_last.ensures.told images tell held (subst (λ n. IsInspected config images changes (n - 1) c.args.lost.now.items) (sym count) so))

pub returns-clause-every : goal.returns-clause-every
returns-clause-every g c = λ images list audit tell held rest found.
    recovering-done g.D.Disk.held c.args.config.now images list audit c.loop-volume.volume c.loop-volume.bay (omega (arith, c.loop-volume-test.false))
    (c.loop-volume.invariant.done images list audit tell held rest found)

pub returns-clause-whole : goal.returns-clause-whole
returns-clause-whole g c = λ images list audit tell held rest found.
    recovered-done g.D.Disk.held c.args.config.now images list audit c.loop-volume.volume (length c.args.config.now.volumes) c.loop-volume.bay (omega (arith, c.loop-volume-test.false))
    (c.loop-volume.invariant.done images list audit tell held rest found)

pub returns-clause-settled : goal.returns-clause-settled
returns-clause-settled g c = λ images tell held rest.
    settled-done g.D.Disk.held c.args.config.now images c.loop-volume.volume (length c.args.config.now.volumes) c.loop-volume.bay (omega (arith, c.loop-volume-test.false))
    (c.loop-volume.invariant.settled images tell held rest)

pub returns-clause-held : goal.returns-clause-held
returns-clause-held g c = λ images held.
    held-wide g.D.Disk.held c.args.config.now images c.loop-volume.volume c.loop-volume.bay c.loop-volume.invariant.some (c.loop-volume.invariant.held images held)

pub returns-in_err-recover_at-clause-every : goal.returns-in_err-recover_at-clause-every
returns-in_err-recover_at-clause-every g c = λ images list audit tell held rest found.
    let config = c.args.config.now in
    let from = c.loop-volume.volume in
    let volume = c.loop-volume.volume - 1 in
    let inv = c.loop-volume.invariant in
    let xs = c.loop-volume.bay in
    let next : from ≡ volume + 1 = omega (arith, inv.some) in
    let now_tell = tell-then g.D.Disk.tells c.args.bay.now xs inv.writes.keeps.tells tell in
    recovering-stopped g.D.Disk.held config images list audit c.resting_law.ensures.volume c.at_rest.ensures.image rest from volume xs c.recover_at.new.bay next c.recover_at.ensures.others
    (inv.done images list audit tell held rest found) (inv.held images held)
    (λ line left number at. c.recover_at.ensures.every images left (audit line.trail) list now_tell
    (holds-image g.D.Disk.held config images from volume xs (omega (arith, next)) (inv.held images held)) (rest (volume_device volume)) (found volume line number) at)

pub returns-in_err-recover_at-clause-held : goal.returns-in_err-recover_at-clause-held
returns-in_err-recover_at-clause-held g c = λ images held.
    let config = c.args.config.now in
    let from = c.loop-volume.volume in
    let volume = c.loop-volume.volume - 1 in
    let inv = c.loop-volume.invariant in
    let next : from ≡ volume + 1 = omega (arith, inv.some) in
    held-wide g.D.Disk.held config images volume c.recover_at.new.bay (omega (arith, c.loop-volume-test.true))
    (held-next g.D.Disk.held config images from volume c.loop-volume.bay c.recover_at.new.bay next (omega (arith, next, inv.within, inv.count)) c.recover_at.ensures.others (inv.held images held))

pub returns-in_err-recover_at-clause-told : goal.returns-in_err-recover_at-clause-told
returns-in_err-recover_at-clause-told g c = λ images list audit tell held rest found so.
    let config = c.args.config.now in
    let changes = c.args.changes.now in
    let from = c.loop-volume.volume in
    let volume = c.loop-volume.volume - 1 in
    let inv = c.loop-volume.invariant in
    let xs = c.loop-volume.bay in
    let ys = c.recover_at.new.bay in
    let next : from ≡ volume + 1 = omega (arith, inv.some) in
    let p = err_from_is_err_and c.from_residual-in_err-recover_at.result c.from_residual-in_err-recover_at.ensures.1 in
    let declared : IsDeclared config.volumes volume = record { above = omega (arith, c.loop-volume-test.true); below = omega (arith, inv.within, inv.count) } in
    let line = item-of config.volumes volume declared in
    let readable = so.readable volume line.0 line.1 (omega (arith, next, inv.within, inv.count)) in
    let room = so.rooms volume line.0 line.1 (omega (arith, next, inv.within, inv.count)) in
    let now_tell = tell-then g.D.Disk.tells c.args.bay.now xs inv.writes.keeps.tells tell in
    let turned = c.in_err-recover_at.ensures.told images now_tell (holds-image g.D.Disk.held config images from volume xs (omega (arith, next)) (inv.held images held))
    (λ known. fine-blocks config volume (images (volume_device volume)) (images (volume_device volume)) refl readable) in
    subst (λ r. MatchResult r (λ _. IsInspected config images changes (length config.volumes) c.recover_last.new.lost.items) (AreTurnedDown g.D.Disk.held config images changes ys)) (sym (p.1 ∙ ap (λ e. Err e) p.2))
    (turned-plain g.D.Disk.held config images changes ys c.in_err-recover_at.field-0.0
    (ready-plain config volume (images (volume_device volume)) (audit line.0.trail) list changes c.in_err-recover_at.field-0.0 c.spelled_volume_law.ensures.spelled declared (rest (volume_device volume)) (found volume line.0 line.1)
    (readable, room) turned.wrong))

pub returns-in_err-recover_at-clause-writes : goal.returns-in_err-recover_at-clause-writes
returns-in_err-recover_at-clause-writes g c =
    let config = c.args.config.now in
    let volume = c.loop-volume.volume - 1 in
    let inv = c.loop-volume.invariant in
    writes-then g.D.Disk config g.met.D.Disk.same_on c.args.bay.now c.loop-volume.bay c.recover_at.new.bay inv.writes
    (record {
      keeps = c.recover_at.ensures.keeps;
      others = same-unused config c.loop-volume.bay c.recover_at.new.bay (volume_device volume)
          (volume-used config volume (record { above = omega (arith, c.loop-volume-test.true); below = omega (arith, inv.within, inv.count) })) c.recover_at.ensures.others;
    })

pub returns-in_err-recover_at-clause-cause : goal.returns-in_err-recover_at-clause-cause
returns-in_err-recover_at-clause-cause g c =
    let config = c.args.config.now in
    let inv = c.loop-volume.invariant in
    let p = err_from_is_err_and c.from_residual-in_err-recover_at.result c.from_residual-in_err-recover_at.ensures.1 in
    subst (λ r. IfErr r (HasFailed g.D.Disk.faults config c.args.bay.now c.recover_at.new.bay)) (sym (p.1 ∙ ap (λ e. Err e) p.2))
    (failed-after g.D.Disk.faults config c.args.bay.now c.loop-volume.bay c.recover_at.new.bay c.in_err-recover_at.field-0.0 inv.writes.keeps.later c.recover_at.ensures.keeps.later c.in_err-recover_at.ensures.cause)
