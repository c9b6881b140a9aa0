use Rattle.std.specs.Prelude.{Err, IfErr, MatchResult}
use Rattle.std.proofs.Common.{true, false, suc, ◌+◌, ◌-◌, ◌≡◌, ◌∙◌, ap, arith, refl, subst, sym}
use Rattle.std.proofs.lemmas.Result.{err_from_is_err_and}
use Rattle.volume_restore.proofs.Inspections.{on-any}
use Rattle.volume_restore.proofs.Restoring.{item-of}
use Rattle.volume_restore.specs.Inspected.{TellsRecovered}
use Rattle.volume_recovery.specs.VolumeLoop.{AreTurnedDown, HasFailed, IsInspected}
use Rattle.volume_recovery.specs.VolumeNode.{volume_device}
use Rattle.volume_recovery.proofs.VolumeBay.{same-unused}
use Rattle.volume_recovery.proofs.VolumeInspecting.{inspected-fine, memory-failed, noted-lost, turned-volumes}
use Rattle.volume_recovery.proofs.VolumeLoops.{held-next, held-none, recovered-beyond, recovered-next, recovering-stopped, settled-beyond, settled-next}
use Rattle.volume_recovery.proofs.VolumeRefusing.{volume-used}
use Rattle.volume_recovery.proofs.volumes.recovery.recover_last.Goals as goal

pub returns-in_err-found-clause-every : goal.returns-in_err-found-clause-every
returns-in_err-found-clause-every g c = λ images list audit tell held rest found.
    let config = c.args.config.now in
    let last = c.args.last in
    let xs = c.args.bay.now in
    let ys = c.recover_at.new.bay in
    let few = c.requires.valid.2 in
    recovering-stopped g.D.Disk.held config images list audit c.resting_law.ensures.volume c.at_rest.ensures.image rest (last + 1) last xs ys refl c.recover_at.ensures.others
    (recovered-beyond g.D.Disk.held config images list audit (last + 1) xs (omega (arith, few))) (held-none g.D.Disk.held config images (last + 1) xs held)
    (λ line left number at. c.recover_at.ensures.every images left (audit line.trail) list tell (held (volume_device last)) (rest (volume_device last)) (found last line number) at)

pub returns-in_err-found-clause-held : goal.returns-in_err-found-clause-held
returns-in_err-found-clause-held g c = λ images held.
    let config = c.args.config.now in
    let last = c.args.last in
    let xs = c.args.bay.now in
    let ys = c.recover_at.new.bay in
    let few = c.requires.valid.2 in
    held-next g.D.Disk.held config images (last + 1) last xs ys refl (omega (arith, few)) c.recover_at.ensures.others (held-none g.D.Disk.held config images (last + 1) xs held)

pub returns-in_err-found-clause-writes : goal.returns-in_err-found-clause-writes
returns-in_err-found-clause-writes g c =
    let config = c.args.config.now in
    let last = c.args.last in
    let xs = c.args.bay.now in
    let ys = c.recover_at.new.bay in
    let few = c.requires.valid.2 in
    record { keeps = c.recover_at.ensures.keeps; others = same-unused config xs ys (volume_device last) (volume-used config last c.requires.valid.1) c.recover_at.ensures.others }

pub returns-then-found-clause-every : goal.returns-then-found-clause-every
returns-then-found-clause-every g c = λ images list audit tell held rest found.
    let config = c.args.config.now in
    let last = c.args.last in
    let xs = c.args.bay.now in
    let ys = c.recover_at.new.bay in
    let few = c.requires.valid.2 in
    recovering-stopped g.D.Disk.held config images list audit c.resting_law.ensures.volume c.at_rest.ensures.image rest (last + 1) last xs ys refl c.recover_at.ensures.others
    (recovered-beyond g.D.Disk.held config images list audit (last + 1) xs (omega (arith, few))) (held-none g.D.Disk.held config images (last + 1) xs held)
    (λ line left number at. c.recover_at.ensures.every images left (audit line.trail) list tell (held (volume_device last)) (rest (volume_device last)) (found last line number) at)

pub returns-then-found-clause-held : goal.returns-then-found-clause-held
returns-then-found-clause-held g c = λ images held.
    let config = c.args.config.now in
    let last = c.args.last in
    let xs = c.args.bay.now in
    let ys = c.recover_at.new.bay in
    let few = c.requires.valid.2 in
    held-next g.D.Disk.held config images (last + 1) last xs ys refl (omega (arith, few)) c.recover_at.ensures.others (held-none g.D.Disk.held config images (last + 1) xs held)

pub returns-then-found-clause-writes : goal.returns-then-found-clause-writes
returns-then-found-clause-writes g c =
    let config = c.args.config.now in
    let last = c.args.last in
    let xs = c.args.bay.now in
    let ys = c.recover_at.new.bay in
    let few = c.requires.valid.2 in
    record { keeps = c.recover_at.ensures.keeps; others = same-unused config xs ys (volume_device last) (volume-used config last c.requires.valid.1) c.recover_at.ensures.others }

pub returns-else-found-clause-every : goal.returns-else-found-clause-every
returns-else-found-clause-every g c = λ images list audit tell held rest found.
    let config = c.args.config.now in
    let last = c.args.last in
    let xs = c.args.bay.now in
    let ys = c.recover_at.new.bay in
    let few = c.requires.valid.2 in
    recovering-stopped g.D.Disk.held config images list audit c.resting_law.ensures.volume c.at_rest.ensures.image rest (last + 1) last xs ys refl c.recover_at.ensures.others
    (recovered-beyond g.D.Disk.held config images list audit (last + 1) xs (omega (arith, few))) (held-none g.D.Disk.held config images (last + 1) xs held)
    (λ line left number at. c.recover_at.ensures.every images left (audit line.trail) list tell (held (volume_device last)) (rest (volume_device last)) (found last line number) at)

pub returns-else-found-clause-held : goal.returns-else-found-clause-held
returns-else-found-clause-held g c = λ images held.
    let config = c.args.config.now in
    let last = c.args.last in
    let xs = c.args.bay.now in
    let ys = c.recover_at.new.bay in
    let few = c.requires.valid.2 in
    held-next g.D.Disk.held config images (last + 1) last xs ys refl (omega (arith, few)) c.recover_at.ensures.others (held-none g.D.Disk.held config images (last + 1) xs held)

pub returns-else-found-clause-writes : goal.returns-else-found-clause-writes
returns-else-found-clause-writes g c =
    let config = c.args.config.now in
    let last = c.args.last in
    let xs = c.args.bay.now in
    let ys = c.recover_at.new.bay in
    let few = c.requires.valid.2 in
    record { keeps = c.recover_at.ensures.keeps; others = same-unused config xs ys (volume_device last) (volume-used config last c.requires.valid.1) c.recover_at.ensures.others }

pub returns-then-found-clause-whole : goal.returns-then-found-clause-whole
returns-then-found-clause-whole g c = λ images list audit tell held rest found.
    let config = c.args.config.now in
    let last = c.args.last in
    let xs = c.args.bay.now in
    let ys = c.recover_at.new.bay in
    let few = c.requires.valid.2 in
    recovered-next g.D.Disk.held config images list audit (last + 1) last xs ys refl c.recover_at.ensures.others
    (recovered-beyond g.D.Disk.held config images list audit (last + 1) xs (omega (arith, few)))
    (λ line left number at. c.in_ok-found.ensures.whole images left (audit line.trail) list tell (held (volume_device last)) (rest (volume_device last)) (found last line number) at)

pub returns-then-found-clause-settled : goal.returns-then-found-clause-settled
returns-then-found-clause-settled g c = λ images tell held rest.
    let config = c.args.config.now in
    let last = c.args.last in
    let xs = c.args.bay.now in
    let ys = c.recover_at.new.bay in
    let few = c.requires.valid.2 in
    settled-next g.D.Disk.held config images (last + 1) last xs ys refl c.recover_at.ensures.others
    (settled-beyond g.D.Disk.held config images (last + 1) xs (omega (arith, few)))
    (c.in_ok-found.ensures.settled images tell (held (volume_device last)) (rest (volume_device last)))

pub returns-else-found-clause-whole : goal.returns-else-found-clause-whole
returns-else-found-clause-whole g c = λ images list audit tell held rest found.
    let config = c.args.config.now in
    let last = c.args.last in
    let xs = c.args.bay.now in
    let ys = c.recover_at.new.bay in
    let few = c.requires.valid.2 in
    on-any c.push_on.result _ (recovered-next g.D.Disk.held config images list audit (last + 1) last xs ys refl c.recover_at.ensures.others
    (recovered-beyond g.D.Disk.held config images list audit (last + 1) xs (omega (arith, few)))
    (λ line left number at. c.in_ok-found.ensures.whole images left (audit line.trail) list tell (held (volume_device last)) (rest (volume_device last)) (found last line number) at))

pub returns-else-found-clause-settled : goal.returns-else-found-clause-settled
returns-else-found-clause-settled g c = λ images tell held rest.
    let config = c.args.config.now in
    let last = c.args.last in
    let xs = c.args.bay.now in
    let ys = c.recover_at.new.bay in
    let few = c.requires.valid.2 in
    on-any c.push_on.result _ (settled-next g.D.Disk.held config images (last + 1) last xs ys refl c.recover_at.ensures.others
    (settled-beyond g.D.Disk.held config images (last + 1) xs (omega (arith, few)))
    (c.in_ok-found.ensures.settled images tell (held (volume_device last)) (rest (volume_device last))))

pub returns-in_err-found-clause-told : goal.returns-in_err-found-clause-told
returns-in_err-found-clause-told g c = λ images tell held so.
    let config = c.args.config.now in
    let last = c.args.last in
    let xs = c.args.bay.now in
    let ys = c.recover_at.new.bay in
    let few = c.requires.valid.2 in
    let changes = c.args.changes.now in
    let lost = c.args.lost.now.items in
    let above : last ≡ suc (last - 1) = omega (arith, c.requires.valid.1.above) in
    let p = err_from_is_err_and c.from_residual.result c.from_residual.ensures.1 in
    let line = item-of config.volumes last c.requires.valid.1 in
    subst (λ r. MatchResult r (λ _. IsInspected config images changes last lost) (AreTurnedDown g.D.Disk.held config images changes ys)) (sym (p.1 ∙ ap (λ e. Err e) p.2))
    (turned-volumes g.D.Disk.held config images changes (last - 1) last lost line.0 xs ys c.in_err-found.field-0.0 above line.1 held c.recover_at.ensures.others so
    (c.in_err-found.ensures.told images tell (held (volume_device last)) (λ known. absurd (cc known))))

pub returns-in_err-found-clause-cause : goal.returns-in_err-found-clause-cause
returns-in_err-found-clause-cause g c =
    let config = c.args.config.now in
    let last = c.args.last in
    let xs = c.args.bay.now in
    let ys = c.recover_at.new.bay in
    let few = c.requires.valid.2 in
    let p = err_from_is_err_and c.from_residual.result c.from_residual.ensures.1 in
    subst (λ r. IfErr r (HasFailed g.D.Disk.faults config xs ys)) (sym (p.1 ∙ ap (λ e. Err e) p.2)) c.in_err-found.ensures.cause

pub returns-then-found-clause-told : goal.returns-then-found-clause-told
returns-then-found-clause-told g c = λ images tell held so.
    let config = c.args.config.now in
    let last = c.args.last in
    let xs = c.args.bay.now in
    let ys = c.recover_at.new.bay in
    let few = c.requires.valid.2 in
    let changes = c.args.changes.now in
    let above : last ≡ suc (last - 1) = omega (arith, c.requires.valid.1.above) in
    let told = c.in_ok-found.ensures.told images tell (held (volume_device last)) (λ known. absurd (cc known)) in
    inspected-fine config images changes (last - 1) last c.args.lost.now.items above
    (subst (λ b. TellsRecovered config last changes.files (images (volume_device last)) b) c.if-found.true told) so

pub returns-else-found-clause-told : goal.returns-else-found-clause-told
returns-else-found-clause-told g c = λ images tell held so.
    let config = c.args.config.now in
    let last = c.args.last in
    let xs = c.args.bay.now in
    let ys = c.recover_at.new.bay in
    let few = c.requires.valid.2 in
    let changes = c.args.changes.now in
    let above : last ≡ suc (last - 1) = omega (arith, c.requires.valid.1.above) in
    let told = c.in_ok-found.ensures.told images tell (held (volume_device last)) (λ known. absurd (cc known)) in
    noted-lost g.D.Disk.held config images changes (last - 1) last c.args.lost.now.items c.push_on.new.items.items ys c.push_on.result above
    (subst (λ b. TellsRecovered config last changes.files (images (volume_device last)) b) c.if-found.false told) c.push_on.ensures.ok c.push_on.ensures.err so

pub returns-else-found-clause-cause : goal.returns-else-found-clause-cause
returns-else-found-clause-cause g c = memory-failed g.D.Disk.faults c.args.config.now c.args.bay.now c.recover_at.new.bay c.push_on.result c.push_on.ensures.err
