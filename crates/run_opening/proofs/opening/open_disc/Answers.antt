use Rattle.std.proofs.Common.{◌≡◌, ◌+◌, ◌-◌, ◌<◌, ℕ, List, sym, subst, arith}
use Rattle.disk_model.specs.Held.{Held}
use Rattle.tmf_model.specs.Config.{IsDeclared}
use Rattle.tmf_model.specs.declared.config.Config.{Config}
use Rattle.trail_files.specs.declared.damage.Damage.{Damage}
use Rattle.run_outcomes.specs.Attaching.{IsUnfitAt}
use Rattle.run_outcomes.specs.Devices.{held_by}
use Rattle.run_outcomes.specs.Run.{volumes_named}
use Rattle.run_opening.specs.Kept.{IsNextBehind, IsVolumeJudged, IsVolumeRefused}
use Rattle.run_opening.specs.Refusal.{TellsAt}
use Rattle.run_opening.proofs.Names.{named_is, named_not}
use Rattle.run_opening.proofs.Openings.{line_there, next_in, volume_fit, volume_kept, volume_unfit}
use Rattle.run_opening.proofs.Refusals.{both_ways, if_err, if_ok, ok_both, tells_more}
use Rattle.run_opening.proofs.opening.open_disc.Goals as goal

pub returns-clause-judged : goal.returns-clause-judged
returns-clause-judged g c = λ devices at tell seen fits.
    let config : Config = c.args.run.config.now in
    let named : List ℕ = volumes_named config c.args.run.phase.now in
    let number : ℕ = c.args.number in
    let volume : ℕ = number - 4 in
    let above : 4 < number = c.requires.number.0 in
    let declared : IsDeclared config.volumes volume = record { above = omega (arith, above); below = omega (arith, c.if-from-len.false, c.from.ensures, c.len.ensures) } in
    let is_number : number ≡ 4 + volume = omega (arith, above) in
    let held : Held = g.D.Disk.held c.args.device in
    let tells = tell number c.args.device (omega arith) at in
    both_ways c.open_volume.result _ _
    (if_ok c.open_volume.result _ _
    (λ k judged. volume_fit g.D.Disk config devices c.args.run.epoch named c.requires.valid number volume c.args.lasts.now c.args.device is_number at tell seen fits c.is_named-named.result k declared c.requires.number.1
    (named_not config c.args.run.phase.now volume c.is_named-named.result c.is_named-named.ensures)
    (subst (λ (n : ℕ). IsVolumeJudged config volume n c.is_named-named.result held k) c.next_at-next.ensures judged)) (c.open_volume.ensures.judged tells))
    (if_err c.open_volume.result _ _
    (λ e told. subst (λ (n : ℕ). TellsAt n (λ (d : Damage). IsUnfitAt config c.args.run.epoch named (held_by g.D.Disk devices) number d) e.1) (sym is_number) (tells_more (4 + volume) _ _ e.1
    (λ damage refused. volume_unfit g.D.Disk config devices c.args.run.epoch named c.requires.valid number volume c.args.lasts.now c.args.device is_number at tell seen fits c.is_named-named.result damage declared
    (named_is config c.args.run.phase.now volume c.is_named-named.result c.is_named-named.ensures)
    (subst (λ (n : ℕ). IsVolumeRefused config volume n c.is_named-named.result held damage) c.next_at-next.ensures refused)) told)) (c.open_volume.ensures.damage tells))

pub returns-clause-next : goal.returns-clause-next
returns-clause-next g c = λ devices at seen.
    let config : Config = c.args.run.config.now in
    let number : ℕ = c.args.number in
    let volume : ℕ = number - 4 in
    let above : 4 < number = c.requires.number.0 in
    let is_number : number ≡ 4 + volume = omega (arith, above) in
    ok_both c.open_volume.result _ _ _
    (λ k is behind. next_in g.D.Disk config devices c.requires.valid number volume c.args.lasts.now c.args.device is_number seen c.is_named-named.result k is
    (subst (λ (n : ℕ). IsNextBehind n k) c.next_at-next.ensures behind)) c.open_volume.ensures.kept c.open_volume.ensures.next

pub returns-clause-kept : goal.returns-clause-kept
returns-clause-kept g c =
    let config : Config = c.args.run.config.now in
    let volume : ℕ = c.args.number - 4 in
    let above : 4 < c.args.number = c.requires.number.0 in
    let declared : IsDeclared config.volumes volume = record { above = omega (arith, above); below = omega (arith, c.if-from-len.false, c.from.ensures, c.len.ensures) } in
    if_ok c.open_volume.result _ _
    (λ k is. volume_kept g.D.Disk config c.args.run.epoch (volumes_named config c.args.run.phase.now) c.args.number volume c.args.device c.is_named-named.result k declared (omega (arith, above))
    (named_not config c.args.run.phase.now volume c.is_named-named.result c.is_named-named.ensures) is) c.open_volume.ensures.kept

pub returns-clause-untouched : goal.returns-clause-untouched
returns-clause-untouched g c = λ out.
    let config : Config = c.args.run.config.now in
    let volume : ℕ = c.args.number - 4 in
    let above : 4 < c.args.number = c.requires.number.0 in
    let declared : IsDeclared config.volumes volume = record { above = omega (arith, above); below = omega (arith, c.if-from-len.false, c.from.ensures, c.len.ensures) } in
    let line = line_there config volume declared in
    absurd (out.volume volume line.0 line.1 (omega (arith, above)))
