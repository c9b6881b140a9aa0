use Rattle.std.proofs.Common.{◌≡◌, ◌+◌, ◌-◌, ◌<◌, ℕ, length, inl, refl, subst, arith}
use Rattle.std.specs.Prelude.{IfErr}
use Rattle.tmf_model.specs.Config.{IsDeclared}
use Rattle.run_outcomes.specs.Devices.{dump_device}
use Rattle.run_outcomes.specs.Run.{volumes_named}
use Rattle.run_opening.specs.Refusal.{IsRefused}
use Rattle.run_opening.proofs.DumpKeeping.{judged_is, kept_is, reached_is}
use Rattle.run_opening.proofs.Openings.{line_there, undeclared_dump, untouched_fit}
use Rattle.run_opening.proofs.opening.keep_dump.Goals as goal

-- WHERE THE VOLUME IS NOT DECLARED

pub returns-then-from-len-clause-kept : goal.returns-then-from-len-clause-kept
returns-then-from-len-clause-kept g c =
    let past : length c.args.run.config.now.volumes < c.args.number - 12 = omega (arith, c.if-from-len.true, c.from.ensures, c.len.ensures) in
    inl (inl (undeclared_dump c.args.run.config.now c.requires.valid c.args.number c.requires.number.0 past), refl)

pub returns-then-from-len-clause-reached : goal.returns-then-from-len-clause-reached
returns-then-from-len-clause-reached g c =
    let past : length c.args.run.config.now.volumes < c.args.number - 12 = omega (arith, c.if-from-len.true, c.from.ensures, c.len.ensures) in
    λ volume low declared place is_low. (let below = declared.below in omega (arith, past, place, below))

pub returns-then-from-len-clause-judged : goal.returns-then-from-len-clause-judged
returns-then-from-len-clause-judged g c = λ devices at tell so_far.
    let past : length c.args.run.config.now.volumes < c.args.number - 12 = omega (arith, c.if-from-len.true, c.from.ensures, c.len.ensures) in
    untouched_fit g.D.Disk c.args.run.config.now devices c.args.run.epoch (volumes_named c.args.run.config.now c.args.run.phase.now) c.args.number
    (undeclared_dump c.args.run.config.now c.requires.valid c.args.number c.requires.number.0 past)

-- WHERE IT IS

place : (number : ℕ) → 12 < number → number ≡ dump_device (number - 12)
place number many = omega (arith, many)

pub returns-clause-kept : goal.returns-clause-kept
returns-clause-kept g c =
    let declared : IsDeclared c.args.run.config.now.volumes (c.args.number - 12) = record { above = omega (arith, c.requires.number.0); below = omega (arith, c.if-from-len.false, c.from.ensures, c.len.ensures) } in
    kept_is g.D.Disk c.args.run.config.now c.args.number (c.args.number - 12) c.args.device c.args.kept.now c.open_dump_of.result (place c.args.number c.requires.number.0) declared
    (record { alone = c.open_dump_of.ensures.alone; opened = c.open_dump_of.ensures.kept; damage = c.open_dump_of.ensures.damage }) c.args.run.epoch (volumes_named c.args.run.config.now c.args.run.phase.now)

pub returns-clause-reached : goal.returns-clause-reached
returns-clause-reached g c =
    let declared : IsDeclared c.args.run.config.now.volumes (c.args.number - 12) = record { above = omega (arith, c.requires.number.0); below = omega (arith, c.if-from-len.false, c.from.ensures, c.len.ensures) } in
    reached_is g.D.Disk c.args.run.config.now c.args.number (c.args.number - 12) c.args.device c.args.kept.now c.open_dump_of.result (place c.args.number c.requires.number.0) declared
    (record { alone = c.open_dump_of.ensures.alone; opened = c.open_dump_of.ensures.kept; damage = c.open_dump_of.ensures.damage })

pub returns-clause-untouched : goal.returns-clause-untouched
returns-clause-untouched g c = λ out.
    let declared : IsDeclared c.args.run.config.now.volumes (c.args.number - 12) = record { above = omega (arith, c.requires.number.0); below = omega (arith, c.if-from-len.false, c.from.ensures, c.len.ensures) } in
    let line = line_there c.args.run.config.now (c.args.number - 12) declared in
    absurd (out.dump (c.args.number - 12) line.0 line.1 (place c.args.number c.requires.number.0))

pub returns-clause-refused : goal.returns-clause-refused
returns-clause-refused g c =
    let at : 12 + (c.args.number - 12) ≡ c.args.number = omega (arith, c.requires.number.0) in
    subst (λ (n : ℕ). IfErr c.open_dump_of.result (λ e. IsRefused g.D.Disk n c.args.device e.0 e.1)) at c.open_dump_of.ensures.refused

pub returns-clause-judged : goal.returns-clause-judged
returns-clause-judged g c = λ devices at tell so_far.
    let declared : IsDeclared c.args.run.config.now.volumes (c.args.number - 12) = record { above = omega (arith, c.requires.number.0); below = omega (arith, c.if-from-len.false, c.from.ensures, c.len.ensures) } in
    judged_is g.D.Disk c.args.run.config.now c.args.number (c.args.number - 12) c.args.device c.args.kept.now c.open_dump_of.result (place c.args.number c.requires.number.0) declared
    (record { alone = c.open_dump_of.ensures.alone; opened = c.open_dump_of.ensures.kept; damage = c.open_dump_of.ensures.damage }) c.spelling_laws.ensures c.requires.valid
    c.args.run.epoch (volumes_named c.args.run.config.now c.args.run.phase.now) devices at c.requires.count tell so_far
