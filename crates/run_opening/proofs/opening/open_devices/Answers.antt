use Rattle.std.proofs.Common.{ℕ, List, map, subst, ◌∙◌, arith}
use Rattle.run_outcomes.specs.Devices.{held_by}
use Rattle.run_outcomes.specs.Run.{volumes_named}
use Rattle.run_opening.specs.Kept.{device_kept}
use Rattle.run_opening.specs.Opening.{AreFitBelow, AreOpened, AreOpenedSoFar}
use Rattle.run_opening.proofs.Fits.{fit_clean, unfit_one, unfit_small}
use Rattle.run_opening.proofs.Refused.{exact, kept_refused, not_run, returned}
use Rattle.run_opening.proofs.opening.open_devices.Goals as goal

pub returns-in-None-clause-opened : goal.returns-in-None-clause-opened
returns-in-None-clause-opened g c =
    let named : List ℕ = volumes_named c.args.run.config.now c.args.run.phase.now in
    let all = c.in-None.ensures.all in
    subst (λ xs. AreOpened g.D.Disk c.args.run.config.now c.args.run.epoch named xs (record { kept = c.open_each.new.kept; row = c.open_each.new.row })) c.new-row.ensures.devices (record {
      each = c.in-None.ensures.so_far.each;
      count = all.0;
      fit = subst (λ (n : ℕ). AreFitBelow g.D.Disk c.args.run.config.now c.args.run.epoch named n c.new-row.result.devices) all.0 c.in-None.ensures.so_far.fit;
      row = (all.1, omega (arith, c.in-None.ensures.room.0, c.new-row.ensures.room, c.requires.count));
    })

pub returns-in-None-clause-exact : goal.returns-in-None-clause-exact
returns-in-None-clause-exact g c = λ device damage tell first.
    let named : List ℕ = volumes_named c.args.run.config.now c.args.run.phase.now in
    let so_far : AreOpenedSoFar g.D.Disk c.args.run.config.now c.args.run.epoch named c.args.devices.items c.open_each.new.kept.items =
    subst (λ xs. AreOpenedSoFar g.D.Disk c.args.run.config.now c.args.run.epoch named xs c.open_each.new.kept.items) c.new-row.ensures.devices c.in-None.ensures.so_far in
    let few = unfit_small c.spelling_laws.ensures c.args.run.config.now c.args.run.epoch named (held_by g.D.Disk c.args.devices.items) c.requires.valid device damage first.here in
    fit_clean c.spelling_laws.ensures c.args.run.config.now c.args.run.epoch named (held_by g.D.Disk c.args.devices.items) device damage (so_far.fit device (omega (arith, few, c.in-None.ensures.all.0)) tell) first.here

pub returns-in-Some-clause-returned : goal.returns-in-Some-clause-returned
returns-in-Some-clause-returned g c =
    let are = kept_refused g.D.Disk c.args.run.config.now c.args.run.phase.now c.args.run.epoch c.new-row.result.devices c.args.devices.items c.open_each.new.row.devices c.into_vec.result.items c.open_each.new.kept.items c.in-Some.why g.met.D.Disk.same_itself
    c.new-row.ensures.devices c.in-Some.ensures.so_far c.in-Some.ensures.refused (c.into_vec.ensures ∙ c.put_back.ensures.devices) in
    returned g.D.Disk c.args.run.config.now c.args.run.phase.now c.args.run.epoch c.args.devices.items (map device_kept c.open_each.new.kept.items) c.into_vec.result.items c.in-Some.why g.met.D.Disk.same_itself are

pub returns-in-Some-clause-not_run : goal.returns-in-Some-clause-not_run
returns-in-Some-clause-not_run g c =
    let are = kept_refused g.D.Disk c.args.run.config.now c.args.run.phase.now c.args.run.epoch c.new-row.result.devices c.args.devices.items c.open_each.new.row.devices c.into_vec.result.items c.open_each.new.kept.items c.in-Some.why g.met.D.Disk.same_itself
    c.new-row.ensures.devices c.in-Some.ensures.so_far c.in-Some.ensures.refused (c.into_vec.ensures ∙ c.put_back.ensures.devices) in
    not_run g.D.Disk c.args.run.config.now c.args.run.phase.now c.args.run.epoch c.args.devices.items (map device_kept c.open_each.new.kept.items) c.into_vec.result.items c.in-Some.why g.met.D.Disk.same_itself are

pub returns-in-Some-clause-exact : goal.returns-in-Some-clause-exact
returns-in-Some-clause-exact g c = λ device damage tell first other told is_told.
    let are = kept_refused g.D.Disk c.args.run.config.now c.args.run.phase.now c.args.run.epoch c.new-row.result.devices c.args.devices.items c.open_each.new.row.devices c.into_vec.result.items c.open_each.new.kept.items c.in-Some.why g.met.D.Disk.same_itself
    c.new-row.ensures.devices c.in-Some.ensures.so_far c.in-Some.ensures.refused (c.into_vec.ensures ∙ c.put_back.ensures.devices) in
    let named : List ℕ = volumes_named c.args.run.config.now c.args.run.phase.now in
    let held = held_by g.D.Disk c.args.devices.items in
    exact g.D.Disk c.args.run.config.now c.args.run.phase.now c.args.run.epoch c.args.devices.items (map device_kept c.open_each.new.kept.items) c.into_vec.result.items c.in-Some.why g.met.D.Disk.same_itself are
    (fit_clean c.spelling_laws.ensures c.args.run.config.now c.args.run.epoch named held) (unfit_one c.spelling_laws.ensures c.args.run.config.now c.args.run.epoch named held c.requires.valid) device damage tell first other told is_told
