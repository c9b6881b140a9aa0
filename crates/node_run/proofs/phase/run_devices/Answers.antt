use Rattle.std.proofs.Common.{subst, sym}
use Rattle.run_opening.specs.declared.opening.Opened.{Opened}
use Rattle.run_opening.specs.Found.{IsOnlyList}
use Rattle.run_outcomes.specs.Devices.{told_in}
use Rattle.run_outcomes.specs.Run.{volumes_named}
use Rattle.run_states.specs.Begun.{device_in}
use Rattle.tmf_model.specs.declared.config.Config.{Config}
use Rattle.node_run.specs.Named.{AreAllKept}
use Rattle.node_run.specs.Over.{AreOpenedFor}
use Rattle.node_run.proofs.Begins.{all_opened}
use Rattle.node_run.proofs.phase.run_devices.Goals as goal

pub new-requires : goal.new-requires
new-requires g c =
    c.phase_law.ensures.listed c.args.run.config.now c.args.run.epoch (volumes_named c.args.run.config.now c.args.run.phase.now) c.args.devices.items c.in-Ok.opened c.requires.count c.in-Ok.ensures.opened

pub run_opened-requires-clause-opened : goal.run_opened-requires-clause-opened
run_opened-requires-clause-opened g c κs within = (
  c.args.devices.items,
  subst (λ (o : Opened g.row.D.Denot). AreOpenedFor g.D.Disk c.args.run.config.now c.args.run.phase.now c.args.run.epoch c.args.devices.items o) (sym c.new.ensures.opened)
      (record { count = c.requires.count; are = c.in-Ok.ensures.opened }),
)

pub run_opened-requires-clause-all : goal.run_opened-requires-clause-all
run_opened-requires-clause-all g c κs within =
    subst (λ (o : Opened g.row.D.Denot). AreAllKept o) (sym c.new.ensures.opened)
    (all_opened g.D.Disk c.args.run.config.now c.args.run.phase.now c.args.run.epoch c.in-Ok.opened c.args.devices.items (record { count = c.requires.count; are = c.in-Ok.ensures.opened }))

pub run_opened-requires-clause-list : goal.run_opened-requires-clause-list
run_opened-requires-clause-list g c κs within =
    subst (λ (o : Opened g.row.D.Denot). (same : Config) → IsOnlyList same (told_in g.D.Disk (device_in o.kept.items)) c.new.result.list) (sym c.new.ensures.opened) c.new.ensures.list

pub returns-in-Ok-clause-ran : goal.returns-in-Ok-clause-ran
returns-in-Ok-clause-ran g c =
    c.run_opened.ensures.ran c.args.devices.items
    (subst (λ (o : Opened g.row.D.Denot). AreOpenedFor g.D.Disk c.args.run.config.now c.args.run.phase.now c.args.run.epoch c.args.devices.items o) (sym c.new.ensures.opened)
    (record { count = c.requires.count; are = c.in-Ok.ensures.opened }))

pub returns-in-Ok-clause-not_run : goal.returns-in-Ok-clause-not_run
returns-in-Ok-clause-not_run g c =
    c.run_opened.ensures.not_run c.args.devices.items
    (subst (λ (o : Opened g.row.D.Denot). AreOpenedFor g.D.Disk c.args.run.config.now c.args.run.phase.now c.args.run.epoch c.args.devices.items o) (sym c.new.ensures.opened)
    (record { count = c.requires.count; are = c.in-Ok.ensures.opened }))

pub returns-in-Ok-clause-exact : goal.returns-in-Ok-clause-exact
returns-in-Ok-clause-exact g c = λ device damage tell unfit. absurd (c.in-Ok.ensures.exact device damage tell unfit)

pub returns-in-Ok-clause-returned : goal.returns-in-Ok-clause-returned
returns-in-Ok-clause-returned g c =
    c.run_opened.ensures.returned c.args.devices.items
    (subst (λ (o : Opened g.row.D.Denot). AreOpenedFor g.D.Disk c.args.run.config.now c.args.run.phase.now c.args.run.epoch c.args.devices.items o) (sym c.new.ensures.opened)
    (record { count = c.requires.count; are = c.in-Ok.ensures.opened }))
