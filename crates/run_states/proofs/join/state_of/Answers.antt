use Rattle.std.specs.Prelude.{false}
use Rattle.std.proofs.Common.{◌≡◌, ◌-◌, ℕ, sym, ap, subst, ◌∙◌}
use Rattle.audit_writer.specs.Seat.{sight_of as trail_sight}
use Rattle.audit_writer.specs.Writer.{IsOpened as IsTrailOpened}
use Rattle.disc_process.specs.Disc.{IsOpening}
use Rattle.tmf_model.specs.Config.{IsWithin}
use Rattle.run_states.specs.Joined.{MayJoin, is_alone}
use Rattle.run_states.specs.States.{IsStateOf, is_idle}
use Rattle.run_states.proofs.Joining.{disc_state, writer_built}
use Rattle.run_states.proofs.join.state_of.Goals as goal

pub unreachable-requires : goal.unreachable-requires
unreachable-requires g c =
    let J = g.J.NodeRun in
    subst (MayJoin g.D.Disk g.J.Run.opening J.found J.rules J.faults J.premise g.J.DeviceRun.devices c.args.site.now.config.now c.args.number c.args.rest c.args.seat) c.in-Monitor.is c.requires

pub of_trail-requires-clause-opened : goal.of_trail-requires-clause-opened
of_trail-requires-clause-opened g c =
    let J = g.J.NodeRun in
    let may = subst (MayJoin g.D.Disk g.J.Run.opening J.found J.rules J.faults J.premise g.J.DeviceRun.devices c.args.site.now.config.now c.args.number c.args.rest c.args.seat) c.in-Audit.is c.requires in
    subst (IsTrailOpened g.D.Disk g.J.Run.opening J.found J.rules J.faults J.premise g.J.DeviceRun.devices (trail_sight g.J.Run.opening c.args.seat)) (sym c.into_trail.ensures) may.3

pub of_trail-requires-clause-within : goal.of_trail-requires-clause-within
of_trail-requires-clause-within g c =
    let J = g.J.NodeRun in
    let may = subst (MayJoin g.D.Disk g.J.Run.opening J.found J.rules J.faults J.premise g.J.DeviceRun.devices c.args.site.now.config.now c.args.number c.args.rest c.args.seat) c.in-Audit.is c.requires in
    subst (λ (n : ℕ). IsWithin 1 4 n) (sym may.2) may.0

pub returns-in-Audit-clause-state : goal.returns-in-Audit-clause-state
returns-in-Audit-clause-state g c =
    let J = g.J.NodeRun in
    let may = subst (MayJoin g.D.Disk g.J.Run.opening J.found J.rules J.faults J.premise g.J.DeviceRun.devices c.args.site.now.config.now c.args.number c.args.rest c.args.seat) c.in-Audit.is c.requires in
    subst (λ (n : ℕ). IsStateOf g.D.Disk g.J.Run.opening J.found J.faults g.J.DeviceRun.devices n c.of_trail.result) may.2 c.of_trail.ensures.state

pub returns-in-Audit-clause-built : goal.returns-in-Audit-clause-built
returns-in-Audit-clause-built g c = λ same.
    let J = g.J.NodeRun in
    let may = subst (MayJoin g.D.Disk g.J.Run.opening J.found J.rules J.faults J.premise g.J.DeviceRun.devices c.args.site.now.config.now c.args.number c.args.rest c.args.seat) c.in-Audit.is c.requires in
    let apart : is_idle c.of_trail.result ≡ false = same ∙ ap is_alone c.in-Audit.is in
    writer_built g.D.Disk g.J.Run.opening J.found J.faults g.J.DeviceRun.devices c.args.number c.of_trail.result c.of_trail.ensures.which may.0 may.1 apart

pub new-requires : goal.new-requires
new-requires g c =
    let J = g.J.NodeRun in
    let may = subst (MayJoin g.D.Disk g.J.Run.opening J.found J.rules J.faults J.premise g.J.DeviceRun.devices c.args.site.now.config.now c.args.number c.args.rest c.args.seat) c.in-Volume.is c.requires in
    subst (λ (n : ℕ). IsOpening g.D.Disk g.J.Run.opening J.found J.rules J.faults g.J.DeviceRun.devices c.args.site.now.config.now (c.args.number - 4) c.in-Volume.blocks n c.args.rest c.args.seat) (sym c.low-next.ensures) may.1

pub returns-in-Volume-clause-state : goal.returns-in-Volume-clause-state
returns-in-Volume-clause-state g c =
    let J = g.J.NodeRun in
    let may = subst (MayJoin g.D.Disk g.J.Run.opening J.found J.rules J.faults J.premise g.J.DeviceRun.devices c.args.site.now.config.now c.args.number c.args.rest c.args.seat) c.in-Volume.is c.requires in
    let blocks = c.in-Volume.blocks in
    disc_state g.D.Disk g.J.Run.opening J.found J.faults g.J.DeviceRun.devices J.rules c.args.site.now.config.now c.args.number blocks blocks.label.low c.args.rest c.args.seat c.new.result may.0 may.1 c.new.ensures.in_time c.new.ensures.value
