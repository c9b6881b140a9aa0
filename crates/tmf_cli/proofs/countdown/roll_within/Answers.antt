use Rattle.std.proofs.Common.{false, ◌≡◌, ◌∙◌, length}
use Rattle.disk_model.proofs.Devices.{tell-then}
use Rattle.tmf_cli.proofs.Countdowns.{leaves-within, same-length, set-switches, switched-falls, switched-tells}
use Rattle.tmf_cli.proofs.RolledBays.{armed-held, failed-on, roll-node, rolls-bay}
use Rattle.tmf_cli.proofs.countdown.roll_within.Goals as goal

pub returns-clause-rolled : goal.returns-clause-rolled
returns-clause-rolled g c = λ tell.
    let old = c.args.bay.now in
    let armed = c.arm.new.bay in
    let mid = c.roll_forward-rolled.new.bay in
    let new = c.disarm.new.self in
    let on = c.arm.ensures.switches in
    let off = set-switches false mid new c.disarm.ensures.each in
    let tells = tell-then g.D.Disk.tells old armed (switched-tells old armed on g.D.Disk.tells) tell in
    let held = armed-held g.D.Disk c.args.config.now c.args.volume old armed mid new on off in
    let rolls = c.roll_forward-rolled.ensures in
    let count : length armed ≡ 21 = same-length _ armed mid rolls.frame.keeps.devices ∙ c.disarm.ensures.count.0 in
    rolls-bay g.D.Disk c.args.config.now c.args.volume old armed mid new on off c.roll_forward-rolled.result rolls.frame (rolls.rolled _ tells held)
    (λ was left are images. rolls.every was left tells are images) (λ images are standing. rolls.shut images tells are standing) rolls.unwritten (λ list map rests. rolls.node _ list map count tells held rests)

pub returns-clause-keeps : goal.returns-clause-keeps
returns-clause-keeps g c =
    let frame = c.roll_forward-rolled.ensures.frame in
    leaves-within g.D.Disk g.met.D.Disk.same_itself g.met.D.Disk.same_on c.args.config.now _ c.args.bay.now c.arm.new.bay c.roll_forward-rolled.new.bay c.disarm.new.self
    c.requires.off c.arm.ensures.switches c.arm.ensures.whole frame.keeps c.disarm.ensures.each
    (λ number out. frame.others number (λ is. out (roll-node c.args.config.now c.args.volume number c.requires.valid c.requires.declared is)))

pub returns-clause-cause : goal.returns-clause-cause
returns-clause-cause g c =
    let old = c.args.bay.now in
    let armed = c.arm.new.bay in
    let mid = c.roll_forward-rolled.new.bay in
    let new = c.disarm.new.self in
    failed-on g.D.Disk.faults _ old armed mid new (switched-falls old armed c.arm.ensures.switches g.D.Disk.faults) c.roll_forward-rolled.ensures.frame.keeps.later
    (switched-falls mid new (set-switches false mid new c.disarm.ensures.each) g.D.Disk.faults) c.roll_forward-rolled.result c.roll_forward-rolled.ensures.cause
