use Rattle.std.proofs.Common.{false}
use Rattle.disk_model.proofs.Devices.{rose-after, tell-then}
use Rattle.tmf_cli.proofs.Bays.{images-same}
use Rattle.tmf_cli.proofs.Countdowns.{leaves-cut, recovers-on, rose-later, set-switches, switched-falls, switched-holds, switched-tells}
use Rattle.tmf_cli.proofs.countdown.recover_within.Goals as goal

pub returns-clause-recovered : goal.returns-clause-recovered
returns-clause-recovered g c = λ tell.
    let old = c.args.bay.now in
    let armed = c.arm.new.bay in
    let mid = c.recover-recovered.new.bay in
    let new = c.disarm.new.self in
    let answers = c.recover-recovered.ensures.recovered (tell-then g.D.Disk.tells old armed (switched-tells old armed c.arm.ensures.switches g.D.Disk.tells) tell) in (
      answers.0,
      images-same g.D.Disk.held old armed answers.0 (switched-holds old armed c.arm.ensures.switches g.D.Disk.held) answers.1,
      recovers-on g.D.Disk.held c.args.config.now answers.0 mid new (switched-holds mid new (set-switches false mid new c.disarm.ensures.each) g.D.Disk.held) c.recover-recovered.result answers.2,
    )

pub returns-clause-keeps : goal.returns-clause-keeps
returns-clause-keeps g c =
    leaves-cut g.D.Disk g.met.D.Disk.same_itself g.met.D.Disk.same_on c.args.config.now _ c.args.bay.now c.arm.new.bay c.recover-recovered.new.bay c.disarm.new.self
    c.requires.off c.arm.ensures.switches c.arm.ensures.whole c.recover-recovered.ensures.keeps c.disarm.ensures.each c.recover-recovered.ensures.others

pub returns-clause-cause : goal.returns-clause-cause
returns-clause-cause g c = λ number failed.
    let old = c.args.bay.now in
    let armed = c.arm.new.bay in
    let mid = c.recover-recovered.new.bay in
    let new = c.disarm.new.self in
    let cause = c.recover-recovered.ensures.cause number failed in (
      cause.0,
      rose-later g.D.Disk.faults old mid new number (switched-falls mid new (set-switches false mid new c.disarm.ensures.each) g.D.Disk.faults)
          (rose-after g.D.Disk.faults old armed mid number (switched-falls old armed c.arm.ensures.switches g.D.Disk.faults) c.recover-recovered.ensures.keeps.later cause.1),
    )
