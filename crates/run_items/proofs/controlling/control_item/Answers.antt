use Rattle.std.proofs.Common.{ℕ, sym, subst}
use Rattle.audit_writer.specs.Writer.{IsWriter}
use Rattle.disc_lock.specs.Locks.{number_of}
use Rattle.run_outcomes.specs.declared.outcome.Told.{Told}
use Rattle.run_items.specs.Controlled.{HasDoneControl, IsControlAnswered, told_by}
use Rattle.run_outcomes.specs.Reach.{reach_at}
use Rattle.run_items.proofs.Controls.{control_answered, control_done, given_one}
use Rattle.run_items.proofs.controlling.control_item.Goals as goal

pub disc_of-requires : goal.disc_of-requires
disc_of-requires g c = c.requires.volumes.discs_are c.args.volume c.requires.volume

pub control-answer-requires-clause-trails : goal.control-answer-requires-clause-trails
control-answer-requires-clause-trails g c = c.requires.volumes.trails_are

pub returns-clause-done : goal.returns-clause-done
returns-clause-done g c =
    let o = g.J.Run.opening in
    let config = g.J.NodeRun.found.config in
    let item = c.args.item in
    let old = c.args.seat.now in
    let new = c.control-answer.new.seat in
    let before = c.args.share.now in
    let after = c.control-answer.new.share in
    let answer = c.control-answer.result in
    let number = number_of c.disc_of.result.now in
    let is = c.control-answer.ensures in
    let is_one = IsWriter g.D.Disk o g.J.NodeRun.found g.J.NodeRun.rules g.J.NodeRun.faults g.J.NodeRun.premise g.J.DeviceRun.devices in
    let done = control_done o config number item old new before after is.seat g.D.Disk is_one c.knowing_law.ensures.moves answer is.controlled is.refused is.given in
    subst (λ (told : Told). HasDoneControl config c.args.volume item (reach_at old before) (reach_at new after) told) (sym c.told_by.ensures)
    (subst (λ (n : ℕ). HasDoneControl config n item (reach_at old before) (reach_at new after) (told_by n answer)) c.disc_of.ensures done)

pub returns-clause-answered : goal.returns-clause-answered
returns-clause-answered g c =
    let o = g.J.Run.opening in
    let config = g.J.NodeRun.found.config in
    let item = c.args.item in
    let old = c.args.seat.now in
    let new = c.control-answer.new.seat in
    let before = c.args.share.now in
    let after = c.control-answer.new.share in
    let answer = c.control-answer.result in
    let number = number_of c.disc_of.result.now in
    let is = c.control-answer.ensures in
    let is_one = IsWriter g.D.Disk o g.J.NodeRun.found g.J.NodeRun.rules g.J.NodeRun.faults g.J.NodeRun.premise g.J.DeviceRun.devices in
    let answered = control_answered o config number item old new before after is.seat g.D.Disk is_one c.knowing_law.ensures.moves answer is.controlled is.refused in
    subst (λ (told : Told). IsControlAnswered g.D.Disk is_one o config c.args.volume item old new told) (sym c.told_by.ensures)
    (subst (λ (n : ℕ). IsControlAnswered g.D.Disk is_one o config n item old new (told_by n answer)) c.disc_of.ensures answered)

pub returns-clause-given : goal.returns-clause-given
returns-clause-given g c =
    let is = c.control-answer.ensures in
    let is_one = IsWriter g.D.Disk g.J.Run.opening g.J.NodeRun.found g.J.NodeRun.rules g.J.NodeRun.faults g.J.NodeRun.premise g.J.DeviceRun.devices in
    given_one g.J.Run.opening g.J.NodeRun.found.config (number_of c.disc_of.result.now) c.args.item c.args.seat.now c.control-answer.new.seat c.args.share.now c.control-answer.new.share is.seat g.D.Disk is_one c.knowing_law.ensures.moves
    c.control-answer.result is.given

pub returns-clause-seat : goal.returns-clause-seat
returns-clause-seat g c = c.control-answer.ensures.seat
