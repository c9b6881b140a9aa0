use Rattle.std.proofs.Common.{◌∙◌, ℕ, sym, subst}
use Rattle.disc_lock.specs.Locks.{number_of}
use Rattle.run_outcomes.specs.declared.outcome.Told.{Told}
use Rattle.run_items.specs.Dumped.{HasDoneDump, IsDumpAnswered, told_by}
use Rattle.run_outcomes.specs.Reach.{reach_at}
use Rattle.run_items.proofs.Dumps.{dump_answered, dump_done, dump_given}
use Rattle.run_items.proofs.dumping.dump_item.Goals as goal

pub disc_of-disc-requires : goal.disc_of-disc-requires
disc_of-disc-requires g c = c.requires.volumes.discs_are c.args.volume c.requires.volume

pub dumper_of-dumper-requires : goal.dumper_of-dumper-requires
dumper_of-dumper-requires g c = c.requires.volumes.dumpers_are c.args.volume c.requires.volume

pub dump-answer-requires-clause-trails : goal.dump-answer-requires-clause-trails
dump-answer-requires-clause-trails g c = c.requires.volumes.trails_are

pub dump-answer-requires-clause-number : goal.dump-answer-requires-clause-number
dump-answer-requires-clause-number g c = c.disc_of-disc.ensures ∙ sym c.dumper_of-dumper.ensures

pub returns-clause-done : goal.returns-clause-done
returns-clause-done g c =
    let found = g.J.NodeRun.found in
    let devices = g.J.DeviceRun.devices in
    let item = c.args.item in
    let old = c.args.seat.now in
    let new = c.dump-answer.new.seat in
    let before = c.args.share.now in
    let after = c.dump-answer.new.share in
    let answer = c.dump-answer.result in
    let is = c.dump-answer.ensures in
    let done = dump_done g.J.Run.opening found (number_of c.disc_of-disc.result.now) item old new before after is.seat g.D.Disk devices c.knowing_law.ensures.moves c.knowing_law.ensures.once answer is.dumped is.refused in
    subst (λ (told : Told). HasDoneDump g.D.Disk devices found c.args.volume item (reach_at old before) (reach_at new after) told) (sym c.told_by.ensures)
    (subst (λ (n : ℕ). HasDoneDump g.D.Disk devices found n item (reach_at old before) (reach_at new after) (told_by n answer)) c.disc_of-disc.ensures done)

pub returns-clause-answered : goal.returns-clause-answered
returns-clause-answered g c =
    let o = g.J.Run.opening in
    let found = g.J.NodeRun.found in
    let devices = g.J.DeviceRun.devices in
    let item = c.args.item in
    let old = c.args.seat.now in
    let new = c.dump-answer.new.seat in
    let before = c.args.share.now in
    let after = c.dump-answer.new.share in
    let answer = c.dump-answer.result in
    let is = c.dump-answer.ensures in
    let answered = dump_answered o found (number_of c.disc_of-disc.result.now) item old new before after is.seat g.D.Disk devices c.knowing_law.ensures.moves c.knowing_law.ensures.once answer is.dumped is.refused in
    subst (λ (told : Told). IsDumpAnswered g.D.Disk devices o found c.args.volume item old new before after told) (sym c.told_by.ensures)
    (subst (λ (n : ℕ). IsDumpAnswered g.D.Disk devices o found n item old new before after (told_by n answer)) c.disc_of-disc.ensures answered)

pub returns-clause-given : goal.returns-clause-given
returns-clause-given g c =
    let is = c.dump-answer.ensures in
    dump_given g.J.Run.opening g.J.NodeRun.found (number_of c.disc_of-disc.result.now) c.args.item c.args.seat.now c.dump-answer.new.seat c.args.share.now c.dump-answer.new.share is.seat g.D.Disk g.J.DeviceRun.devices
    c.knowing_law.ensures.moves c.knowing_law.ensures.once c.dump-answer.result is.dumped is.refused

pub returns-clause-seat : goal.returns-clause-seat
returns-clause-seat g c = c.dump-answer.ensures.seat
