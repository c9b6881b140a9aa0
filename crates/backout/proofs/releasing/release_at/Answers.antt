use Rattle.std.proofs.Common.{◌≡◌, ap, ◌∙◌, subst}
use mathlib.Core.List.{IsPrefix}
use Rattle.node_machine.specs.Parts.{DiscPart}
use Rattle.txn_states.specs.Txn.{EndedView}
use Rattle.disc_process.specs.Undo.{IsReleaseAnswer}
use Rattle.disc_lock.specs.Locks.{held_disc}
use Rattle.backout.specs.Backed.{IsStuckAt, IsStuckBehind}
use Rattle.backout.proofs.Steps.{if_err}
use Rattle.backout.proofs.Undos.{met_before, release_stuck, stuck_here}
use Rattle.backout.proofs.releasing.release_at.Goals as goal

pub returns-clause-stuck : goal.returns-clause-stuck
returns-clause-stuck g c =
    let o = g.J.Run.opening in
    let config = g.J.NodeRun.found.config in
    let devices = g.J.DeviceRun.devices in
    let old = c.args.tx.now.txn in
    let seat = c.release_undone-answer.new.tx.txn.seat in
    let first = held_disc c.meet.new.self in
    let last = held_disc c.release_undone-answer.new.self in
    let named : first.part.number ≡ c.args.number = ap (λ (s : DiscPart). s.number) c.meet.ensures.part ∙ c.lock-disc.ensures.number ∙ c.disc_of.ensures in
    let configured : first.part.config ≡ config = ap (λ (s : DiscPart). s.config) c.meet.ensures.part ∙ c.lock-disc.ensures.config in
    let met : IsPrefix old.seat.seen first.seat.seen = met_before old.seat c.note-note.result c.meet.new.caller first.seat c.note-note.ensures.note c.meet.ensures.seats.caller_grown.begins c.meet.ensures.same in
    let answer : IsReleaseAnswer g.D.Disk o first last old.tx c.release_undone-answer.result =
    subst (λ (e : EndedView). IsReleaseAnswer g.D.Disk o first last e.txn.tx c.release_undone-answer.result) c.note-note.ensures.same c.release_undone-answer.ensures.released in
    if_err (IsStuckBehind g.D.Disk o first last old.tx) (IsStuckAt g.D.Disk o config devices old.tx old.seat seat c.args.number) c.release_undone-answer.result
    (λ e stuck. stuck_here g.D.Disk o config devices old.tx old.seat seat c.args.number first last e named configured c.lawful.ensures c.lawful-2.ensures c.device_lawful.ensures.handed_in c.release_undone-answer.ensures.disc met c.release_undone-answer.ensures.seen stuck)
    (release_stuck g.D.Disk o first last old.tx c.release_undone-answer.result answer)
