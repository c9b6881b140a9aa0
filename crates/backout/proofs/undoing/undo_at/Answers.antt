use Rattle.std.proofs.Common.{◌≡◌, [], ap, ◌∙◌, subst}
use mathlib.Core.List.{IsPrefix}
use Rattle.node_machine.specs.Made.{changes_left}
use Rattle.node_machine.specs.Parts.{DiscPart}
use Rattle.txn_states.specs.Txn.{Txn}
use Rattle.disc_lock.specs.Locks.{held_disc}
use Rattle.backout.specs.Backed.{IsStuckAt, IsStuckBehind, WasUndone}
use Rattle.backout.proofs.Steps.{if_err, on_ok}
use Rattle.backout.proofs.Undos.{met_before, stuck_here, undone_here}
use Rattle.backout.proofs.undoing.undo_at.Goals as goal

pub returns-clause-undone : goal.returns-clause-undone
returns-clause-undone g c =
    let o = g.J.Run.opening in
    let old = c.args.tx.now in
    let new = c.undo_all-answer.new.tx in
    let first = held_disc c.meet.new.self in
    let last = held_disc c.undo_all-answer.new.disc in
    let named : first.part.number ≡ c.args.number = ap (λ (s : DiscPart). s.number) c.meet.ensures.part ∙ c.lock-disc.ensures.number ∙ c.disc_of.ensures in
    let named_last : last.part.number ≡ c.args.number = ap (λ (s : DiscPart). s.number) c.undo_all-answer.ensures.disc.part ∙ named in
    let begins : IsPrefix old.seat.seen new.seat.seen = subst (λ (t : Txn). IsPrefix t.seat.seen new.seat.seen) c.note-note.ensures.same c.undo_all-answer.ensures.txn.seat.begins in
    on_ok (changes_left last.part.events c.note-note.new.self.tx ≡ []) (WasUndone o old.tx old.seat.seen new.seat.seen c.args.number) c.undo_all-answer.result
    (λ none. undone_here g.D.Disk o old.tx old.seat.seen new.seat.seen c.args.number last c.lawful-2.ensures named_last c.undo_all-answer.ensures.seen begins
    (subst (λ (t : Txn). changes_left last.part.events t.tx ≡ []) c.note-note.ensures.same none))
    c.undo_all-answer.ensures.undone

pub returns-clause-stuck : goal.returns-clause-stuck
returns-clause-stuck g c =
    let o = g.J.Run.opening in
    let config = g.J.NodeRun.found.config in
    let devices = g.J.DeviceRun.devices in
    let old = c.args.tx.now in
    let seat = c.undo_all-answer.new.tx.seat in
    let first = held_disc c.meet.new.self in
    let last = held_disc c.undo_all-answer.new.disc in
    let named : first.part.number ≡ c.args.number = ap (λ (s : DiscPart). s.number) c.meet.ensures.part ∙ c.lock-disc.ensures.number ∙ c.disc_of.ensures in
    let configured : first.part.config ≡ config = ap (λ (s : DiscPart). s.config) c.meet.ensures.part ∙ c.lock-disc.ensures.config in
    let met : IsPrefix old.seat.seen first.seat.seen = met_before old.seat c.note-note.result c.meet.new.caller first.seat c.note-note.ensures.note c.meet.ensures.seats.caller_grown.begins c.meet.ensures.same in
    if_err (IsStuckBehind g.D.Disk o first last c.note-note.new.self.tx) (IsStuckAt g.D.Disk o config devices old.tx old.seat seat c.args.number) c.undo_all-answer.result
    (λ e stuck. stuck_here g.D.Disk o config devices old.tx old.seat seat c.args.number first last e named configured c.lawful.ensures c.lawful-2.ensures c.device_lawful.ensures.handed_in c.undo_all-answer.ensures.disc met c.undo_all-answer.ensures.seen
    (subst (λ (t : Txn). IsStuckBehind g.D.Disk o first last t.tx e) c.note-note.ensures.same stuck))
    c.undo_all-answer.ensures.stuck
