use Rattle.disc_process.specs.Release.{IsReleaseSeen}
use Rattle.disc_process.specs.Undo.{HasReleased}
use Rattle.disc_process.proofs.Later.{later_disc}
use Rattle.disc_process.proofs.Released.{release_seen, where_released}
use Rattle.disc_process.proofs.disc.DiscState.release_undone.Goals as goal

pub returns-clause-disc : goal.returns-clause-disc
returns-clause-disc g c = (let a = c.release_undone_step-answer in later_disc g.D.Disk g.J.Run.opening c.args.self.now a.new.self c.lawful.ensures c.lawful-2.ensures a.ensures.later_seat.place a.ensures.later_seat.begins)

pub returns-clause-own : goal.returns-clause-own
returns-clause-own g c =
    let a = c.release_undone_step-answer in
    let old = c.args.self.now in
    let tx = c.args.tx.now.txn in
    where_released g.D.Disk g.J.Run.opening old a.new.self tx.tx (IsReleaseSeen old.part tx a.new.tx.txn) a.result
    (λ (h : HasReleased g.J.Run.opening old a.new.self tx.tx). release_seen g.D.Disk g.J.Run.opening old a.new.self tx a.new.tx.txn c.lawful.ensures a.ensures.later_seat.place a.ensures.txn.seat.begins a.ensures.seen h.more h.are h.events) a.ensures.released
