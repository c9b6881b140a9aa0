use Rattle.disc_process.specs.Write.{WasFit}
use Rattle.disc_process.proofs.Drawn.{prefix_then}
use Rattle.disc_process.proofs.FileLocks.{lock_answered}
use Rattle.disc_process.proofs.Later.{later_then}
use Rattle.disc_process.proofs.Own.{own_still}
use Rattle.disc_process.proofs.disc.DiscState.attempt_file.Goals as goal

pub returns-clause-answered : goal.returns-clause-answered
returns-clause-answered g c =
    let before = c.spent.ensures in
    let old = c.args.self.now in
    let mid = c.spent.new.self in
    let fit : WasFit old c.lock_file.new.self c.args.tx.now = record {
      seen = mid.seat.seen;
      behind = before.still.grown.begins;
      met = prefix_then c.args.tx.now.seat.seen c.spent.new.tx.seat.seen mid.seat.seen before.txn.begins before.behind;
      before = c.lock_file.ensures.later_seat.begins;
      own = own_still old.part.number old.seat mid.seat c.lawful.ensures.place before.still.grown;
      fit = c.in_default.ensures.fit;
    } in
    lock_answered old mid c.lock_file.new.self c.args.tx.now c.spent.new.tx c.lock_file.new.tx c.args.file before.still.part before.still.blocks before.still.grown before.txn.tx before.idle fit c.lock_file.result c.lock_file.ensures.done

pub returns-clause-txn : goal.returns-clause-txn
returns-clause-txn g c = later_then g.J.Run.opening c.args.tx.now c.spent.new.tx c.lock_file.new.tx c.spent.ensures.txn c.lock_file.ensures.txn
