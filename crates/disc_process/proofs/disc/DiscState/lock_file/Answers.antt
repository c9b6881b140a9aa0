use Rattle.std.proofs.Common.{subst, sym}
use Rattle.tmf_model.specs.declared.transid.Transid.{Transid}
use Rattle.node_machine.specs.Disc.{IsOther}
use Rattle.disc_process.proofs.FileLocks.{blocked_by}
use Rattle.disc_process.proofs.disc.DiscState.lock_file.Goals as goal

pub turn_busy_file-requires-clause-other : goal.turn_busy_file-requires-clause-other
turn_busy_file-requires-clause-other g c = subst (λ (x : Transid). IsOther c.in-Some.other x) (sym c.tx.ensures.tx) c.in-Some.ensures.busy.other

pub turn_busy_file-requires-clause-holds : goal.turn_busy_file-requires-clause-holds
turn_busy_file-requires-clause-holds g c = blocked_by c.args.self.now.part c.args.tx.now.tx c.args.file c.in-Some.other c.in-Some.ensures.busy
