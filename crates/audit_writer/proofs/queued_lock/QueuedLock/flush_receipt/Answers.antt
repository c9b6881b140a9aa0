use Rattle.std.proofs.Common.{refl, ◌∙◌}
use Rattle.node_machine.specs.declared.event.Event.TheVariants.{OfTrail}
use Rattle.node_machine.specs.declared.event.TrailEvent.TheVariants.{Failed}
use Rattle.node_machine.specs.Opening.{trail_part}
use Rattle.audit_writer.proofs.Joining.{grown_none, grown_then, learned_none}
use Rattle.audit_writer.proofs.Locks.{learned_then, newly_then}
use Rattle.audit_writer.proofs.Written.{err_anyway}
use Rattle.audit_writer.proofs.queued_lock.QueuedLock.flush_receipt.Goals as goal

pub loop-init : goal.loop-init
loop-init g c = (grown_none c.args.disc.now, learned_none g.J.Run.opening c.args.disc.now c.lawful.ensures, refl)

pub loop-preserved : goal.loop-preserved
loop-preserved g c =
    let i = c.loop.invariant in (
      grown_then c.args.disc.now c.loop.disc c.flush_receipt.new.caller i.0 c.flush_receipt.ensures.grown,
      learned_then g.J.Run.opening c.args.disc.now c.loop.disc c.flush_receipt.new.caller i.1 c.flush_receipt.ensures.learned,
      c.flush_receipt.ensures.same ∙ i.2,
    )

pub returns-in_err-flush_receipt-clause-failed : goal.returns-in_err-flush_receipt-clause-failed
returns-in_err-flush_receipt-clause-failed g c =
    err_anyway c.from_residual.result (newly_then (trail_part g.row.N) (OfTrail (Failed c.args.by)) c.args.disc.now c.loop.disc c.flush_receipt.new.caller c.loop.invariant.0 c.in_err-flush_receipt.ensures.failed)

pub returns-in_err-flush_receipt-clause-learned : goal.returns-in_err-flush_receipt-clause-learned
returns-in_err-flush_receipt-clause-learned g c = learned_then g.J.Run.opening c.args.disc.now c.loop.disc c.flush_receipt.new.caller c.loop.invariant.1 c.flush_receipt.ensures.learned

pub returns-then-branch-clause-learned : goal.returns-then-branch-clause-learned
returns-then-branch-clause-learned g c = learned_then g.J.Run.opening c.args.disc.now c.loop.disc c.flush_receipt.new.caller c.loop.invariant.1 c.flush_receipt.ensures.learned
