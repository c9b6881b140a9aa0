use Rattle.std.proofs.Common.{◌≡◌, ◌==◌, true, ℕ, sym, subst, ap, ◌∙◌}
use Rattle.std.specs.List.{list_any}
use Rattle.chronicle.specs.Seats.{Knows}
use Rattle.tmf_model.specs.declared.transid.Transid.{Transid}
use Rattle.node_machine.specs.Monitor.{IsFlushed}
use Rattle.node_machine.specs.Node.{node}
use Rattle.node_machine.specs.Trail.{trail_of}
use Rattle.node_machine.specs.declared.event.By.TheVariants.{Attempt}
use Rattle.audit_writer.specs.Locked.{HasFailed}
use Rattle.phase_one.proofs.Flushing.{failed_behind, stepped_then}
use Rattle.phase_one.proofs.phase.flush_at.Goals as goal

pub close_at-requires : goal.close_at-requires
close_at-requires g c = subst (λ (n : ℕ). list_any (λ d. d == n) c.args.tx.now.discs ≡ true) (sym c.disc_at-disc.ensures) c.requires.enlisted

pub settle_at-requires : goal.settle_at-requires
settle_at-requires g c = c.land.ensures.same.1 ∙ c.in_ok-handover.ensures.handed.1

pub returns-clause-flushed : goal.returns-clause-flushed
returns-clause-flushed g c =
    let handed = c.in_ok-handover.ensures.handed in
    subst (λ (x : Transid × ℕ). IsFlushed (Knows node g.J.Run.opening c.land.new.tx.seat) x.0 x.1) (λ j. (handed.0 j, (handed.1 ∙ c.disc_at-disc.ensures) j)) c.in_default.ensures.flushed

pub returns-clause-txn : goal.returns-clause-txn
returns-clause-txn g c = stepped_then g.J.Run.opening c.args.tx.now c.close_at.new.tx c.land.new.tx c.close_at.ensures.txn c.land.ensures.txn

pub returns-in-Err-clause-txn : goal.returns-in-Err-clause-txn
returns-in-Err-clause-txn g c = stepped_then g.J.Run.opening c.args.tx.now c.close_at.new.tx c.land.new.tx c.close_at.ensures.txn c.land.ensures.txn

pub returns-in-Err-clause-refused : goal.returns-in-Err-clause-refused
returns-in-Err-clause-refused g c =
    let handed = c.in_ok-handover.ensures.handed in
    let failed = subst (λ (n : ℕ). HasFailed (trail_of g.J.NodeRun.found.config n) (Attempt c.close_at.new.tx.tx) c.close_at.new.tx.seat c.land.new.tx.seat c.in-Err.refused) (handed.1 ∙ c.disc_at-disc.ensures) c.in-Err.ensures.refused in
    failed_behind g.J.Run.opening (trail_of g.J.NodeRun.found.config c.args.number) c.args.tx.now c.close_at.new.tx c.land.new.tx c.in-Err.refused c.close_at.ensures.txn failed
