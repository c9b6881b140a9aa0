use Rattle.trail_files.proofs.AuditStanding.{stands_push}
use Rattle.trail_files.proofs.audit_order.AuditOrder.add.Goals as goal

pub returns : goal.returns
returns c = λ before stands follows. stands_push c.args.self.now before c.args.item.now c.insert.new.self stands follows c.in_ok-insert.ensures.updates.0
