use Rattle.run_opening.proofs.Placings.{is_placed}
use Rattle.run_opening.proofs.audit_kept.AuditKept.new.Goals as goal

pub returns-clause-placed : goal.returns-clause-placed
returns-clause-placed g c = is_placed g.D.Disk c.args.trail _
