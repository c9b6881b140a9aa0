use Rattle.std.proofs.Common.{◌∙◌}
use Rattle.audit_writer.specs.Writers.{held_writer}
use Rattle.audit_writer.proofs.lock.AuditWriter.meet.Goals as goal

pub returns-clause-same : goal.returns-clause-same
returns-clause-same g c = (held_writer c.meet.new.self, c.lawful.ensures.lawful, c.lawful.ensures.number ∙ c.meet.ensures.number ∙ c.lock-writer.ensures, c.meet.ensures.same)
