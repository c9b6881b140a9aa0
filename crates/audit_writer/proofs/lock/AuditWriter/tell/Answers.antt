use Rattle.std.proofs.Common.{◌∙◌}
use Rattle.audit_writer.specs.Writers.{held_writer}
use Rattle.audit_writer.proofs.lock.AuditWriter.tell.Goals as goal

pub returns-clause-told : goal.returns-clause-told
returns-clause-told g c = record {
  before = held_writer c.lock-writer.result;
  after = held_writer c.tell.new.self;
  was_one = c.lawful.ensures.lawful;
  is_one = c.lawful-2.ensures.lawful;
  number_was = c.lawful.ensures.number ∙ c.lock-writer.ensures;
  number_is = c.lawful-2.ensures.number ∙ c.tell.ensures.number ∙ c.lock-writer.ensures;
  so = record { told = c.tell.ensures.told; raised = c.tell.ensures.raised; same = c.tell.ensures.same };
}
