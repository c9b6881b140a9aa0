use Rattle.audit_writer.proofs.Ruled.{learns}
use Rattle.audit_writer.proofs.queue.PopEnd.is_empty.Goals as goal

pub is_empty_as-requires-clause-rule : goal.is_empty_as-requires-clause-rule
is_empty_as-requires-clause-rule g c = learns _ _
