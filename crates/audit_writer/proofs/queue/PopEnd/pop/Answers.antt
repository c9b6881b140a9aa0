use Rattle.std.proofs.Common.{◌∙◌, arith}
use Rattle.crossbeam_queue.specs.Passes.{view}
use Rattle.audit_writer.proofs.Ruled.{pops, popped_still}
use Rattle.audit_writer.proofs.queue.PopEnd.pop.Goals as goal

pub try_pop_as-popped-requires-clause-rule : goal.try_pop_as-popped-requires-clause-rule
try_pop_as-popped-requires-clause-rule g c = pops _ _ c.self.invariant.1 _ c.self.invariant.2

pub invariant_of-self : goal.invariant_of-self
invariant_of-self g c =
    let i = c.self.invariant in
    let q = c.try_pop_as-popped.ensures.queue in
    let still = popped_still c.try_pop_as-popped.result (view c.self.inside.pass) (view c.try_pop_as-popped.new.pass) i.1 i.2 c.try_pop_as-popped.ensures.rule in
    ((q.0 ∙ i.0.0, q.2 ∙ i.0.1), still.0, still.1, q.0 ∙ i.3, omega arith)

pub invariant_of-self-else-is_none : goal.invariant_of-self-else-is_none
invariant_of-self-else-is_none g c =
    let i = c.self.invariant in
    let q = c.try_pop_as-popped.ensures.queue in
    let still = popped_still c.try_pop_as-popped.result (view c.self.inside.pass) (view c.try_pop_as-popped.new.pass) i.1 i.2 c.try_pop_as-popped.ensures.rule in
    ((q.0 ∙ i.0.0, q.2 ∙ i.0.1), still.0, still.1, q.0 ∙ i.3, omega arith)
