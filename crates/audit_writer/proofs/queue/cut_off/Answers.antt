use Rattle.std.proofs.Common.{subst, sym}
use Rattle.crossbeam_queue.specs.Passes.{view}
use Rattle.audit_writer.specs.Parcels.{Has}
use Rattle.audit_writer.proofs.Ruled.{forks_disc}
use Rattle.audit_writer.proofs.queue.cut_off.Goals as goal

pub another-requires-clause-rule : goal.another-requires-clause-rule
another-requires-clause-rule g c = forks_disc _ _ _ (subst (λ d. Has (view c.args.pass.now).hands (d, 0)) (sym c.requires.picked) c.requires.may)
