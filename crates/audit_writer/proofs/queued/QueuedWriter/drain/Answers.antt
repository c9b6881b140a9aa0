use Rattle.std.proofs.Common.{ap}
use Rattle.audit_writer.proofs.Tying.{drains_then, missed_same, told_drains}
use Rattle.audit_writer.proofs.Written.{err_anyway, written_then, stopped_then}
use Rattle.audit_writer.proofs.queued.QueuedWriter.drain.Goals as goal

pub returns-clause-kept : goal.returns-clause-kept
returns-clause-kept g c = drains_then g.D.Disk (λ a. g.met.D.Disk.same_itself a) (λ a b d p q. g.met.D.Disk.same_on a b d p q) c.args.self.now.writer c.gather.new.self.writer c.land.new.self.writer c.gather.ensures.kept c.land.ensures.kept

pub returns-clause-events : goal.returns-clause-events
returns-clause-events g c = written_then c.args.self.now.writer c.gather.new.self.writer c.land.new.self.writer c.in_ok-empty.ensures.events c.in_ok-land.ensures.events

pub returns-in_err-land-clause-kept : goal.returns-in_err-land-clause-kept
returns-in_err-land-clause-kept g c = drains_then g.D.Disk (λ a. g.met.D.Disk.same_itself a) (λ a b d p q. g.met.D.Disk.same_on a b d p q) c.args.self.now.writer c.gather.new.self.writer c.land.new.self.writer c.gather.ensures.kept c.land.ensures.kept

pub returns-in_err-land-clause-events_err : goal.returns-in_err-land-clause-events_err
returns-in_err-land-clause-events_err g c = err_anyway c.from_residual-in_err-land.result (stopped_then c.args.by c.args.self.now.writer c.gather.new.self.writer c.land.new.self.writer c.in_ok-empty.ensures.events c.in_err-land.ensures.events_err)

pub returns-clause-told : goal.returns-clause-told
returns-clause-told g c = λ yes. told_drains g.D.Disk c.gather.new.self c.land.new.self c.land.ensures.kept (ap (λ e. e.pass.told) c.land.ensures.end) (c.in_ok-empty.ensures.told yes)

pub returns-clause-popped : goal.returns-clause-popped
returns-clause-popped g c = missed_same c.args.self.now.end c.gather.new.self.end c.land.new.self.end c.land.ensures.end c.in_ok-empty.ensures.popped
