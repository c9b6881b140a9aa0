use Rattle.audit_writer.proofs.Tying.{drains_takes, drains_then, written_takes}
use Rattle.audit_writer.proofs.Written.{on_ok, on_err, written_then, stopped_then}
use Rattle.audit_writer.proofs.queued.QueuedWriter.take_or_land.Goals as goal

pub returns-then-take-clause-kept : goal.returns-then-take-clause-kept
returns-then-take-clause-kept g c = drains_takes g.D.Disk (λ a. g.met.D.Disk.same_itself a) (λ a b d p q. g.met.D.Disk.same_on a b d p q) c.args.self.now.writer c.take.new.self.writer c.take.ensures.takes

pub returns-then-take-clause-events : goal.returns-then-take-clause-events
returns-then-take-clause-events g c = written_takes c.args.self.now.writer c.take.new.self.writer c.take.ensures.takes

pub returns-clause-kept : goal.returns-clause-kept
returns-clause-kept g c = drains_then g.D.Disk (λ a. g.met.D.Disk.same_itself a) (λ a b d p q. g.met.D.Disk.same_on a b d p q) c.args.self.now.writer c.take.new.self.writer c.land.new.self.writer (drains_takes g.D.Disk (λ a. g.met.D.Disk.same_itself a) (λ a b d p q. g.met.D.Disk.same_on a b d p q) c.args.self.now.writer c.take.new.self.writer c.take.ensures.takes) c.land.ensures.kept

pub returns-clause-events : goal.returns-clause-events
returns-clause-events g c = on_ok c.land.result (λ h. written_then c.args.self.now.writer c.take.new.self.writer c.land.new.self.writer (written_takes c.args.self.now.writer c.take.new.self.writer c.take.ensures.takes) h) c.land.ensures.events

pub returns-clause-events_err : goal.returns-clause-events_err
returns-clause-events_err g c = on_err c.land.result (λ h. stopped_then c.args.by c.args.self.now.writer c.take.new.self.writer c.land.new.self.writer (written_takes c.args.self.now.writer c.take.new.self.writer c.take.ensures.takes) h) c.land.ensures.events_err
