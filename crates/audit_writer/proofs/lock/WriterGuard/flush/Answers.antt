use Rattle.std.specs.Prelude.{MatchResult}
use Rattle.std.proofs.Common.{◌≡◌, rules, subst}
use Rattle.audit_writer.specs.Locked.{IsFlushStop}
use Rattle.audit_writer.specs.Writer.{Writer}
use Rattle.audit_writer.specs.Writers.{held_writer}
use Rattle.audit_writer.specs.Writes.{HasWritten}
use Rattle.audit_writer.proofs.lock.WriterGuard.flush.Goals as goal

pub returns-in-One-clause-events : goal.returns-in-One-clause-events
returns-in-One-clause-events g c =
    let same : c.deref_mut.result.now.state ≡ held_writer c.args.self.now = search rules in
    subst (λ (v : Writer g.row.D.Denot). MatchResult c.flush.result (λ _. HasWritten v c.flush.new.self.state) (IsFlushStop g.D.Disk.faults c.args.by v c.flush.new.self.state)) same c.flush.ensures.events

pub returns-in-Two-clause-events : goal.returns-in-Two-clause-events
returns-in-Two-clause-events g c =
    let same : c.deref_mut-in-Two.result.now.state ≡ held_writer c.args.self.now = search rules in
    subst (λ (v : Writer g.row.D.Denot). MatchResult c.flush-in-Two.result (λ _. HasWritten v c.flush-in-Two.new.self.state) (IsFlushStop g.D.Disk.faults c.args.by v c.flush-in-Two.new.self.state)) same c.flush-in-Two.ensures.events

pub returns-in-Three-clause-events : goal.returns-in-Three-clause-events
returns-in-Three-clause-events g c =
    let same : c.deref_mut-in-Three.result.now.state ≡ held_writer c.args.self.now = search rules in
    subst (λ (v : Writer g.row.D.Denot). MatchResult c.flush-in-Three.result (λ _. HasWritten v c.flush-in-Three.new.self.state) (IsFlushStop g.D.Disk.faults c.args.by v c.flush-in-Three.new.self.state)) same c.flush-in-Three.ensures.events

pub returns-in-Four-clause-events : goal.returns-in-Four-clause-events
returns-in-Four-clause-events g c =
    let same : c.deref_mut-in-Four.result.now.state ≡ held_writer c.args.self.now = search rules in
    subst (λ (v : Writer g.row.D.Denot). MatchResult c.flush-in-Four.result (λ _. HasWritten v c.flush-in-Four.new.self.state) (IsFlushStop g.D.Disk.faults c.args.by v c.flush-in-Four.new.self.state)) same c.flush-in-Four.ensures.events
