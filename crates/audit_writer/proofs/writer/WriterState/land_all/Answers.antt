use Rattle.std.proofs.Common.{arith}
use Rattle.audit_writer.proofs.Written.{err_anyway, written_then, stopped_then, writes_then}
use Rattle.audit_writer.proofs.writer.WriterState.land_all.Goals as goal

pub loop-self-preserved : goal.loop-self-preserved
loop-self-preserved g c =
    let i = c.loop-self.invariant in
    let e = c.land_next.ensures in
    let later = e.cause.later in
    let before = i.2 in (
      writes_then g.D.Disk (λ a b d p q. g.met.D.Disk.same_on a b d p q) c.args.self.now c.loop-self.self c.land_next.new.self i.0 e.kept,
      written_then c.args.self.now c.loop-self.self c.land_next.new.self i.1 c.in_ok-land_next.ensures.events,
      omega (arith, later, before),
    )

pub returns-in_err-land_next-clause-events_err : goal.returns-in_err-land_next-clause-events_err
returns-in_err-land_next-clause-events_err g c =
    let i = c.loop-self.invariant in
    err_anyway c.from_residual.result (stopped_then c.args.by c.args.self.now c.loop-self.self c.land_next.new.self i.1 c.in_err-land_next.ensures.events_err)
