use Rattle.std.proofs.Common.{◌≡◌, rules, ap, sym, ◌∙◌}
use Rattle.audit_writer.specs.Drains.{AtQueue}
use Rattle.audit_writer.proofs.queued_lock.QueuedLock.meet.Goals as goal

pub returns-clause-same : goal.returns-clause-same
returns-clause-same g c =
    let now : c.deref.result.now ≡ c.meet.new.self = search rules in
    (c.deref.result.now.writer, c.lawful.ensures.lawful, c.lawful.ensures.number, c.meet.ensures.same ∙ ap (λ (w : AtQueue g.row.D.Denot). w.writer.seat.sight.seen) (sym now))
