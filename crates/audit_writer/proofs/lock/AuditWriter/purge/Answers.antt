use Rattle.std.proofs.Common.{◌∙◌, ℕ, subst}
use Rattle.std.specs.Prelude.{OnErr}
use Rattle.chronicle.specs.Seats.{HasNewlySeen}
use Rattle.node_machine.specs.declared.event.Event.TheVariants.{OfTrail}
use Rattle.node_machine.specs.declared.event.TrailEvent.TheVariants.{Failed}
use Rattle.node_machine.specs.Opening.{trail_part}
use Rattle.audit_writer.specs.Writers.{held_writer}
use Rattle.audit_writer.proofs.lock.AuditWriter.purge.Goals as goal

pub returns-clause-purged : goal.returns-clause-purged
returns-clause-purged g c =
    let p = c.purge-purged.ensures in
    record {
      before = held_writer c.lock-writer.result;
      after = held_writer c.purge-purged.new.self;
      was_one = c.lawful.ensures.lawful;
      is_one = c.lawful-2.ensures.lawful;
      number_was = c.lawful.ensures.number ∙ c.lock-writer.ensures;
      number_is = c.lawful-2.ensures.number ∙ p.number ∙ c.lock-writer.ensures;
      so = record { kept = p.kept; removes = p.removes; events = p.events; cause = p.cause; same = p.same };
    }

pub returns-clause-failed : goal.returns-clause-failed
returns-clause-failed g c =
    subst (λ (n : ℕ). OnErr c.purge-purged.result (HasNewlySeen (trail_part n) (OfTrail (Failed c.args.by)) c.args.caller.now c.purge-purged.new.caller)) c.lock-writer.ensures c.purge-purged.ensures.failed
