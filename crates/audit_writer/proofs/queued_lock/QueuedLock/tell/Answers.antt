use Rattle.std.proofs.Common.{◌≡◌, rules, subst}
use Rattle.audit_writer.specs.Drains.{AtQueue}
use Rattle.audit_writer.specs.Writes.{HasToldBound}
use Rattle.audit_writer.proofs.queued_lock.QueuedLock.tell.Goals as goal

pub returns-clause-told : goal.returns-clause-told
returns-clause-told g c =
    let old : c.deref_mut.result.now ≡ c.deref.result.now = search rules in
    let new : c.tell.new.self ≡ c.deref-2.result.now = search rules in
    let seat = c.tell.new.disc in
    let e = c.tell.ensures in
    record {
      before = c.deref.result.now.writer;
      after = c.deref-2.result.now.writer;
      was_one = c.lawful.ensures.lawful;
      is_one = c.lawful-2.ensures.lawful;
      number_was = c.lawful.ensures.number;
      number_is = c.lawful-2.ensures.number;
      so =
          subst (λ (w : AtQueue g.row.D.Denot). HasToldBound c.args.number c.args.bound seat c.deref.result.now.writer w.writer) new
          (subst (λ (v : AtQueue g.row.D.Denot). HasToldBound c.args.number c.args.bound seat v.writer c.tell.new.self.writer) old (record { told = e.told.0; raised = e.raised; same = e.same }));
    }
