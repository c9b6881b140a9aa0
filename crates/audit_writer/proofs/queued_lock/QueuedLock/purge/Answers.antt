use Rattle.std.proofs.Common.{◌≡◌, rules, subst}
use Rattle.audit_writer.specs.Drains.{AtQueue}
use Rattle.audit_writer.specs.Purge.{HasPurgedFor}
use Rattle.audit_writer.proofs.queued_lock.QueuedLock.purge.Goals as goal

pub returns-clause-purged : goal.returns-clause-purged
returns-clause-purged g c =
    let old : c.deref_mut.result.now ≡ c.deref.result.now = search rules in
    let new : c.purge-purged.new.self ≡ c.deref-2.result.now = search rules in
    let kind = g.D.Disk in
    let seat = c.purge-purged.new.caller in
    let answer = c.purge-purged.result in
    let e = c.purge-purged.ensures in
    record {
      before = c.deref.result.now.writer;
      after = c.deref-2.result.now.writer;
      was_one = c.lawful.ensures.lawful;
      is_one = c.lawful-2.ensures.lawful;
      number_was = c.lawful.ensures.number;
      number_is = c.lawful-2.ensures.number;
      so =
          subst (λ (w : AtQueue g.row.D.Denot). HasPurgedFor kind c.args.by seat answer c.deref.result.now.writer w.writer) new
          (subst (λ (v : AtQueue g.row.D.Denot). HasPurgedFor kind c.args.by seat answer v.writer c.purge-purged.new.self.writer) old (record { kept = e.kept; removes = e.removes; events = e.events; cause = e.cause; same = e.same }));
    }
