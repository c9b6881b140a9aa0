use Rattle.std.proofs.Common.{[], ◌++◌, List, append-nil, refl, ap, sym, ◌∙◌}
use Rattle.chronicle.specs.Seats.{own_events}
use Rattle.node_machine.specs.declared.event.Event.{Event}
use Rattle.disc_process.specs.Release.{releasings}
use Rattle.disc_process.proofs.Later.{later_disc}
use Rattle.disc_process.proofs.Released.{release_seen}
use Rattle.disc_process.proofs.disc.DiscState.release.Goals as goal

pub returns-clause-disc : goal.returns-clause-disc
returns-clause-disc g c = (let a = c.release_step in later_disc g.D.Disk g.J.Run.opening c.args.self.now a.new.self c.lawful.ensures c.lawful-2.ensures a.ensures.freed.place a.ensures.freed.begins)

pub returns-clause-own : goal.returns-clause-own
returns-clause-own g c =
    let a = c.release_step in
    let old = c.args.self.now in
    let events = a.ensures.freed.events ∙ ap (λ (l : List Event). l ++ releasings old.part.events c.args.tx.now.txn.tx) (sym (append-nil (own_events old.seat))) in
    release_seen g.D.Disk g.J.Run.opening old a.new.self c.args.tx.now.txn a.new.tx.txn c.lawful.ensures a.ensures.freed.place a.ensures.txn.seat.begins a.ensures.seen [] refl events
