use Rattle.volume_restore.proofs.Adding.{listed_all, records_listing}
use Rattle.volume_restore.proofs.list.listing.Goals as goal

pub returns : goal.returns
returns c = λ map file same.
    records_listing c.args.records.now map file c.loop-key.entries.items c.iter-key-items.ensures.ordered
    (listed_all c.loop-key.entries.items c.loop-key.key-iterator c.args.records.now.entries c.in-None.ensures.steps.0 c.loop-key.invariant) same
