use Rattle.trail_replay.proofs.Listings.{listed-listing, listed-whole}
use Rattle.trail_replay.proofs.found.listing.Goals as goal

pub returns : goal.returns
returns c = λ file. listed-listing c.args.found.now file c.loop-key.entries.items c.iter-key-items.ensures.ordered
    (listed-whole c.loop-key.entries.items c.loop-key.key-iterator c.args.found.now.entries c.in-None.ensures.steps.0 c.loop-key.invariant)
