use Rattle.std.proofs.Common.{◌≡◌, ◌++◌}
use Rattle.trail_replay.proofs.Listings.{listed}
use Rattle.trail_replay.proofs.found.listing.Given as goal

abbrev pub invariant-loop-key : goal.invariant-loop-key
invariant-loop-key l = l.entries.items ++ listed l.key-iterator ≡ listed l.found.entries
