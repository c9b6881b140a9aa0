use Rattle.std.proofs.Common.{◌≡◌, ◌++◌}
use Rattle.volume_restore.proofs.list.listing.Given as goal

abbrev pub invariant-loop-key : goal.invariant-loop-key
invariant-loop-key l = l.entries.items ++ l.key-iterator ≡ l.records.entries
