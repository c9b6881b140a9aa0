use Rattle.std.proofs.Common.{◌≡◌, take}
use Rattle.trail_files.specs.Recovered.{commits_of}
use Rattle.trail_replay.proofs.found.commits.Given as goal

abbrev pub invariant-loop-item : goal.invariant-loop-item
invariant-loop-item l = l.transids.items ≡ commits_of (take l.item-index l.records)
