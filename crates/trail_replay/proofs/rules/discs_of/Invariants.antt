use Rattle.std.proofs.Common.{◌≡◌, ◌++◌, ◌+◌, length}
use Rattle.std.specs.List.{enumerate_from}
use Rattle.trail_replay.specs.Rules.{discs_among}
use Rattle.trail_replay.proofs.rules.discs_of.Given as goal

abbrev pub invariant-loop-volume : goal.invariant-loop-volume
invariant-loop-volume l = record {
  told : l.discs.items ++ discs_among l.trail (enumerate_from l.number l.rest) ≡ discs_among l.trail (enumerate_from 1 l.volumes);
  count : l.number + length l.rest ≡ 1 + length l.volumes;
}

abbrev pub decreases-loop-volume : goal.decreases-loop-volume
decreases-loop-volume l = length l.rest
