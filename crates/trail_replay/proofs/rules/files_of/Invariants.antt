use Rattle.std.proofs.Common.{◌≡◌, ◌++◌, ◌+◌, length}
use Rattle.std.specs.List.{enumerate_from}
use Rattle.trail_replay.specs.Rules.{files_among}
use Rattle.trail_replay.proofs.rules.files_of.Given as goal

abbrev pub invariant-loop-file : goal.invariant-loop-file
invariant-loop-file l = record {
  told : l.pairs.items ++ files_among l.discs (enumerate_from l.number l.rest) ≡ files_among l.discs (enumerate_from 1 l.files);
  count : l.number + length l.rest ≡ 1 + length l.files;
}

abbrev pub decreases-loop-file : goal.decreases-loop-file
decreases-loop-file l = length l.rest
