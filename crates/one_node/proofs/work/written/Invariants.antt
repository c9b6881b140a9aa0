use Rattle.std.specs.Prelude.{◌≡◌, ◌≤◌, ◌+◌}
use Rattle.one_node.specs.OneNode.{AreOnly, first_of}
use Rattle.one_node.proofs.work.written.Given as goal

abbrev pub invariant-loop-number : goal.invariant-loop-number
invariant-loop-number g l = record {
  tx : l.active.tx ≡ first_of l.fn.hand.worker;
  discs : AreOnly l.active.discs;
  part : l.share.parts ≡ 1;
  few : 16 ≤ l.share.amount + l.number;
}
