use Rattle.std.specs.Prelude.{◌≡◌, ◌≤◌, ◌+◌}
use Rattle.two_workers.specs.OneDisc.{first_of}
use Rattle.two_workers.proofs.tests.work.Given as goal

abbrev pub invariant-loop-number : goal.invariant-loop-number
invariant-loop-number g l = record {
  tx : l.active.tx ≡ first_of l.fn.worker;
  part : l.active.seat.part ≡ l.fn.hand.seat.part;
  whole : l.share.parts ≡ 1;
  given : l.share.amount + l.told ≡ 8;
  few : l.told ≤ l.number;
  landed : l.landed ≤ l.told;
}
