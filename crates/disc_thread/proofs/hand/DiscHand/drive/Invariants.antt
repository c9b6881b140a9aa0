use Rattle.std.proofs.Common.{◌≡◌}
use Rattle.disc_thread.proofs.hand.DiscHand.drive.Given as goal

abbrev pub invariant-loop : goal.invariant-loop
invariant-loop g l = l.self ≡ l.fn.self
