use Rattle.std.proofs.Common.{◌≡◌, length}
use Rattle.two_discs.specs.TwoDiscs.{IsWriting}
use Rattle.two_discs.proofs.tests.change_many.Given as goal

abbrev pub invariant-loop-n : goal.invariant-loop-n
invariant-loop-n g l = record { many : length l.records.items ≡ l.n; writing : IsWriting g.J.Run.opening l.disc l.records.items l.seat }
