use Rattle.std.specs.Prelude.{◌≡◌}
use Rattle.one_disc.specs.OneDisc.{IsTheDisc, first_of}
use Rattle.one_disc.proofs.tests.undoing.given_up.Given as goal

abbrev pub invariant-loop-left : goal.invariant-loop-left
invariant-loop-left g l = record {
  disc : IsTheDisc l.disc;
  tx : l.tx.tx ≡ first_of 1;
}
