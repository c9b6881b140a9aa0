use Rattle.std.specs.Prelude.{[]}
use Rattle.two_discs.proofs.tests.enlisted.Given as goal

abbrev pub ghost-enlist : goal.ghost-enlist
ghost-enlist g a = []
