use Rattle.std.proofs.Common.{[]}
use Rattle.trail_files.specs.declared.rules.Rules.{Rules}
use Rattle.run_opening.proofs.laws.list_laws.Goals as goal

rules : Rules
rules = record { roll = 0; trail = 0; discs = []; files = [] }

pub returns : goal.returns
returns g c = record {
  one = λ held xs ys. c.one_spelling.ensures.spelled rules held xs ys;
  undamaged = λ held xs damage. c.one_spelling.ensures.undamaged rules held xs damage;
  damage = λ held x y. c.one_spelling.ensures.damage rules held x y;
}
