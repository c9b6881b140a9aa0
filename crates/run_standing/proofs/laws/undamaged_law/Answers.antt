use Rattle.trail_files.specs.declared.rules.Rules.{Rules}
use Rattle.std.proofs.Common.{[]}
use Rattle.trail_replay.specs.Rules.{rules_of}
use Rattle.run_standing.proofs.Fit.{undamaged_law}
use Rattle.run_standing.proofs.laws.undamaged_law.Goals as goal

-- the monitor's format asks for no rules
none : Rules
none = record { roll = 0; trail = 0; discs = []; files = [] }

pub returns : goal.returns
returns g c = undamaged_law (record {
  one_list = λ held xs ys. c.one_spelling.ensures.spelled none held xs ys;
  list_whole = λ held list damage spells. c.one_spelling.ensures.undamaged none held list damage spells;
  one_audit = λ config trail held xs ys. c.one_spelling-2.ensures.spelled (rules_of config trail) held xs ys;
  audit_whole = λ config trail held audit damage spells. c.one_spelling-2.ensures.undamaged (rules_of config trail) held audit damage spells;
  long = c.spelling_length_law.ensures.label;
}) g.D.Disk
