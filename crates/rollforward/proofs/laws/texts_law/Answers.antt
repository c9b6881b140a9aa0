use Rattle.std.proofs.Common.{[]}
use Rattle.trail_files.specs.declared.rules.Rules.{Rules}
use Rattle.trail_replay.specs.Rules.{rules_of}
use Rattle.rollforward.proofs.laws.texts_law.Goals as goal

-- the monitor's format asks for no rules
none : Rules
none = record { roll = 0; trail = 0; discs = []; files = [] }

pub returns : goal.returns
returns g c = record {
  fine = c.spelled_volume_law.ensures.fine;
  one_list = λ held xs ys. c.one_spelling.ensures.spelled none held xs ys;
  one_audit = λ config trail held xs ys. c.one_spelling-2.ensures.spelled (rules_of config trail) held xs ys;
  list_whole = λ held list damage spells. c.one_spelling.ensures.undamaged none held list damage spells;
  audit_whole = λ config trail held audit damage spells. c.one_spelling-2.ensures.undamaged (rules_of config trail) held audit damage spells;
  labels = c.dump_label_spelling_law.ensures.prefix;
  blocks = c.block_spelling_law.ensures.prefix;
  long = c.spelling_length_law.ensures.block;
}
