use Rattle.run_opening.proofs.laws.spelling_laws.Goals as goal

pub returns : goal.returns
returns g c = record {
  list = c.list_laws.ensures;
  one = c.one_spelling.ensures.spelled;
  undamaged = c.one_spelling.ensures.undamaged;
  damage = c.one_spelling.ensures.damage;
  long = c.spelling_length_law.ensures.label;
}
