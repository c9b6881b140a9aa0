use Rattle.run_opening.proofs.Fits.{fit_clean, unfit_one}
use Rattle.run_opening.proofs.laws.unfit_law.Goals as goal

pub returns : goal.returns
returns g c = record {
  clean = λ config epoch named held number damage. fit_clean c.spelling_laws.ensures config epoch named held number damage;
  one = λ config epoch named held number x y valid. unfit_one c.spelling_laws.ensures config epoch named held valid number x y;
}
