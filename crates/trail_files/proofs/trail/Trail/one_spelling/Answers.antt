use Rattle.trail_files.proofs.Damages.{spelled_undamaged, one_damage}
use Rattle.trail_files.proofs.Laws.{same_records}
use Rattle.trail_files.proofs.trail.Trail.one_spelling.Goals as goal

pub returns-clause-spelled : goal.returns-clause-spelled
returns-clause-spelled g c = λ rules held xs ys sx sy.
    let format = g.R.Spelled.format rules in
    let laws = g.met.R.Spelled in
    same_records format g.R.Spelled.record_length (laws.few rules) (λ item place. laws.text_length rules item (format.number item place)) (λ a b place va vb e. (laws.one rules a b place place va vb e).0) (laws.begins rules) held xs ys sx sy

pub returns-clause-undamaged : goal.returns-clause-undamaged
returns-clause-undamaged g c = λ rules held records d spells broken.
    let format = g.R.Spelled.format rules in
    let laws = g.met.R.Spelled in
    spelled_undamaged format (g.R.Spelled.damage rules) g.R.Spelled.record_length (laws.few rules) (λ item place. laws.text_length rules item (format.number item place)) (λ a b place va vb e. (laws.one rules a b place place va vb e).0) (laws.begins rules) (laws.undamaged rules) held records d spells broken

pub returns-clause-damage : goal.returns-clause-damage
returns-clause-damage g c = λ rules held x y first second.
    let format = g.R.Spelled.format rules in
    let laws = g.met.R.Spelled in
    one_damage format (g.R.Spelled.damage rules) g.R.Spelled.record_length (laws.few rules) (λ item place. laws.text_length rules item (format.number item place)) (λ a b place va vb e. (laws.one rules a b place place va vb e).0) (laws.begins rules) (laws.undamaged rules) held x y first second
