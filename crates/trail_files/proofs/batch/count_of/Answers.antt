use Rattle.std.proofs.Common.{◌∙◌, sym, ap, arith, ◌∷◌}
use Rattle.trail_files.specs.Text.{head}
use Rattle.trail_files.proofs.Heads.{head_again}
use Rattle.trail_files.proofs.batch.count_of.Goals as goal

pub returns-in-None-clause-found : goal.returns-in-None-clause-found
returns-in-None-clause-found c =
    head_again c.args.most c.args.file c.args.bytes.now c.requires.length (record { at = λ i. omega (arith, c.type_inv.bytes i) }) c.requires.open (sym c.in-None.ensures)
    ∙ ap (λ n. 1 ∷ head n) (sym c.written_count.ensures)
