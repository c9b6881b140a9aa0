use Rattle.std.proofs.lemmas.Result.{err_from_is_err_and}
use Rattle.trail_files.proofs.trail.stage.Goals as goal

pub returns-in_err-put-clause-err : goal.returns-in_err-put-clause-err
returns-in_err-put-clause-err g c = λ rules told.
    let p = err_from_is_err_and c.from_residual.result c.from_residual.ensures.1 in
    rw (p.1, ← c.fill.ensures rules) (c.in_err-put.ensures.err told)
