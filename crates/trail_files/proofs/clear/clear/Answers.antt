use Rattle.std.specs.Prelude.{Some}
use Rattle.std.proofs.Common.{arith, ap, sym, subst, ◌∙◌}
use Rattle.std.proofs.lemmas.Result.{err_from_is_err_and}
use Rattle.disk_model.specs.Held.{IsLeast}
use Rattle.trail_files.proofs.Removal.{gone_or_kept}
use Rattle.trail_files.proofs.clear.clear.Goals as goal

pub returns-in_err-remove-clause-left : goal.returns-in_err-remove-clause-left
returns-in_err-remove-clause-left g c = λ told.
    let p = err_from_is_err_and c.from_residual-in_err-remove.result c.from_residual-in_err-remove.ensures.1 in
    let held = g.D.Disk.held in
    let at = c.in-Some.file in
    let i = c.loop-file.invariant in
    let told1 = i.works.tells ∙ told in
    let told2 = c.least_from.ensures.works.is_later.tells ∙ told1 in
    let first = subst (λ o. IsLeast (held c.loop-file.device) o) c.in-Some.is (c.in_ok-file.ensures.least told1 (i.below told)) in
    let first1 = subst (λ h. IsLeast h (Some at)) (sym c.least_from.ensures.same) first in
    rw p.1
    (gone_or_kept (held c.args.device.now) (held c.least_from.new.device) (held c.remove.new.self) at c.loop-file.from first1 (omega (arith, c.if-from.false, c.from.ensures))
    (λ q le. ap (λ h. h q) c.least_from.ensures.same ∙ i.kept told q le) (c.remove.ensures.others told2) (c.in_err-remove.ensures.err told2))
