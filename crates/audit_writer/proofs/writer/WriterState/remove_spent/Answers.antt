use Rattle.std.specs.Prelude.{max}
use Rattle.std.proofs.Common.{IsTrue, ap, sym, ◌∙◌, subst, arith}
use Rattle.audit_writer.proofs.Removals.{none_gone}
use Rattle.audit_writer.proofs.Purges.{purged_then, purge_stopped_then}
use Rattle.audit_writer.proofs.Written.{on_ok, on_err, on_both, err_says, writes_then}
use Rattle.audit_writer.proofs.writer.WriterState.remove_spent.Goals as goal

pub returns-in_err-file-clause-removes : goal.returns-in_err-file-clause-removes
returns-in_err-file-clause-removes g c = λ content told holds.
    err_says _ _ _ c.from_residual.result c.from_residual.ensures.1 (0, (λ x there low. absurd (omega (arith, low))), none_gone g.D.Disk c.find_kept.new.self.trail content (c.find_kept.ensures.holds content holds))

pub returns-clause-kept : goal.returns-clause-kept
returns-clause-kept g c = writes_then g.D.Disk (λ a b d p q. g.met.D.Disk.same_on a b d p q) c.args.self.now c.find_kept.new.self c.remove_files.new.self c.find_kept.ensures.kept c.remove_files.ensures.kept

pub returns-clause-removes : goal.returns-clause-removes
returns-clause-removes g c = λ content told holds.
    let e = c.find_kept.ensures in
    let file = c.in_ok-file.file in
    let first = c.in_ok-file.ensures.first content told holds in
    on_both c.remove_files.result
    (λ h. (file, first, h.0 ∙ ap (λ n. max n file) e.files.0, h.1))
    (λ h. (h.0, (λ x there low. (let most = h.1 in first.spent x there (omega (arith, low, most)))), h.2))
    (c.remove_files.ensures.holds content (subst IsTrue (sym e.kept.trail.device.tells) told) (e.holds content holds))

pub returns-clause-events : goal.returns-clause-events
returns-clause-events g c =
    let e = c.find_kept.ensures in
    on_ok c.remove_files.result (λ h. purged_then c.args.self.now c.find_kept.new.self c.remove_files.new.self c.in_ok-file.ensures.events e.files.0 e.files.1 h) c.remove_files.ensures.events

pub returns-clause-events_err : goal.returns-clause-events_err
returns-clause-events_err g c =
    let e = c.find_kept.ensures in
    on_err c.remove_files.result (λ h. purge_stopped_then c.args.by c.args.self.now c.find_kept.new.self c.remove_files.new.self c.in_ok-file.ensures.events e.files.0 e.files.1 h) c.remove_files.ensures.events_err
