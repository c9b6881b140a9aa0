use Rattle.std.specs.Prelude.{Some, slice_index}
use Rattle.std.proofs.Common.{◌≡◌, ◌+◌, arith, ap, sym, ◌∙◌}
use Rattle.std.proofs.lemmas.Result.{err_from_is_err_and}
use Rattle.disk_model.specs.Held.{read_of}
use Rattle.trail_files.specs.declared.damage.Damage.{Damage}
use Rattle.trail_files.specs.Damaged.{first_failed, head_checks}
use Rattle.trail_files.proofs.Heads.{head_few, head_failed}
use Rattle.trail_files.proofs.scan.count_at.Goals as goal

pub returns-in_err-read_all-clause-wrong : goal.returns-in_err-read_all-clause-wrong
returns-in_err-read_all-clause-wrong g c = λ told.
    let p = err_from_is_err_and c.from_residual.result c.from_residual.ensures.1 in
    rw (p.1, p.2)
    (λ d e.
    let is = c.in_err-read_all.ensures.damaged told (omega arith) d e in
    (0, ap (λ (x : Damage). x.file) is.1, omega (arith, ap (λ (x : Damage). x.at) is.1), head_few c.args.most c.args.file (read_of (g.D.Disk.held c.args.device.now c.args.file) c.args.at 16) (omega (arith, is.0)) ∙ ap (λ k. Some (0, k)) (sym (ap (λ (x : Damage). x.kind) is.1))))

pub returns-in-Err-clause-wrong : goal.returns-in-Err-clause-wrong
returns-in-Err-clause-wrong g c = λ told d e.
    let bytes = read_of (g.D.Disk.held c.args.device.now c.args.file) c.args.at 16 in
    let read = c.in_ok-read_all.ensures.read told in
    let d_is : d ≡ record { file = c.args.file; at = c.args.at + c.from.result; kind = c.in-Err.kind } = cc in
    let first : slice_index bytes 0 ≡ 1 = omega (arith, ap (λ l. slice_index l 0) read.0, c.if-front-ne1.false) in
    let failed = ap (λ l. first_failed (head_checks c.args.most c.args.file l)) (sym read.0) ∙ c.in-Err.ensures.cause in
    (c.in-Err.offset, ap (λ (x : Damage). x.file) d_is, ap (λ (x : Damage). x.at) d_is ∙ ap (λ n. c.args.at + n) c.from.ensures, head_failed c.args.most c.args.file bytes (c.in-Err.offset, c.in-Err.kind) read.1 first failed ∙ ap (λ k. Some (c.in-Err.offset, k)) (sym (ap (λ (x : Damage). x.kind) d_is)))
