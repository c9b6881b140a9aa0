use Rattle.std.proofs.Common.{◌≡◌, ◌+◌, ◌*◌, ◌-◌, ◌++◌, ◌∷◌, [], take, length, arith, ap, sym, ◌∙◌, subst, append_assoc, length-append}
use Rattle.std.proofs.lemmas.List.{take_at}
use Rattle.std.proofs.lemmas.Result.{err_from_is_err_and}
use Rattle.trail_files.specs.Format.{text}
use Rattle.trail_files.specs.Text.{records_text}
use Rattle.trail_files.proofs.Scans.{begins_more}
use Rattle.trail_files.proofs.scan.check_records.Goals as goal

pub returns-in_err-check_record-clause-damaged : goal.returns-in_err-check_record-clause-damaged
returns-in_err-check_record-clause-damaged g c = λ before stood ordered at.
    let p = err_from_is_err_and c.from_residual.result c.from_residual.ensures.1 in
    let format = g.R.Spelled.format c.args.rules.now in
    let is = c.loop-i.invariant.begins before stood ordered at in
    rw (p.1, p.2)
    (λ d e.
    let told = c.in_err-check_record.ensures.damaged (before ++ is.0) is.2 (omega (arith, c.from.ensures, is.1.count_is, length-append before is.0, at)) d e in
    let front : take g.R.Spelled.record_length c.loop-i.rest.now ≡ c.split_at.result.0.now = ap (take g.R.Spelled.record_length) c.split_at.ensures.by_index.0 ∙ take_at c.split_at.result.0.now c.split_at.result.1.now g.R.Spelled.record_length (c.split_at.ensures.front_len ∙ c.length-size.ensures.length) in
    record {
      fine = is.0;
      rest = c.loop-i.rest.now;
      offset = told.0;
      more = omega (arith, is.1.count_is, c.loop-i-test.true);
      parts = is.1.parts ∙ ap (λ n. records_text (text format) n is.0 ++ c.loop-i.rest.now) at;
      each = is.1.each;
      in_order = is.1.in_order;
      told = ap (g.R.Spelled.damage c.args.rules.now (before ++ is.0)) front ∙ told.3;
      file_is = told.1;
      at_is = told.2 ∙ ap (λ n. n + told.0) (c.loop-i.invariant.passed ∙ (λ i. c.args.at + sym is.1.count_is i * c.length-size.ensures.length i));
    })

pub loop-i-preserved : goal.loop-i-preserved
loop-i-preserved g c = record {
  left =
      let one : c.args.count - c.loop-i.i ≡ (c.args.count - (c.loop-i.i + 1)) + 1 = omega arith in
      omega (arith, c.loop-i.invariant.left, ap (λ n. n * c.length-size.result) one, c.split_at.ensures.back_len);
  offset = omega (arith, c.loop-i.invariant.offset, ap length c.split_at.ensures.by_index.0, length-append c.split_at.result.0.now c.split_at.result.1.now, c.split_at.ensures.front_len);
  passed = omega (arith, c.loop-i.invariant.passed);
  begins = λ before stood ordered at.
      let r = c.args.rules.now in
      let format = g.R.Spelled.format r in
      let is = c.loop-i.invariant.begins before stood ordered at in
      let found = c.in_ok-check_record.ensures.found (before ++ is.0) is.2 (omega (arith, c.from.ensures, is.1.count_is, length-append before is.0, at)) in (
        is.0 ++ found.0 ∷ [],
        begins_more format before c.args.place c.args.bytes.now c.loop-i.i _ _ _ is.0 found.0 is.1 c.split_at.ensures.by_index.0 found.1 (found.2 ∙ ap (λ n. text format found.0 (c.args.place + n)) c.from.ensures) found.3,
        subst (g.R.Spelled.stands r c.check_record.new.order) (append_assoc before is.0 (found.0 ∷ [])) found.4,
      );
}
