use Rattle.std.proofs.Common.{◌≡◌, ◌+◌, ◌++◌, length, arith, ap, sym, ◌∙◌, take}
use Rattle.std.proofs.lemmas.Slice.{take-put_mid}
use Rattle.trail_files.specs.Format.{text}
use Rattle.trail_files.proofs.Texts.{records_text-more}
use Rattle.trail_files.proofs.batch.fill_records.Goals as goal

pub loop-record-preserved : goal.loop-record-preserved
loop-record-preserved g c = record {
  at = omega arith;
  next = omega arith;
  written = λ rules.
      let format = g.R.Spelled.format rules in
      let item = c.record-item.result in
      let long : length c.write.new.into ≡ g.R.Spelled.record_length = rw (c.write.ensures rules) (g.met.R.Spelled.text_length rules item c.number-number.result) in
      let bytes : c.write.new.into ≡ text format item c.loop-record.next = c.write.ensures rules ∙ ap (format.spelling item) (c.number-number.ensures rules) in
      take-put_mid c.loop-record.at _ c.loop-record.into c.write.new.into _ (grind (arith, long)) (grind (arith, long))
      ∙ ap (λ l. take c.loop-record.at c.loop-record.into ++ l) (bytes ∙ ap (text format item) c.loop-record.invariant.next)
      ∙ ap (λ l. l ++ text format item (c.args.place + c.loop-record.record-index)) (c.loop-record.invariant.written rules)
      ∙ sym (records_text-more (text format) c.args.place c.args.records.now c.loop-record.record-index item c.loop-record-test.true c.record-item.is);
}
