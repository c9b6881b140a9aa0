use Rattle.std.proofs.Common.{◌∙◌, ◌++◌, sym, arith}
use Rattle.std.proofs.lemmas.Slice.{take-put_mid}
use Rattle.keyed_file.specs.BlockFormat.{record_text}
use Rattle.keyed_file.proofs.Rows.{texts-more}
use Rattle.keyed_file.proofs.block_bytes.write_records.Goals as goal

pub loop-key-preserved : goal.loop-key-preserved
loop-key-preserved c =
    let at = c.loop-key.at in
    let inv = c.loop-key.invariant in
    record {
      at = omega (arith, inv.at);
      written =
          take-put_mid at _ c.loop-key.slots c.write_record.new.slot _ (grind (arith, c.write_record.auto.slot)) (grind (arith, inv.at))
          ∙ (λ i. inv.written i ++ c.write_record.ensures i)
          ∙ sym (texts-more record_text c.args.records.now c.loop-key.key-index c.loop-key-item.result c.loop-key-test.true c.loop-key-item.is);
    }
