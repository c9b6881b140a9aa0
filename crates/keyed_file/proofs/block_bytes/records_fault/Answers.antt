use Rattle.std.proofs.Common.{◌≡◌, Option, Some, ◌∙◌, ◌+◌, ◌-◌, ◌∷◌, [], take, drop, sym, ap, arith}
use Rattle.keyed_file.specs.BlockFormat.{record_row}
use Rattle.keyed_file.specs.Row.{bad_row}
use Rattle.keyed_file.proofs.Rows.{fine_step, fault_step}
use Rattle.keyed_file.proofs.block_bytes.records_fault.Goals as goal

pub returns-in-Err : goal.returns-in-Err
returns-in-Err c =
    sym (c.loop-left.invariant.row
    ∙ fault_step (record_row c.args.home) c.loop-left.at c.loop-left.previous.now c.loop-left.left c.loop-left.rest.now c.split_at.result.0.now c.split_at.result.1.now c.loop-left-test.true c.split_at.ensures.front c.split_at.ensures.back _ c.in-Err.ensures.cause)

pub loop-left-preserved : goal.loop-left-preserved
loop-left-preserved c =
    let inv = c.loop-left.invariant in
    let home = c.args.home in
    let at = c.loop-left.at in
    let left = c.loop-left.left in
    let rest = c.loop-left.rest.now in
    let slot = c.split_at.result.0.now in
    let behind = c.split_at.result.1.now in
    record {
      at = omega (arith, inv.at, c.loop-left-test.true);
      long = omega (arith, inv.long, c.split_at.ensures.back_len);
      row = inv.row
          ∙ fine_step (record_row home) at c.loop-left.previous.now left rest slot behind c.loop-left-test.true c.split_at.ensures.front c.split_at.ensures.back c.in-Ok.ensures.fine
          ∙ ap (λ n. bad_row (record_row home) (at + 64) (take n (take 16 (drop 8 slot))) (left - 1) behind) (sym c.from.ensures);
    }
