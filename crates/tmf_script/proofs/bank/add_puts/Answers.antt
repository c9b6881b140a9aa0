use Rattle.std.proofs.Common.{◌≡◌, ◌++◌, map, ap, ◌∙◌, arith}
use Rattle.std.specs.List.{range_with_len}
use Rattle.tmf_script.specs.Bank.{written_lines, put_account_line}
use Rattle.tmf_script.proofs.BankTexts.{put-added}
use Rattle.tmf_script.proofs.bank.add_puts.Goals as goal

pub loop-number-preserved : goal.loop-number-preserved
loop-number-preserved c =
    put-added c.args.worker c.loop-number.number c.args.text.now.items c.loop-number.text.items c.loop-number.invariant c.in_ok-extend_from_slice.ensures.items
    c.in_ok-add_account.ensures c.in_ok-extend_from_slice-2.ensures.items

pub returns : goal.returns
returns c =
    let ten : c.loop-number.number ≡ 10 = omega (arith, c.loop-number-test.false, c.loop-number.auto.number-end) in
    c.loop-number.invariant
    ∙ ap (λ k. c.args.text.now.items ++ written_lines (map (put_account_line c.args.worker) (range_with_len 0 k))) ten
