use Rattle.std.proofs.Common.{◌≡◌, ◌++◌, ap, ◌∙◌, arith}
use Rattle.tmf_script.specs.Bank.{written_lines, transfers_lines}
use Rattle.tmf_script.proofs.BankTexts.{next-transfer-added, worker-added}
use Rattle.tmf_script.proofs.bank.add_worker.Goals as goal

pub loop-i-preserved : goal.loop-i-preserved
loop-i-preserved c =
    next-transfer-added c.args.worker c.loop-i.i c.add_opening.new.text.items c.loop-i.text.items c.loop-i.invariant c.in_ok-add_transfer.ensures

pub returns : goal.returns
returns c =
    let all : c.loop-i.i ≡ c.args.n = omega (arith, c.loop-i-test.false, c.loop-i.auto.i-end) in
    worker-added c.args.worker c.args.n c.args.text.now.items c.in_ok-add_opening.ensures
    (c.loop-i.invariant ∙ ap (λ k. c.add_opening.new.text.items ++ written_lines (transfers_lines c.args.worker k)) all)
