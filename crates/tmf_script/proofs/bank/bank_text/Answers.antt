use Rattle.tmf_script.proofs.BankTexts.{all-added}
use Rattle.tmf_script.proofs.bank.bank_text.Goals as goal

pub returns : goal.returns
returns c =
    all-added c.args.n c.new-text.ensures.items c.in_ok-add_head.ensures c.in_ok-add_worker.ensures c.in_ok-add_worker-2.ensures
    c.in_ok-add_worker-3.ensures c.in_ok-add_worker-4.ensures c.in_ok-extend_from_slice.ensures.items
