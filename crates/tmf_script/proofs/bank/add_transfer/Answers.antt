use Rattle.tmf_script.proofs.BankTexts.{transfer-added}
use Rattle.tmf_script.proofs.bank.add_transfer.Goals as goal

pub returns : goal.returns
returns c =
    transfer-added c.args.worker c.args.i c.args.text.now.items c.in_ok-extend_from_slice.ensures.items c.in_ok-add_change.ensures c.in_ok-add_change-2.ensures
    c.in_ok-extend_from_slice-2.ensures.items c.in_ok-add_teller.ensures c.in_ok-extend_from_slice-3.ensures.items
