use Rattle.tmf_script.proofs.BankTexts.{opening-added}
use Rattle.tmf_script.proofs.bank.add_opening.Goals as goal

pub returns : goal.returns
returns c =
    opening-added c.args.worker c.args.text.now.items c.in_ok-extend_from_slice.ensures.items c.in_ok-add_puts.ensures
    c.in_ok-extend_from_slice-2.ensures.items c.in_ok-add_teller.ensures c.in_ok-extend_from_slice-3.ensures.items
