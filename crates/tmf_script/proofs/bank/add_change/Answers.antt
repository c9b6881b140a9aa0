use Rattle.std.proofs.Common.{append_assoc, refl}
use Rattle.tmf_script.proofs.bank.add_change.Goals as goal

pub returns : goal.returns
returns c =
    simp (c.in_ok-extend_from_slice-5.ensures.items, c.in_ok-extend_from_slice-4.ensures.items, c.in_ok-extend_from_slice-3.ensures.items, c.in_ok-extend_from_slice-2.ensures.items, c.in_ok-add_account.ensures, c.in_ok-extend_from_slice.ensures.items, c.as_bytes.ensures.value, c.format.ensures.text, append_assoc) refl
