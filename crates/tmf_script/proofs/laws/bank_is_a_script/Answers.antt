use Rattle.tmf_script.specs.Bank.{bank_text, bank_script}
use Rattle.tmf_script.proofs.BankScript.{bank_is_script}
use Rattle.tmf_script.proofs.Validity.{valid_text}
use Rattle.tmf_script.proofs.laws.bank_is_a_script.Goals as goal

pub returns : goal.returns
returns c = record { script = bank_is_script; valid = λ n few. valid_text (bank_text n) (bank_script n) (bank_is_script n few) }
