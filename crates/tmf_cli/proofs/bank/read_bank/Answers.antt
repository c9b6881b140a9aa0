use Rattle.std.proofs.Common.{◌≡◌, sym, subst, ◌∙◌}
use Rattle.tmf_lines.specs.declared.script.ScriptRefusal.TheVariants.{NoMemory}
use Rattle.tmf_script.specs.Bank.{bank_script}
use Rattle.tmf_script.specs.Reading.{IsTextOf}
use Rattle.tmf_cli.proofs.bank.read_bank.Goals as goal

pub returns-in-Ok-clause-script : goal.returns-in-Ok-clause-script
returns-in-Ok-clause-script c =
    c.in-Ok.ensures.only (bank_script c.args.transfers)
    (subst (λ text. IsTextOf text (bank_script c.args.transfers)) (sym (c.deref.ensures.value ∙ c.in_ok-text.ensures)) (c.bank_is_a_script.ensures.script c.args.transfers c.requires.few.1))

pub unreachable-requires : goal.unreachable-requires
unreachable-requires c =
    let memory : c.in-Err-Refused.field-0 ≡ NoMemory =
    c.in-Err-Refused.ensures.only (bank_script c.args.transfers)
    (subst (λ text. IsTextOf text (bank_script c.args.transfers)) (sym (c.deref.ensures.value ∙ c.in_ok-text.ensures)) (c.bank_is_a_script.ensures.script c.args.transfers c.requires.few.1)) in
    let refused = c.in-Err-Refused.field-0-is in
    absurd (cc)
