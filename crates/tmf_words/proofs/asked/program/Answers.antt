use Rattle.std.proofs.Common.{◌≡◌, ◌∙◌, true, codes, rules, ap, ap₂}
use Rattle.std.proofs.lemmas.Result.{IfOk-weaker}
use Rattle.clap.specs.Walk.{rule_of}
use Rattle.clap.specs.Simple.{App, app_of, app_of_fields, new_rule, with_rule, with_subcommand}
use Rattle.clap.specs.declared.builder.command.Command.{Command}
use Rattle.clap.specs.declared.builder.command.Command.TheOpen.{Command-F}
use Rattle.tmf_words.specs.Asked.{bank_command, bare_program, folder_rule, run_command, without_help}
use Rattle.tmf_words.proofs.asked.program.Goals as goal

pub returns : goal.returns
returns c =
    let run_folder : rule_of c.long-run_folder.result ≡ folder_rule = search rules in
    let bank_folder : rule_of c.long-bank_folder.result ≡ folder_rule = search rules in
    let transfers : rule_of c.new-transfers.result ≡ new_rule (codes "transfers") = search rules in
    let run : app_of c.in_ok-run.run' ≡ run_command = c.in_ok-run.ensures.shape (search rules) ∙ ap₂ with_rule c.new-2.ensures.app run_folder in
    let bank : app_of c.in_ok-bank.bank ≡ bank_command = c.in_ok-bank.ensures.shape (search rules)
    ∙ ap₂ with_rule (c.in_ok-arg.ensures.shape (search rules) ∙ ap₂ with_rule c.new-4.ensures.app bank_folder) transfers in
    let bare : app_of c.disable_help_subcommand.result ≡ bare_program =
    ap app_of_fields (c.disable_help_subcommand.ensures ∙ ap (λ (f : Command-F Command). record f { disable_help_subcommand = true }) c.disable_help_flag.ensures)
    ∙ ap without_help c.new-5.ensures.app in
    let with_run : app_of c.in_ok-subcommand.field-0 ≡ with_subcommand bare_program run_command.top = c.in_ok-subcommand.ensures.shape (search rules)
    ∙ ap₂ with_subcommand bare (ap (λ (a : App). a.top) run) in
    IfOk-weaker c.subcommand-2.result _ _ (λ command added. added.shape (search rules) ∙ ap₂ with_subcommand with_run (ap (λ (a : App). a.top) bank)) c.subcommand-2.ensures
