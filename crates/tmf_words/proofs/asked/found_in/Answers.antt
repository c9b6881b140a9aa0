use Rattle.std.proofs.Common.{◌≡◌, ◌∙◌, ap, map, string_bytes, rules}
use Rattle.std.proofs.lemmas.Result.{IfErr-weaker, IfOk-weaker}
use Rattle.clap.specs.Words.{app_of, is_simple, subcommand_of, takes}
use Rattle.tmf_words.specs.Asked.{number_in, program}
use Rattle.tmf_words.proofs.Asking.{reads}
use Rattle.tmf_words.proofs.asked.found_in.Goals as goal

pub returns-clause-number : goal.returns-clause-number
returns-clause-number c =
    let is : app_of c.in_ok-command.command ≡ program = search rules in
    let read = reads (map string_bytes c.args.words.now) c.requires.accepted in
    IfOk-weaker c.try_get_matches_from.result _ _ (λ found has. ap number_in ((has (ap is_simple is)).1 ∙ ap (λ a. subcommand_of a (map string_bytes c.args.words.now)) is) ∙ read.1) c.try_get_matches_from.ensures.matches

pub returns-clause-memory : goal.returns-clause-memory
returns-clause-memory c =
    let is : app_of c.in_ok-command.command ≡ program = search rules in
    let read = reads (map string_bytes c.args.words.now) c.requires.accepted in
    IfErr-weaker c.try_get_matches_from.result _ _ (λ error passes. passes (ap (λ a. takes a (map string_bytes c.args.words.now)) is ∙ read.0)) c.try_get_matches_from.ensures.passes
