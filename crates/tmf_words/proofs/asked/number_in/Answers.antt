use Rattle.std.proofs.Common.{◌≡◌, ◌∙◌, sym, true, codes, bytes_eq, Some, None, rules}
use Rattle.clap.specs.Words.{first_value, found_of}
use Rattle.tmf_words.proofs.Found.{number_found}
use Rattle.tmf_words.proofs.asked.number_in.Goals as goal

pub returns-in_err-get_str-clause-number : goal.returns-in_err-get_str-clause-number
returns-in_err-get_str-clause-number c =
    let text : None ≡ first_value (found_of c.in_ok-name.rows.now) (codes "transfers") = search rules in
    let same : bytes_eq c.in_ok-name.name.now (codes "bank") ≡ true = sym c.eq.ensures ∙ c.if-eq.true in
    let none : c.from_residual-in_err-get_str.result ≡ None = search rules in
    none ∙ sym (number_found c.args.found.now c.in_ok-name.rows.now c.in_ok-name.name.now None c.in_ok-name.ensures.name c.in_ok-name.ensures.rows same text)

pub returns-in_ok-get_str-clause-number : goal.returns-in_ok-get_str-clause-number
returns-in_ok-get_str-clause-number c =
    let text : Some c.in_ok-get_str.field-0.now ≡ first_value (found_of c.in_ok-name.rows.now) (codes "transfers") = search rules in
    let same : bytes_eq c.in_ok-name.name.now (codes "bank") ≡ true = sym c.eq.ensures ∙ c.if-eq.true in
    c.transfers_of.ensures.number
    ∙ sym (number_found c.args.found.now c.in_ok-name.rows.now c.in_ok-name.name.now (Some c.in_ok-get_str.field-0.now) c.in_ok-name.ensures.name c.in_ok-name.ensures.rows same text)
