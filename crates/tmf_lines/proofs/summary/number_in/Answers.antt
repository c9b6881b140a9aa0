use Rattle.std.proofs.Common.{sym, ◌∙◌}
use Rattle.std.specs.Int.{w64}
use Rattle.std.proofs.lemmas.Fmt.{parse-signed_decimal}
use Rattle.tmf_model.proofs.NumberTexts.{number_of-none}
use Rattle.tmf_lines.proofs.summary.number_in.Goals as goal

pub returns-in-Err : goal.returns-in-Err
returns-in-Err c = sym (number_of-none c.args.value.now (λ z text.
    cc (parse-signed_decimal w64 z _ c.parse.result text.fits text.fits.sfits (c.as_str-text.ensures ∙ text.written) c.parse.ensures.value.0, c.in-Err.is)))
