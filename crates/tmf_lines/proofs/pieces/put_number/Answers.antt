use Rattle.std.proofs.Common.{◌≡◌, ◌++◌, sym, ap, ◌∙◌}
use Rattle.std.proofs.lemmas.Fmt.{decimal_digit}
use Rattle.tmf_lines.proofs.pieces.put_number.Goals as goal

pub returns-then-number-lt10-clause-items : goal.returns-then-number-lt10-clause-items
returns-then-number-lt10-clause-items c = c.push_reserved.ensures.items ∙ ap (λ text. c.args.piece.now.items ++ text) (sym (decimal_digit c.args.number c.if-number-lt10.true))
