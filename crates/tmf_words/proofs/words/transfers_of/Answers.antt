use Rattle.std.proofs.Common.{◌≡◌, true, sym, ap, ◌∙◌, arith}
use Rattle.std.specs.Fmt.{decimal}
use Rattle.std.proofs.lemmas.Slice.Eq.{bytes_eq-Decides}
use Rattle.tmf_words.proofs.Counts.{transfers_of-is, transfers_of-none, read_number}
use Rattle.tmf_words.proofs.words.transfers_of.Goals as goal
use Rattle.tmf_words.proofs.words.transfers_of.Goals.{else-number-ge1-via-then-number-ge1+then-number-le4095+else-eq, else-number-ge1-via-then-number-ge1+else-number-le4095, else-number-ge1-via-else-number-ge1}

pub returns-then-eq-clause-number : goal.returns-then-eq-clause-number
returns-then-eq-clause-number c =
    let same = (bytes_eq-Decides c.format.result.now c.args.word.now).0 (sym c.eq.ensures ∙ c.if-eq.true) in
    sym (transfers_of-is c.args.word.now c.in-Ok.number (sym same ∙ c.format.ensures.text) (omega arith) (omega arith))

pub returns-else-number-ge1-clause-number : goal.returns-else-number-ge1-clause-number
returns-else-number-ge1-clause-number c = sym (transfers_of-none c.args.word.now (λ n is above below.
    let read = read_number c.args.word.now n c.parse.result is below c.parse.ensures.value.0 in
    let same : c.in-Ok.number ≡ n = cc in
    elim c.else-number-ge1.branch [
      | else-number-ge1-via-then-number-ge1+then-number-le4095+else-eq w ↦
          let equal : w.eq.result ≡ true = w.eq.ensures ∙ (bytes_eq-Decides w.format.result.now c.args.word.now).1 (w.format.ensures.text ∙ ap decimal same ∙ sym is) in
          cc (equal, w.if-eq.false)
      | else-number-ge1-via-then-number-ge1+else-number-le4095 w ↦ omega (arith, same)
      | else-number-ge1-via-else-number-ge1 w ↦ omega (arith, same)
    ]))

pub returns-in-Err-clause-number : goal.returns-in-Err-clause-number
returns-in-Err-clause-number c = sym (transfers_of-none c.args.word.now (λ n is above below.
    let read = read_number c.args.word.now n c.parse.result is below c.parse.ensures.value.0 in cc (read, c.in-Err.is)))
