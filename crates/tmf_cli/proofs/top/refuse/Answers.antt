use Rattle.std.proofs.Common.{⊎_elim}
use Rattle.tmf_cli.proofs.top.refuse.Goals as goal

pub returns-in-Some-clause-none : goal.returns-in-Some-clause-none
returns-in-Some-clause-none g c = λ none.
    let lacked = c.refusal_line.ensures.none none in
    let some = c.in-Some.is in absurd (cc)

pub returns-in-Some-clause-told : goal.returns-in-Some-clause-told
returns-in-Some-clause-told g c = λ text is tells refused. record {
  line = c.in-Some.line;
  why = c.in-Some.ensures.why text is;
  given = ⊎_elim (λ none. let lacked = none.0 in absurd (cc)) (λ given. given.1) (c.tell.ensures.told tells);
}
