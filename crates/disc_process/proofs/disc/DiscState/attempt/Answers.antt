use Rattle.std.proofs.Common.{◌≡◌, true, false, sym, ◌∙◌}
use Rattle.disc_process.proofs.disc.DiscState.attempt.Goals as goal

pub returns-then-is_lock-clause-answered : goal.returns-then-is_lock-clause-answered
returns-then-is_lock-clause-answered g c = record {
  of_file = λ is. c.attempt_file.ensures.answered;
  of_key = λ is. (let both : true ≡ false = sym c.if-is_lock.true ∙ c.is_lock.ensures ∙ is in absurd (cc (both)));
}

pub returns-clause-answered : goal.returns-clause-answered
returns-clause-answered g c = record {
  of_file = λ is. (let both : false ≡ true = sym c.if-is_lock.false ∙ c.is_lock.ensures ∙ is in absurd (cc (both)));
  of_key = λ is. c.attempt_key.ensures.answered;
}
