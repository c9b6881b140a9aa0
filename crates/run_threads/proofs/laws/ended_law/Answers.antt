use Rattle.std.specs.Prelude.{◌*◌}
use Rattle.std.proofs.Common.{◌≡◌, ◌+◌, ℕ, subst}
use Rattle.run_outcomes.specs.Counted.{all_tokens}
use Rattle.run_outcomes.specs.Devices.{workers}
use Rattle.run_outcomes.specs.Reach.{first_tokens}
use Rattle.run_threads.proofs.laws.ended_law.Goals as goal

pub returns : goal.returns
returns g c = λ found phase devices seats amount outcomes log ended history whole tokens. record {
  history = history;
  whole = λ worker within. whole (ended.reach worker).seat (ended.has worker within);
  is = ended.is;
  tokens = subst (λ (n : ℕ). all_tokens log + n ≡ workers * first_tokens) ended.tokens tokens;
  each = ended.each;
  all = ended.all;
}
