use Rattle.std.proofs.Common.{List, ℕ, sym, subst, bytes_eq}
use Rattle.std.specs.List.{IsDistinct}
use Rattle.disc_process.proofs.Telling.{distinct_none}
use Rattle.disc_process.proofs.disc.DiscState.kept_keys.Goals as goal

pub returns-then-not-is_put-clause-distinct : goal.returns-then-not-is_put-clause-distinct
returns-then-not-is_put-clause-distinct g c = subst (λ (xs : List (List ℕ)). IsDistinct bytes_eq xs) (sym c.new.ensures.items) distinct_none
