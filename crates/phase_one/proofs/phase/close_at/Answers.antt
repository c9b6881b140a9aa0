use Rattle.std.proofs.Common.{◌≡◌, ◌==◌, true, ℕ, sym, subst, ◌∙◌}
use Rattle.std.specs.List.{list_any}
use Rattle.phase_one.proofs.phase.close_at.Goals as goal

pub close_handing-requires : goal.close_handing-requires
close_handing-requires g c = subst (λ (n : ℕ). list_any (λ d. d == n) c.args.tx.now.discs ≡ true) (sym c.lock.ensures.number) c.requires

pub returns-in-Ok-clause-handed : goal.returns-in-Ok-clause-handed
returns-in-Ok-clause-handed g c = (let handed = c.in-Ok.ensures.handed in (handed.0, handed.1 ∙ c.lock.ensures.number))
