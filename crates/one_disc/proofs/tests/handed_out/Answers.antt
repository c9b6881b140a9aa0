use Rattle.std.proofs.Common.{◌≡◌, ◌==◌, ℕ, true, sym, subst}
use Rattle.std.specs.List.{list_any}
use Rattle.one_disc.proofs.OneDisc.{same_disc}
use Rattle.one_disc.proofs.tests.handed_out.Goals as goal

pub close_handing-requires : goal.close_handing-requires
close_handing-requires g c = subst (λ (n : ℕ). list_any (λ d. d == n) c.args.tx.now.discs ≡ true) (sym c.requires.disc.number) c.requires.enlisted

pub returns-in-Ok-clause-disc : goal.returns-in-Ok-clause-disc
returns-in-Ok-clause-disc g c = same_disc g.J.Run.opening c.args.disc.now c.close_handing.new.self c.requires.disc c.close_handing.ensures.disc

pub returns-in-Err-clause-disc : goal.returns-in-Err-clause-disc
returns-in-Err-clause-disc g c = same_disc g.J.Run.opening c.args.disc.now c.close_handing.new.self c.requires.disc c.close_handing.ensures.disc
