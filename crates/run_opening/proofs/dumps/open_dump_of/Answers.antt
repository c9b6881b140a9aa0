use Rattle.std.proofs.Common.{◌+◌, ℕ, subst, ◌∙◌}
use Rattle.std.specs.Prelude.{IfErr, IfOk}
use Rattle.run_opening.specs.Dumps.{IsDumpRefused}
use Rattle.run_opening.specs.Kept.{IsDumpOpened}
use Rattle.run_opening.specs.Refusal.{TellsAt}
use Rattle.run_opening.proofs.DumpKeeping.{never_both, same_low}
use Rattle.run_opening.proofs.dumps.open_dump_of.Goals as goal

pub returns-in-Some-clause-alone : goal.returns-in-Some-clause-alone
returns-in-Some-clause-alone g c = λ none. absurd (never_both c.low_at.result c.in-Some.low (c.low_at.ensures ∙ none) c.in-Some.is)

pub returns-in-Some-clause-kept : goal.returns-in-Some-clause-kept
returns-in-Some-clause-kept g c = λ low is.
    subst (λ (n : ℕ). IfOk c.open_dump.result (IsDumpOpened g.D.Disk c.args.volume n c.args.device)) (same_low c.low_at.result c.in-Some.low low c.in-Some.is (c.low_at.ensures ∙ is)) c.open_dump.ensures.kept

pub returns-in-Some-clause-damage : goal.returns-in-Some-clause-damage
returns-in-Some-clause-damage g c = λ low is tells.
    subst (λ (n : ℕ). IfErr c.open_dump.result (λ e. TellsAt (12 + c.args.volume) (IsDumpRefused c.args.volume n (g.D.Disk.held c.args.device)) e.1))
    (same_low c.low_at.result c.in-Some.low low c.in-Some.is (c.low_at.ensures ∙ is)) (c.open_dump.ensures.damage tells)

pub returns-in-None-clause-kept : goal.returns-in-None-clause-kept
returns-in-None-clause-kept g c = λ low is. absurd (never_both c.low_at.result low c.in-None.is (c.low_at.ensures ∙ is))

pub returns-in-None-clause-damage : goal.returns-in-None-clause-damage
returns-in-None-clause-damage g c = λ low is tells. tt
