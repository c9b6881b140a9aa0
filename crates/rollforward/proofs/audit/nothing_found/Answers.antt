use Rattle.std.specs.Prelude.{slice_get}
use Rattle.std.proofs.Common.{ℕ, ◌-◌, List, ap, ◌∙◌}
use Rattle.rollforward.proofs.audit.nothing_found.Goals as goal

pub returns-in-Ok-clause-none : goal.returns-in-Ok-clause-none
returns-in-Ok-clause-none c = λ list. c.in-Ok.ensures.none c.args.volume c.args.start list c.requires.declared.above (ap (λ (l : List ℕ). slice_get l (c.args.volume - 1)) c.deref.ensures.value ∙ c.in_ok-lows.ensures.own)
