use Rattle.std.proofs.Common.{[], ◌∙◌, subst}
use Rattle.node_machine.specs.Same.{Among}
use Rattle.one_boxcar.proofs.tests.flushed.Goals as goal

pub flushed-requires : goal.flushed-requires
flushed-requires g c = λ d there. absurd (subst (λ l. Among l d) (c.end.ensures.discs ∙ c.in_ok-active.ensures.discs) there)
