use Rattle.std.proofs.Common.{sym, ◌∙◌}
use Rattle.phase_one.proofs.phase.settle_at.Goals as goal

pub settle-requires : goal.settle-requires
settle-requires g c = c.requires ∙ sym c.lock.ensures.number
