use Rattle.std.proofs.Common.{◌∙◌}
use Rattle.trail_files.specs.Content.{with_roll}
use Rattle.trail_files.proofs.trail.Trail.roll.Goals as goal

pub returns-clause-ahead : goal.returns-clause-ahead
returns-clause-ahead g c = λ cursor content rest told has is.
    c.land_roll-2.ensures.ahead cursor (with_roll content) rest (c.offer_roll.ensures.tells ∙ told) (c.in_ok-offer_roll.ensures.holds content has) (c.offer_roll.ensures.ahead cursor rest told is)
