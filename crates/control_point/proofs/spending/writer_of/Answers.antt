use Rattle.std.proofs.Common.{◌≡◌, ℕ, sym, ◌∙◌, subst, ap}
use Rattle.tmf_model.specs.Config.{IsDeclared, IsValidConfig}
use Rattle.tmf_model.specs.declared.config.Config.{Config}
use Rattle.node_machine.specs.Trail.{trail_of}
use Rattle.disc_process.specs.Disc.{AreTrails}
use Rattle.disc_lock.specs.Locks.{held_disc}
use Rattle.control_point.proofs.spending.writer_of.Goals as goal

pub trail_of-trail-requires-clause-valid : goal.trail_of-trail-requires-clause-valid
trail_of-trail-requires-clause-valid g c = subst IsValidConfig (sym c.config-config.ensures) c.lawful.ensures.valid

pub trail_of-trail-requires-clause-declared : goal.trail_of-trail-requires-clause-declared
trail_of-trail-requires-clause-declared g c =
    let number : c.number.result ≡ (held_disc c.lock-held.result).part.number = c.number.ensures ∙ sym c.lock-held.ensures.number in
    subst (λ (n : ℕ). IsDeclared c.config-config.result.now.volumes n) (sym number) (subst (λ (k : Config). IsDeclared k.volumes (held_disc c.lock-held.result).part.number) (sym c.config-config.ensures) c.lawful.ensures.declared)

pub writer_at-requires-clause-trails : goal.writer_at-requires-clause-trails
writer_at-requires-clause-trails g c = subst (λ (k : Config). AreTrails k c.args.trails.now) (sym (c.config-config.ensures ∙ c.lock-held.ensures.config)) c.requires

pub returns : goal.returns
returns g c =
    c.writer_at.ensures
    ∙ c.trail_of-trail.ensures.trail
    ∙ ap (λ (k : Config). trail_of k c.number.result) (c.config-config.ensures ∙ c.lock-held.ensures.config)
    ∙ ap (trail_of g.J.NodeRun.found.config) c.number.ensures
