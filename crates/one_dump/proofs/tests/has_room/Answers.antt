use Rattle.std.proofs.Common.{◌≡◌, ap, arith}
use Rattle.std.proofs.lemmas.Bool.{ltb-true}
use Rattle.tmf_model.specs.declared.config.Config.{Config}
use Rattle.disc_lock.specs.Locks.{held_disc}
use Rattle.one_dump.proofs.tests.has_room.Goals as goal

pub returns : goal.returns
returns g c = λ yes.
    let few : c.config.result.now.steps ≡ (held_disc c.args.at.now).part.config.steps = ap (λ (k : Config). k.steps) c.config.ensures in
    let below = c.lawful.ensures.valid.steps.below in
    let count = c.events-events.ensures in
    let lower = ltb-true _ _ yes in
    omega (arith, lower, few, below, count)
