use Rattle.std.proofs.Common.{◌++◌, length, map, ap, ◌∙◌, arith}
use Rattle.run_states.specs.States.{state_device}
use Rattle.node_run.proofs.Tokens.{home_locked}
use Rattle.node_run.proofs.building.lock_states.Goals as goal

pub lock_all-stage-requires-clause-parts : goal.lock_all-stage-requires-clause-parts
lock_all-stage-requires-clause-parts g c = (let p = c.requires.tokens.parts in omega (arith, p))

pub returns-in-Ok-clause-tokens : goal.returns-in-Ok-clause-tokens
returns-in-Ok-clause-tokens g c = home_locked _ _ _ _ c.requires.tokens c.lock_all-stage.ensures.given

pub into_devices-requires : goal.into_devices-requires
into_devices-requires g c =
    let none = ap length c.requires.room.empty in
    omega (arith, none, c.requires.room.enough, c.requires.states.2, c.args.devices.ok.0)

pub returns-clause-refused : goal.returns-clause-refused
returns-clause-refused g c = c.into_devices.ensures ∙ ap (λ l. l ++ map state_device c.args.states.items) c.requires.room.empty
