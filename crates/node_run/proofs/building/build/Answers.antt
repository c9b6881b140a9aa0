use Rattle.std.proofs.Common.{◌≡◌, ◌++◌, map, ap, ◌∙◌}
use Rattle.chronicle.specs.Seats.{new_seats}
use Rattle.run_opening.specs.Kept.{device_kept}
use Rattle.run_states.specs.States.{state_device}
use Rattle.node_run.proofs.Begins.{err_more, ok_more, under_name}
use Rattle.node_run.proofs.building.build.Goals as goal

pub lock_states-requires-clause-named : goal.lock_states-requires-clause-named
lock_states-requires-clause-named g c = (under_name c.requires.may.1 c.begun_law.ensures.name).volumes

pub lock_states-requires-clause-states : goal.lock_states-requires-clause-states
lock_states-requires-clause-states g c = (c.make_states-made.ensures.states, c.make_states-made.ensures.built c.if-made.true, c.make_states-made.ensures.count.0)

pub lock_states-requires-clause-room : goal.lock_states-requires-clause-room
lock_states-requires-clause-room g c = record { empty = c.in-Ok-with_capacity.ensures.items; enough = c.in-Ok-with_capacity.ensures.capacity }

pub returns-then-made-clause-seats : goal.returns-then-made-clause-seats
returns-then-made-clause-seats g c =
    ok_more c.lock_states.result (λ built. built.seats ≡ c.into_workers.result) (λ built. built.seats.items ≡ new_seats 16) (λ built is. ap (λ v. v.items) is ∙ c.into_workers.ensures) c.lock_states.ensures.seats

pub returns-then-made-clause-refused : goal.returns-then-made-clause-refused
returns-then-made-clause-refused g c =
    err_more c.lock_states.result (λ devices. devices.items ≡ map state_device c.make_states-made.new.states.items) (λ devices. devices.items ≡ map device_kept c.args.ready.opened.kept.items)
    (λ devices is. is ∙ c.make_states-made.ensures.devices) c.lock_states.ensures.refused

pub returns-clause-refused : goal.returns-clause-refused
returns-clause-refused g c =
    c.into_devices.ensures ∙ ap (λ l. l ++ map state_device c.make_states-made.new.states.items) c.in-Ok-with_capacity.ensures.items ∙ c.make_states-made.ensures.devices
