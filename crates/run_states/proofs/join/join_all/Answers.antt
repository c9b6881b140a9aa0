use Rattle.std.specs.Prelude.{slice_get}
use Rattle.std.proofs.Common.{◌≡◌, ◌<◌, ◌+◌, ◌++◌, [], ◌∷◌, ℕ, suc, List, Option, length, map, sym, ap, subst, ◌∙◌, arith}
use Rattle.chronicle.specs.Seats.{Sight, new_seat}
use Rattle.node_machine.specs.declared.event.Event.{Event}
use Rattle.run_opening.specs.Kept.{device_kept, start_kept}
use Rattle.run_opening.specs.declared.kept.Kept.{Kept}
use Rattle.run_outcomes.specs.Devices.{part_of_device}
use Rattle.run_states.specs.Joined.{MayAllJoin, MayJoin}
use Rattle.run_states.specs.States.{AreBuilt, AreStates, IsBuilt, IsStateOf, state_device}
use Rattle.run_states.specs.declared.state.State.{State}
use Rattle.run_states.proofs.Joining.{built_pushed, map_pushed, may_first, may_rest, moved, states_pushed, taken_first}
use Rattle.run_states.proofs.join.join_all.Goals as goal

pub state_of-state-requires : goal.state_of-state-requires
state_of-state-requires g c =
    let J = g.J.NodeRun in
    let D = g.D.Disk in
    let opening = g.J.Run.opening in
    let devices = g.J.DeviceRun.devices in
    let config = c.args.site.now.config.now in
    let i = c.loop-number.invariant in
    let Keeps = List (Kept g.row.D.Denot) in
    let items : Keeps = c.loop-number.left.items in
    let behind : Keeps = c.remove-next.new.self.items in
    let next : Kept g.row.D.Denot = c.remove-next.result in
    let some : 0 < length items = omega (arith, i.left, c.loop-number.left.ok.0, c.loop-number-test.true) in
    let front : items ≡ next ∷ behind = taken_first items behind next some c.remove-next.ensures.value c.remove-next.ensures.items in
    let may = subst (λ (l : Keeps). MayAllJoin D opening J.found J.rules J.faults J.premise devices config c.loop-number.number l) front i.may in
    let first = may_first D opening J.found J.faults devices J.rules J.premise config c.loop-number.number next behind may in
    let rest : start_kept (slice_get (next ∷ behind) 8) ≡ c.start_at-rest.result =
    ap (λ (l : Keeps). start_kept (slice_get l 8)) (sym front ∙ sym c.as_slice.ensures.value) ∙ sym c.start_at-rest.ensures in
    let seat : c.take.result ≡ new_seat (part_of_device c.loop-number.number) = c.take.ensures.seat ∙ ap (λ (n : ℕ). new_seat (part_of_device n)) i.seats in
    subst (λ (v : Sight Event). MayJoin D opening J.found J.rules J.faults J.premise devices config c.loop-number.number c.start_at-rest.result v next) (sym seat)
    (subst (λ (r : Option ℕ). MayJoin D opening J.found J.rules J.faults J.premise devices config c.loop-number.number r (new_seat (part_of_device c.loop-number.number)) next) rest first)

pub loop-number-preserved : goal.loop-number-preserved
loop-number-preserved g c =
    let J = g.J.NodeRun in
    let D = g.D.Disk in
    let opening = g.J.Run.opening in
    let devices = g.J.DeviceRun.devices in
    let config = c.args.site.now.config.now in
    let i = c.loop-number.invariant in
    let Keeps = List (Kept g.row.D.Denot) in
    let items : Keeps = c.loop-number.left.items in
    let behind : Keeps = c.remove-next.new.self.items in
    let next : Kept g.row.D.Denot = c.remove-next.result in
    let some : 0 < length items = omega (arith, i.left, c.loop-number.left.ok.0, c.loop-number-test.true) in
    let front : items ≡ next ∷ behind = taken_first items behind next some c.remove-next.ensures.value c.remove-next.ensures.items in
    let less : length items ≡ suc (length behind) = ap length front in
    let States = List (State g.row.D.Denot g.row.J.Denot g.row.C.Denot g.row.Q.Denot) in
    let states : States = c.loop-number.states.items in
    let state : State g.row.D.Denot g.row.J.Denot g.row.C.Denot g.row.Q.Denot = c.state_of-state.result in
    let pushed : c.push_reserved.new.self.items ≡ states ++ state ∷ [] = c.push_reserved.ensures.items in
    let here : c.loop-number.number ≡ length states = sym (sym c.loop-number.states.ok.0 ∙ i.count) in
    let may = subst (λ (l : Keeps). MayAllJoin D opening J.found J.rules J.faults J.premise devices config c.loop-number.number l) front i.may in
    record {
      seats = c.take.ensures.next ∙ ap (λ (n : ℕ). n + 1) i.seats;
      left = omega (arith, i.left, less, c.loop-number.left.ok.0, c.remove-next.new.self.ok.0);
      count = omega (arith, i.count, c.push_reserved.ensures.len);
      room = omega (arith, i.room, c.push_reserved.ensures.capacity);
      may = may_rest D opening J.found J.faults devices J.rules J.premise config c.loop-number.number next behind may;
      states = subst (λ (l : States). AreStates D opening J.found J.faults devices l) (sym pushed)
          (states_pushed D opening J.found J.faults devices states state i.states (subst (λ (n : ℕ). IsStateOf D opening J.found J.faults devices n state) here c.state_of-state.ensures.state));
      built = λ is before.
          let still = c.is_still_built-built.ensures is in
          let built = c.state_of-state.ensures.built (sym c.is_idle.ensures ∙ still.1 ∙ c.is_alone-alone.ensures) in
          subst (λ (l : States). AreBuilt D J.found devices l) (sym pushed)
          (built_pushed D opening J.found J.faults devices states state (i.built still.0 before) (subst (λ (n : ℕ). IsBuilt D J.found devices n state) here built));
      devices =
          ap (λ (l : States). map state_device l ++ map device_kept behind) pushed
          ∙ ap (λ (l : List g.row.D.Denot). l ++ map device_kept behind) (map_pushed state_device states state)
          ∙ moved (map state_device states) (map device_kept behind) (state_device state)
          ∙ ap (λ (d : g.row.D.Denot). map state_device states ++ d ∷ map device_kept behind) c.state_of-state.ensures.device
          ∙ ap (λ (l : Keeps). map state_device states ++ map device_kept l) (sym front)
          ∙ i.devices;
    }
