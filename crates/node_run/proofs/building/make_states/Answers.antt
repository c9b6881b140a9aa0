use Rattle.std.proofs.Common.{◌≡◌, ◌<◌, ◌++◌, [], ◌∷◌, ℕ, suc, List, drop, length, map, sym, ap, subst, ◌∙◌, arith}
use Rattle.chronicle.specs.Seats.{new_seat}
use Rattle.run_opening.specs.Kept.{device_kept}
use Rattle.run_opening.specs.declared.kept.Kept.{Kept}
use Rattle.run_opening.specs.declared.opening.Opened.{Opened}
use Rattle.run_outcomes.specs.Devices.{part_of_device}
use Rattle.run_states.specs.Begun.{JoinsMonitor}
use Rattle.run_states.specs.Joined.{MayAllJoin}
use Rattle.run_states.specs.States.{AreBuilt, AreStates, state_device}
use Rattle.node_run.specs.Named.{MayRun}
use Rattle.node_run.proofs.States.{first_is, joins_first, one_built, one_state, taken_first}
use Rattle.node_run.proofs.building.make_states.Goals as goal

pub destroy_empty-requires : goal.destroy_empty-requires
destroy_empty-requires g c =
    let none = ap length c.into_vec.ensures in
    let same = ap (λ (o : Opened g.row.D.Denot). length o.row.devices) c.into_opened-kept.ensures in
    let empty = ap length c.requires.may.1.may.are.row.0 in
    omega (arith, none, same, empty, c.into_vec.result.ok.0)

pub remove-first-requires : goal.remove-first-requires
remove-first-requires g c =
    let many = ap (λ (o : Opened g.row.D.Denot). length o.kept.items) c.into_opened-kept.ensures in
    omega (arith, many, c.requires.may.1.may.are.count, c.into_opened-kept.result.kept.ok.0)

pub monitor_of-monitor-requires : goal.monitor_of-monitor-requires
monitor_of-monitor-requires g c =
    let run =
    subst (λ (o : Opened g.row.D.Denot). MayRun g.D.Disk c.args.site.now.config.now c.requires.may.0 o g.J.Run.opening g.J.NodeRun.found g.J.MonitorRun.before g.J.NodeRun.rules g.J.NodeRun.faults g.J.NodeRun.premise g.J.DeviceRun.devices)
    (sym c.into_opened-kept.ensures) c.requires.may.1 in
    let may = run.may in
    let items = c.into_opened-kept.result.kept.items in
    let first = c.remove-first.result in
    let behind = c.remove-first.new.self.items in
    let some : 0 < length items = omega (arith, may.are.count) in
    let front : items ≡ first ∷ behind = taken_first items behind first some c.remove-first.ensures.value c.remove-first.ensures.items in
    let joins = c.begun_law.ensures.monitor c.args.site.now.config.now c.requires.may.0 run.named run.old c.into_opened-kept.result may in
    let is = subst (λ (l : List (Kept g.row.D.Denot)). JoinsMonitor g.D.Disk l g.J.MonitorRun.before g.J.NodeRun.faults g.J.NodeRun.premise g.J.DeviceRun.devices g.J.Run.opening g.J.NodeRun.found) front joins in
    record {
      first = first_is g.D.Disk g.J.Run.opening g.J.NodeRun.found g.J.MonitorRun.before g.J.NodeRun.faults g.J.NodeRun.premise g.J.DeviceRun.devices first behind is;
      joins = joins_first g.D.Disk g.J.Run.opening g.J.NodeRun.found g.J.MonitorRun.before g.J.NodeRun.faults g.J.NodeRun.premise g.J.DeviceRun.devices first behind is;
      seat = c.take.ensures.seat ∙ ap (λ (n : ℕ). new_seat (part_of_device n)) c.requires.first;
    }

pub push_reserved-requires : goal.push_reserved-requires
push_reserved-requires g c = (let none = ap length c.requires.room.0 in omega (arith, none, c.requires.room.1, c.args.states.now.ok.0))

pub join_all-joined-requires : goal.join_all-joined-requires
join_all-joined-requires g c =
    let run =
    subst (λ (o : Opened g.row.D.Denot). MayRun g.D.Disk c.args.site.now.config.now c.requires.may.0 o g.J.Run.opening g.J.NodeRun.found g.J.MonitorRun.before g.J.NodeRun.rules g.J.NodeRun.faults g.J.NodeRun.premise g.J.DeviceRun.devices)
    (sym c.into_opened-kept.ensures) c.requires.may.1 in
    let may = run.may in
    let items = c.into_opened-kept.result.kept.items in
    let first = c.remove-first.result in
    let behind = c.remove-first.new.self.items in
    let some : 0 < length items = omega (arith, may.are.count) in
    let front : items ≡ first ∷ behind = taken_first items behind first some c.remove-first.ensures.value c.remove-first.ensures.items in
    let less : length items ≡ suc (length behind) = ap length front in
    let none = ap length c.requires.room.0 in
    let config = c.args.site.now.config.now in
    let joins = c.begun_law.ensures.join config c.requires.may.0 run.named run.old c.into_opened-kept.result may in
    let monitor = c.monitor_of-monitor.result in
    let pushed = c.push_reserved.ensures.items ∙ ap (λ l. l ++ monitor ∷ []) c.requires.room.0 in
    record {
      may =
          subst (λ (l : List (Kept g.row.D.Denot)). MayAllJoin g.D.Disk g.J.Run.opening g.J.NodeRun.found g.J.NodeRun.rules g.J.NodeRun.faults g.J.NodeRun.premise g.J.DeviceRun.devices config 1 l)
          (ap (λ (l : List (Kept g.row.D.Denot)). drop 1 l) front) joins;
      first = (
        omega (arith, less, may.are.count, c.remove-first.new.self.ok.0),
        omega (arith, none, c.push_reserved.ensures.len, c.args.states.now.ok.0),
        omega (arith, c.take.ensures.next, c.requires.first),
      );
      states =
          subst (λ l. AreStates g.D.Disk g.J.Run.opening g.J.NodeRun.found g.J.NodeRun.faults g.J.DeviceRun.devices l) (sym pushed)
          (one_state g.D.Disk g.J.Run.opening g.J.NodeRun.found g.J.MonitorRun.before g.J.NodeRun.faults g.J.NodeRun.premise g.J.DeviceRun.devices monitor c.monitor_of-monitor.ensures.state);
      room = omega (arith, c.push_reserved.ensures.capacity, c.requires.room.1);
    }

pub returns-clause-built : goal.returns-clause-built
returns-clause-built g c = λ is.
    let both = c.are_all_built.ensures is in
    let monitor = c.monitor_of-monitor.result in
    let pushed = c.push_reserved.ensures.items ∙ ap (λ l. l ++ monitor ∷ []) c.requires.room.0 in
    c.join_all-joined.ensures.built both.0
    (subst (λ l. AreBuilt g.D.Disk g.J.NodeRun.found g.J.DeviceRun.devices l) (sym pushed)
    (one_built g.D.Disk g.J.Run.opening g.J.NodeRun.found g.J.MonitorRun.before g.J.NodeRun.faults g.J.NodeRun.premise g.J.DeviceRun.devices monitor c.monitor_of-monitor.ensures.which (sym c.is_idle-idle.ensures ∙ both.1)))

pub returns-clause-devices : goal.returns-clause-devices
returns-clause-devices g c =
    let run =
    subst (λ (o : Opened g.row.D.Denot). MayRun g.D.Disk c.args.site.now.config.now c.requires.may.0 o g.J.Run.opening g.J.NodeRun.found g.J.MonitorRun.before g.J.NodeRun.rules g.J.NodeRun.faults g.J.NodeRun.premise g.J.DeviceRun.devices)
    (sym c.into_opened-kept.ensures) c.requires.may.1 in
    let may = run.may in
    let items = c.into_opened-kept.result.kept.items in
    let first = c.remove-first.result in
    let behind = c.remove-first.new.self.items in
    let some : 0 < length items = omega (arith, may.are.count) in
    let front : items ≡ first ∷ behind = taken_first items behind first some c.remove-first.ensures.value c.remove-first.ensures.items in
    let monitor = c.monitor_of-monitor.result in
    let pushed = c.push_reserved.ensures.items ∙ ap (λ l. l ++ monitor ∷ []) c.requires.room.0 in
    c.join_all-joined.ensures.devices
    ∙ ap (λ l. map state_device l ++ map device_kept behind) pushed
    ∙ ap (λ (d : g.row.D.Denot). d ∷ map device_kept behind) c.monitor_of-monitor.ensures.device
    ∙ sym (ap (λ (l : List (Kept g.row.D.Denot)). map device_kept l) front)
    ∙ ap (λ (o : Opened g.row.D.Denot). map device_kept o.kept.items) c.into_opened-kept.ensures
