use Rattle.std.proofs.Common.{◌≡◌, List, [], ◌++◌, Some, None, inl, inr, ap, sym, ◌∙◌, subst, arith, length}
use Rattle.chronicle.specs.Seats.{Sight, new_seat, part_state}
use Rattle.trail_files.specs.MonitorOrder.{is_monitor_order, last_epoch}
use Rattle.tmf_model.specs.declared.transid.Transid.{Transid}
use Rattle.node_machine.specs.Monitor.{recorded, offered_car, ended_by}
use Rattle.node_machine.specs.Node.{node}
use Rattle.node_machine.specs.declared.event.Event.{Event}
use Rattle.node_machine.specs.Opening.{Found, opening_parts}
use Rattle.node_machine.specs.Parts.{PartState}
use Rattle.node_machine.specs.Parts.PartState.{Monitor}
use Rattle.node_machine.specs.Same.{Among}
use Rattle.commit_boxcar.specs.FirstRun.{first_content}
use Rattle.commit_boxcar.specs.Monitor.{IsOpened}
use Rattle.commit_boxcar.specs.Seat.{IsMonitorAt, monitor_in, sight_of}
use Rattle.one_node.specs.OneNode.{one_found, one_monitor}
use Rattle.one_node.proofs.parts.monitor_state.Goals as goal

none_some : (t : Transid) → None ≡ Some t → ⊥
none_some t e = absurd (cc (e))

at_first : (o : List PartState) (v : Sight Event) → o ≡ opening_parts one_found → v ≡ new_seat 28 → part_state node o v ≡ Some (Monitor one_monitor)
at_first o v opens is = ap (λ p. part_state node p v) opens ∙ ap (λ w. part_state node (opening_parts one_found) w) is

is_at : (o : List PartState) (found : Found) (v : Sight Event) → o ≡ opening_parts one_found → found ≡ one_found → v ≡ new_seat 28 → IsMonitorAt o found (sight_of o v)
is_at o found v opens found_is is =
    let at = at_first o v opens is in
    let part : monitor_in (part_state node o v) ≡ one_monitor = ap monitor_in at in
    record {
      opens = opens ∙ ap opening_parts (sym found_is);
      seat = ap (λ w. w.part) is;
      at = at ∙ ap (λ p. Some (Monitor p)) (sym part);
      epoch = ap (λ p. p.epoch) part ∙ sym (ap (λ f. f.epoch) found_is);
      places = ap (λ p. p.places) part ∙ sym (ap (λ f. f.places) found_is);
    }

pub attach-seat-requires : goal.attach-seat-requires
attach-seat-requires g c = is_at g.J.Run.opening g.J.NodeRun.found c.args.seat c.requires.run.opens c.requires.run.found_is c.requires.seat

pub attach-requires : goal.attach-requires
attach-requires g c =
    let o = g.J.Run.opening in
    let n = g.J.NodeRun in
    let run = c.requires.run in
    let trail = c.requires.trail in
    let s = trail.start in
    let at = at_first o c.args.seat run.opens c.requires.seat in
    let part : monitor_in (part_state node o c.args.seat) ≡ one_monitor = ap monitor_in at in
    let places = ap (λ f. f.places) run.found_is in
    record {
      opened = subst (λ v. IsOpened g.D.Disk o n.found g.J.MonitorRun.before n.faults n.premise g.J.DeviceRun.devices v c.args.trail) (sym c.attach-seat.ensures) (record {
        at = is_at o n.found c.args.seat run.opens run.found_is c.requires.seat;
        none = ap (λ p. p.events) part;
        ready = s.ready;
        writable = s.writable;
        stands = λ premise. record {
          tells = s.tells;
          content = first_content;
          holds = s.holds;
          landed = sym (ap (λ p. g.J.MonitorRun.before ++ recorded p.events) part ∙ ap (λ l. l ++ []) trail.before_is);
          pending = sym (ap (λ p. offered_car p.events) part);
        };
        list = λ premise. record {
          order = ap is_monitor_order trail.before_is;
          epoch = ap last_epoch trail.before_is ∙ ap (λ f. Some f.epoch) (sym run.found_is);
          many = ap (λ l. length l) trail.before_is ∙ sym places;
          earlier = λ y t there e. elim (subst (λ l. Among l y) trail.before_is there) [ inl same ↦ absurd (none_some t (ap ended_by same ∙ e)) | inr none ↦ absurd none ];
        };
        device = trail.handed_in;
        faults = (let none = trail.faults_are in omega (arith, none));
        short = omega (arith, places);
      });
      places = sym places;
    }
