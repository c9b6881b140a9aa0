use Rattle.std.proofs.Common.{◌≡◌, List, [], ◌++◌, Some, None, inl, inr, ap, sym, ◌∙◌, subst, arith, length}
use Rattle.chronicle.specs.Seats.{Sight, new_seat, part_state}
use Rattle.trail_files.specs.MonitorOrder.{is_monitor_order, last_epoch}
use Rattle.tmf_model.specs.declared.transid.Transid.{Transid}
use Rattle.node_machine.specs.Monitor.{recorded, offered_car, ended_by}
use Rattle.node_machine.specs.Node.{node}
use Rattle.node_machine.specs.declared.event.Event.{Event}
use Rattle.node_machine.specs.Opening.{Found, opening_parts}
use Rattle.node_machine.specs.Parts.{MonitorPart, PartState}
use Rattle.node_machine.specs.Parts.PartState.{Monitor}
use Rattle.node_machine.specs.Same.{Among}
use Rattle.commit_boxcar.specs.FirstRun.{first_content, first_found}
use Rattle.commit_boxcar.specs.Monitor.{IsOpened}
use Rattle.commit_boxcar.specs.Seat.{IsMonitorAt, monitor_in, sight_of}
use Rattle.one_boxcar.proofs.tests.attached.Goals as goal

none_some : (t : Transid) → None ≡ Some t → ⊥
none_some t e = absurd (cc (e))

abbrev first : MonitorPart
first = record { epoch = 1; places = 1; events = [] }

at_first : (o : List PartState) (v : Sight Event) → o ≡ opening_parts first_found → v ≡ new_seat 28 → part_state node o v ≡ Some (Monitor first)
at_first o v opens is = ap (λ p. part_state node p v) opens ∙ ap (λ w. part_state node (opening_parts first_found) w) is

is_at : (o : List PartState) (found : Found) (v : Sight Event) → o ≡ opening_parts first_found → found ≡ first_found → v ≡ new_seat 28 → IsMonitorAt o found (sight_of o v)
is_at o found v opens found_is is =
    let at = at_first o v opens is in
    let part : monitor_in (part_state node o v) ≡ first = ap monitor_in at in
    record {
      opens = opens ∙ ap opening_parts (sym found_is);
      seat = ap (λ w. w.part) is;
      at = at ∙ ap (λ p. Some (Monitor p)) (sym part);
      epoch = ap (λ p. p.epoch) part ∙ sym (ap (λ f. f.epoch) found_is);
      places = ap (λ p. p.places) part ∙ sym (ap (λ f. f.places) found_is);
    }

pub attach-seat-requires : goal.attach-seat-requires
attach-seat-requires g c = is_at g.J.Run.opening g.J.NodeRun.found c.args.seat c.requires.run.opens c.requires.run.found_is c.requires.seat

pub attach-requires : goal.attach-requires
attach-requires g c =
    let o = g.J.Run.opening in
    let n = g.J.NodeRun in
    let run = c.requires.run in
    let s = run.start in
    let at = at_first o c.args.seat run.opens c.requires.seat in
    let part : monitor_in (part_state node o c.args.seat) ≡ first = ap monitor_in at in
    let places = ap (λ f. f.places) run.found_is in
    record {
      opened = subst (λ v. IsOpened g.D.Disk o n.found g.J.MonitorRun.before n.faults n.premise g.J.DeviceRun.devices v c.args.trail) (sym c.attach-seat.ensures) (record {
        at = is_at o n.found c.args.seat run.opens run.found_is c.requires.seat;
        none = ap (λ p. p.events) part;
        ready = s.ready;
        writable = s.writable;
        stands = λ premise. record {
          tells = s.tells;
          content = first_content;
          holds = s.holds;
          landed = sym (ap (λ p. g.J.MonitorRun.before ++ recorded p.events) part ∙ ap (λ l. l ++ []) run.before_is);
          pending = sym (ap (λ p. offered_car p.events) part);
        };
        list = λ premise. record {
          order = ap is_monitor_order run.before_is;
          epoch = ap last_epoch run.before_is ∙ ap (λ f. Some f.epoch) (sym run.found_is);
          many = ap (λ l. length l) run.before_is ∙ sym places;
          earlier = λ y t there e. elim (subst (λ l. Among l y) run.before_is there) [ inl same ↦ absurd (none_some t (ap ended_by same ∙ e)) | inr none ↦ absurd none ];
        };
        device = run.handed_in;
        faults = (let none = run.faults_are in omega (arith, none));
        short = omega (arith, places);
      });
      places = sym places;
    }

pub returns-in-Ok : goal.returns-in-Ok
returns-in-Ok g c =
    let part : monitor_in (part_state node g.J.Run.opening c.args.seat) ≡ first = ap monitor_in (at_first g.J.Run.opening c.args.seat c.requires.run.opens c.requires.seat) in
    ap (λ w. w.seat.part.events) c.in-Ok.ensures.ok ∙ ap (λ s. s.part.events) c.attach-seat.ensures ∙ ap (λ p. p.events) part
