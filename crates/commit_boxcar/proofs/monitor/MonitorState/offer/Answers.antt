use Rattle.std.specs.Prelude.{Result, Err, IsErr, IsTrue, ◌&&◌, ◌≤◌}
use Rattle.std.proofs.Common.{◌≡◌, ◌+◌, ◌<◌, ◌∷◌, [], List, length, refl, arith, ap, sym, ◌∙◌, subst, append_assoc, ◌++◌, inl, inr, true}
use Rattle.chronicle.specs.Seats.{Knows}
use Rattle.trail_files.specs.declared.monitor_record.MonitorRecord.{MonitorRecord}
use Rattle.trail_files.specs.Content.{Content, batch_of, landed_in, with_loaded}
use Rattle.trail_files.specs.Format.{AllValid}
use Rattle.trail_files.specs.Holds.{Holds}
use Rattle.trail_files.specs.MonitorFormat.{is_monitor_record}
use Rattle.trail_files.specs.MonitorOrder.{is_monitor_order, are_placed}
use Rattle.trail_files.specs.MonitorRecord.{monitor_format}
use Rattle.node_machine.specs.declared.event.MonitorEvent.TheVariants.{Offer}
use Rattle.node_machine.specs.Monitor.{recorded, offered_car, AreLater, IsRequest}
use Rattle.node_machine.specs.Node.{node}
use Rattle.node_machine.specs.Same.{Among}
use Rattle.node_machine.specs.SameLaws.{among_right}
use Rattle.commit_boxcar.specs.Line.{IsAsked, IsLine, line_of}
use Rattle.commit_boxcar.specs.Monitor.{Belong, Stands, IsRise, monitor_formats, offered_batch}
use Rattle.commit_boxcar.specs.Seat.{MayStep, HasStepped}
use Rattle.commit_boxcar.proofs.Belongs.{offers, not_offered, some_of, rise_same, rise_failed, handed_on}
use Rattle.commit_boxcar.proofs.Lines.{line_more, line_offered, line_short, later_right}
use Rattle.commit_boxcar.proofs.Orders.{trail_order}
use Rattle.commit_boxcar.proofs.monitor.MonitorState.offer.Goals as goal

is_err : {T E : Type 0} (r : Result T E) (e : E) → r ≡ Err e → IsErr r
is_err r e is = subst (λ (x : _). IsErr x) (sym is) refl

all_valid : (xs : List MonitorRecord) → ((x : MonitorRecord) → Among xs x → is_monitor_record x ≡ true) → AllValid monitor_format xs
all_valid [] each = tt
all_valid (x ∷ xs) each = (each x (inl refl), all_valid xs (λ y there. each y (inr there)))

in_room : (done batch room : List MonitorRecord) (x : MonitorRecord) → Among room x → Among (done ++ (batch ++ room)) x
in_room done batch room x there = among_right done (batch ++ room) x (among_right batch room x there)

pub load_batch-requires-clause-valid : goal.load_batch-requires-clause-valid
load_batch-requires-clause-valid g c =
    let w = c.self.inside in
    let i = c.self.invariant in
    let events = w.seat.part.events in
    subst (λ l. AllValid monitor_format l) (sym c.requests.ensures) (all_valid w.room.requests (λ x there. (i.3.each x (in_room (recorded events) (offered_car events) w.room.requests x there)).valid))

pub offer-requires : goal.offer-requires
offer-requires g c =
    let w = c.self.inside in
    let i = c.self.invariant in
    let events = w.seat.part.events in
    let none = subst (λ v. offered_batch v ≡ []) (sym c.self.view_is) c.requires.none in
    let some = subst (λ v. 0 < length v.room) (sym c.self.view_is) c.requires.some in
    let each : (x : MonitorRecord) → Among w.room.requests x → IsAsked (Knows node g.J.Run.opening w.seat.sight) g.J.NodeRun.found.epoch x = λ x there. i.3.each x (in_room (recorded events) (offered_car events) w.room.requests x there) in
    let later = subst (λ l. AreLater [] l) (ap (λ l. recorded events ++ (l ++ w.room.requests)) none) i.3.later in
    subst (λ l. MayStep g.J.Run.opening w.seat (Offer l)) (sym c.requests-requests.ensures) (
      record {
        idle = none;
        some = some;
        few = i.2.few;
        requests = λ x there. subst (λ e. IsRequest e x) (sym i.2.at.epoch) (each x there).request;
        later = later_right [] (recorded events) (recorded events) w.room.requests later (λ y there. inr there);
      },
      λ x there. (each x there).backed,
    )

pub invariant_of-self : goal.invariant_of-self
invariant_of-self g c =
    let o = g.J.Run.opening in
    let n = g.J.NodeRun in
    let w = c.self.inside in
    let i = c.self.invariant in
    let e = c.load_batch.ensures in
    let next = c.load_batch.new.trail in
    let before = g.J.MonitorRun.before in
    let events = w.seat.part.events in
    let room = w.room.requests in
    let prior = Knows node o w.seat.sight in
    let after = Knows node o c.offer.new.self.sight in
    let none = subst (λ v. offered_batch v ≡ []) (sym c.self.view_is) c.requires.none in
    let some = subst (λ v. 0 < length v.room) (sym c.self.view_is) c.requires.some in
    let s = subst (λ l. HasStepped o n.found (Offer l ∷ []) w.seat c.offer.new.self) c.requests-requests.ensures c.offer.ensures in
    let part = s.had.part in
    let all : recorded events ++ (offered_car events ++ room) ≡ recorded events ++ room = ap (λ l. recorded events ++ (l ++ room)) none in
    let few = line_short prior n.found.epoch n.found.places (line_of w.seat.part room) w.room.last i.3 in
    let loads = subst (λ l. (content : Content MonitorRecord) → Holds g.D.Disk monitor_formats w.trail content → batch_of content.pending ≡ [] → (IsTrue (g.D.Disk.tells w.trail.device) → (is_monitor_order (landed_in content ++ l) && are_placed (landed_in content ++ l)) ≡ true)
    → (here : Content MonitorRecord) × (here.placed ≡ content.placed) × Holds g.D.Disk monitor_formats next (with_loaded l here)) c.requests.ensures (λ content holds empty ordered. c.in-Ok.ensures.holds content holds empty ordered) in
    let ordered : (p : n.premise 0) (s : Stands g.D.Disk before w.seat.part w.trail) → (is_monitor_order (landed_in s.content ++ room) && are_placed (landed_in s.content ++ room)) ≡ true = λ p s.
    ap (λ l. is_monitor_order l && are_placed l) (ap (λ l. l ++ room) s.landed ∙ append_assoc before (recorded events) room ∙ ap (λ l. before ++ l) (sym all))
    ∙ trail_order n.found before (line_of w.seat.part room) (i.2.list p) i.3.later (λ x there. (i.3.each x there).request) few i.2.short in
    let all_written : IsLine after n.found.epoch n.found.places (line_of c.offer.new.self.part []) w.room.last =
    subst (λ p. IsLine after n.found.epoch n.found.places (line_of p []) w.room.last) (sym part)
    (subst (λ l. IsLine after n.found.epoch n.found.places l w.room.last) (sym (line_offered (recorded events) (offered_car events) room none))
    (line_more prior after n.found.epoch n.found.places (line_of w.seat.part room) w.room.last s.knows i.3)) in
    let keep = offers g.D.Disk (n.premise 0) before w.seat.part w.trail next e.keeps i.2.belong room (some_of room some) none c.in-Ok.ensures.phase
    (λ p s. loads s.content s.holds (s.pending ∙ none) (λ told. ordered p s)) in (
      i.0 ∙ ap (λ p. n.found.places + length (recorded p.events)) (sym part),
      ap (λ l. length l) c.requests-requests.ensures ∙ ap (λ p. length (offered_car p.events)) (sym part),
      record {
        at = s.is;
        belong = subst (λ p. Belong g.D.Disk (n.premise 0) before p next) (sym part) keep;
        list = i.2.list;
        device = handed_on g.D.Disk (λ a b d p q. g.met.D.Disk.same_on a b d p q) (g.J.DeviceRun.devices 0) w.trail.device next.device i.2.device e.keeps.device;
        rise = subst (λ p. IsRise (n.faults 0) (g.D.Disk.faults next.device) p.events) (sym part) (rise_same (n.faults 0) (g.D.Disk.faults w.trail.device) (g.D.Disk.faults next.device) events i.2.rise e.cause.later);
        few = subst (λ r. length r.requests ≤ 64) (sym c.clear.ensures) (omega arith);
        short = i.2.short;
      },
      subst (λ r. IsLine after n.found.epoch n.found.places (line_of c.offer.new.self.part r.requests) r.last) (sym c.clear.ensures) all_written,
      subst (λ r. IsLine after n.found.epoch n.found.places (line_of c.offer.new.self.part []) r.written) (sym c.clear.ensures) all_written,
    )

pub invariant_of-self-in-Err : goal.invariant_of-self-in-Err
invariant_of-self-in-Err g c =
    let o = g.J.Run.opening in
    let n = g.J.NodeRun in
    let w = c.self.inside in
    let i = c.self.invariant in
    let s = c.append.ensures in
    let part = s.had.part in
    let e = c.load_batch.ensures in
    let next = c.load_batch.new.trail in
    let before = g.J.MonitorRun.before in
    let events = w.seat.part.events in
    let room = w.room.requests in
    let after = Knows node o c.append.new.self.sight in
    let none = subst (λ v. offered_batch v ≡ []) (sym c.self.view_is) c.requires.none in
    let all : recorded events ++ (offered_car events ++ room) ≡ recorded events ++ room = ap (λ l. recorded events ++ (l ++ room)) none in
    let few = line_short (Knows node o w.seat.sight) n.found.epoch n.found.places (line_of w.seat.part room) w.room.last i.3 in
    let fault = subst (λ l. (content : Content MonitorRecord) → Holds g.D.Disk monitor_formats w.trail content → batch_of content.pending ≡ [] → (IsTrue (g.D.Disk.tells w.trail.device) → (is_monitor_order (landed_in content ++ l) && are_placed (landed_in content ++ l)) ≡ true)
    → (here : Content MonitorRecord) × (here.placed ≡ content.placed) × (batch_of here.pending ≡ []) × Holds g.D.Disk monitor_formats next here) c.requests.ensures (λ content holds empty ordered. c.in-Err.ensures.holds content holds empty ordered) in
    let ordered : (p : n.premise 0) (s : Stands g.D.Disk before w.seat.part w.trail) → (is_monitor_order (landed_in s.content ++ room) && are_placed (landed_in s.content ++ room)) ≡ true = λ p s.
    ap (λ l. is_monitor_order l && are_placed l) (ap (λ l. l ++ room) s.landed ∙ append_assoc before (recorded events) room ∙ ap (λ l. before ++ l) (sym all))
    ∙ trail_order n.found before (line_of w.seat.part room) (i.2.list p) i.3.later (λ x there. (i.3.each x there).request) few i.2.short in
    let keep = not_offered g.D.Disk (n.premise 0) before w.seat.part w.trail next e.keeps i.2.belong c.args.by none c.in-Err.ensures.phase_err e.more
    (λ p s. fault s.content s.holds (s.pending ∙ none) (λ told. ordered p s)) in (
      i.0 ∙ ap (λ p. n.found.places + length (recorded p.events)) (sym part),
      i.1 ∙ ap (λ p. length (offered_car p.events)) (sym part),
      record {
        at = s.is;
        belong = subst (λ p. Belong g.D.Disk (n.premise 0) before p next) (sym part) keep;
        list = i.2.list;
        device = handed_on g.D.Disk (λ a b d p q. g.met.D.Disk.same_on a b d p q) (g.J.DeviceRun.devices 0) w.trail.device next.device i.2.device e.keeps.device;
        rise = subst (λ p. IsRise (n.faults 0) (g.D.Disk.faults next.device) p.events) (sym part)
            (rise_failed (n.faults 0) (g.D.Disk.faults w.trail.device) (g.D.Disk.faults next.device) events c.args.by i.2.rise e.cause.later (e.cause.failed (is_err c.load_batch.result c.in-Err.fault c.in-Err.is)));
        few = i.2.few;
        short = i.2.short;
      },
      subst (λ p. IsLine after n.found.epoch n.found.places (line_of p room) w.room.last) (sym part)
          (line_more (Knows node o w.seat.sight) after n.found.epoch n.found.places (line_of w.seat.part room) w.room.last s.knows i.3),
      subst (λ p. IsLine after n.found.epoch n.found.places (line_of p []) w.room.written) (sym part)
          (line_more (Knows node o w.seat.sight) after n.found.epoch n.found.places (line_of w.seat.part []) w.room.written s.knows i.4),
    )
