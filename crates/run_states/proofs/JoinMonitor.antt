-- The monitor trail that is kept may be joined with its part's seat.
use Rattle.std.specs.Prelude.{◌≡◌, ℕ, ◌+◌, ◌^◌, ◌<◌, true, IsTrue, List, [], Option, Some, slice_get}
use Rattle.std.proofs.Common.{refl, sym, ap, subst, ◌∙◌, arith, append-nil, ⊎_elim}
use Rattle.std.proofs.lemmas.Bool.{and_parts}
use Rattle.chronicle.specs.Seats.{Sight, new_seat}
use Rattle.commit_boxcar.specs.Monitor.{IsFoundList, IsOpened as IsMonitorOpened, Stands}
use Rattle.commit_boxcar.specs.Seat.{MonitorSight, monitor_in, sight_of}
use Rattle.disk_model.specs.Held.{Held}
use Rattle.disk_model.specs.declared.disk.Disk as disk
use Rattle.node_machine.proofs.Opened.{opening_monitor}
use Rattle.node_machine.specs.Law.{EndsWithStart}
use Rattle.node_machine.specs.Monitor.{ended_by}
use Rattle.node_machine.specs.Opening.{monitor_part}
use Rattle.node_machine.specs.Parts.{MonitorPart, PartState}
use Rattle.node_machine.specs.Parts.PartState.{Monitor}
use Rattle.node_machine.specs.Same.{Among}
use Rattle.node_machine.specs.declared.event.Event.{Event}
use Rattle.run_opening.specs.Found.{places_of}
use Rattle.run_opening.specs.Kept.{IsMonitorKept}
use Rattle.run_opening.specs.declared.kept.Kept.{Kept}
use Rattle.run_opening.specs.declared.kept.Kept.TheVariants as kept
use Rattle.run_opening.specs.declared.kept.MonitorKept.{MonitorKept}
use Rattle.tmf_model.specs.declared.transid.Transid.{Transid}
use Rattle.trail_files.specs.MonitorOrder.{are_placed, is_monitor_order, last_epoch, monitor_follows}
use Rattle.trail_files.specs.MonitorRecord.{monitor_format}
use Rattle.trail_files.specs.RecordOrder.{each_follows}
use Rattle.trail_files.specs.Trail.{Rests}
use Rattle.trail_files.specs.declared.monitor_record.MonitorRecord.{MonitorRecord}
use Rattle.trail_replay.specs.Landed.{HasLanded}
use Rattle.trail_replay.specs.Rules.{monitor_formats}
use Rattle.run_states.specs.Begun.{Resting}
use Rattle.run_states.proofs.Keeping.{F, O, Setting, WasKept, count_given, items, kept_at, later_given, was_kept}
use Rattle.run_states.proofs.Starts.{ended_earlier, last_start}

module _ {D : Type 0} (kind : disk.Ghosts D) (s : Setting kind) where
  abbrev part : MonitorPart
  part = record { epoch = s.epoch; places = places_of (slice_get (items kind s) 0); events = [] }

  abbrev seat : Sight Event
  seat = new_seat monitor_part

  abbrev sight : MonitorSight
  sight = record { part = part; sight = seat }

  opens : slice_get (O kind s) monitor_part ≡ Some (Monitor part)
  opens = opening_monitor (F kind s)

  sight_is : sight_of (O kind s) seat ≡ sight
  sight_is = ap (λ (o : Option PartState). record { part = monitor_in o; sight = seat }) opens

  -- of device 0 the monitor trail is kept
  is_first : (k : Kept D) → slice_get (items kind s) 0 ≡ Some k → (m : MonitorKept D) × (slice_get (items kind s) 0 ≡ Some (kept.Monitor m))
  is_first (kept.Monitor m) at = (m, at)
  is_first (kept.Audit a) at = (let was = was_kept kind s 0 (kept.Audit a) at in let some = was.is.0.0 in absurd (omega (arith, some)))
  is_first (kept.Volume blocks) at = (let was = was_kept kind s 0 (kept.Volume blocks) at in let place = was.is.0.2 in absurd (omega (arith, place)))
  is_first (kept.Dump file) at = (let was = was_kept kind s 0 (kept.Dump file) at in let place = was.is.0.2 in absurd (omega (arith, place)))
  is_first (kept.Idle left) at =
      let was = was_kept kind s 0 (kept.Idle left) at in
      ⊎_elim (λ alone. ⊎_elim (λ out. (let many = out.trail in absurd (omega (arith, many)))) (λ dump. (let place = dump.2 in absurd (omega (arith, place)))) alone.0) (λ lost. (let place = lost.2 in absurd (omega (arith, place)))) was.is.0

  module _ (m : MonitorKept D) (at : slice_get (items kind s) 0 ≡ Some (kept.Monitor m)) where
    was : WasKept kind s 0 (kept.Monitor m)
    was = was_kept kind s 0 (kept.Monitor m) at

    is : IsMonitorKept kind s.config s.epoch was.device m
    is = was.is.0.1

    places_is : m.places ≡ places_of (slice_get (items kind s) 0)
    places_is = sym (ap places_of at)

    -- UNDER THE PREMISE

    module _ (p : s.premise 0) where
      rests : IsTrue (kind.tells m.trail.device) × Rests monitor_format (kind.held m.trail.device) s.before
      rests = subst (Resting kind s.before) at (s.may.name.rests 0 p)

      tells : IsTrue (kind.tells was.device)
      tells = sym is.opened.reread.is_later.tells ∙ rests.0

      rested : Rests monitor_format (kind.held was.device) s.before
      rested = subst (λ (h : Held). Rests monitor_format h s.before) is.opened.reread.same rests.1

      has : HasLanded kind monitor_formats m.trail s.before
      has = is.opened.landed s.before tells rested

      stands : Stands kind s.before part m.trail
      stands = record { tells = rests.0; content = has.content; holds = has.holds; landed = has.landed ∙ sym (append-nil s.before); pending = ⊎_elim (λ e. e) (λ e. e) has.behind }

      ends : EndsWithStart s.epoch s.before
      ends = is.ends s.before tells rested.spells

      order : is_monitor_order s.before ≡ true
      order = (and_parts (is_monitor_order s.before) (are_placed s.before) rested.spells.in_order).0

      earlier : (y : MonitorRecord) (t : Transid) → Among s.before y → ended_by y ≡ Some t → t.epoch < s.epoch
      earlier y t there ended =
          ended_earlier [] ends.0 s.epoch (subst (λ (l : List MonitorRecord). each_follows monitor_follows [] l ≡ true) ends.1 order) y t (subst (λ (l : List MonitorRecord). Among l y) ends.1 there) ended

      listed : IsFoundList (F kind s) s.before
      listed = record {
        order = order;
        epoch = ap last_epoch ends.1 ∙ last_start ends.0 s.epoch;
        many = sym (is.places s.before tells rested.spells) ∙ places_is;
        earlier = λ y t there ended same. (let lt = earlier y t there ended in let at : t.epoch ≡ s.epoch = same in omega (arith, lt, at));
      }

    is_opened : IsMonitorOpened kind (O kind s) (F kind s) s.before s.faults s.premise s.handed_in sight m.trail
    is_opened = record {
      at = record { opens = refl; seat = refl; at = opens; epoch = refl; places = refl };
      none = refl;
      ready = is.opened.ready;
      writable = is.opened.writable;
      stands = stands;
      list = listed;
      device = later_given kind s 0 (kept.Monitor m) at;
      faults = (let count = count_given kind s 0 (kept.Monitor m) at in omega (arith, count));
      short = subst (λ (n : ℕ). n + 2 ^ 20 < 2 ^ 64) places_is is.short;
    }

    opened_at : IsMonitorOpened kind (O kind s) (F kind s) s.before s.faults s.premise s.handed_in (sight_of (O kind s) seat) m.trail
    opened_at = subst (λ (v : MonitorSight). IsMonitorOpened kind (O kind s) (F kind s) s.before s.faults s.premise s.handed_in v m.trail) (sym sight_is) is_opened

  pub join_monitor : (m : MonitorKept D) × (slice_get (items kind s) 0 ≡ Some (kept.Monitor m)) × (m.places ≡ (F kind s).places)
      × IsMonitorOpened kind (O kind s) (F kind s) s.before s.faults s.premise s.handed_in (sight_of (O kind s) (new_seat monitor_part)) m.trail
  join_monitor =
      let k = kept_at kind s 0 (omega arith) in
      let m = is_first k.0 k.1 in
      (m.0, m.1, places_is m.0 m.1, opened_at m.0 m.1)
