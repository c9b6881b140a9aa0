-- The seat of the monitor behind an event and behind a meeting.
use Rattle.std.specs.Prelude.{ℕ, List, [], ◌∷◌, ◌++◌, Option, Some}
use Rattle.std.proofs.Common.{◌≡◌, refl, ap, sym, ◌∙◌, subst, append_assoc, append-nil}
use Rattle.std.specs.Option.{option_map}
use mathlib.Core.List.{IsPrefix}
use Rattle.chronicle.specs.Histories.{events_of, states_after, IsTrueIn}
use Rattle.chronicle.specs.Seats.{Sight, HasGrown, HasLearned, HasNewlySeen, Knows, own_events, part_state}
use Rattle.chronicle.proofs.Facts.{known_of_part, own_events_of, events_of-prefix}
use Rattle.node_machine.specs.declared.event.Event.{Event}
use Rattle.node_machine.specs.declared.event.Event.TheVariants.{OfMonitor}
use Rattle.node_machine.specs.declared.event.MonitorEvent.{MonitorEvent}
use Rattle.node_machine.specs.Parts.{MonitorPart, PartState, Fact}
use Rattle.node_machine.specs.Parts.PartState.{Monitor}
use Rattle.node_machine.specs.Opening.{Found}
use Rattle.node_machine.specs.Monitor.{MonitorMakes}
use Rattle.node_machine.specs.Node.{node, state_with}
use Rattle.commit_boxcar.specs.Seat.{MonitorSight, monitor_in, monitor_with_event, monitor_after, of_monitor, sight_of, IsMonitorAt, HasHad, HasStepped, HasHeard}

module _ (opening : List PartState) (found : Found) where
  pub stepped : (v w : Sight Event) (e : MonitorEvent) → IsMonitorAt opening found (sight_of opening v) → w.part ≡ v.part → IsPrefix v.seen w.seen → own_events w ≡ own_events v ++ OfMonitor e ∷ []
      → part_state node opening w ≡ option_map (λ s. state_with s (OfMonitor e)) (part_state node opening v)
      → ((f : Fact) → Knows node opening v f → Knows node opening w f) → HasStepped opening found (e ∷ []) (sight_of opening v) (sight_of opening w)
  stepped v w e is seat begins mine state knows =
      let p = monitor_in (part_state node opening v) in
      let at : part_state node opening w ≡ Some (Monitor (monitor_with_event p e)) = state ∙ ap (λ (o : Option PartState). option_map (λ s. state_with s (OfMonitor e)) o) is.at in
      let part = ap monitor_in at in
      record {
        is = record { opens = is.opens; seat = seat ∙ is.seat; at = at ∙ ap (λ (s : MonitorPart). Some (Monitor s)) (sym part); epoch = ap (λ (s : MonitorPart). s.epoch) part ∙ is.epoch; places = ap (λ (s : MonitorPart). s.places) part ∙ is.places };
        had = record { part = part; mine = mine; begins = begins };
        knows = knows;
      }

  pub heard : (v w a : Sight Event) → IsMonitorAt opening found (sight_of opening v) → HasGrown v w → HasLearned node opening v w → ((f : Fact) → Knows node opening a f → Knows node opening w f)
      → HasHeard opening found (sight_of opening v) (sight_of opening w) a
  heard v w a is grown learned told =
      let part = ap monitor_in learned.state in
      record {
        stepped = record {
          is = record { opens = is.opens; seat = grown.part ∙ is.seat; at = learned.state ∙ is.at ∙ ap (λ (s : MonitorPart). Some (Monitor s)) (sym part); epoch = ap (λ (s : MonitorPart). s.epoch) part ∙ is.epoch; places = ap (λ (s : MonitorPart). s.places) part ∙ is.places };
          had = record { part = part; mine = grown.mine ∙ sym (append-nil (own_events v)); begins = grown.begins };
          knows = learned.knows;
        };
        told = told;
      }

  -- what the monitor makes true, whoever has seen as much knows
  pub known_to : (v : MonitorSight) (seen : Sight Event) (f : Fact) → IsMonitorAt opening found v → v.sight.seen ≡ seen.seen → MonitorMakes v.part f → Knows node opening seen f
  known_to v seen f is same makes = subst (λ l. IsTrueIn node (states_after node opening l) f) same (known_of_part node opening v.sight (Monitor v.part) f is.at makes)

after_then : (s : MonitorPart) (es fs : List MonitorEvent) → monitor_after s (es ++ fs) ≡ monitor_after (monitor_after s es) fs
after_then s [] fs = refl
after_then s (e ∷ es) fs = after_then (monitor_with_event s e) es fs

of_then : (es fs : List MonitorEvent) → of_monitor (es ++ fs) ≡ of_monitor es ++ of_monitor fs
of_then [] fs = refl
of_then (e ∷ es) fs = ap (λ (l : List Event). OfMonitor e ∷ l) (of_then es fs)

-- one row of events behind another
pub had_then : (es fs : List MonitorEvent) (u v w : MonitorSight) → HasHad es u v → HasHad fs v w → HasHad (es ++ fs) u w
had_then es fs u v w p q = record {
  part = q.part ∙ ap (λ (s : MonitorPart). monitor_after s fs) p.part ∙ sym (after_then u.part es fs);
  mine =
      q.mine
      ∙ ap (λ (l : List Event). l ++ of_monitor fs) p.mine
      ∙ append_assoc (own_events u.sight) (of_monitor es) (of_monitor fs)
      ∙ ap (λ (l : List Event). own_events u.sight ++ l) (sym (of_then es fs));
  begins = (p.begins.0 ++ q.begins.0, sym (append_assoc u.sight.seen p.begins.0 q.begins.0) ∙ ap (λ l. l ++ q.begins.0) p.begins.1 ∙ q.begins.1);
}

pub had_none : (v : MonitorSight) → HasHad [] v v
had_none v = record { part = refl; mine = sym (append-nil (own_events v.sight)); begins = ([], append-nil v.sight.seen) }

-- no event was had
pub own_same : (v w : MonitorSight) → HasHad [] v w → own_events w.sight ≡ own_events v.sight
own_same v w h = h.mine ∙ append-nil (own_events v.sight)

-- the last of its own events
pub own_last : (es : List MonitorEvent) (e : MonitorEvent) (v w : MonitorSight) → HasHad (es ++ e ∷ []) v w → own_events w.sight ≡ own_events v.sight ++ (of_monitor es ++ OfMonitor e ∷ [])
own_last es e v w h = h.mine ∙ ap (λ (l : List Event). own_events v.sight ++ l) (of_then es (e ∷ []))

-- A caller met a part's seat, which then had some events and met it again: the caller has seen the last of these, and had not before.
pub newly_stopped : {E : Type 0} (p : ℕ) (e : E) (es : List E) (b met_b last_b met_a had last_a : Sight E) → met_a.part ≡ Some p → met_a.seen ≡ met_b.seen → HasGrown b met_b
    → own_events had ≡ own_events met_a ++ (es ++ e ∷ []) → last_a.part ≡ Some p → own_events last_a ≡ own_events had → last_a.seen ≡ last_b.seen → HasNewlySeen p e b last_b
newly_stopped {E} p e es b met_b last_b met_a had last_a one met grown added two mine last =
    let pre = events_of-prefix p b.seen met_b.seen grown.begins in record {
      more = pre.0 ++ es;
      events =
          ap (events_of p) (sym last)
          ∙ sym (own_events_of last_a p two)
          ∙ mine
          ∙ added
          ∙ ap (λ (l : List E). l ++ (es ++ e ∷ [])) (own_events_of met_a p one ∙ ap (events_of p) met ∙ sym pre.1)
          ∙ append_assoc (events_of p b.seen) pre.0 (es ++ e ∷ [])
          ∙ ap (λ (l : List E). events_of p b.seen ++ l) (sym (append_assoc pre.0 es (e ∷ [])))
          ∙ sym (append_assoc (events_of p b.seen) (pre.0 ++ es) (e ∷ []));
    }
