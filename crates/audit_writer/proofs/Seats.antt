-- The seat of a trail's part behind an event and behind a meeting.
use Rattle.std.specs.Prelude.{ℕ, List, [], ◌∷◌, ◌++◌, Option, Some}
use Rattle.std.proofs.Common.{◌≡◌, ap, sym, ◌∙◌, subst, append_assoc}
use Rattle.std.specs.Option.{option_map}
use mathlib.Core.List.{IsPrefix}
use Rattle.chronicle.specs.Histories.{events_of, states_after, IsTrueIn}
use Rattle.chronicle.specs.Seats.{Sight, HasGrown, HasLearned, HasNewlySeen, Knows, own_events, part_state}
use Rattle.chronicle.proofs.Facts.{known_of_part, own_events_of, events_of-prefix}
use Rattle.node_machine.specs.declared.event.Event.{Event}
use Rattle.node_machine.specs.declared.event.Event.TheVariants.{OfTrail}
use Rattle.node_machine.specs.declared.event.TrailEvent.{TrailEvent}
use Rattle.node_machine.specs.Parts.{TrailPart, PartState, Fact}
use Rattle.node_machine.specs.Parts.PartState.{Trail}
use Rattle.node_machine.specs.Opening.{Found, trail_part}
use Rattle.node_machine.specs.Trail.{TrailMakes}
use Rattle.node_machine.specs.Node.{node, state_with}
use Rattle.audit_writer.specs.Seat.{TrailSight, trail_in, trail_with_event, sight_of, IsTrailAt, HasStepped, HasMet}

module _ (opening : List PartState) (found : Found) where
  pub stepped : (v w : Sight Event) (e : TrailEvent) → IsTrailAt opening found (sight_of opening v) → w.part ≡ v.part → IsPrefix v.seen w.seen → own_events w ≡ own_events v ++ OfTrail e ∷ []
      → part_state node opening w ≡ option_map (λ s. state_with s (OfTrail e)) (part_state node opening v)
      → ((f : Fact) → Knows node opening v f → Knows node opening w f) → HasStepped opening found e (sight_of opening v) (sight_of opening w)
  stepped v w e is seat begins mine state knows =
      let p = trail_in (part_state node opening v) in
      let at : part_state node opening w ≡ Some (Trail (trail_with_event p e)) = state ∙ ap (λ (o : Option PartState). option_map (λ s. state_with s (OfTrail e)) o) is.at in
      let part = ap trail_in at in
      record {
        is = record { opens = is.opens; seat = seat ∙ is.seat ∙ ap (λ (s : TrailPart). Some (trail_part s.number)) (sym part); at = at ∙ ap (λ (s : TrailPart). Some (Trail s)) (sym part) };
        part = part;
        mine = mine;
        seat = seat;
        begins = begins;
        knows = knows;
      }

  pub met : (v w a b : Sight Event) → IsTrailAt opening found (sight_of opening v) → HasGrown v w → HasLearned node opening v w → w.seen ≡ b.seen → HasGrown a b → HasLearned node opening a b
      → ((f : Fact) → Knows node opening a f → Knows node opening w f) → HasMet opening found (sight_of opening v) (sight_of opening w) a b
  met v w a b is grown learned same other other_learned told =
      let part = ap trail_in learned.state in
      record {
        is = record { opens = is.opens; seat = grown.part ∙ is.seat ∙ ap (λ (s : TrailPart). Some (trail_part s.number)) (sym part); at = learned.state ∙ is.at ∙ ap (λ (s : TrailPart). Some (Trail s)) (sym part) };
        part = part;
        mine = grown.mine;
        seat = grown.part;
        begins = grown.begins;
        same = same;
        grown = other;
        learned = other_learned;
        knows = learned.knows;
        told = told;
      }

  -- what the part makes true, whoever has seen as much knows
  pub known_to : (v : TrailSight) (seen : Sight Event) (f : Fact) → IsTrailAt opening found v → v.sight.seen ≡ seen.seen → TrailMakes v.part f → Knows node opening seen f
  known_to v seen f is same makes = subst (λ l. IsTrueIn node (states_after node opening l) f) same (known_of_part node opening v.sight (Trail v.part) f is.at makes)

-- A caller met a part's seat, which then had some events and met it again: the caller has seen the last of these, and had not before.
pub newly_stopped : {E : Type 0} (p : ℕ) (e : E) (es : List E) (b met_b last_b met_a had last_a : Sight E) → met_a.part ≡ Some p → met_a.seen ≡ met_b.seen → HasGrown b met_b
    → own_events had ≡ own_events met_a ++ (es ++ e ∷ []) → last_a.part ≡ Some p → own_events last_a ≡ own_events had → last_a.seen ≡ last_b.seen → HasNewlySeen p e b last_b
newly_stopped {E} p e es b met_b last_b met_a had last_a one met grown added two mine last =
    let pre = events_of-prefix p b.seen met_b.seen grown.begins in record {
      more = pre.0 ++ es;
      events =
          ap (events_of p) (sym last)
          ∙ sym (own_events_of last_a p two)
          ∙ mine
          ∙ added
          ∙ ap (λ (l : List E). l ++ (es ++ e ∷ [])) (own_events_of met_a p one ∙ ap (events_of p) met ∙ sym pre.1)
          ∙ append_assoc (events_of p b.seen) pre.0 (es ++ e ∷ [])
          ∙ ap (λ (l : List E). events_of p b.seen ++ l) (sym (append_assoc pre.0 es (e ∷ [])))
          ∙ sym (append_assoc (events_of p b.seen) (pre.0 ++ es) (e ∷ []));
    }
